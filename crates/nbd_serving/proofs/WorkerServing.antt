-- A session at a worker is one at its pass.
use Rattle.std.proofs.Common.{◌≡◌, ℕ, Bool, List, Option, Result, refl, ◌∙◌}
use Rattle.turn_lock.specs.Passes.{IsSamePass}
use Rattle.nbd_session.specs.Sessions.{IsSession}
use Rattle.nbd_session.specs.Turns.{Turn}
use Rattle.nbd_session.specs.declared.session.Ended.{Ended}
use Rattle.nbd_session.specs.declared.session.NbdFault.{NbdFault}
use Rattle.nbd_session.proofs.Along.{session_along, session_keeps}
use Rattle.nbd_serving.specs.Turns.{MakesTurn}
use Rattle.nbd_serving.specs.declared.worker.WorkerVolume.{WorkerVolume}
use Rattle.nbd_serving.proofs.Making.{turned_of}

module _ {R D : Type 0} (tells : Bool) where
  -- a turn of the volume, and that the reference to the pass is the same behind it
  abbrev pub Made : Turn → (v w : WorkerVolume R D) → Type 0
  Made turn v w = MakesTurn tells turn v.worker.now w.worker.now × (w.worker.ghost_name ≡ v.worker.ghost_name)

  -- the pass is still of the same lock, and so is the reference to it
  abbrev pub Same : (v w : WorkerVolume R D) → Type 0
  Same v w = IsSamePass v.worker.now w.worker.now × (w.worker.ghost_name ≡ v.worker.ghost_name)

  pub same_none : (v : WorkerVolume R D) → Same v v
  same_none v = ((refl, refl), refl)

  pub same_both : (v m w : WorkerVolume R D) → Same v m → Same m w → Same v w
  same_both v m w a b = ((b.0.0 ∙ a.0.0, b.0.1 ∙ a.0.1), b.1 ∙ a.1)

  pub same_made : (t : Turn) (v w : WorkerVolume R D) → Made t v w → Same v w
  same_made t v w turn = ((turned_of tells v.worker.now w.worker.now t turn.0).turned.same, turn.1)

  module _ (home most : ℕ) (v w : WorkerVolume R D) (left left' taken taken' : Option (List ℕ)) (result : Result Ended NbdFault) (s : IsSession Made home most v w left left' taken taken' result) where
    pub seen : IsSession (MakesTurn tells) home most v.worker.now w.worker.now left left' taken taken' result
    seen = (session_along Made (MakesTurn tells) (λ (x : WorkerVolume R D). x.worker.now) (λ (x : WorkerVolume R D). Unit {0}) (λ t a b fits turn. (tt, turn.0)) home most v w left left' taken taken' result s tt).1

    pub kept : Same v w
    kept = session_keeps Made home most Same same_none same_both same_made v w left left' taken taken' result s

    pub same_pass : IsSamePass v.worker.now w.worker.now
    same_pass = kept.0

    pub same_reference : w.worker.ghost_name ≡ v.worker.ghost_name
    same_reference = kept.1
