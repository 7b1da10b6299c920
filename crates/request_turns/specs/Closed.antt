-- What a reclaim turn makes of the worker's pass.
use Rattle.std.specs.Prelude.{◌≡◌, Bool, List, Option, None, Some, Result, OnOk, IfErr}
use Rattle.turn_lock.specs.Histories.{Entry}
use Rattle.wol_disk.specs.Disk.{State}
use Rattle.wol_model.specs.History.{Kept, IsHelp}
use Rattle.wol_promise.specs.Policy.{Look, AreReclaims, IsIdleLook}
use Rattle.wol_promise.specs.Ruled.{Noted}
use Rattle.logger.specs.declared.shared.Shared.{Shared}
use Rattle.manager.specs.Reclaim.{OnKept, OnFailed, KeepsOn, BreaksOff, Always}
use Rattle.manager.specs.Seen.{look_of_manager}
use Rattle.manager.specs.Stands.{IsReady, IsHome}
use Rattle.manager.specs.declared.manager.Manager.{Manager}
use Rattle.manager.specs.declared.part.StepFault.{StepFault}
use Rattle.request_turns.specs.Counts.{Counts, HasTaken}
use Rattle.request_turns.specs.Turns.{ManagerPass, notes_seen, WasDown, faulty_part, HasTurned}
use Rattle.request_turns.specs.Used.{ReclaimUses}
use Rattle.request_turns.specs.declared.tally.Tally.{Tally}

-- steps of reclaim led from one look to the other, wherever steps led to the first
abbrev pub GoesOn : (l m : Look) → Type 0
GoesOn l m = (k : Look) → AreReclaims k l → AreReclaims k m

-- What steps of reclaim with this answer made of a manager, and what of it was counted: it is ready
-- still, and a refusal names the part that is down. Unless a disk call failed, its look goes on and
-- it keeps up what it kept up.
pub record Reclaims {D T : Type 0} (tells : Bool) (state : D → State) (shared : Shared D)
    (answer : Result T StepFault) (t u : Tally) (m n : Manager D) : Type 0 where
  pub ready : IsReady state n
  pub at : IsHome shared n
  pub down : IfErr answer (λ f. n.down ≡ Some (faulty_part f))
  pub look : OnKept answer (GoesOn (look_of_manager m) (look_of_manager n))
  pub taken : OnKept answer (HasTaken t u (look_of_manager m) (look_of_manager n))
  pub keeps : OnKept answer (KeepsOn tells state m n Always)
  pub broke : OnFailed answer (BreaksOff tells state m n Always)
  -- no disk was woken, and home was asked for where blocks of it were put there alone
  pub uses : OnKept answer (ReclaimUses m n)

-- a manager from which all that was due or could go was reclaimed, with this answer, and what was
-- counted
pub record HasReclaimed {D T : Type 0} (tells : Bool) (state : D → State) (shared : Shared D)
    (answer : Result T StepFault) (done : Tally) (m n : Manager D) : Type 0 where
  pub none : Tally
  pub fresh : Counts 0 0 none
  pub steps : Reclaims tells state shared answer none done m n
  pub idle : OnOk answer (IsIdleLook (look_of_manager n))

-- One turn, whose entry changes no content. It leaves an idle look, unless a step was refused; that
-- comes only where the part that it names was down.
pub record HasClosed {D : Type 0} (tells : Bool) (fault : Option StepFault) (p q : ManagerPass D) :
    Type 0 where
  pub before : List Entry
  pub note : Noted
  pub turned : HasTurned tells p q before note
  pub help : IsHelp note.entry.operation
  pub idle : fault ≡ None → IsIdleLook note.look
  pub kept : fault ≡ None → note.entry.operation ≡ Kept
  pub cause : (f : StepFault) → fault ≡ Some f → WasDown (faulty_part f) (notes_seen q)
