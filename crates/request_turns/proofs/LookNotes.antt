-- A look's entry.
use Rattle.std.proofs.Common.{◌≡◌, ℕ, Bool, false, List, [], ◌∷◌, ◌++◌, refl, sym, ap, ◌∙◌}
use Rattle.wol_disk.specs.Disk.{State}
use Rattle.turn_lock.specs.Histories.{own, Begins}
use Rattle.turn_lock.specs.LockIds.{LockId}
use Rattle.turn_lock.specs.Passes.{pass_lock, pass_number, pass_seen, pass_mine, IsSamePass}
use Rattle.wol_model.specs.History.{Kept}
use Rattle.wol_promise.specs.Policy.{Look}
use Rattle.wol_promise.specs.Ruled.{Noted, last_look}
use Rattle.wol_promise.specs.Ruled as ruled
use Rattle.manager.specs.Seen.{look_of_manager}
use Rattle.manager.specs.Stands.{Stands}
use Rattle.manager.specs.declared.base.ManagerBase.{ManagerBase}
use Rattle.manager.specs.declared.manager.Manager.{Manager}
use Rattle.request_turns.specs.Blocks.{HasLooked}
use Rattle.request_turns.specs.Counts.{ReclaimsNothing}
use Rattle.request_turns.specs.Entries.{note_of}
use Rattle.request_turns.specs.Turns.{ManagerPass, began, notes_seen, HasLeft}
use Rattle.request_turns.proofs.Counting.{counted_turn, entry_same}
use Rattle.request_turns.proofs.Noting.{was_broken, was_down}
use Rattle.request_turns.proofs.StepNotes.{kept_stands}
use Rattle.request_turns.proofs.Turning.{turned}

module _ {D : Type 0} (tells : Bool) (state : D → State) (m : Manager D) where
  abbrev pub look_note : (pass : ℕ) → Noted
  look_note pass = note_of pass Kept (look_of_manager m) [] false

  pub look_stands : (b : ManagerBase) (notes : List Noted) (pass : ℕ) → Stands tells state m b notes → Stands tells state m b (notes ++ look_note pass ∷ [])
  look_stands b notes pass s = kept_stands tells state m m b notes pass (ruled.same refl) s.look s.keeps

  -- from entering to leaving
  module _ (p i q : ManagerPass D) (stands : Stands tells state m (pass_lock i).base (notes_seen i)) (left : HasLeft tells (look_note (pass_number i)) i q)
      (same : IsSamePass p i) (begins : Begins (pass_seen p) (pass_seen i)) (mine : pass_mine i ≡ pass_mine p) (owns : own (pass_number i) (pass_seen i) ≡ pass_mine i) where
    same_look : look_of_manager m ≡ last_look (began p).look (notes_seen i)
    same_look = sym stands.look ∙ ap (λ (k : LockId ManagerBase). last_look k.base.volume.began.look (notes_seen i)) same.0

    pub has_looked : HasLooked tells m.down p q
    has_looked = record {
      before = pass_seen i;
      note = look_note (pass_number i);
      turned = turned tells p i q (look_note (pass_number i)) same begins mine owns left refl;
      kept = refl;
      same = same_look;
      part = ap (λ (l : Look). l.down) same_look;
      cause = (was_broken tells state m (pass_lock i).base (notes_seen i) stands.keeps, was_down tells state m (pass_lock i).base (notes_seen i) stands.keeps);
    }

    pub look_counted : ReclaimsNothing tells p q
    look_counted t = counted_turn tells p i q (look_note (pass_number i)) (look_of_manager m) t t same begins mine owns left refl stands.look
        (entry_same (look_of_manager m) (look_note (pass_number i)) t (λ _. refl))
