-- One turn in which a volume is cleaned.
use Rattle.std.proofs.Common.{◌≡◌, ℕ, Bool, List, [], ◌∷◌, ◌++◌, length, Result, Ok, Err, refl, sym, subst, ◌∙◌}
use Rattle.wol_disk.specs.Disk.{State}
use Rattle.turn_lock.specs.Histories.{own, Begins}
use Rattle.turn_lock.specs.LockIds.{LockId}
use Rattle.turn_lock.specs.Passes.{pass_lock, pass_number, pass_seen, pass_mine, IsSamePass}
use Rattle.wol_model.specs.Blocks.{Write}
use Rattle.wol_model.specs.History.{worker}
use Rattle.wol_promise.specs.Ruled.{last_look}
use Rattle.manager.specs.Seen.{look_of_manager}
use Rattle.manager.specs.Stands.{Stands, nones_at}
use Rattle.manager.specs.declared.base.ManagerBase.{ManagerBase}
use Rattle.manager.specs.declared.manager.Manager.{Manager}
use Rattle.manager.proofs.Frames.{none_passed, stands_kept}
use Rattle.request_turns.specs.Turns.{ManagerPass, notes_seen, HasLeft}
use Rattle.log_cleaner.specs.Cleans.{CanClean, HasCleaned}
use Rattle.log_cleaner.specs.Copies.{LeavesEntry}
use Rattle.log_cleaner.specs.declared.answer.Cleaned.{Cleaned}
use Rattle.log_cleaner.specs.declared.answer.CleanFault.{CleanFault}
use Rattle.log_cleaner.specs.declared.answer.CleanFault.TheVariants.{DiskFault, VersionsSpent, NoMemory}
use Rattle.inspection.specs.Looks.{note_told}
use Rattle.inspection.proofs.Looking.{has_added, is_note}
use Rattle.cleaning.specs.Turns.{CleansIn, DoesClean, cleaned, left, none_copied, operation_of}

leaves_of : {D : Type 0} (tells : Bool) (state : D → State) (most : ℕ) (old new : Manager D) (result : Result Cleaned CleanFault) → (has : HasCleaned tells state most old new result) → LeavesEntry tells state old new (operation_of has.copies result)
leaves_of tells state most old new (Ok c) has = has.tells_.1
leaves_of tells state most old new (Err (DiskFault p)) has = has.tells_.2
leaves_of tells state most old new (Err VersionsSpent) has = has.tells_.1
leaves_of tells state most old new (Err NoMemory) has = has.tells_.1

pub was_cleaned : {D : Type 0} (tells : Bool) (state : D → State) (most : ℕ) (old new : Manager D) (copies : List Write) (result : Result Cleaned CleanFault) → CanClean old
    → (has : HasCleaned tells state most old new result) × (copies ≡ has.copies) → DoesClean tells state most old new copies result
was_cleaned tells state most old new copies result can (has, same) = subst (λ (ws : List Write). DoesClean tells state most old new ws result) (sym same)
    (record { did = cleaned result can has; leaves = leaves_of tells state most old new result has })

-- a manager that is left as it is
pub was_left : {D : Type 0} (tells : Bool) (state : D → State) (most : ℕ) (m : Manager D) (copies : List Write) (records : ℕ) → copies ≡ [] → records ≡ length m.index.entries → (CanClean m → ⊥) → DoesClean tells state most m m copies (Ok (none_copied records))
was_left tells state most m copies records none is cannot = subst (λ (ws : List Write). DoesClean tells state most m m ws (Ok (none_copied records))) (sym none)
    (subst (λ (n : ℕ). DoesClean tells state most m m [] (Ok (none_copied n))) (sym is) (record {
      did = left cannot refl;
      leaves = λ b notes n client note k. stands_kept tells state m b notes n [] note (none_passed (nones_at m.lanes.items b.lanes) notes n note.passed_is k.passed) k;
    }))

-- from entering, cleaning and leaving
module _ {D : Type 0} (tells : Bool) (state : D → State) (most : ℕ) (old new : Manager D) (p i : ManagerPass D) (copies : List Write) (result : Result Cleaned CleanFault) (d : DoesClean tells state most old new copies result)
    (same : IsSamePass p i) (client : pass_number p ≡ worker) (stands : Stands tells state old (pass_lock i).base (notes_seen i)) where
  abbrev pub note : Rattle.wol_promise.specs.Ruled.Noted
  note = note_told (pass_number i) (operation_of copies result) (look_of_manager new)

  pub stands_then : Stands tells state new (pass_lock i).base (notes_seen i ++ note ∷ [])
  stands_then = d.leaves (pass_lock i).base (notes_seen i) note (same.1 ∙ client) (is_note (last_look (pass_lock i).base.volume.began.look (notes_seen i)) (operation_of copies result) (look_of_manager new) (pass_number i)) stands.keeps

  pub has_cleaned : (q : ManagerPass D) → Begins (pass_seen p) (pass_seen i) → pass_mine i ≡ pass_mine p → own (pass_number i) (pass_seen i) ≡ pass_mine i → HasLeft tells note i q → CleansIn tells state most p q result
  has_cleaned q begins mine owns gone = record {
    before = pass_seen i;
    copies = copies;
    note = note;
    added = has_added tells p i q note same begins mine owns gone;
    operation = refl;
    opened = old;
    after = new;
    stood = subst (λ (l : LockId ManagerBase). Stands tells state old l.base (notes_seen i)) same.0 stands;
    stands = subst (λ (l : LockId ManagerBase). Stands tells state new l.base (notes_seen i ++ note ∷ [])) same.0 stands_then;
    did = d.did;
  }
