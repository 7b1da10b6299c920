-- What one turn in which a volume is cleaned adds to its history, and makes of its manager.
use Rattle.std.specs.Prelude.{◌≡◌, ◌++◌, ◌∷◌, ℕ, Bool, false, List, [], length, Result, Ok, Err}
use Rattle.wol_disk.specs.Disk.{State}
use Rattle.turn_lock.specs.Histories.{Entry}
use Rattle.turn_lock.specs.Passes.{pass_lock}
use Rattle.wol_model.specs.Blocks.{Write}
use Rattle.wol_model.specs.History.{Operation, Broke}
use Rattle.wol_promise.specs.Ruled.{Noted}
use Rattle.manager.specs.Stands.{Stands, notes_of}
use Rattle.manager.specs.declared.manager.Manager.{Manager}
use Rattle.request_turns.specs.Turns.{ManagerPass}
use Rattle.log_cleaner.specs.Cleans.{CanClean, HasCleaned}
use Rattle.log_cleaner.specs.Copies.{LeavesEntry, wrote}
use Rattle.log_cleaner.specs.declared.answer.Cleaned.{Cleaned}
use Rattle.log_cleaner.specs.declared.answer.CleanFault.{CleanFault}
use Rattle.log_cleaner.specs.declared.answer.CleanFault.TheVariants.{DiskFault, VersionsSpent, NoMemory}
use Rattle.inspection.specs.Looks.{HasAdded}

-- a cleaning wrote these copies; where a call of a disk failed they may be in flight
abbrev pub operation_of : List Write → Result Cleaned CleanFault → Operation
operation_of copies (Ok c) = wrote copies
operation_of copies (Err (DiskFault p)) = Broke copies
operation_of copies (Err VersionsSpent) = wrote copies
operation_of copies (Err NoMemory) = wrote copies

-- what is told of a cleaning that copied nothing, of so many records
abbrev pub none_copied : (records : ℕ) → Cleaned
none_copied records = record { before = records; after = records; copied = 0; full = false }

-- The manager was cleaned; or it couldn't be, and stays as it is.
pub data CleansOrLeaves {D : Type 0} (tells : Bool) (state : D → State) (most : ℕ)
    (old new : Manager D) : List Write → Result Cleaned CleanFault → Type 0 where
  cleaned : (result : Result Cleaned CleanFault) → CanClean old
      → (has : HasCleaned tells state most old new result)
      → CleansOrLeaves tells state most old new has.copies result
  left : (CanClean old → ⊥) → new ≡ old
      → CleansOrLeaves tells state most old new [] (Ok (none_copied (length old.index.entries)))

-- A volume was cleaned in one turn, which added this entry behind these: `opened` is the manager
-- that stood for those, `after` the one that stands for this one too.
pub record CleansIn {D : Type 0} (tells : Bool) (state : D → State) (most : ℕ) (p q : ManagerPass D)
    (result : Result Cleaned CleanFault) : Type 0 where
  pub before : List Entry
  pub copies : List Write
  pub note : Noted
  pub added : HasAdded p q before note
  pub operation : note.entry.operation ≡ operation_of copies result
  pub opened : Manager D
  pub after : Manager D
  pub stood : Stands tells state opened (pass_lock p).base (notes_of before)
  pub stands : Stands tells state after (pass_lock p).base (notes_of before ++ note ∷ [])
  pub did : CleansOrLeaves tells state most opened after copies result

-- the turn's call: what it made of the manager with these copies, and that the manager stands for
-- its entry
pub record DoesClean {D : Type 0} (tells : Bool) (state : D → State) (most : ℕ)
    (old new : Manager D) (copies : List Write) (result : Result Cleaned CleanFault) : Type 0 where
  pub did : CleansOrLeaves tells state most old new copies result
  pub leaves : LeavesEntry tells state old new (operation_of copies result)
