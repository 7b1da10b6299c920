-- What turns of a helper make of its pass.
use Rattle.std.specs.Prelude.{⊤, ◌≡◌, ◌<◌, ◌-◌, ◌==◌, ◌&&◌, nat_le, ℕ, Bool, false, List, Option, None, Some, drop, find, length, IsTrue}
use Rattle.std.specs.List.{AllByRecursion}
use Rattle.std.specs.Option.{option_map_or}
use Rattle.turn_lock.specs.Histories.{Entry}
use Rattle.turn_lock.specs.Passes.{pass_mine}
use Rattle.turn_lock.specs.declared.lock.TurnLock.{TurnLock}
use Rattle.wol_model.specs.History.{Kept}
use Rattle.wol_model.specs.Index.{Listed, is_due, has_due, has_going, left}
use Rattle.wol_model.specs.Log.{has_bit}
use Rattle.wol_promise.specs.Policy.{Look, is_within_reach}
use Rattle.wol_promise.specs.Ruled.{Noted}
use Rattle.manager.specs.Stands.{notes_of}
use Rattle.manager.specs.declared.base.ManagerBase.{ManagerBase}
use Rattle.manager.specs.declared.manager.Manager.{Manager}
use Rattle.reclaimer.specs.Records.{FetchedRecord}
use Rattle.request_turns.specs.Counts.{added_between}
use Rattle.request_turns.specs.Turns.{ManagerPass, IsHonest, Gains, AreHelp}

-- the lock of a manager
abbrev pub ManagerLock : Type 0 → Type 0
ManagerLock D = TurnLock (Manager D) ManagerBase

-- turns whose entries change no content
pub record HasHelped {D : Type 0} (tells : Bool) (p q : ManagerPass D) : Type 0 where
  pub more : List Entry
  pub notes : List Noted
  pub gains : Gains tells p q more notes
  pub help : AreHelp notes

-- the entries that a pass made since
abbrev pub made_since : {D : Type 0} → (p q : ManagerPass D) → List Entry
made_since p q = drop (length (pass_mine p)) (pass_mine q)

-- no disk call failed in them
abbrev pub AreKept : {D : Type 0} → (p q : ManagerPass D) → Type 0
AreKept p q = AllByRecursion (λ (n : Noted). n.entry.operation ≡ Kept) (notes_of (made_since p q))

-- ---- What was done

-- what a step from one look to the other takes off the blocks that records keep, and off those that
-- are due
abbrev pub taken_by : (reclaims : Bool) → (l m : Look) → ℕ
taken_by reclaims l m = left l.listed - left m.listed

-- the pass's own entries gave up blocks of records, or put some home
abbrev pub HasTakenSome : {D : Type 0} → (tells : Bool) → (p q : ManagerPass D) → Type 0
HasTakenSome tells p q = IsHonest tells p → 0 < added_between taken_by p q

-- ---- Where there is nothing to do

-- home is asleep, or no record within reach has a due block
abbrev pub HasNoneDue : Look → Type 0
HasNoneDue l = IsTrue l.home_up → AllByRecursion
    (λ (e : Listed). IsTrue (is_within_reach l e) → has_due l.listed e ≡ false) l.listed

-- no record within reach has a block that may go
abbrev pub HasNoneToGo : Look → Type 0
HasNoneToGo l = AllByRecursion
    (λ (e : Listed). IsTrue (is_within_reach l e) → has_going l.listed e ≡ false) l.listed

-- block b was due when the record was read
abbrev pub was_due : FetchedRecord → (b : ℕ) → Bool
was_due f b = nat_le f.first b && has_bit f.due (b - f.first)

-- .. and is so still, in a listed record of that version and range
abbrev pub is_due_still : Look → FetchedRecord → (b : ℕ) → Bool
is_due_still l f b = was_due f b && option_map_or (λ (e : Listed). e.first == f.first
    && (length e.keep == length f.blocks && is_due l.listed e b))
    (find (λ (e : Listed). e.version == f.version) l.listed) false

-- home is asleep, or no block that was fetched is due still
abbrev pub HasNoneToPut : Look → Option FetchedRecord → Type 0
HasNoneToPut l None = ⊤
HasNoneToPut l (Some f) = IsTrue l.home_up → (b : ℕ) → is_due_still l f b ≡ false
