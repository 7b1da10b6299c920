-- What steps of a cleaning come to.
use Rattle.std.specs.Prelude.{⊤, ◌≡◌, ◌<◌, ◌≤◌, ◌+◌, ◌^◌, ◌∷◌, ◌++◌, ◌↔◌, ℕ, zero, suc, Bool, true, false, List, [], length, take, drop, slice_range, IsTrue, Some, Result, Ok, Err}
use Rattle.std.specs.List.{AllByRecursion}
use Rattle.wol_disk.specs.Disk.{State, Block}
use Rattle.wol_model.specs.Blocks.{Write}
use Rattle.wol_model.specs.History.{Broke}
use Rattle.wol_model.specs.Index.{Indexed, Listed, is_live, listed_in}
use Rattle.spin_model.specs.Spun.{state_of}
use Rattle.wol_model.specs.Placing.{Log}
use Rattle.wol_promise.specs.Policy.{Look}
use Rattle.wol_promise.specs.Ruled.{Noted}
use Rattle.log_segment.specs.Records.{count_of}
use Rattle.log_segment.specs.declared.item.Item.{Item}
use Rattle.logger.specs.Lanes.{first_count}
use Rattle.manager.specs.Groups.{placed_all}
use Rattle.manager.specs.Stands.{Keeps}
use Rattle.manager.specs.declared.base.ManagerBase.{ManagerBase}
use Rattle.manager.specs.Reclaim.{lies_elsewhere}
use Rattle.manager.specs.declared.manager.Manager.{Manager}
use Rattle.manager.specs.declared.part.Part.{Part}
use Rattle.manager.specs.declared.part.Place.{Place}
use Rattle.manager.specs.declared.part.ReadRefusal.{ReadRefusal}
use Rattle.manager.specs.declared.part.ReadRefusal.TheVariants as refused_read
use Rattle.manager.specs.declared.part.WriteRefusal.{WriteRefusal}
use Rattle.manager.specs.declared.part.WriteRefusal.TheVariants as refused
use Rattle.manager.specs.declared.part.StepFault.{StepFault}
use Rattle.manager.specs.declared.part.StepFault.TheVariants as step
use Rattle.log_cleaner.specs.Chunks.{HasLive, IsTidy, IsUppermost, NoneGoes, is_within}
use Rattle.log_cleaner.specs.Copies.{AreCopies, KeepsCopies, LeavesEntry, array_of}
use Rattle.log_cleaner.specs.Cleans.{FindsAllEmpty, GoesOn, NoneHasRoom, RoseSince, StaysCalm, covered_in}
use Rattle.log_cleaner.specs.declared.answer.CleanFault.{CleanFault}
use Rattle.log_cleaner.specs.declared.answer.CleanFault.TheVariants.{DiskFault, VersionsSpent, NoMemory}

-- what is told of a step that was refused, of a manager that wasn't down
abbrev pub step_fault : StepFault → CleanFault
step_fault (step.DiskFault p) = DiskFault p
step_fault (step.Down p) = DiskFault p

-- what is told of a read that was refused, and of a run of writes
abbrev pub fault_of : ReadRefusal → CleanFault
fault_of (refused_read.DiskFault p) = DiskFault p
fault_of (refused_read.Down p) = DiskFault p

abbrev pub told_of : (items : ℕ) → Result Place WriteRefusal → Result ℕ CleanFault
told_of items (Ok place) = Ok items
told_of items (Err refused.Full) = Ok 0
told_of items (Err (refused.DiskFault p)) = Err (DiskFault p)
told_of items (Err (refused.Down p)) = Err (DiskFault p)
told_of items (Err refused.VersionsSpent) = Err VersionsSpent
told_of items (Err refused.NoMemory) = Err NoMemory

-- these were copied, and nothing failed
pub record HasCopied {D : Type 0} (tells : Bool) (state : D → State) (old new : Manager D)
    (copies : List Write) : Type 0 where
  pub goes_on : GoesOn old new
  pub calm : StaysCalm state old new
  pub keeps : KeepsCopies tells state old new copies
  pub copied : AreCopies tells state old new copies
  pub next : new.next ≡ old.next + length copies

-- a call of this part failed, and the last of these may be in flight
pub record HasBroken {D : Type 0} (tells : Bool) (state : D → State) (old new : Manager D)
    (p : Part) (copies : List Write) : Type 0 where
  pub down : new.down ≡ Some p
  pub rose : RoseSince state old new p
  pub leaves : LeavesEntry tells state old new (Broke copies)
  pub copied : AreCopies tells state old new copies

-- the write has so many blocks from `first` on, under this version
pub record IsCopyAt (first count version : ℕ) (w : Write) : Type 0 where
  pub first_is : w.first ≡ first
  pub count_is : length w.blocks ≡ count
  pub version_is : w.version ≡ Some version

-- they are of these chunks, in order, under versions in a row from this one on
abbrev pub AreCopiesAt : (version : ℕ) → List Item → List Write → Type 0
AreCopiesAt version [] [] = ⊤
AreCopiesAt version [] (w ∷ ws) = ⊥
AreCopiesAt version (i ∷ items) [] = ⊥
AreCopiesAt version (i ∷ items) (w ∷ ws) =
    IsCopyAt i.lbn i.count version w × AreCopiesAt (version + 1) items ws

-- chunks that are tidy stay so, and so do records that are the uppermost to keep just some blocks;
-- each record has the live blocks that it had
pub record KeepsTidy {D : Type 0} (old new : Manager D) : Type 0 where
  pub tidy : (first count : ℕ) → 1 ≤ count → IsTidy (listed_in old.index.entries) first count
      → IsTidy (listed_in new.index.entries) first count
  pub upper : (version first count : ℕ) → 1 ≤ count
      → IsUppermost (listed_in old.index.entries) version first count
      → IsUppermost (listed_in new.index.entries) version first count
  pub live : (version b : ℕ) → HasLive (listed_in old.index.entries) version b
      ↔ HasLive (listed_in new.index.entries) version b

-- where the entry lies in this segment of this lane, it has no live block
abbrev pub HasNoneLiveIn : (lane index : ℕ) → List Indexed → Indexed → Type 0
HasNoneLiveIn lane index es e =
    lies_elsewhere lane index e ≡ false → (b : ℕ) → is_live (listed_in es) e.listed b ≡ false

-- some records gave up what may go
abbrev pub GivesSome : {D : Type 0} → (tells : Bool) → (D → State) → (old new : Manager D)
    → Result (Unit {0}) StepFault → Type 0
GivesSome tells state old new (Ok done) = HasCopied tells state old new [] × KeepsTidy old new
GivesSome tells state old new (Err (step.DiskFault p)) = HasBroken tells state old new p []
GivesSome tells state old new (Err (step.Down p)) = ⊥

-- the chunk is tidy whose uppermost record keeps just its blocks
abbrev pub TidiesUp : {D : Type 0} → (first count : ℕ) → (old new : Manager D) → Type 0
TidiesUp first count old new = (version : ℕ)
    → IsUppermost (listed_in old.index.entries) version first count
    → IsTidy (listed_in new.index.entries) first count

-- each chunk is tidy then whose uppermost record keeps just its blocks
abbrev pub TidiesAll : {D : Type 0} → (old new : Manager D) → Type 0
TidiesAll old new = (first count : ℕ) → 1 ≤ count → TidiesUp first count old new

-- giving up all that may go
abbrev pub GivesAll : {D : Type 0} → (tells : Bool) → (D → State) → (old new : Manager D)
    → Result (Unit {0}) StepFault → Type 0
GivesAll tells state old new (Ok done) =
    HasCopied tells state old new [] × KeepsTidy old new × TidiesAll old new
    × NoneGoes (listed_in new.index.entries)
GivesAll tells state old new (Err (step.DiskFault p)) = HasBroken tells state old new p []
GivesAll tells state old new (Err (step.Down p)) = ⊥

-- giving up some of it, or all, by what cleaning tells
abbrev pub Settles : {D : Type 0} → (tells : Bool) → (D → State) → (all : Bool)
    → (old new : Manager D) → Result (Unit {0}) CleanFault → Type 0
Settles tells state all old new (Ok done) =
    HasCopied tells state old new [] × KeepsTidy old new
    × (all ≡ true → TidiesAll old new × NoneGoes (listed_in new.index.entries))
Settles tells state all old new (Err (DiskFault p)) = HasBroken tells state old new p []
Settles tells state all old new (Err VersionsSpent) = ⊥
Settles tells state all old new (Err NoMemory) = ⊥

-- ---- Reading and writing again

-- all blocks of these chunks are covered
abbrev pub AreCoveredIn : {D : Type 0} → Manager D → List Item → Type 0
AreCoveredIn m items =
    AllByRecursion (λ i. (b : ℕ) → is_within i.lbn i.count b ≡ true → covered_in m b ≡ true) items

-- these blocks begin with what the array has of these chunks
abbrev pub AreRead : (array : List Block) → List Item → List Block → Type 0
AreRead array [] blocks = ⊤
AreRead array (i ∷ items) blocks = (take i.count blocks ≡ slice_range array i.lbn (i.lbn + i.count))
    × AreRead array items (drop i.count blocks)

-- the blocks of these chunks were read, so many
pub record HasReadAll {D : Type 0} (tells : Bool) (state : D → State) (items : List Item)
    (old new : Manager D) (room : List Block) (blocks : ℕ) : Type 0 where
  pub count : blocks ≡ count_of items
  pub copied : HasCopied tells state old new []
  pub entries : new.index.entries ≡ old.index.entries
  pub size : (state_of state new.home).size ≡ (state_of state old.home).size
  pub content : IsTrue tells → (b : ManagerBase) (notes : List Noted)
      → Keeps tells state old b notes → AreRead (array_of b notes) items (take blocks room)

-- the same, by what is told
abbrev pub ReadsAll : {D : Type 0} → (tells : Bool) → (D → State) → List Item
    → (old new : Manager D) → List Block → Result ℕ CleanFault → Type 0
ReadsAll tells state items old new room (Ok blocks) =
    HasReadAll tells state items old new room blocks
ReadsAll tells state items old new room (Err (DiskFault p)) = HasBroken tells state old new p []
ReadsAll tells state items old new room (Err VersionsSpent) = ⊥
ReadsAll tells state items old new room (Err NoMemory) = ⊥

-- no log had room
pub record IsRefused {D : Type 0} (tells : Bool) (state : D → State) (count : ℕ)
    (old new : Manager D) : Type 0 where
  pub copied : HasCopied tells state old new []
  pub entries : new.index.entries ≡ old.index.entries
  pub next : old.next < 2 ^ 63
  pub empty : FindsAllEmpty old new
  pub room : NoneHasRoom count new

-- the blocks of these chunks were written again, as the newest records
pub record HasRewritten {D : Type 0} (tells : Bool) (state : D → State) (items : List Item)
    (old new : Manager D) : Type 0 where
  pub writes : List Write
  pub are : AreCopiesAt old.next items writes
  pub copied : HasCopied tells state old new writes
  pub look : Look
  pub lane : ℕ
  pub listed_was : look.listed ≡ listed_in old.index.entries
  pub next_was : look.next ≡ old.next
  pub listed_is : listed_in new.index.entries ≡ (placed_all (Log lane) look writes).listed

-- a disk call failed, perhaps that of copies of some first chunks
pub record Fails {D : Type 0} (tells : Bool) (state : D → State) (items : List Item)
    (old new : Manager D) (p : Part) : Type 0 where
  pub copies : List Write
  pub tried : ℕ
  pub within : tried ≤ length items
  pub are : AreCopiesAt old.next (take tried items) copies
  pub broken : HasBroken tells state old new p copies

-- what is so after a refusal
abbrev pub TellsFault : {D : Type 0} → (tells : Bool) → (D → State) → List Item
    → (old new : Manager D) → CleanFault → Type 0
TellsFault tells state items old new (DiskFault p) = Fails tells state items old new p
TellsFault tells state items old new VersionsSpent =
    HasCopied tells state old new [] × (new.next ≡ 2 ^ 63) × (new.index.entries ≡ old.index.entries)
TellsFault tells state items old new NoMemory =
    HasCopied tells state old new [] × (new.index.entries ≡ old.index.entries)

-- some first chunks were written again, or none had room
abbrev pub Rewrites : {D : Type 0} → (tells : Bool) → (D → State) → List Item
    → (old new : Manager D) → Result ℕ CleanFault → Type 0
Rewrites tells state items old new (Ok zero) = IsRefused tells state (first_count items) old new
Rewrites tells state items old new (Ok (suc n)) =
    HasRewritten tells state (take (suc n) items) old new × (suc n ≤ length items)
Rewrites tells state items old new (Err fault) = TellsFault tells state items old new fault

-- how many were written
abbrev pub written_of : Result ℕ CleanFault → ℕ
written_of (Ok written) = written
written_of (Err fault) = 0

-- a call of a disk failed
abbrev pub is_broken : Result ℕ CleanFault → Bool
is_broken (Ok written) = false
is_broken (Err (DiskFault p)) = true
is_broken (Err VersionsSpent) = false
is_broken (Err NoMemory) = false

-- what cleaning answers where a chunk wasn't written
abbrev pub ended : (copied : ℕ) → Result ℕ CleanFault → Result (ℕ × Bool) CleanFault
ended copied (Ok written) = Ok (copied, true)
ended copied (Err fault) = Err fault

-- ---- The copies of a step

-- the copies of a run with this answer: those that were done or may be in flight
abbrev pub noted : Result Place WriteRefusal → List Write → List Write
noted (Ok place) copies = copies
noted (Err (refused.DiskFault p)) copies = copies
noted (Err refused.Full) copies = []
noted (Err (refused.Down p)) copies = []
noted (Err refused.VersionsSpent) copies = []
noted (Err refused.NoMemory) copies = []

module _ {D : Type 0} (tells : Bool) (state : D → State) (items : List Item)
    (old new : Manager D) where
  abbrev pub fault_copies : (fault : CleanFault) → TellsFault tells state items old new fault
      → List Write
  fault_copies (DiskFault p) f = f.copies
  fault_copies VersionsSpent f = []
  fault_copies NoMemory f = []

  abbrev pub rewritten : (result : Result ℕ CleanFault) → Rewrites tells state items old new result
      → List Write
  rewritten (Ok zero) r = []
  rewritten (Ok (suc n)) r = r.0.writes
  rewritten (Err fault) f = fault_copies fault f

  -- the same, with its copies behind those before it
  abbrev pub RewritesBehind : (before after : List Write) → Result ℕ CleanFault → Type 0
  RewritesBehind before after result =
      (r : Rewrites tells state items old new result) × (after ≡ before ++ rewritten result r)
