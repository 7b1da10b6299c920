-- What cleaning does to a manager, by its answer.
use Rattle.std.specs.Prelude.{◌≡◌, ◌≢◌, ◌<◌, ◌+◌, ◌^◌, ◌∷◌, ◌++◌, ℕ, Bool, true, false, List, [], map, length, sum_by, Contains, None, Some, Result, Ok, Err, slice_get}
use Rattle.std.specs.List.{AllByRecursion, range_with_len}
use Rattle.wol_disk.specs.Disk.{State}
use Rattle.turn_lock.specs.Histories.{Entry, Begins}
use Rattle.turn_lock.specs.Passes.{pass_mine, pass_number}
use Rattle.seg_pool.specs.Holders.{Gave, Took}
use Rattle.seg_pool.specs.Operations.{operation_of}
use Rattle.logger.specs.Lanes.{HasNoRoom, held_in, pool_of}
use Rattle.logger.specs.declared.lane.HeldSegment.{HeldSegment}
use Rattle.logger.specs.declared.lane.Lane.{Lane}
use Rattle.log_segment.specs.Segment.{disk_of}
use Rattle.spin_model.specs.Spun.{state_of}
use Rattle.wol_model.specs.Blocks.{Write}
use Rattle.wol_model.specs.History.{Broke}
use Rattle.wol_model.specs.Index.{Listed, AreRising, listed_in, is_covered}
use Rattle.manager.specs.Causes.{PartRoseOrClaimed}
use Rattle.manager.specs.Reading.{needs_of}
use Rattle.manager.specs.Stands.{IsSameManager}
use Rattle.manager.specs.declared.manager.Manager.{Manager}
use Rattle.manager.specs.declared.part.Part.{Part}
use Rattle.log_cleaner.specs.Chunks.{AreTidyBelow, AreUntidyBehind, IsChunk, IsClean, IsOneOf, IsTidy, NoneGoes, NoneHomed}
use Rattle.log_cleaner.specs.Copies.{AreCopies, LeavesEntry, wrote}
use Rattle.log_cleaner.specs.declared.answer.Cleaned.{Cleaned}
use Rattle.log_cleaner.specs.declared.answer.CleanFault.{CleanFault}
use Rattle.log_cleaner.specs.declared.answer.CleanFault.TheVariants.{DiskFault, VersionsSpent, NoMemory}

-- each logger of the view is awake for the manager
abbrev pub AllAwake : {D : Type 0} → Manager D → Type 0
AllAwake m = AllByRecursion (λ up. up ≡ true) m.ups.items

-- a block is covered by a record of the manager
abbrev pub covered_in : {D : Type 0} → Manager D → ℕ → Bool
covered_in m b = is_covered (listed_in m.index.entries) b

-- the manager can be cleaned: nothing failed, no block is homed, and all its loggers are awake for
-- it
pub record CanClean {D : Type 0} (m : Manager D) : Type 0 where
  pub up : m.down ≡ None
  pub unhomed : NoneHomed (listed_in m.index.entries)
  pub awake : AllAwake m

-- the pass of each lane's pool has gained entries at most
abbrev pub PassesGoOn : {D : Type 0} → (old new : Manager D) → Type 0
PassesGoOn {D} old new = (k : ℕ) (o n : Lane D) → slice_get old.lanes.items k ≡ Some o
    → slice_get new.lanes.items k ≡ Some n → Begins (pass_mine (pool_of o)) (pass_mine (pool_of n))

-- Between calls of a cleaning: it can be cleaned still, the same blocks are covered, home wasn't
-- woken, and the passes of its pools have gained entries at most.
pub record GoesOn {D : Type 0} (old new : Manager D) : Type 0 where
  pub same : IsSameManager old new
  pub can : CanClean new
  pub covered : (b : ℕ) → covered_in new b ≡ covered_in old b
  -- home isn't woken
  pub home_up : new.home_up ≡ old.home_up
  pub home_needs : needs_of new.spindle ≡ needs_of old.spindle
  pub lanes : length new.lanes.items ≡ length old.lanes.items
  pub pools : PassesGoOn old new

-- a copy is of a chunk of the covered blocks
abbrev pub IsChunkOf : (covered : ℕ → Bool) → (most : ℕ) → Write → Type 0
IsChunkOf covered most w = IsChunk covered most w.first (length w.blocks)

-- the write is of a chunk that isn't tidy
abbrev pub IsOfUntidy : List Listed → Write → Type 0
IsOfUntidy es w = IsTidy es w.first (length w.blocks) → ⊥

-- the next chunk, behind all copies, still isn't tidy, and those before it are
pub record IsLeftUntidy (covered : ℕ → Bool) (most : ℕ) (es : List Listed) (copies : List Write) :
    Type 0 where
  pub first : ℕ
  pub count : ℕ
  pub chunk : IsChunk covered most first count
  pub before : AreTidyBelow covered most first es
  pub behind : AllByRecursion (λ w. w.first < first) copies
  pub untidy : IsTidy es first count → ⊥

-- the chunks up to some block are tidy, and all copies lie before it
abbrev pub TidiesBefore : (covered : ℕ → Bool) → (most : ℕ) → List Listed → (copies : List Write)
    → Type 0
TidiesBefore covered most es copies =
    (first : ℕ) × AreTidyBelow covered most first es × AllByRecursion (λ w. w.first < first) copies

-- the last that each lane's pass did in its pool was to find it empty
abbrev pub FindsAllEmpty : {D : Type 0} → (old new : Manager D) → Type 0
FindsAllEmpty {D} old new = (k : ℕ) (o n : Lane D) → slice_get old.lanes.items k ≡ Some o
    → slice_get new.lanes.items k ≡ Some n
    → (before : List Entry) × Begins (pass_mine (pool_of o)) before
    × (pass_mine (pool_of n) ≡ before ++ (pass_number (pool_of n), operation_of (Took None)) ∷ [])

-- no segment that a lane holds has room for so many blocks
abbrev pub NoneHasRoom : {D : Type 0} → (count : ℕ) → Manager D → Type 0
NoneHasRoom {D} count m = AllByRecursion (λ (l : Lane D). HasNoRoom count (held_in l)) m.lanes.items

-- the record of the write is there, and keeps just its blocks
abbrev pub IsListedIn : List Listed → Write → Type 0
IsListedIn es w =
    (version : ℕ) × (w.version ≡ Some version) × IsOneOf es version w.first (length w.blocks)

-- Each of these copies is among the records; and where there are some, all was given up that may go.
pub record HasSettled (es : List Listed) (copies : List Write) : Type 0 where
  pub listed : AllByRecursion (IsListedIn es) copies
  pub none_goes : (copies ≡ [] → ⊥) → NoneGoes es

-- how many blocks were copied
abbrev pub copied_blocks : List Write → ℕ
copied_blocks copies = sum_by (λ (w : Write). length w.blocks) copies

-- the lane's pass gave no segment of this index back to its pool since
abbrev pub HasKept : {D : Type 0} → (index : ℕ) → (old new : Lane D) → Type 0
HasKept index old new = (more : List Entry)
    × (pass_mine (pool_of new) ≡ pass_mine (pool_of old) ++ more)
    × AllByRecursion (λ (e : Entry). e.1 ≢ operation_of (Gave index)) more

-- the lane holds this segment still, with the count of faults that it had
pub record HoldsCalm {D : Type 0} (state : D → State) (segment : HeldSegment D) (l : Lane D) :
    Type 0 where
  pub its : HeldSegment D
  pub held : Contains (held_in l) its
  pub index : its.index ≡ segment.index
  pub calm : (disk_of state its.segment).faults ≡ (disk_of state segment.segment).faults

-- No call failed of home, nor of a segment that was held and wasn't given back since: each has the
-- count that it had.
pub record StaysCalm {D : Type 0} (state : D → State) (old new : Manager D) : Type 0 where
  pub home : (state_of state new.home).faults ≡ (state_of state old.home).faults
  pub held : (k : ℕ) (o n : Lane D) → slice_get old.lanes.items k ≡ Some o
      → slice_get new.lanes.items k ≡ Some n → (segment : HeldSegment D)
      → Contains (held_in o) segment → HasKept segment.index o n → HoldsCalm state segment n

-- A part's count rose in a call of the cleaning, and no call failed before it: `mid` is the manager
-- before that call, and the passes of its pools begin those at the end.
abbrev pub RoseSince : {D : Type 0} → (D → State) → (old new : Manager D) → Part → Type 0
RoseSince {D} state old new p = (mid : Manager D) × GoesOn old mid × StaysCalm state old mid
    × PartRoseOrClaimed state mid new p × PassesGoOn mid new

-- where nothing was copied the records are as they were
abbrev pub Untouched : {D : Type 0} → (old new : Manager D) → List Write → Type 0
Untouched old new copies = copies ≡ [] → new.index.entries ≡ old.index.entries

-- What an answer says. Where it isn't full the records are one for each chunk; where it is, no
-- segment had room for the next, and no pool had one. But at a fault of a disk no call of one
-- failed, the copies are among the records, and behind them nothing may go.
abbrev pub TellsCleaned : {D : Type 0} → (tells : Bool) → (D → State) → (most : ℕ)
    → (old new : Manager D) → List Write → Result Cleaned CleanFault → Type 0
TellsCleaned tells state most old new copies (Ok c) =
    GoesOn old new × LeavesEntry tells state old new (wrote copies)
    × (c.before ≡ length old.index.entries) × (c.after ≡ length new.index.entries)
    × (c.copied ≡ copied_blocks copies)
    × (c.full ≡ false → IsClean (covered_in old) most (listed_in new.index.entries))
    × (c.full ≡ true → (new.next < 2 ^ 63) × FindsAllEmpty old new
    × (left : IsLeftUntidy (covered_in old) most (listed_in new.index.entries) copies)
    × NoneHasRoom left.count new) × Untouched old new copies × StaysCalm state old new
    × HasSettled (listed_in new.index.entries) copies
TellsCleaned tells state most old new copies (Err (DiskFault p)) =
    (new.down ≡ Some p) × RoseSince state old new p × LeavesEntry tells state old new (Broke copies)
TellsCleaned tells state most old new copies (Err VersionsSpent) =
    GoesOn old new × LeavesEntry tells state old new (wrote copies) × (new.next ≡ 2 ^ 63)
    × (old.next + length copies ≡ 2 ^ 63)
    × IsLeftUntidy (covered_in old) most (listed_in new.index.entries) copies
    × Untouched old new copies × StaysCalm state old new
    × HasSettled (listed_in new.index.entries) copies
TellsCleaned tells state most old new copies (Err NoMemory) =
    GoesOn old new × LeavesEntry tells state old new (wrote copies) × Untouched old new copies
    × TidiesBefore (covered_in old) most (listed_in new.index.entries) copies
    × StaysCalm state old new × HasSettled (listed_in new.index.entries) copies

-- What was copied are chunks that weren't tidy, neither at the beginning nor behind the copies before
-- them, in order, under the next versions; after a fault of a disk they may be in flight.
pub record HasCleaned {D : Type 0} (tells : Bool) (state : D → State) (most : ℕ)
    (old new : Manager D) (result : Result Cleaned CleanFault) : Type 0 where
  pub copies : List Write
  pub chunks : AllByRecursion (IsChunkOf (covered_in old) most) copies
  pub untidy : AllByRecursion (IsOfUntidy (listed_in old.index.entries)) copies
  pub still_untidy : AreUntidyBehind (listed_in old.index.entries) [] copies
  pub in_order : AreRising (map (λ w. w.first) copies)
  pub numbered : map (λ w. w.version) copies
      ≡ map (λ v. Some v) (range_with_len old.next (length copies))
  pub copied : AreCopies tells state old new copies
  pub tells_ : TellsCleaned tells state most old new copies result
