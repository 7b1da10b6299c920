-- A lane as its manager sees it: the segments that one volume holds on one logger.
use Rattle.std.specs.Prelude.{◌≡◌, ◌<◌, ◌≤◌, ◌⊎◌, ◌+◌, ◌-◌, ◌^◌, ◌==◌, if◌then◌else◌, ◌∷◌, ◌++◌, ℕ, Bool, true, false, List, [], map, All, length, take, drop, slice_get, slice_set, remove, vec_len, vec_capacity, slice_index_or, Contains, Option, None, Some, IfSome, is_some, Result, Ok, Err, OnOk, OnErr, IsOk, IsErr}
use Rattle.std.specs.List.{AllByRecursion}
use Rattle.std.specs.Option.{option_to_list}
use Rattle.wol_disk.specs.Disk.{Block, State, Values, LeavesOnly, Rose}
use Rattle.wol_disk.specs.declared.disk.Failed.{Failed}
use Rattle.wol_model.specs.Blocks.{AreApart}
use Rattle.wol_model.specs.Heads.{RecordHead}
use Rattle.wol_model.specs.Journal.{Needed, Done}
use Rattle.wol_model.specs.Log.{Record, IsLog, IsIdle, HasFirstOf, position_of}
use Rattle.turn_lock.specs.Histories.{Entry}
use Rattle.turn_lock.specs.Passes.{lock_id, pass_lock, pass_number, pass_mine, IsFree, IsSamePass}
use Rattle.turn_lock.specs.declared.pass.PassOf.{PassOf}
use Rattle.spin_model.specs.Operations.{has_token}
use Rattle.spin_model.specs.Operations as spindle
use Rattle.spin_model.specs.declared.spindle.Spindle.{Spindle}
use Rattle.spin_model.specs.declared.spindle.SpindleBase.{SpindleBase}
use Rattle.seg_pool.specs.Holders.{Gave}
use Rattle.seg_pool.specs.Operations.{holds, taken}
use Rattle.seg_pool.specs.Operations as pool
use Rattle.seg_pool.specs.declared.base.PoolBase.{PoolBase}
use Rattle.seg_pool.specs.declared.pool.Pool.{Pool}
use Rattle.log_segment.specs.Kept.{IsKeptOrTrimmed}
use Rattle.log_segment.specs.Records.{IsSameHead, AreItems, group_of, count_of, trimmed, count_valid}
use Rattle.log_segment.specs.Segment.{IsSegment, IsWhole, IsBroken, IsBlank, IsSame, Holds, room_of, disk_of, free_disk, free_volume, free_blocks, segment_volume, owner_of, blocks_of, place_of, valid_of}
use Rattle.log_segment.specs.declared.free.FreeSegment.{FreeSegment}
use Rattle.log_segment.specs.declared.item.Item.{Item}
use Rattle.log_segment.specs.declared.segment.Segment.{Segment}
use Rattle.logger.specs.declared.lane.HeldSegment.{HeldSegment}
use Rattle.logger.specs.declared.lane.Lane.{Lane}
use Rattle.logger.specs.declared.lane.Spot.{Spot}
use Rattle.logger.specs.declared.shared.Shared.{Shared}
use Rattle.logger.specs.declared.write.Group.{Group}

-- ---- Its parts

module _ {D : Type 0} where
  -- the volume on whose log the segments are
  abbrev pub logger_of : Lane D → ℕ
  logger_of l = l.logger

  -- the volume that holds them
  abbrev pub lane_owner : Lane D → ℕ
  lane_owner l = l.owner

  -- the held segments, in the order of holding
  abbrev pub held_in : Lane D → List (HeldSegment D)
  held_in l = l.held.items

  -- the segment that was taken from the pool and not claimed yet, with its index
  abbrev pub taken_in : Lane D → Option (ℕ × FreeSegment D)
  taken_in l = l.taken

  -- for how many held segments it has room
  abbrev pub segments_in : Lane D → ℕ
  segments_in l = vec_capacity l.held

  -- its pass of the pool's lock
  abbrev pub pool_of : Lane D → PassOf (Pool (FreeSegment D)) PoolBase
  pool_of l = l.pool

  -- its pass of the spindle's lock
  abbrev pub spindle_of : Lane D → PassOf Spindle SpindleBase
  spindle_of l = l.spindle

  -- how many blocks each segment of the pool has
  abbrev pub pool_blocks : Lane D → ℕ
  pool_blocks l = (pass_lock l.pool).base.blocks

  -- the indexes of its segments
  abbrev pub indexes_in : Lane D → List ℕ
  indexes_in l = map (λ (h : HeldSegment D). h.index) l.held.items
      ++ map (λ (t : ℕ × FreeSegment D). t.0) (option_to_list l.taken)

-- ---- What holds of a lane between its calls, whether or not its disks tell their content

-- these entries of a spindle's lock are of accesses alone: in each turn the disk was needed, or it
-- was done
abbrev pub AreAccesses : List Entry → Type 0
AreAccesses entries = AllByRecursion
    (λ (e : Entry). (spindle.use_of e.1 ≡ Needed) ⊎ (spindle.use_of e.1 ≡ Done)) entries

-- a held segment of this logger and owner: it is as long as the pool's, and the pass holds its
-- index
pub record IsHeld {D : Type 0} (state : D → State) (logger owner segments : ℕ)
    (pass : PassOf (Pool (FreeSegment D)) PoolBase) (h : HeldSegment D) : Type 0 where
  pub shape : IsSegment state h.segment
  pub volume : segment_volume h.segment ≡ logger
  pub owned : owner_of h.segment ≡ owner
  pub blocks : blocks_of h.segment ≡ (pass_lock pass).base.blocks
  pub below : h.index < segments
  pub holding : holds (pass_lock pass).base (pass_number pass) (pass_mine pass) h.index ≡ true

-- the same of a segment that is free and not claimed yet
pub record IsTaken {D : Type 0} (state : D → State) (logger segments : ℕ)
    (pass : PassOf (Pool (FreeSegment D)) PoolBase) (t : ℕ × FreeSegment D) : Type 0 where
  pub blank : IsBlank state logger (pass_lock pass).base.blocks t.1
  pub below : t.0 < segments
  pub holding : holds (pass_lock pass).base (pass_number pass) (pass_mine pass) t.0 ≡ true

pub record IsLane {D : Type 0} (state : D → State) (l : Lane D) : Type 0 where
  pub pool_free : IsFree l.pool
  pub spindle_free : IsFree l.spindle
  pub pool_volume : (pass_lock l.pool).base.volume ≡ l.logger
  pub spindle_volume : (pass_lock l.spindle).base.volume ≡ l.logger
  -- each disk access of it is over
  pub settled : has_token (pass_mine l.spindle) ≡ false
  pub accesses : AreAccesses (pass_mine l.spindle)
  pub each : AllByRecursion (IsHeld state l.logger l.owner (segments_in l) l.pool) l.held.items
  pub unclaimed : IfSome l.taken (IsTaken state l.logger (segments_in l) l.pool)
  pub apart : AreApart (indexes_in l)
  -- it has room for all segments of the logger, and room to hand them back
  pub room : length (pass_lock l.pool).base.holders ≤ segments_in l
  pub handing : (l.parts.items ≡ []) × (segments_in l ≤ vec_capacity l.parts)

-- its pass of the pool holds no index but those of its segments; this is no part of `IsLane`, since
-- at an opening the pass holds segments before the lane does
abbrev pub HoldsAll : {D : Type 0} → Lane D → Type 0
HoldsAll l = (index : ℕ) → holds (pass_lock l.pool).base (pass_number l.pool) (pass_mine l.pool)
    index ≡ true → Contains (indexes_in l) index

-- what no call of a lane changes
pub record IsSameLane {D : Type 0} (old new : Lane D) : Type 0 where
  pub logger : new.logger ≡ old.logger
  pub owner : new.owner ≡ old.owner
  pub segments : segments_in new ≡ segments_in old
  pub pool : IsSamePass old.pool new.pool
  pub spindle : IsSamePass old.spindle new.spindle

-- its passes are of the locks of these shared ones
pub record IsAt {D : Type 0} (shared : Shared D) (l : Lane D) : Type 0 where
  pub pool_in : l.logger < vec_len shared.pools
  pub spindle_in : l.logger < vec_len shared.spindles
  pub pool : (d : _) → pass_lock l.pool ≡ lock_id (slice_index_or shared.pools.items l.logger d)
  pub spindle : (d : _)
      → pass_lock l.spindle ≡ lock_id (slice_index_or shared.spindles.items l.logger d)

-- no call of these segments failed
abbrev pub AreWhole : {D : Type 0} → List (HeldSegment D) → Type 0
AreWhole {D} hs = AllByRecursion (λ (h : HeldSegment D). IsWhole h.segment) hs

-- the spindle's pass has made two turns: the disk was needed, and it was done
abbrev pub HasUsed : {D : Type 0} → (old new : Lane D) → Type 0
HasUsed old new = pass_mine new.spindle
    ≡ pass_mine old.spindle ++ (pass_number old.spindle, spindle.operation_of Needed)
    ∷ (pass_number old.spindle, spindle.operation_of Done) ∷ []

-- ---- Room

-- none of these segments has room for so many blocks
abbrev pub HasNoRoom : {D : Type 0} → (count : ℕ) → List (HeldSegment D) → Type 0
HasNoRoom {D} count hs = All (λ (h : HeldSegment D). room_of h.segment < count) hs

-- the segment at place k has room for so many blocks, and none before it has
pub record IsFirstWithRoom {D : Type 0} (count : ℕ) (hs : List (HeldSegment D)) (k : ℕ) :
    Type 0 where
  pub segment : HeldSegment D
  pub there : slice_get hs k ≡ Some segment
  pub room : count ≤ room_of segment.segment
  pub before : HasNoRoom count (take k hs)

-- one of them has room for so many blocks
abbrev pub HasRoom : {D : Type 0} → (count : ℕ) → List (HeldSegment D) → Type 0
HasRoom count hs = (k : ℕ) × IsFirstWithRoom count hs k

-- What a lane did that was asked for room: nothing where a held segment has it, else one turn of
-- the pool.
pub data Secured {D : Type 0} (old new : Lane D) (count : ℕ) (answer : Bool) : Type 0 where
  had_room : HasRoom count (held_in old) → answer ≡ true → taken_in new ≡ None
      → pass_mine (pool_of new) ≡ pass_mine (pool_of old) → Secured old new count answer
  asked : HasNoRoom count (held_in old) → answer ≡ is_some (taken_in new)
      → pass_mine (pool_of new) ≡ pass_mine (pool_of old)
      ++ (pass_number (pool_of old), pool.operation_of (taken (taken_in new))) ∷ []
      → Secured old new count answer

-- the segment that a write of so many blocks goes to has room for `fit` blocks
pub record IsFit {D : Type 0} (count fit : ℕ) (l : Lane D) : Type 0 where
  pub held : (k : ℕ) (f : IsFirstWithRoom count (held_in l) k) → fit ≡ room_of f.segment.segment
  pub unclaimed : HasNoRoom count (held_in l) → fit + 2 ≡ pool_blocks l

-- ---- Writes

-- how many blocks the first of these items has
abbrev pub first_count : List Item → ℕ
first_count [] = 0
first_count (i ∷ items) = i.count

-- a group of writes: it has some, the blocks are theirs, and their versions stay below 2^63
pub record IsGroup (g : Group) : Type 0 where
  pub version : (1 ≤ g.version) × (g.version + length g.items.now ≤ 2 ^ 63)
  pub some : 1 ≤ length g.items.now
  pub items : AreItems g.items.now
  pub blocks : count_of g.items.now ≡ length g.from.now

-- how many blocks it takes, but for the head of the first
abbrev pub group_blocks : Group → ℕ
group_blocks g = length g.from.now + (length g.items.now - 1)

-- the records of it that an owner writes
abbrev pub group_records : (owner : ℕ) → Group → List Record
group_records owner g = group_of owner g.version g.items.now g.from.now

-- an answered write stands at this spot, and a refused one names this segment
abbrev pub IsSpot : (index pos : ℕ) → Result Spot (ℕ × Failed) → Type 0
IsSpot index pos (Ok spot) = (spot.segment ≡ index) × (spot.pos ≡ pos)
IsSpot index pos (Err refusal) = refusal.0 ≡ index

-- the same answer, of a segment of this index
abbrev pub spot_result : (index : ℕ) → Result ℕ Failed → Result Spot (ℕ × Failed)
spot_result index (Ok pos) = Ok (record { segment = index; pos = pos })
spot_result index (Err failed) = Err (index, failed)

-- a held segment before and after a call that adds these records to it
pub record Grown {D T E : Type 0} (state : D → State) (old new : HeldSegment D)
    (added : List Record) (res : Result T E) : Type 0 where
  pub index : new.index ≡ old.index
  pub same : IsSame old.segment new.segment
  pub ok : (rs : List Record) → Holds state old.segment rs
      → OnOk res (Holds state new.segment (rs ++ added))
  pub valid : OnOk res (valid_of new.segment ≡ valid_of old.segment + length added)
  pub whole : OnOk res (IsWhole new.segment)
  pub broken : OnErr res (IsBroken new.segment)
  pub any_moment : (rs : List Record) → Holds state old.segment rs
      → LeavesOnly (disk_of state old.segment) (disk_of state new.segment)
      (λ c. HasFirstOf c (owner_of old.segment) rs added)
  pub cause : OnErr res (Rose (disk_of state old.segment).faults (disk_of state new.segment).faults)
  pub calm : OnOk res ((disk_of state new.segment).faults ≡ (disk_of state old.segment).faults)

-- a taken segment before and after it was claimed and these records were added
pub record Claimed {D T E : Type 0} (state : D → State) (owner : ℕ) (old : FreeSegment D)
    (new : Segment D) (added : List Record) (res : Result T E) : Type 0 where
  pub shape : IsSegment state new
  pub volume : segment_volume new ≡ free_volume old
  pub owned : owner_of new ≡ owner
  pub blocks : blocks_of new ≡ free_blocks old
  -- it had no record once it was claimed
  pub claimed : (vs : List (Values Block)) → (free_disk state old).values ≡ Some vs
      → OnOk res ((s : Segment D) × IsSegment state s × IsSame s new × IsWhole s × Holds state s [])
  pub ok : (vs : List (Values Block)) → (free_disk state old).values ≡ Some vs
      → OnOk res (Holds state new added)
  pub valid : OnOk res (valid_of new ≡ length added)
  pub whole : OnOk res (IsWhole new)
  pub broken : OnErr res (IsBroken new)
  pub any_moment : (vs : List (Values Block)) → (free_disk state old).values ≡ Some vs
      → LeavesOnly (free_disk state old) (disk_of state new)
      (λ c. IsIdle c ⊎ HasFirstOf c owner [] added)
  pub cause : OnErr res (Rose (free_disk state old).faults (disk_of state new).faults)
  pub calm : OnOk res ((disk_of state new).faults ≡ (free_disk state old).faults)

-- What a write did: it added the records to the first held segment with room for `count` blocks, or
-- to the taken one, which it claimed.
pub data Wrote {D : Type 0} (state : D → State) (old new : Lane D) (count : ℕ) (added : List Record)
    (res : Result Spot (ℕ × Failed)) : Type 0 where
  to_held : (k : ℕ) (o n : HeldSegment D) → IsFirstWithRoom count (held_in old) k
      → slice_get (held_in old) k ≡ Some o → held_in new ≡ slice_set (held_in old) k n
      → taken_in new ≡ taken_in old
      → Grown state o n added res → IsSpot o.index (place_of o.segment) res
      → Wrote state old new count added res
  to_taken : (index : ℕ) (f : FreeSegment D) (n : HeldSegment D) → HasNoRoom count (held_in old)
      → taken_in old ≡ Some (index, f) → held_in new ≡ held_in old ++ n ∷ [] → n.index ≡ index
      → taken_in new ≡ None
      → Claimed state (lane_owner old) f n.segment added res → IsSpot index 1 res
      → Wrote state old new count added res

-- What each write leaves: a lane at the same locks, which holds all that its pass does if it did so
-- before, asked the pool for nothing and used the spindle once; and what the write moved.
pub record HasWritten {D : Type 0} (state : D → State) (shared : Shared D) (old new : Lane D)
    (count : ℕ) (added : List Record) (res : Result Spot (ℕ × Failed)) : Type 0 where
  pub lane : IsLane state new
  pub same : IsSameLane old new
  pub all : HoldsAll old → HoldsAll new
  pub at : IsAt shared new
  pub pool : pass_mine (pool_of new) ≡ pass_mine (pool_of old)
  pub used : HasUsed old new
  pub moved : Wrote state old new count added res

-- ---- Reads

-- the segment at this place has this index
pub record HasIndex {D : Type 0} (hs : List (HeldSegment D)) (place index : ℕ) : Type 0 where
  pub segment : HeldSegment D
  pub there : slice_get hs place ≡ Some segment
  pub named : segment.index ≡ index

-- the segment of a spot is held and not broken, and has so many blocks of a record there
pub record IsReadable {D : Type 0} (l : Lane D) (spot : Spot) (skip count : ℕ) : Type 0 where
  pub place : ℕ
  pub segment : HeldSegment D
  pub there : slice_get (held_in l) place ≡ Some segment
  pub named : segment.index ≡ spot.segment
  pub whole : IsWhole segment.segment
  pub fits : spot.pos + 1 + skip + count ≤ blocks_of segment.segment

-- What a read did: whatever came of it, the segment is as before, and its disk keeps what it kept.
pub record ReadFrom {D T E : Type 0} (state : D → State) (old new : Lane D) (spot : Spot) (skip : ℕ)
    (before after : List Block) (res : Result T E) : Type 0 where
  pub place : ℕ
  pub old_segment : HeldSegment D
  pub new_segment : HeldSegment D
  pub there : slice_get (held_in old) place ≡ Some old_segment
  pub named : old_segment.index ≡ spot.segment
  pub held : held_in new ≡ slice_set (held_in old) place new_segment
  pub index : new_segment.index ≡ old_segment.index
  pub same : IsSame old_segment.segment new_segment.segment
  pub end : place_of new_segment.segment ≡ place_of old_segment.segment
  pub valid : valid_of new_segment.segment ≡ valid_of old_segment.segment
  pub whole : IsWhole new_segment.segment
  pub keeps : (rs : List Record) → Holds state old_segment.segment rs
      → Holds state new_segment.segment rs
  pub content : (rs : List Record) (j : ℕ) (r : Record) → Holds state old_segment.segment rs
      → slice_get rs j ≡ Some r → spot.pos ≡ position_of rs j
      → skip + length before ≤ length r.blocks
      → OnOk res (after ≡ take (length before) (drop skip r.blocks))
  pub any_moment : (rs : List Record) → Holds state old_segment.segment rs
      → LeavesOnly (disk_of state old_segment.segment) (disk_of state new_segment.segment)
      (λ c. IsLog c (owner_of old_segment.segment) rs)
  pub cause : OnErr res
      (Rose (disk_of state old_segment.segment).faults (disk_of state new_segment.segment).faults)
  pub calm : OnOk res
      ((disk_of state new_segment.segment).faults ≡ (disk_of state old_segment.segment).faults)

-- ---- Giving up

-- the segment of a spot is held and not broken, and the spot lies in it
pub record IsTrimmable {D : Type 0} (l : Lane D) (spot : Spot) : Type 0 where
  pub place : ℕ
  pub segment : HeldSegment D
  pub there : slice_get (held_in l) place ≡ Some segment
  pub named : segment.index ≡ spot.segment
  pub whole : IsWhole segment.segment
  pub fits : spot.pos < blocks_of segment.segment

-- record j of a segment that holds rs has its head at this position, and this head in some form
pub record IsHeadAt (rs : List Record) (j : ℕ) (r : Record) (pos : ℕ) (head : RecordHead) :
    Type 0 where
  pub there : slice_get rs j ≡ Some r
  pub position : pos ≡ position_of rs j
  pub same_head : IsSameHead head r.head

-- the old records, those with record j trimmed, or free
abbrev pub IsKeptTrimmedOrIdle : (owner : ℕ) → List Record → (j : ℕ) → Record → List Block → Type 0
IsKeptTrimmedOrIdle owner rs j s c = IsKeptOrTrimmed owner rs j s c ⊎ IsIdle c

-- a held segment before and after a call that gave up blocks of the record at this position
pub record CutDown {D T E : Type 0} (state : D → State) (old new : HeldSegment D) (pos : ℕ)
    (head : RecordHead) (keep : ℕ) (res : Result T E) : Type 0 where
  pub index : new.index ≡ old.index
  pub same : IsSame old.segment new.segment
  pub end : place_of new.segment ≡ place_of old.segment
  pub ok : (rs : List Record) (j : ℕ) (r : Record) → Holds state old.segment rs
      → IsHeadAt rs j r pos head
      → OnOk res (Holds state new.segment (slice_set rs j (trimmed keep r)))
  pub whole : OnOk res (IsWhole new.segment)
  pub valid : OnOk res (0 < valid_of new.segment)
  pub fewer : OnOk res (valid_of new.segment ≡ valid_of old.segment - (if keep == 0 then 1 else 0))
  pub broken : OnErr res (IsBroken new.segment)
  pub any_moment : (rs : List Record) (j : ℕ) (r : Record) → Holds state old.segment rs
      → IsHeadAt rs j r pos head
      → LeavesOnly (disk_of state old.segment) (disk_of state new.segment)
      (IsKeptOrTrimmed (owner_of old.segment) rs j (trimmed keep r))
  pub cause : OnErr res (Rose (disk_of state old.segment).faults (disk_of state new.segment).faults)
  pub calm : OnOk res ((disk_of state new.segment).faults ≡ (disk_of state old.segment).faults)

-- no record keeps a block once the record at this position is trimmed
abbrev pub IsBareAfter : {D : Type 0} → (D → State) → Segment D → (pos : ℕ) → RecordHead
    → (keep : ℕ) → Type 0
IsBareAfter state old pos head keep = (rs : List Record) (j : ℕ) (r : Record) → Holds state old rs
    → IsHeadAt rs j r pos head → count_valid (slice_set rs j (trimmed keep r)) ≡ 0

-- a held segment before such a call, and what was given to the pool in it
pub record GaveUp {D : Type 0} (state : D → State) (old : HeldSegment D) (blocks : ℕ)
    (given : FreeSegment D) (pos : ℕ) (head : RecordHead) (keep : ℕ) : Type 0 where
  pub blank : IsBlank state (segment_volume old.segment) blocks given
  pub bare : IsBareAfter state old.segment pos head keep
  pub fewer : valid_of old.segment - (if keep == 0 then 1 else 0) ≡ 0
  pub any_moment : (rs : List Record) (j : ℕ) (r : Record) → Holds state old.segment rs
      → IsHeadAt rs j r pos head
      → LeavesOnly (disk_of state old.segment) (free_disk state given)
      (IsKeptTrimmedOrIdle (owner_of old.segment) rs j (trimmed keep r))
  pub calm : (free_disk state given).faults ≡ (disk_of state old.segment).faults

-- a held segment before and after such a call, in which it could not be freed
pub record Stayed {D : Type 0} (state : D → State) (old new : HeldSegment D) (pos : ℕ)
    (head : RecordHead) (keep : ℕ) : Type 0 where
  pub index : new.index ≡ old.index
  pub same : IsSame old.segment new.segment
  pub end : place_of new.segment ≡ place_of old.segment
  pub broken : IsBroken new.segment
  pub bare : IsBareAfter state old.segment pos head keep
  pub fewer : valid_of old.segment - (if keep == 0 then 1 else 0) ≡ 0
  pub any_moment : (rs : List Record) (j : ℕ) (r : Record) → Holds state old.segment rs
      → IsHeadAt rs j r pos head
      → LeavesOnly (disk_of state old.segment) (disk_of state new.segment)
      (IsKeptTrimmedOrIdle (owner_of old.segment) rs j (trimmed keep r))
  pub cause : Rose (disk_of state old.segment).faults (disk_of state new.segment).faults

-- What giving up blocks did to the segment of the spot: other records keep blocks, or the call
-- failed before the segment was to go; or it went to the pool; or it could not be freed.
pub data Trimmed {D T E : Type 0} (state : D → State) (old new : Lane D) (spot : Spot)
    (head : RecordHead) (keep : ℕ) (res : Result T E) : Type 0 where
  in_place : (k : ℕ) (o n : HeldSegment D) → slice_get (held_in old) k ≡ Some o
      → o.index ≡ spot.segment → held_in new ≡ slice_set (held_in old) k n
      → pass_mine (pool_of new) ≡ pass_mine (pool_of old)
      → CutDown state o n spot.pos head keep res → Trimmed state old new spot head keep res
  to_pool : (k : ℕ) (o : HeldSegment D) (given : FreeSegment D) → slice_get (held_in old) k ≡ Some o
      → o.index ≡ spot.segment → held_in new ≡ remove (held_in old) k
      → pass_mine (pool_of new) ≡ pass_mine (pool_of old)
      ++ (pass_number (pool_of old), pool.operation_of (Gave spot.segment)) ∷ [] → IsOk res
      → GaveUp state o (pool_blocks old) given spot.pos head keep
      → Trimmed state old new spot head keep res
  not_freed : (k : ℕ) (o n : HeldSegment D) → slice_get (held_in old) k ≡ Some o
      → o.index ≡ spot.segment → held_in new ≡ slice_set (held_in old) k n
      → pass_mine (pool_of new) ≡ pass_mine (pool_of old)
      → IsErr res → Stayed state o n spot.pos head keep → Trimmed state old new spot head keep res
