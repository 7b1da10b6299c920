-- Lanes of a manager between its calls, and the turns of their pools.
use Rattle.std.specs.Prelude.{◌≡◌, ◌<◌, ◌≤◌, ◌^◌, ◌+◌, ℕ, Bool, true, false, List, length, vec_len, slice_get, slice_index_or, Contains, None, Some}
use Rattle.std.specs.List.{AllByRecursion, count_by}
use Rattle.wol_disk.specs.Disk.{State}
use Rattle.turn_lock.specs.Histories.{Entry}
use Rattle.turn_lock.specs.Passes.{lock_id, pass_lock, pass_mine, IsFree}
use Rattle.turn_lock.specs.declared.pass.PassOf.{PassOf}
use Rattle.spin_model.specs.Spun.{state_of, volume_of}
use Rattle.spin_model.specs.Operations.{has_token}
use Rattle.spin_model.specs.declared.spun.Spun.{Spun}
use Rattle.spin_model.specs.declared.spindle.Spindle.{Spindle}
use Rattle.spin_model.specs.declared.spindle.SpindleBase.{SpindleBase}
use Rattle.seg_pool.specs.Holders.{PoolUse, Took}
use Rattle.seg_pool.specs.Operations.{use_of}
use Rattle.log_segment.specs.Segment.{IsWhole, blocks_of, valid_of}
use Rattle.offload_policy.specs.declared.Room.{Room}
use Rattle.wol_model.specs.Index.{Indexed}
use Rattle.logger.specs.Lanes.{IsLane, AreAccesses, HoldsAll, IsAt, lane_owner, held_in, taken_in, pool_of}
use Rattle.logger.specs.declared.lane.Lane.{Lane}
use Rattle.logger.specs.declared.lane.HeldSegment.{HeldSegment}
use Rattle.logger.specs.declared.shared.Shared.{Shared}
use Rattle.volume_parts.specs.Entries.{entries_at}

-- a lane is this volume's, between calls, its pool's segments have room for any write, and its pass
-- of the pool holds just its segments
pub record IsReadyLane {D : Type 0} (state : D → State) (id most : ℕ) (l : Lane D) : Type 0 where
  pub lane : IsLane state l
  pub owner : lane_owner l ≡ id
  pub untaken : taken_in l ≡ None
  pub long : most + 2 ≤ (pass_lock (pool_of l)).base.blocks
  pub all : HoldsAll l

-- its locks, lanes and flags
pub record Ready {D : Type 0} (state : D → State) (id most : ℕ) (home : Spun D)
    (spindle : PassOf Spindle SpindleBase) (lanes : List (Lane D)) (ups : List Bool)
    (rooms : List Room) : Type 0 where
  pub home_volume : volume_of home ≡ id
  pub home_small : (1 ≤ (state_of state home).size) × ((state_of state home).size ≤ 2 ^ 32)
  pub spindle_volume : (pass_lock spindle).base.volume ≡ id
  pub spindle_free : IsFree spindle
  pub settled : has_token (pass_mine spindle) ≡ false
  pub accesses : AreAccesses (pass_mine spindle)
  pub each : AllByRecursion (IsReadyLane state id most) lanes
  pub flags : length ups ≡ length lanes
  pub rooms_ : length rooms ≡ length lanes
  pub few : length lanes ≤ 16
  pub most_ : (1 ≤ most) × (most ≤ 128)

-- an entry of the index has its place inside a held segment of its lane
pub record IsPlacedIn {D : Type 0} (lanes : List (Lane D)) (e : Indexed) : Type 0 where
  pub lane : Lane D
  pub segment : HeldSegment D
  pub lane_is : slice_get lanes e.listed.lane ≡ Some lane
  pub held : Contains (held_in lane) segment
  pub index : segment.index ≡ e.index
  pub behind : 1 ≤ e.pos
  pub within : e.pos + length e.listed.keep < blocks_of segment.segment

-- each held segment has as many records that keep a block as the index has entries in it
abbrev pub AreCounted : {D : Type 0} → List (Lane D) → List Indexed → Type 0
AreCounted {D} lanes es = (k : ℕ) (l : Lane D) → slice_get lanes k ≡ Some l
    → AllByRecursion (λ (h : HeldSegment D). valid_of h.segment ≡ entries_at k h.index es)
    (held_in l)

-- while nothing failed: no segment is broken, each entry of the index has its place, and the
-- segments have no other records
pub record IsUp {D : Type 0} (lanes : List (Lane D)) (indexed : List Indexed) : Type 0 where
  pub whole : AllByRecursion
      (λ (l : Lane D). AllByRecursion (λ (h : HeldSegment D). IsWhole h.segment) (held_in l)) lanes
  pub placed : AllByRecursion (IsPlacedIn lanes) indexed
  pub counted : AreCounted lanes indexed

-- its passes are of the locks of these shared ones
pub record At {D : Type 0} (shared : Shared D) (id : ℕ) (spindle : PassOf Spindle SpindleBase)
    (lanes : List (Lane D)) : Type 0 where
  pub spindle_in : id < vec_len shared.spindles
  pub spindle_is : (d : _) → pass_lock spindle ≡ lock_id (slice_index_or shared.spindles.items id d)
  pub lanes_ : AllByRecursion (IsAt shared) lanes

-- the pool was found empty
abbrev pub found_empty : PoolUse → Bool
found_empty (Took None) = true
found_empty _ = false

-- a segment was taken
abbrev pub took_segment : PoolUse → Bool
took_segment (Took (Some index)) = true
took_segment _ = false

-- in how many of these turns of a pool it was found empty
abbrev pub nones_in : List Entry → ℕ
nones_in entries = count_by (λ (e : Entry). found_empty (use_of e.1)) entries

-- in how many of these turns a segment was taken
abbrev pub takes_in : List Entry → ℕ
takes_in entries = count_by (λ (e : Entry). took_segment (use_of e.1)) entries
