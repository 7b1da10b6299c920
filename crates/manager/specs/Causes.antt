-- Where the count of faults of a part rose in a call, and where none did.
use Rattle.std.specs.Prelude.{◌≡◌, ◌≢◌, ◌⊎◌, ℕ, List, Contains, slice_get, Some}
use Rattle.std.specs.List.{AllByRecursion}
use Rattle.wol_disk.specs.Disk.{State, Rose}
use Rattle.spin_model.specs.Spun.{state_of}
use Rattle.log_segment.specs.Segment.{disk_of, free_disk, free_volume, segment_volume}
use Rattle.log_segment.specs.declared.free.FreeSegment.{FreeSegment}
use Rattle.logger.specs.Lanes.{logger_of, held_in}
use Rattle.logger.specs.declared.lane.HeldSegment.{HeldSegment}
use Rattle.logger.specs.declared.lane.Lane.{Lane}
use Rattle.manager.specs.declared.manager.Manager.{Manager}
use Rattle.manager.specs.declared.part.Part.{Part}
use Rattle.manager.specs.declared.part.Part.TheVariants.{Home, Segment}
pub use Rattle.volume_parts.specs.Reads.{AreCalm}

-- a lane of this logger, at its place of the view, before and after a call
pub record LaneSince {D : Type 0} (old new : List (Lane D)) (logger : ℕ) : Type 0 where
  pub place : ℕ
  pub before : Lane D
  pub after : Lane D
  pub was : slice_get old place ≡ Some before
  pub is : slice_get new place ≡ Some after
  pub named : logger ≡ logger_of before

-- the count of a segment that a lane of this logger holds
pub record SegmentRose {D : Type 0} (state : D → State) (old new : List (Lane D))
    (logger index : ℕ) : Type 0 where
  pub lane : LaneSince old new logger
  pub place : ℕ
  pub old_segment : HeldSegment D
  pub new_segment : HeldSegment D
  pub was_there : slice_get (held_in lane.before) place ≡ Some old_segment
  pub is_there : slice_get (held_in lane.after) place ≡ Some new_segment
  pub named : index ≡ old_segment.index
  pub rose : Rose (disk_of state old_segment.segment).faults
      (disk_of state new_segment.segment).faults

-- the count of a segment that was free, and was claimed in the call by a lane of this logger
pub record ClaimRose {D : Type 0} (state : D → State) (old new : List (Lane D))
    (logger index : ℕ) : Type 0 where
  pub lane : LaneSince old new logger
  pub free : FreeSegment D
  pub segment : HeldSegment D
  pub was_apart : AllByRecursion (λ (h : HeldSegment D). h.index ≢ index) (held_in lane.before)
  pub is_there : Contains (held_in lane.after) segment
  pub named : index ≡ segment.index
  pub volume : free_volume free ≡ segment_volume segment.segment
  pub rose : Rose (free_disk state free).faults (disk_of state segment.segment).faults

-- the count of this part
abbrev pub PartRose : {D : Type 0} → (D → State) → (old new : Manager D) → Part → Type 0
PartRose state old new (Home volume) =
    (volume ≡ old.id) × Rose (state_of state old.home).faults (state_of state new.home).faults
PartRose state old new (Segment volume index) =
    SegmentRose state old.lanes.items new.lanes.items volume index

-- the count of this part, which may have been claimed in the call
abbrev pub PartRoseOrClaimed : {D : Type 0} → (D → State) → (old new : Manager D) → Part → Type 0
PartRoseOrClaimed state old new (Home volume) = PartRose state old new (Home volume)
PartRoseOrClaimed state old new (Segment volume index) =
    SegmentRose state old.lanes.items new.lanes.items volume index
    ⊎ ClaimRose state old.lanes.items new.lanes.items volume index

-- ---- Where none rose

-- No disk call failed: home's count is as before, and so is that of each segment that was held and
-- is.
pub record NoneRose {D : Type 0} (state : D → State) (old new : Manager D) : Type 0 where
  pub home : (state_of state new.home).faults ≡ (state_of state old.home).faults
  pub held : (k : ℕ) (o n : Lane D) → slice_get old.lanes.items k ≡ Some o
      → slice_get new.lanes.items k ≡ Some n → AreCalm state (held_in o) (held_in n)
