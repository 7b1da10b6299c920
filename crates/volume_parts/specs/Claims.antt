-- Which segment a write claimed.
use Rattle.std.specs.Prelude.{◌≡◌, ◌≤◌, ◌∷◌, [], ◌++◌, ℕ, Bool, List, map, slice_get, Option, None, Some, IsTrue}
use Rattle.wol_disk.specs.Disk.{State}
use Rattle.spin_model.specs.Spun.{state_of, volume_of}
use Rattle.spin_model.specs.declared.spun.Spun.{Spun}
use Rattle.log_segment.specs.Kept.{IsFreeInAll}
use Rattle.log_segment.specs.Segment.{disk_of, segment_volume}
use Rattle.logger.specs.Lanes.{held_in}
use Rattle.logger.specs.declared.lane.HeldSegment.{HeldSegment}
use Rattle.logger.specs.declared.lane.Lane.{Lane}

-- each lane holds the segments that it held, by their indexes
abbrev pub HoldNoMore : {D : Type 0} → (old new : List (Lane D)) → Type 0
HoldNoMore {D} old new = (k : ℕ) (o n : Lane D) → slice_get old k ≡ Some o
    → slice_get new k ≡ Some n → map (λ (h : HeldSegment D). h.index) (held_in n)
    ≡ map (λ (h : HeldSegment D). h.index) (held_in o)

-- One lane holds one segment more, and this is its part as it was before: free in each image, of
-- the same volume, and no later. Where the call was done its count of faults is what it was then.
pub record WasClaimed {D : Type 0} (tells : Bool) (state : D → State) (done : Type 0)
    (old new : List (Lane D)) (part : Spun D) : Type 0 where
  pub place : ℕ
  pub before : Lane D
  pub after : Lane D
  pub segment : HeldSegment D
  pub was_lane : slice_get old place ≡ Some before
  pub is_lane : slice_get new place ≡ Some after
  pub held : held_in after ≡ held_in before ++ segment ∷ []
  pub free : IsFreeInAll (state_of state part)
  pub volume : volume_of part ≡ segment_volume segment.segment
  pub earlier : IsTrue tells → (state_of state part).clock ≤ (disk_of state segment.segment).clock
  pub calm : done → (disk_of state segment.segment).faults ≡ (state_of state part).faults

-- no segment was claimed, or the one whose part was this one
abbrev pub TellsClaim : {D : Type 0} → (tells : Bool) → (D → State) → (done : Type 0)
    → (old new : List (Lane D)) → Option (Spun D) → Type 0
TellsClaim tells state done old new None = HoldNoMore old new
TellsClaim tells state done old new (Some part) = WasClaimed tells state done old new part
