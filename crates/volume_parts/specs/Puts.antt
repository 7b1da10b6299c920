-- What a write does to a lane that has no taken segment.
use Rattle.std.specs.Prelude.{◌≡◌, ◌≤◌, ◌∷◌, ◌++◌, ℕ, List, [], slice_get, slice_set, Some, Result}
use Rattle.wol_disk.specs.Disk.{State}
use Rattle.wol_disk.specs.declared.disk.Failed.{Failed}
use Rattle.wol_model.specs.Log.{Record}
use Rattle.log_segment.specs.Segment.{IsBlank, place_of, room_of}
use Rattle.log_segment.specs.declared.free.FreeSegment.{FreeSegment}
use Rattle.logger.specs.Lanes.{Grown, Claimed, IsSpot, HasNoRoom, IsFirstWithRoom, logger_of, lane_owner, pool_blocks, held_in}
use Rattle.logger.specs.declared.lane.HeldSegment.{HeldSegment}
use Rattle.logger.specs.declared.lane.Lane.{Lane}
use Rattle.logger.specs.declared.lane.Spot.{Spot}

-- It added the records to the first held segment with room for the `first` blocks of the first
-- item, which has room for all `count`; or, where no held one has room for these, to one that the
-- pool gave, which it claimed and holds last.
pub data PutIn {D : Type 0} (state : D → State) (old new : Lane D) (first count : ℕ)
    (added : List Record) (res : Result Spot (ℕ × Failed)) : Type 0 where
  to_held : (i : ℕ) (o n : HeldSegment D) → IsFirstWithRoom first (held_in old) i
      → slice_get (held_in old) i ≡ Some o
      → count ≤ room_of o.segment → held_in new ≡ slice_set (held_in old) i n
      → Grown state o n added res → IsSpot o.index (place_of o.segment) res
      → PutIn state old new first count added res
  to_new : (f : FreeSegment D) (n : HeldSegment D) → HasNoRoom first (held_in old)
      → IsBlank state (logger_of old) (pool_blocks old) f → held_in new ≡ held_in old ++ n ∷ []
      → Claimed state (lane_owner old) f n.segment added res → IsSpot n.index 1 res
      → PutIn state old new first count added res
