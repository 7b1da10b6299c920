-- Which disks a turn asks for, and which accesses the passes of its manager begin.
use Rattle.std.specs.Prelude.{◌≡◌, ◌<◌, ◌≤◌, ◌+◌, ◌*◌, ℕ, Bool, Some, slice_get, slice_index_or, false, IsTrue}
use Rattle.turn_lock.specs.declared.pass.PassOf.{PassOf}
use Rattle.spin_model.specs.declared.spindle.Spindle.{Spindle}
use Rattle.spin_model.specs.declared.spindle.SpindleBase.{SpindleBase}
use Rattle.wol_promise.specs.Report.{no_longer_due}
use Rattle.logger.specs.Lanes.{spindle_of}
use Rattle.logger.specs.declared.lane.Lane.{Lane}
use Rattle.manager.specs.Reading.{needs_of, HasNeeded}
use Rattle.manager.specs.Seen.{look_of_manager}
use Rattle.manager.specs.declared.manager.Manager.{Manager}

-- The pass began an access where there are such blocks, and none where there is none. Of a group of
-- records it began one for each, which has such a block, and one for their sync: so they are at most
-- two for each block.
pub record NeedsFor (old new : PassOf Spindle SpindleBase) (blocks : ℕ) : Type 0 where
  pub no_less : needs_of old ≤ needs_of new
  pub some : 0 < blocks → HasNeeded old new
  pub few : needs_of new ≤ needs_of old + 2 * blocks

-- the pass began accesses only where this is true
pub record NeedsOnlyWhere (old new : PassOf Spindle SpindleBase) (where_ : Bool) : Type 0 where
  pub no_less : needs_of old ≤ needs_of new
  pub only : HasNeeded old new → IsTrue where_

-- the logger at place k of the view is awake for the manager
abbrev pub is_up_at : {D : Type 0} → Manager D → (k : ℕ) → Bool
is_up_at m k = slice_index_or m.ups.items k false

-- Steps of reclaim ask for home where they put due blocks home, and nowhere else. They ask for no
-- logger that isn't awake for the manager.
pub record ReclaimUses {D : Type 0} (m n : Manager D) : Type 0 where
  pub home : NeedsFor m.spindle n.spindle (no_longer_due (look_of_manager m) (look_of_manager n))
  pub ups : (k : ℕ) → is_up_at n k ≡ is_up_at m k
  pub lanes : (k : ℕ) (o : Lane D) → slice_get m.lanes.items k ≡ Some o
      → (p : Lane D) × (slice_get n.lanes.items k ≡ Some p)
      × NeedsOnlyWhere (spindle_of o) (spindle_of p) (is_up_at m k)
