-- What reads make of the parts of a manager, and which accesses they begin.
use Rattle.std.specs.Prelude.{◌≡◌, ◌⊎◌, ◌<◌, ◌≤◌, ◌↔◌, ℕ, Bool, List, map, IsTrue, Contains}
use Rattle.std.specs.List.{AllZip}
use Rattle.turn_lock.specs.Histories.{Entry}
use Rattle.turn_lock.specs.Passes.{pass_mine}
use Rattle.turn_lock.specs.declared.pass.PassOf.{PassOf}
use Rattle.wol_disk.specs.Disk.{State, LeavesOnly, Rose, IsImageOf}
use Rattle.wol_model.specs.Log.{Record, IsLog}
use Rattle.wol_promise.specs.Spindle.{needs_in}
use Rattle.spin_model.specs.Operations.{use_of}
use Rattle.spin_model.specs.Spun.{state_of, volume_of}
use Rattle.spin_model.specs.declared.spindle.Spindle.{Spindle}
use Rattle.spin_model.specs.declared.spindle.SpindleBase.{SpindleBase}
use Rattle.spin_model.specs.declared.spun.Spun.{Spun}
use Rattle.log_segment.specs.Segment.{IsSame, Holds, disk_of, owner_of}
use Rattle.logger.specs.Lanes.{IsSameLane, held_in, taken_in, pool_of}
use Rattle.logger.specs.declared.lane.HeldSegment.{HeldSegment}
use Rattle.logger.specs.declared.lane.Lane.{Lane}

-- how many accesses a pass of a spindle began
abbrev pub needs_of : PassOf Spindle SpindleBase → ℕ
needs_of p = needs_in (map (λ (e : Entry). use_of e.1) (pass_mine p))

-- the pass began an access
abbrev pub HasNeeded : (old new : PassOf Spindle SpindleBase) → Type 0
HasNeeded old new = needs_of old < needs_of new

-- the pass began accesses exactly where this is true
pub record NeedsWhere (old new : PassOf Spindle SpindleBase) (where_ : Bool) : Type 0 where
  pub no_less : needs_of old ≤ needs_of new
  pub exactly : HasNeeded old new ↔ IsTrue where_

-- a count of faults in which nothing or some failure was counted
abbrev pub Counted : (old new : ℕ) → Type 0
Counted old new = (new ≡ old) ⊎ Rose old new

-- home before and after reads
pub record HomeRead {D : Type 0} (state : D → State) (old new : Spun D) : Type 0 where
  pub volume : volume_of new ≡ volume_of old
  pub size : (state_of state new).size ≡ (state_of state old).size
  pub values : (state_of state new).values ≡ (state_of state old).values
  pub any_moment :
      LeavesOnly (state_of state old) (state_of state new) (IsImageOf (state_of state old).values)
  pub faults : Counted (state_of state old).faults (state_of state new).faults

-- a held segment before and after reads
pub record SegmentRead {D : Type 0} (state : D → State) (old new : HeldSegment D) : Type 0 where
  pub index : new.index ≡ old.index
  pub same : IsSame old.segment new.segment
  pub broken : new.segment.broken ≡ old.segment.broken
  pub size : (disk_of state new.segment).size ≡ (disk_of state old.segment).size
  pub keeps : (rs : List Record) → Holds state old.segment rs → Holds state new.segment rs
  pub any_moment : (rs : List Record) → Holds state old.segment rs
      → LeavesOnly (disk_of state old.segment) (disk_of state new.segment)
      (λ c. IsLog c (owner_of old.segment) rs)
  pub faults : Counted (disk_of state old.segment).faults (disk_of state new.segment).faults

-- a lane before and after reads
pub record LaneRead {D : Type 0} (state : D → State) (old new : Lane D) : Type 0 where
  pub same : IsSameLane old new
  pub taken : taken_in new ≡ taken_in old
  pub pool : pass_mine (pool_of new) ≡ pass_mine (pool_of old)
  pub held : AllZip (SegmentRead state) (held_in old) (held_in new)

-- each of these segments that is among the later ones has the count that it had
abbrev pub AreCalm : {D : Type 0} → (D → State) → (old new : List (HeldSegment D)) → Type 0
AreCalm {D} state old new = (s t : HeldSegment D) → Contains old s → Contains new t
    → t.index ≡ s.index → (disk_of state t.segment).faults ≡ (disk_of state s.segment).faults
