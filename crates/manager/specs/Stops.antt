-- A call that is stopped at any moment of it: each part may be any of its images since the call
-- began.
use Rattle.std.specs.Prelude.{⊤, ◌≡◌, List, Option, None, Bool, IsTrue}
use Rattle.std.specs.List.{AllZip}
use Rattle.wol_disk.specs.Disk.{State, LeavesOnly}
use Rattle.spin_model.specs.Spun.{state_of}
use Rattle.spin_model.specs.declared.spun.Spun.{Spun}
use Rattle.wol_model.specs.Blocks.{Write}
use Rattle.wol_model.specs.History.{writes}
use Rattle.wol_model.specs.Holding.{Holds}
use Rattle.wol_promise.specs.Manager.{extents_held, is_homed_in}
use Rattle.wol_promise.specs.Ruled.{Noted, entries_of}
use Rattle.wol_promise.specs.Stands.{StopsSafely}
use Rattle.manager.specs.Reading.{LaneRead}
use Rattle.manager.specs.Seen.{Logs, AllLanesHold, all_held}
use Rattle.manager.specs.Stands.{Keeps}
use Rattle.manager.specs.declared.base.ManagerBase.{ManagerBase}
use Rattle.manager.specs.declared.manager.Manager.{Manager}
pub use Rattle.volume_parts.specs.Held.{ImageSince, HeldSince, was_held, was_free}
pub use Rattle.volume_parts.specs.Claims.{HoldNoMore, WasClaimed, TellsClaim}

-- Stopped at any moment of it, the call leaves a cut: whichever images since its beginning each
-- part has, they recover to the acknowledged writes, perhaps with some of those in flight.
abbrev pub Stops : {D : Type 0} → (D → State) → (old new : Manager D) → (claimed : Option (Spun D))
    → ManagerBase → List Noted → (flight : List Write) → Type 0
Stops state old new claimed b notes flight =
    (before after : Logs) → AllLanesHold (λ h rs. ⊤) old.lanes.items before
    → AllLanesHold (λ h rs. ⊤) new.lanes.items after
    → StopsSafely (ImageSince state old.home new.home)
    (HeldSince state (all_held 0 old.lanes.items before) claimed) b.volume.began
    (entries_of notes) (all_held 0 new.lanes.items after) flight

-- so it does for whatever the manager keeps up when the call begins
abbrev pub StopsWith : {D : Type 0} → (tells : Bool) → (D → State) → (old new : Manager D)
    → (claimed : Option (Spun D)) → (flight : List Write) → Type 0
StopsWith tells state old new claimed flight = IsTrue tells → (b : ManagerBase)
    (notes : List Noted) → Keeps tells state old b notes → Stops state old new claimed b notes flight

-- and of the segment that the call claimed, where it claimed one, the images since it was free
abbrev pub StopsClaiming : {D : Type 0} → (tells : Bool) → (D → State) → (done : Type 0)
    → (old new : Manager D) → (flight : List Write) → Type 0
StopsClaiming {D} tells state done old new flight = (claimed : Option (Spun D))
    × TellsClaim tells state done old.lanes.items new.lanes.items claimed
    × StopsWith tells state old new claimed flight

-- Since an earlier moment segments were read alone, and with the records of then each image that
-- home had since stands for the array.
pub record HoldsSince {D : Type 0} (tells : Bool) (state : D → State) (was m : Manager D)
    (b : ManagerBase) (notes : List Noted) : Type 0 where
  pub up : was.down ≡ None
  pub index : m.index ≡ was.index
  pub lanes : AllZip (LaneRead state) was.lanes.items m.lanes.items
  pub home : IsTrue tells → (kept : Keeps tells state was b notes)
      → LeavesOnly (state_of state was.home) (state_of state m.home)
      (λ image. Holds b.volume.began.array (writes (entries_of notes)) was.next image
      (extents_held (all_held 0 was.lanes.items kept.logs)) (is_homed_in was.index.entries))

-- so it does after a step, where it did before and this holds of what the manager began with
abbrev pub HoldsOn : {D : Type 0} → (tells : Bool) → (D → State) → (old new : Manager D)
    → (ManagerBase → List Noted → Type 0) → Type 0
HoldsOn {D} tells state old new Where = (was : Manager D) (b : ManagerBase) (notes : List Noted)
    → Where b notes → HoldsSince tells state was old b notes → HoldsSince tells state was new b notes
