-- A manager as the promise of wol_promise sees it.
use Rattle.std.specs.Prelude.{[], Option, None, Some}
use Rattle.spin_model.specs.declared.spun.Spun.{Spun}
use Rattle.wol_promise.specs.Policy.{Look}
use Rattle.wol_promise.specs.Manager.{PartName, HomePart, SegmentPart, ManagerSeen, look_of}
use Rattle.manager.specs.declared.part.Part.{Part}
use Rattle.manager.specs.declared.manager.Manager.{Manager}
use Rattle.manager.specs.declared.part.Part.TheVariants as part
pub use Rattle.volume_parts.specs.Held.{may_be, parts_of, Logs, held_with, all_held, all_taken, AllHold, AllLanesHold}

-- the name of a part: a segment goes by its logger
abbrev pub name_of : Part → PartName
name_of (part.Home volume) = HomePart
name_of (part.Segment volume index) = SegmentPart volume index

abbrev pub down_of : Option Part → Option PartName
down_of None = None
down_of (Some p) = Some (name_of p)

-- the manager with these records in its segments
abbrev pub seen : {D : Type 0} → Manager D → Logs → ManagerSeen (Spun D)
seen m logs = record {
  home = m.home;
  held = all_held 0 m.lanes.items logs;
  taken = all_taken 0 m.lanes.items;
  indexed = m.index.entries;
  next = m.next;
  home_up = m.home_up;
  ups = m.ups.items;
  down = down_of m.down;
}

-- its look: flags, next version and listed records, and the part at which a call failed
abbrev pub look_of_manager : {D : Type 0} → Manager D → Look
look_of_manager m = look_of (seen m [])
