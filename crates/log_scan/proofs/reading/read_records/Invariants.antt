use Rattle.std.proofs.Common.{◌≡◌, ◌≤◌, ◌<◌, ◌-◌, List, Some, [], length}
use Rattle.std.specs.List.{AllByRecursion}
use Rattle.wol_disk.specs.Disk.{Block, only, LeavesOnly, IsImageOf}
use Rattle.spin_model.specs.Spun.{volume_of, state_of}
use Rattle.log_scan.specs.Scan.{IsInside}
use Rattle.log_scan.specs.Reading.{AreAhead, IsReading}
use Rattle.log_scan.proofs.reading.read_records.Given as goal

abbrev pub invariant-loop-at : goal.invariant-loop-at
invariant-loop-at g l = record {
  inside : (1 ≤ l.at) × (l.at ≤ l.blocks);
  few : length l.records.items < l.at;
  heads : AllByRecursion (IsInside l.blocks l.owner) l.records.items;
  volume : volume_of l.part ≡ volume_of l.fn.part;
  size : (state_of g.D.Disk.state l.part).size ≡ (state_of g.D.Disk.state l.fn.part).size;
  calm : (state_of g.D.Disk.state l.part).faults ≡ (state_of g.D.Disk.state l.fn.part).faults;
  values : (state_of g.D.Disk.state l.part).values ≡ (state_of g.D.Disk.state l.fn.part).values;
  moments : LeavesOnly (state_of g.D.Disk.state l.fn.part) (state_of g.D.Disk.state l.part) (IsImageOf (state_of g.D.Disk.state l.fn.part).values);
  few_ahead : l.ahead.count ≤ 32;
  room : length l.room ≡ 32;
  ahead : AreAhead (state_of g.D.Disk.state l.part).values l.ahead.from l.ahead.count l.room;
  reading : (bs : List Block) → (state_of g.D.Disk.state l.fn.part).values ≡ Some (only bs) → IsReading bs l.owner 1 [] → IsReading bs l.owner l.at l.records.items;
}

abbrev pub decreases-loop-at : goal.decreases-loop-at
decreases-loop-at g l = l.blocks - l.at
