use Rattle.std.proofs.Common.{◌≡◌, ◌+◌, ◌≤◌, List, ◌++◌, length, take, drop, Some}
use Rattle.wol_disk.specs.Disk.{Block, only, LeavesOnly}
use Rattle.wol_model.specs.Log.{EndsLog}
use Rattle.spin_model.specs.Spun.{volume_of, state_of}
use Rattle.log_segment.specs.Records.{count_of}
use Rattle.log_segment.proofs.Progress.{IsLaid}
use Rattle.log_segment.proofs.group.lay_group.Given as goal

abbrev pub invariant-loop-item : goal.invariant-loop-item
invariant-loop-item g l = record {
  volume : volume_of l.part ≡ volume_of l.fn.part;
  size : (state_of g.D.Disk.state l.part).size ≡ (state_of g.D.Disk.state l.fn.part).size;
  calm : (state_of g.D.Disk.state l.part).faults ≡ (state_of g.D.Disk.state l.fn.part).faults;
  beyond : l.at ≤ l.place;
  room : l.place + length (drop l.item-index l.items) + count_of (drop l.item-index l.items) ≤ (state_of g.D.Disk.state l.fn.part).size;
  left : l.laid + count_of (drop l.item-index l.items) ≡ length l.from;
  moments : (bs : List Block) → (state_of g.D.Disk.state l.fn.part).values ≡ Some (only bs)
      → LeavesOnly (state_of g.D.Disk.state l.fn.part) (state_of g.D.Disk.state l.part) (λ c. take (l.at + 1) c ≡ take (l.at + 1) bs);
  laid : (front tail : List Block) → length front ≡ l.at → (state_of g.D.Disk.state l.fn.part).values ≡ Some (only (front ++ tail)) → EndsLog tail
      → IsLaid (state_of g.D.Disk.state l.part) front l.items l.from (drop l.item-index l.items) (drop l.laid l.from) l.place;
}
