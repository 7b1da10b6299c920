use Rattle.std.proofs.Common.{◌≡◌, ◌+◌, ◌≤◌, ◌^◌, List, ◌++◌, length, drop, Some}
use Rattle.std.specs.List.{flat_map}
use Rattle.wol_disk.specs.Disk.{Block, only}
use Rattle.wol_model.specs.Log.{written}
use Rattle.spin_model.specs.Spun.{volume_of, state_of}
use Rattle.log_segment.specs.Group.{without_heads}
use Rattle.log_segment.specs.Records.{count_of, group_of, AreItems}
use Rattle.log_segment.proofs.Progress.{IsHeaded}
use Rattle.log_segment.proofs.group.lay_heads.Given as goal

abbrev pub invariant-loop-item : goal.invariant-loop-item
invariant-loop-item g l = record {
  volume : volume_of l.part ≡ volume_of l.fn.part;
  size : (state_of g.D.Disk.state l.part).size ≡ (state_of g.D.Disk.state l.fn.part).size;
  calm : (state_of g.D.Disk.state l.part).faults ≡ (state_of g.D.Disk.state l.fn.part).faults;
  room : l.place + length (drop l.item-index l.items) + count_of (drop l.item-index l.items) ≤ (state_of g.D.Disk.state l.fn.part).size;
  are : AreItems (drop l.item-index l.items);
  versions : (1 ≤ l.next) × (l.next + length (drop l.item-index l.items) ≤ 2 ^ 63);
  headed : (front rest from : List Block) → length front ≡ l.at → count_of l.items ≡ length from
      → (state_of g.D.Disk.state l.fn.part).values ≡ Some (only (front ++ (without_heads l.items from ++ rest)))
      → IsHeaded (state_of g.D.Disk.state l.fn.part) (state_of g.D.Disk.state l.part) (front ++ (without_heads l.items from ++ rest)) (front ++ (flat_map written (group_of l.owner l.version l.items from) ++ rest))
      l.owner l.next l.place (drop l.item-index l.items) rest;
}
