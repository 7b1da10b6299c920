use Rattle.std.proofs.Common.{◌≡◌, ◌+◌, ◌≤◌, ◌<◌, ◌^◌, length, drop}
use Rattle.std.specs.List.{AllByRecursion}
use Rattle.log_segment.specs.Records.{count_of, AreItems}
use Rattle.volume_parts.specs.Listing.{recs_at, entered_all}
use Rattle.volume_parts.proofs.group.list_group.Given as goal

abbrev pub invariant-loop-item : goal.invariant-loop-item
invariant-loop-item l = record {
  entries : entered_all l.index.entries (recs_at l.next (drop l.item-index l.items) l.lane l.spot.segment l.pos) ≡ entered_all l.fn.index.entries (recs_at l.version l.items l.lane l.spot.segment l.spot.pos);
  below : AllByRecursion (λ e. e.listed.version < l.next) l.index.entries;
  are : AreItems (drop l.item-index l.items);
  versions : l.next + length (drop l.item-index l.items) ≤ 2 ^ 63;
  position : l.pos + length (drop l.item-index l.items) + count_of (drop l.item-index l.items) ≤ 65536;
  reserved : length (drop l.item-index l.items) ≤ l.index.reserved;
}
