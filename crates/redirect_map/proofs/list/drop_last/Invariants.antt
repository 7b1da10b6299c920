use Rattle.std.proofs.Common.{◌≡◌, length, take}
use Rattle.std.specs.List.{filter}
use Rattle.std.specs.VecDeque.{deque_capacity}
use Rattle.redirect_map.specs.Listing.{is_listed}
use Rattle.redirect_map.proofs.list.drop_last.Given as goal

abbrev pub invariant-loop-places : goal.invariant-loop-places
invariant-loop-places l = record {
  items : filter is_listed l.places.items ≡ filter is_listed l.initial.places.items;
  first : l.places.items ≡ take (length l.places.items) l.initial.places.items;
  room : deque_capacity l.places ≡ deque_capacity l.initial.places;
}

abbrev pub decreases-loop-places : goal.decreases-loop-places
decreases-loop-places l = length l.places.items
