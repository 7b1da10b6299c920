use Rattle.std.proofs.Common.{◌≡◌, ◌≤◌, ◌+◌, length, take}
use Rattle.std.specs.List.{filter}
use Rattle.redirect_map.specs.Listing.{is_listed}
use Rattle.redirect_map.proofs.list.from_last.Given as goal

abbrev pub invariant-loop-place : goal.invariant-loop-place
invariant-loop-place l = record {
  within : l.place ≤ length l.places.items;
  few : l.left ≤ l.behind;
  counted : length (filter is_listed (take l.place l.places.items)) + l.behind ≡ length (filter is_listed l.places.items) + l.left;
}

abbrev pub decreases-loop-place : goal.decreases-loop-place
decreases-loop-place l = l.place
