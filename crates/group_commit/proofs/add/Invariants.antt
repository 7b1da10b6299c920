use Rattle.std.proofs.Common.{◌≡◌, ◌++◌, ◌+◌, ◌-◌, ◌≤◌, replicate, vec_len, vec_capacity}
use Rattle.group_commit.proofs.add.Given as goal

abbrev pub invariant-adding : goal.invariant-adding
invariant-adding l = record {
  adds : l.places.items ≡ l.fn.places.items ++ replicate l._item l.place;
  room : vec_len l.places + (l.count - l._item) ≤ vec_capacity l.places;
}
