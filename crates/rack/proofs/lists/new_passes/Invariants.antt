use Rattle.rack.proofs.Basics.{◌≡◌, ◌≤◌, length, vec_capacity, All}
use Rattle.rack.proofs.Terms.{AreEmptyPasses}
use Rattle.rack.proofs.lists.new_passes.Given as goal

-- the lists of the volumes so far
abbrev pub invariant-loop-volume : goal.invariant-loop-volume
invariant-loop-volume g l = record {
  count : length l.passes.items ≡ l._volume;
  room : l.volumes ≤ vec_capacity l.passes;
  empty : All (AreEmptyPasses l.volumes) l.passes.items;
}
