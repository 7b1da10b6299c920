use Rattle.std.proofs.Common.{◌≡◌, ◌<◌, ◌/◌, length, drop}
use Rattle.redirect_map.specs.Marks.{IsSummedBut}
use Rattle.redirect_map.proofs.tree.raise.Given as goal

abbrev pub invariant-loop-node : goal.invariant-loop-node
invariant-loop-node l = record {
  within : l.node < length l.nodes.items;
  summed : IsSummedBut l.node l.nodes.items;
  same : length l.nodes.items ≡ length l.initial.nodes.items;
  leaves : drop (length l.initial.nodes.items / 2) l.nodes.items ≡ drop (length l.initial.nodes.items / 2) l.initial.nodes.items;
}

abbrev pub decreases-loop-node : goal.decreases-loop-node
decreases-loop-node l = l.node
