use Rattle.std.proofs.Common.{◌<◌, ◌≤◌, ◌-◌, ◌+◌, ◌*◌, ℕ, length, get_or}
use Rattle.redirect_map.specs.Marks.{AreApart}
use Rattle.redirect_map.proofs.tree.first_leaf.Given as goal

abbrev pub invariant-loop-leaf : goal.invariant-loop-leaf
invariant-loop-leaf l = record {
  start : l.from ≤ l.leaf;
  height : l.height ≤ 60;
  apart : (n : ℕ) → l.from ≤ n → n < l.leaf → n < length l.nodes → AreApart (get_or l.nodes n 0) l.wanted;
}

abbrev pub decreases-loop-leaf : goal.decreases-loop-leaf
decreases-loop-leaf l = (length l.nodes - l.leaf) * 64 + l.height
