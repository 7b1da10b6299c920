use Rattle.std.proofs.Common.{◌≡◌, ◌<◌, ◌+◌, nat_eq, ℕ, is_some, false}
use Rattle.std.specs.HashMap.{get}
use Rattle.block_cells.proofs.blocks.any_covered.Given as goal

-- no record keeps a block so far
abbrev pub invariant-loop-i : goal.invariant-loop-i
invariant-loop-i l = (k : ℕ) → k < l.i → is_some (get nat_eq l.blocks (l.lbn + k)) ≡ false
