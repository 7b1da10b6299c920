use Rattle.std.proofs.Common.{◌≡◌, ◌≤◌, ◌<◌, ◌+◌, nat_eq, ℕ}
use Rattle.std.specs.HashMap.{get}
use Rattle.block_cells.specs.Cells.{version_in}
use Rattle.block_cells.proofs.blocks.run_length.Given as goal

-- the blocks so far have the newest record of the first one
abbrev pub invariant-loop-count : goal.invariant-loop-count
invariant-loop-count l = (b : ℕ) → l.lbn ≤ b → b < l.lbn + l.count → version_in (get nat_eq l.blocks b) ≡ version_in (get nat_eq l.blocks l.lbn)
