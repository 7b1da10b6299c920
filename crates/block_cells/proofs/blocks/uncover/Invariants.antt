use Rattle.std.proofs.Common.{◌≡◌, ◌≤◌, ◌+◌, ◌&&◌, nat_eq, nat_lt, ℕ, if◌then◌else◌}
use Rattle.std.specs.HashMap.{get, spare}
use Rattle.block_cells.specs.Masks.{in_mask}
use Rattle.block_cells.specs.Cells.{take_one}
use Rattle.block_cells.proofs.blocks.uncover.Given as goal

-- the blocks so far are kept by one record less
abbrev pub invariant-loop-i : goal.invariant-loop-i
invariant-loop-i l =
    ((b : ℕ) → get nat_eq l.blocks b ≡ (if in_mask l.first l.mask b && nat_lt b (l.first + l.i) then take_one (get nat_eq l.initial.blocks b) else get nat_eq l.initial.blocks b))
    × (spare l.initial.blocks ≤ spare l.blocks)
