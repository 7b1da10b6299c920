use Rattle.std.proofs.Common.{◌≡◌, ◌≤◌, ◌+◌, ◌&&◌, nat_eq, nat_lt, ℕ, if◌then◌else◌}
use Rattle.std.specs.HashMap.{get, spare}
use Rattle.block_cells.specs.Masks.{in_mask}
use Rattle.block_cells.specs.Cells.{one_covers}
use Rattle.block_cells.proofs.blocks.cover.Given as goal

-- the blocks so far are covered
abbrev pub invariant-loop-i : goal.invariant-loop-i
invariant-loop-i l =
    ((b : ℕ) → get nat_eq l.blocks b ≡ (if in_mask l.one.lbn l.one.keep b && nat_lt b (l.one.lbn + l.i) then one_covers l.one.version (get nat_eq l.initial.blocks b) else get nat_eq l.initial.blocks b))
    × (spare l.initial.blocks ≤ spare l.blocks + l.i)
