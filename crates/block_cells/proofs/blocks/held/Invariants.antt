use Rattle.std.proofs.Common.{◌≡◌, ◌+◌, ◌&&◌, nat_eq, nat_lt, ℕ}
use Rattle.std.specs.HashMap.{get}
use Rattle.wol_model.specs.Log.{has_bit}
use Rattle.block_cells.specs.Cells.{is_held}
use Rattle.block_cells.proofs.blocks.held.Given as goal

-- the blocks so far
abbrev pub invariant-loop-i : goal.invariant-loop-i
invariant-loop-i l = (j : ℕ) → has_bit l.mask j ≡ (nat_lt j l.i && is_held l.one.version l.alone (get nat_eq l.blocks (l.one.lbn + j)))
