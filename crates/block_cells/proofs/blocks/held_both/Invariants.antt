use Rattle.std.proofs.Common.{◌≡◌, ◌+◌, ◌&&◌, nat_eq, nat_lt, ℕ, true, false}
use Rattle.std.specs.HashMap.{get}
use Rattle.wol_model.specs.Log.{has_bit}
use Rattle.block_cells.specs.Cells.{is_held}
use Rattle.block_cells.proofs.blocks.held_both.Given as goal

-- the blocks so far
abbrev pub invariant-loop-i : goal.invariant-loop-i
invariant-loop-i l = record {
  live : (j : ℕ) → has_bit l.live j ≡ (nat_lt j l.i && is_held l.one.version false (get nat_eq l.blocks (l.one.lbn + j)));
  alone : (j : ℕ) → has_bit l.alone j ≡ (nat_lt j l.i && is_held l.one.version true (get nat_eq l.blocks (l.one.lbn + j)));
}
