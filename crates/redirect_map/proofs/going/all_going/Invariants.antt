use Rattle.std.proofs.Common.{◌≡◌, ◌+◌, ◌&&◌, nat_eq, nat_lt, ℕ}
use Rattle.std.specs.HashMap.{get}
use Rattle.wol_model.specs.Log.{has_bit}
use Rattle.redirect_map.specs.Marked.{goes_of}
use Rattle.redirect_map.proofs.going.all_going.Given as goal

-- the blocks so far
abbrev pub invariant-loop-i : goal.invariant-loop-i
invariant-loop-i l = (j : ℕ) → has_bit l.mask j ≡ (nat_lt j l.i && goes_of l.entry (l.entry.record.lbn + j) (get nat_eq l.blocks (l.entry.record.lbn + j)))
