use Rattle.std.proofs.Common.{◌≡◌, ◌<◌, ◌≤◌, ℕ}
use Rattle.wol_model.specs.Log.{has_bit}
use Rattle.volume_parts.proofs.home.run_from.Given as goal

-- the blocks so far are all in the mask or all outside it
abbrev pub invariant-loop-i : goal.invariant-loop-i
invariant-loop-i l = (i : ℕ) → l.at ≤ i → i < l.i → has_bit l.mask i ≡ has_bit l.mask l.at
