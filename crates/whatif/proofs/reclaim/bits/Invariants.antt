use Rattle.std.proofs.Common.{◌≡◌, ◌≤◌}
use Rattle.std.specs.List.{count_by, range_with_len}
use Rattle.wol_model.specs.Log.{has_bit}
use Rattle.whatif.proofs.reclaim.bits.Given as goal

abbrev pub invariant-loop-bit : goal.invariant-loop-bit
invariant-loop-bit l = record { sum : l.set ≡ count_by (has_bit l.mask) (range_with_len 0 l.bit); few : l.set ≤ l.bit }
