use Rattle.std.proofs.Common.{◌≡◌, ◌<◌, ◌%◌, ℕ, true, false, slice_index_or}
use Rattle.wol_model.specs.Log.{has_bit}
use Rattle.redirect_map.specs.declared.going.Sought.TheVariants.{Due}
use Rattle.redirect_map.specs.Marked.{lane_bit}
use Rattle.redirect_map.proofs.marking.lanes_mask.Given as goal

-- the lanes so far
abbrev pub invariant-loop-on : goal.invariant-loop-on
invariant-loop-on l = record {
  rest : l.rest ≡ l.on-index % 63;
  seen : (k : ℕ) → k < l.on-index → slice_index_or l.lanes k false ≡ true → has_bit l.mask (lane_bit Due k) ≡ true;
}
