use Rattle.std.proofs.Common.{◌≡◌, ◌*◌, take, length}
use Rattle.std.specs.List.{flat_map, range_with_len}
use Rattle.msr_trace.proofs.payload.repeat.Given as goal

abbrev pub invariant-loop-i : goal.invariant-loop-i
invariant-loop-i l = record {
  long : length l.block ≡ 512;
  so_far : take (64 * l.i) l.block ≡ flat_map (λ k. l.stamp) (range_with_len 0 (4 * l.i));
}
