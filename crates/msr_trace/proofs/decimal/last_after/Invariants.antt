use Rattle.std.proofs.Common.{◌≡◌, ◌<◌, ◌-◌, ◌^◌, length, drop}
use Rattle.msr_trace.specs.Numbers.{value_after}
use Rattle.msr_trace.proofs.decimal.last_after.Given as goal

abbrev pub invariant-loop-byte : goal.invariant-loop-byte
invariant-loop-byte l = record {
  goes_on : value_after l.value l.digits ≡ value_after l.number (drop l.byte-index l.digits);
  small : l.number < 10 ^ (19 - (length l.digits - l.byte-index));
}
