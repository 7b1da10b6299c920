use Rattle.std.proofs.Common.{◌≡◌, ◌≤◌, ◌<◌, ◌-◌, ◌^◌, length}
use Rattle.msr_trace.specs.Numbers.{value_after}
use Rattle.msr_trace.proofs.decimal.few.Given as goal

abbrev pub invariant-loop-rest : goal.invariant-loop-rest
invariant-loop-rest l = record {
  goes_on : value_after 0 l.field ≡ value_after l.value l.rest;
  small : l.value < 10 ^ (19 - length l.rest);
  short : length l.rest ≤ length l.field;
}

abbrev pub decreases-loop-rest : goal.decreases-loop-rest
decreases-loop-rest l = length l.rest
