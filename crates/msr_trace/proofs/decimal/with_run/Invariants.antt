use Rattle.std.proofs.Common.{◌≡◌, true, drop}
use Rattle.std.specs.Str.Parse.{digits_value_after}
use Rattle.msr_trace.proofs.Digits.{are_digits}
use Rattle.msr_trace.proofs.decimal.with_run.Given as goal

abbrev pub invariant-loop-byte : goal.invariant-loop-byte
invariant-loop-byte l = record {
  goes_on : digits_value_after 10 l.value l.digits ≡ digits_value_after 10 l.number (drop l.byte-index l.digits);
  all : are_digits (drop l.byte-index l.digits) ≡ true;
}
