use Rattle.std.proofs.Common.{◌≡◌, ◌&&◌, drop}
use Rattle.msr_trace.proofs.Digits.{are_digits}
use Rattle.msr_trace.proofs.decimal.are_digits.Given as goal

abbrev pub invariant-loop-byte : goal.invariant-loop-byte
invariant-loop-byte l = are_digits l.bytes ≡ (l.all && are_digits (drop l.byte-index l.bytes))
