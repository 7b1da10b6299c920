use Rattle.std.proofs.Common.{◌∙◌, sym}
use Rattle.std.proofs.lemmas.List.{at_drop_all}
use Rattle.msr_trace.specs.Numbers.{value_after}
use Rattle.msr_trace.proofs.Digits.{value_stops_at, value_ends}
use Rattle.msr_trace.proofs.decimal.digit_by_digit.Goals as goal

pub returns-in_err-number : goal.returns-in_err-number
returns-in_err-number c = c.from_residual.ensures ∙ sym (c.loop-byte.invariant.goes_on ∙ value_stops_at c.loop-byte.number c.loop-byte.byte-index c.args.digits.now c.loop-byte-test.true (sym c.with_digit.ensures ∙ c.in_err-number.was))

pub returns : goal.returns
returns c = sym (c.loop-byte.invariant.goes_on ∙ at_drop_all (value_after c.loop-byte.number) c.args.digits.now c.loop-byte.byte-index c.loop-byte-test.false ∙ value_ends c.loop-byte.number c.loop-byte.invariant.small)
