use Rattle.std.proofs.Common.{◌<◌, ◌^◌, drop, arith}
use Rattle.std.specs.Str.Parse.{digits_value_after}
use Rattle.msr_trace.proofs.Digits.{first_digit}
use Rattle.msr_trace.proofs.decimal.with_run.Goals as goal

pub overflow_mul-number : goal.overflow_mul-number
overflow_mul-number c =
    let small : digits_value_after 10 c.loop-byte.number (drop c.loop-byte.byte-index c.args.digits.now) < 2 ^ 64 = rw c.loop-byte.invariant.goes_on at c.requires.small in
    let first = first_digit c.loop-byte.number c.loop-byte.byte-index c.args.digits.now c.loop-byte-test.true c.loop-byte.invariant.all small in
    omega (arith, first.small)

pub overflow_add-number : goal.overflow_add-number
overflow_add-number c =
    let small : digits_value_after 10 c.loop-byte.number (drop c.loop-byte.byte-index c.args.digits.now) < 2 ^ 64 = rw c.loop-byte.invariant.goes_on at c.requires.small in
    let first = first_digit c.loop-byte.number c.loop-byte.byte-index c.args.digits.now c.loop-byte-test.true c.loop-byte.invariant.all small in
    omega (arith, first.small, c.value_of.ensures)
