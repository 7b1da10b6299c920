use Rattle.std.proofs.Common.{◌≡◌, ◌∙◌, ◌+◌, ◌-◌, ◌<◌, length, get_or, arith}
use Rattle.std.specs.Char.{digit_value}
use Rattle.msr_trace.proofs.Digits.{digit_at, digit_small, digit_word}
use Rattle.msr_trace.proofs.decimal.last_after.Goals as goal

pub overflow_mul-number : goal.overflow_mul-number
overflow_mul-number c =
    let b = get_or c.args.digits.now c.loop-byte.byte-index 0 in
    let digit : digit_value b < 10 = c.if-not-is_ascii_digit.ensures.bound in
    let word = digit_word c.loop-byte.number (digit_value b) (length c.args.digits.now - c.loop-byte.byte-index) c.loop-byte.invariant.small digit (omega (arith, c.loop-byte-test.true)) (omega (arith, c.requires.short)) in
    omega (arith, word)

pub overflow_add-number : goal.overflow_add-number
overflow_add-number c =
    let b = get_or c.args.digits.now c.loop-byte.byte-index 0 in
    let digit : digit_value b < 10 = c.if-not-is_ascii_digit.ensures.bound in
    let word = digit_word c.loop-byte.number (digit_value b) (length c.args.digits.now - c.loop-byte.byte-index) c.loop-byte.invariant.small digit (omega (arith, c.loop-byte-test.true)) (omega (arith, c.requires.short)) in
    omega (arith, word, c.value_of.ensures)

pub loop-byte-preserved : goal.loop-byte-preserved
loop-byte-preserved c =
    let i = c.loop-byte.byte-index in
    let b = get_or c.args.digits.now i 0 in
    let digit : digit_value b < 10 = c.if-not-is_ascii_digit.ensures.bound in
    let e : length c.args.digits.now - i - 1 ≡ length c.args.digits.now - (i + 1) = omega arith in
    record {
      goes_on = c.loop-byte.invariant.goes_on ∙ rw c.value_of.ensures (digit_at c.loop-byte.number i c.args.digits.now c.loop-byte-test.true digit);
      small = rw c.value_of.ensures (rw e at (digit_small c.loop-byte.number (digit_value b) (length c.args.digits.now - i) c.loop-byte.invariant.small digit (omega (arith, c.loop-byte-test.true)) (omega (arith, c.requires.short))));
    }
