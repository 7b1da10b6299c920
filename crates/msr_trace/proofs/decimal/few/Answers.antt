use Rattle.std.proofs.Common.{◌∙◌, ◌≡◌, ◌<◌, ◌-◌, true, length, refl, sym, arith}
use Rattle.msr_trace.proofs.Digits.{are_digits, none_small, run_goes_on, run_small, run_word}
use Rattle.msr_trace.proofs.decimal.few.Goals as goal

pub loop-rest-init : goal.loop-rest-init
loop-rest-init c = record { goes_on = refl; small = none_small (19 - length c.args.field.now); short = omega arith }

pub with_run-value-requires-clause-small : goal.with_run-value-requires-clause-small
with_run-value-requires-clause-small c =
    let short : length c.loop-rest.rest.now < 20 = omega (arith, c.requires, c.loop-rest.invariant.short) in
    run_word c.loop-rest.value 8 c.loop-rest.rest.now c.split_at.result.0.now c.split_at.result.1.now short c.loop-rest.invariant.small c.split_at.ensures.front_len c.split_at.ensures.back_len (sym c.are_digits.ensures ∙ c.if-not-are_digits.false)

pub loop-rest-preserved : goal.loop-rest-preserved
loop-rest-preserved c =
    let run = c.split_at.result.0.now in
    let behind = c.split_at.result.1.now in
    let digits : are_digits run ≡ true = sym c.are_digits.ensures ∙ c.if-not-are_digits.false in
    let short : length c.loop-rest.rest.now < 20 = omega (arith, c.requires, c.loop-rest.invariant.short) in
    record {
      goes_on = c.loop-rest.invariant.goes_on ∙ rw c.with_run-value.ensures (run_goes_on c.loop-rest.value c.loop-rest.rest.now run behind c.split_at.ensures.by_index.0 digits);
      small = rw c.with_run-value.ensures (run_small c.loop-rest.value 8 c.loop-rest.rest.now run behind short c.loop-rest.invariant.small c.split_at.ensures.front_len c.split_at.ensures.back_len digits);
      short = omega (arith, c.split_at.ensures.back_len, c.loop-rest.invariant.short);
    }
