use Rattle.std.proofs.Common.{◌∙◌, sym}
use Rattle.msr_trace.proofs.Digits.{run_goes_on, run_small, run_word}
use Rattle.msr_trace.proofs.decimal.few_after.Goals as goal

pub with_run-requires-clause-small : goal.with_run-requires-clause-small
with_run-requires-clause-small c = run_word c.args.value 4 c.args.digits.now c.split_at.result.0.now c.split_at.result.1.now c.requires.short c.requires.small c.split_at.ensures.front_len c.split_at.ensures.back_len (sym c.are_digits.ensures ∙ c.if-not-are_digits.false)

pub returns : goal.returns
returns c = c.last_after-2.ensures ∙ rw c.with_run.ensures (sym (run_goes_on c.args.value c.args.digits.now c.split_at.result.0.now c.split_at.result.1.now c.split_at.ensures.by_index.0 (sym c.are_digits.ensures ∙ c.if-not-are_digits.false)))

pub last_after-requires-2-clause-small : goal.last_after-requires-2-clause-small
last_after-requires-2-clause-small c =
    rw c.with_run.ensures (run_small c.args.value 4 c.args.digits.now c.split_at.result.0.now c.split_at.result.1.now c.requires.short c.requires.small c.split_at.ensures.front_len c.split_at.ensures.back_len (sym c.are_digits.ensures ∙ c.if-not-are_digits.false))
