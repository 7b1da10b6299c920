use Rattle.std.proofs.Common.{◌≡◌, true, false, sym, ◌∙◌}
use Rattle.cleaning.proofs.Turning.{was_cleaned, was_left}
use Rattle.cleaning.proofs.turn.clean_within.Goals as goal

pub clean-answer-requires-clause-can : goal.clean-answer-requires-clause-can
clean-answer-requires-clause-can g c = c.can_clean.ensures.0 c.if-can_clean.true

pub returns-then-can_clean : goal.returns-then-can_clean
returns-then-can_clean g c = record { did = was_cleaned _ _ _ _ _ _ _ (c.can_clean.ensures.0 c.if-can_clean.true) c.clean-answer.ensures.cleaned }

pub returns : goal.returns
returns g c = record { did = was_left g.D.Disk.tells g.D.Disk.state c.args.most c.args.m.now _ c.len-records.result c.no_copies-done.ensures (rw c.index.ensures at c.len-records.ensures.value) (λ can. let no : true ≡ false = sym (c.can_clean.ensures.1 can) ∙ c.if-can_clean.false in cc) }
