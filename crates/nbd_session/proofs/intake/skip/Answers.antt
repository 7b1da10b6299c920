use Rattle.std.proofs.Common.{refl, ◌∙◌}
use Rattle.std.proofs.lemmas.Result.{err_from_is_err_and}
use Rattle.nbd_session.proofs.Intakes.{skipped_kept, skipped_more, skipped_none}
use Rattle.nbd_session.proofs.intake.skip.Goals as goal

pub loop-left-init : goal.loop-left-init
loop-left-init g c = record { skipped = skipped_none _ _; calm = refl }

pub loop-left-preserved : goal.loop-left-preserved
loop-left-preserved g c = record {
  skipped = skipped_more _ _ _ _ _ _ c.loop-left.invariant.skipped c.in_ok-more.ensures.content c.in_ok-more.ensures.size;
  calm = c.in_ok-more.ensures.calm ∙ c.loop-left.invariant.calm;
}

pub returns-in_err-more-clause-content : goal.returns-in_err-more-clause-content
returns-in_err-more-clause-content g c =
    let p = err_from_is_err_and c.from_residual.result c.from_residual.ensures.1 in
    rw p.1 (skipped_kept (g.S.Source.left c.args.input.now) (g.S.Source.left c.loop-left.input) (g.S.Source.left c.drop_some.new.input) c.args.count c.loop-left.left c.loop-left.invariant.skipped c.loop-left-test.true c.in_err-more.ensures.content)
