use Rattle.std.proofs.Common.{refl, sym, ◌∙◌, arith}
use Rattle.std.proofs.lemmas.Result.{err_from_is_err_and}
use Rattle.nbd_session.proofs.Intakes.{filled_kept, filled_more, filled_none}
use Rattle.nbd_session.proofs.intake.fill_room.Goals as goal

pub loop-count-init : goal.loop-count-init
loop-count-init g c = record { within = omega arith; taken = filled_none (g.S.Source.left c.args.input.now) c.args.room.now; calm = refl }

pub loop-count-preserved : goal.loop-count-preserved
loop-count-preserved g c = record {
  within = omega (arith, c.in_ok-more.ensures.size);
  taken = filled_more _ _ _ _ _ _ _ c.loop-count.invariant.taken c.read_behind.ensures.held c.in_ok-more.ensures.content;
  calm = c.in_ok-more.ensures.calm ∙ c.loop-count.invariant.calm;
}

pub returns-in_err-more-clause-content : goal.returns-in_err-more-clause-content
returns-in_err-more-clause-content g c =
    let p = err_from_is_err_and c.from_residual.result c.from_residual.ensures.1 in
    rw p.1 (filled_kept (g.S.Source.left c.args.input.now) (g.S.Source.left c.loop-count.input) (g.S.Source.left c.read_behind.new.input) c.loop-count.room c.loop-count.count _ c.loop-count.invariant.taken c.loop-count-test.true (sym c.read_behind.auto.room) c.in_err-more.ensures.kept)
