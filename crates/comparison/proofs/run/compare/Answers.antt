-- What is printed.
use Rattle.std.proofs.Common.{refl}
use Rattle.std.proofs.lemmas.Result.{err_from_is_err_and}
use Rattle.comparison.proofs.Lines.{fails, prints, stops}
use Rattle.comparison.proofs.run.compare.Goals as goal

pub returns-in_err-text-clause-compares : goal.returns-in_err-text-clause-compares
returns-in_err-text-clause-compares g c =
    let p = err_from_is_err_and c.from_residual.result c.from_residual.ensures.1 in
    rw (p.1, p.2) (stops g.S.Source.left c.args.details c.args.config.now c.args.given.now c.run_all.new.given (g.K.Sink.faults c.args.out.now) (g.K.Sink.taken c.args.out.now) _ c.in_err-text.ensures.some)

pub returns-in_err-write-clause-compares : goal.returns-in_err-write-clause-compares
returns-in_err-write-clause-compares g c =
    let p = err_from_is_err_and c.from_residual-in_err-write.result c.from_residual-in_err-write.ensures.1 in
    rw (p.1, p.2) (fails g.S.Source.left c.args.details c.args.config.now c.args.given.now c.run_all.new.given (g.K.Sink.faults c.args.out.now) (g.K.Sink.faults c.write.new.self) (g.K.Sink.taken c.args.out.now) (g.K.Sink.taken c.write.new.self)
    c.in_ok-text.text.items c.in_ok-text.ensures.whole c.in_err-write.ensures.cause (rw c.deref.ensures.value at c.in_err-write.ensures.content))

pub returns-clause-compares : goal.returns-clause-compares
returns-clause-compares g c =
    prints g.S.Source.left c.args.details c.args.config.now c.args.given.now c.run_all.new.given (g.K.Sink.faults c.args.out.now) (g.K.Sink.faults c.write.new.self) (g.K.Sink.taken c.args.out.now) (g.K.Sink.taken c.write.new.self)
    tt c.in_ok-text.text.items c.in_ok-text.ensures.whole c.in_ok-write.ensures.calm (rw c.deref.ensures.value at c.in_ok-write.ensures.content)
