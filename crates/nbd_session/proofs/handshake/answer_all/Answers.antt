use Rattle.std.proofs.Common.{refl, ◌∙◌, Option, Ok, Err, subst, arith}
use Rattle.std.proofs.lemmas.Result.{err_from_is_err_and}
use Rattle.nbd_session.specs.declared.ending.Shaken.{Shaken}
use Rattle.nbd_session.specs.Shakes.{GoesOn}
use Rattle.nbd_session.proofs.Turns.{begun, ends, goes_on, too_many}
use Rattle.nbd_session.proofs.handshake.answer_all.Goals as goal

pub options-init : goal.options-init
options-init g c = record { so = begun _ _ _ _ _; calm_source = refl; calm_sink = refl }

pub options-preserved : goal.options-preserved
options-preserved g c =
    let i = c.options.invariant in
    let e = c.args.export.now in
    let P : Option Shaken → Type 0 = λ (a : Option Shaken). GoesOn e.name.now e.blocks c.args.zeroes (g.S.Source.left c.options.input) (g.S.Source.left c.answer_next.new.input) (g.K.Sink.taken c.options.out) (g.K.Sink.taken c.answer_next.new.out) (Ok a) in
    record {
      so = goes_on e.name.now e.blocks c.args.zeroes (g.S.Source.left c.args.input.now) (g.K.Sink.taken c.args.out.now) c.options._answered (g.S.Source.left c.options.input) (g.S.Source.left c.answer_next.new.input) (g.K.Sink.taken c.options.out) (g.K.Sink.taken c.answer_next.new.out) i.so
          (subst P c.in-None.is c.in_ok-end.ensures.content);
      calm_source = c.in_ok-end.ensures.faults.0 ∙ i.calm_source;
      calm_sink = c.in_ok-end.ensures.faults.1 ∙ i.calm_sink;
    }

pub returns-in-Some-clause-content : goal.returns-in-Some-clause-content
returns-in-Some-clause-content g c =
    let i = c.options.invariant in
    let e = c.args.export.now in
    let P : Option Shaken → Type 0 = λ (a : Option Shaken). GoesOn e.name.now e.blocks c.args.zeroes (g.S.Source.left c.options.input) (g.S.Source.left c.answer_next.new.input) (g.K.Sink.taken c.options.out) (g.K.Sink.taken c.answer_next.new.out) (Ok a) in
    ends e.name.now e.blocks c.args.zeroes (g.S.Source.left c.args.input.now) (g.K.Sink.taken c.args.out.now) c.options._answered (g.S.Source.left c.options.input) (g.S.Source.left c.answer_next.new.input) (g.K.Sink.taken c.options.out) (g.K.Sink.taken c.answer_next.new.out) (Ok c.in-Some.end) i.so
    (omega arith) (subst P c.in-Some.is c.in_ok-end.ensures.content)

pub returns-in_err-end-clause-content : goal.returns-in_err-end-clause-content
returns-in_err-end-clause-content g c =
    let p = err_from_is_err_and c.from_residual.result c.from_residual.ensures.1 in
    let i = c.options.invariant in
    let e = c.args.export.now in
    rw (p.1, p.2) (ends e.name.now e.blocks c.args.zeroes (g.S.Source.left c.args.input.now) (g.K.Sink.taken c.args.out.now) c.options._answered (g.S.Source.left c.options.input) (g.S.Source.left c.answer_next.new.input) (g.K.Sink.taken c.options.out) (g.K.Sink.taken c.answer_next.new.out)
    (Err c.in_err-end.field-0.0) i.so (omega arith) c.in_err-end.ensures.content)

pub returns-clause-content : goal.returns-clause-content
returns-clause-content g c =
    let i = c.options.invariant in
    let e = c.args.export.now in
    too_many e.name.now e.blocks c.args.zeroes (g.S.Source.left c.args.input.now) (g.K.Sink.taken c.args.out.now) c.options._answered (g.S.Source.left c.options.input) (g.K.Sink.taken c.options.out) i.so (omega arith)
