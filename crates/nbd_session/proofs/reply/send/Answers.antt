use Rattle.std.proofs.Common.{take, arith, refl, rules}
use Rattle.std.proofs.lemmas.Result.{err_from_is_err_and}
use Rattle.nbd_session.proofs.ReplyBytes.{data_taken, error_taken, head_cut, nothing_taken}
use Rattle.nbd_session.proofs.reply.send.Goals as goal

pub returns-in_err-write-in-Ok-clause-content : goal.returns-in_err-write-in-Ok-clause-content
returns-in_err-write-in-Ok-clause-content g c =
    let p = err_from_is_err_and c.from_residual.result c.from_residual.ensures.1 in
    rw p.1 (head_cut (g.K.Sink.taken c.args.out.now) (g.K.Sink.taken c.write-in-Ok.new.self) (g.K.Sink.taken c.write-in-Ok.new.self) c.write-in-Ok.result c.args.cookie c.args.bytes.now c.head-in-Ok.result c.args.answer c.in-Ok.count c.in-Ok.is c.head-in-Ok.ensures
    c.in_err-write-in-Ok.ensures.content)

pub returns-in-Ok-eq0-clause-content : goal.returns-in-Ok-eq0-clause-content
returns-in-Ok-eq0-clause-content g c =
    nothing_taken (g.K.Sink.taken c.args.out.now) (g.K.Sink.taken c.args.out.now) (g.K.Sink.taken c.write.new.self) c.write.result c.args.cookie c.args.bytes.now c.head.result c.args.answer c.in-Ok-eq0.field-0 c.in-Ok-eq0.is (first_of (omega arith, search rules)) c.head.ensures
    c.write.ensures.content

pub returns-in_ok-write-in-Ok-clause-content : goal.returns-in_ok-write-in-Ok-clause-content
returns-in_ok-write-in-Ok-clause-content g c =
    data_taken (g.K.Sink.taken c.args.out.now) (g.K.Sink.taken c.write-in-Ok.new.self) (g.K.Sink.taken c.write-in-Ok-2.new.self) c.write-in-Ok-2.result c.args.cookie c.args.bytes.now c.head-in-Ok.result c.args.answer c.in-Ok.count (take c.in-Ok.count c.args.bytes.now) c.in-Ok.is
    c.head-in-Ok.ensures c.in_ok-write-in-Ok.ensures.content c.write-in-Ok-2.ensures.content refl

pub returns-in-Err-clause-content : goal.returns-in-Err-clause-content
returns-in-Err-clause-content g c =
    error_taken (g.K.Sink.taken c.args.out.now) (g.K.Sink.taken c.args.out.now) (g.K.Sink.taken c.write-in-Err.new.self) c.write-in-Err.result c.args.cookie c.args.bytes.now c.head-in-Err.result c.args.answer c.in-Err.error c.code.result c.in-Err.is c.code.ensures c.head-in-Err.ensures
    c.write-in-Err.ensures.content
