use Rattle.wol_disk.specs.declared.disk.Failed.{Failed}
use Rattle.wol_io.proofs.Appending.{keeps_same}
use Rattle.nbd_session.specs.Shakes.{IsShake, greeting}
use Rattle.nbd_session.proofs.Turns.{flagged, sent, unflagged, unread}
use Rattle.nbd_session.proofs.handshake.shake.Goals as goal

pub returns-in-Err-clause-shake : goal.returns-in-Err-clause-shake
returns-in-Err-clause-shake g c = IsShake.ungreeted (keeps_same _) c.in-Err.ensures.content

pub returns-in-Ok-Ok-clause-shake : goal.returns-in-Ok-Ok-clause-shake
returns-in-Ok-Ok-clause-shake g c =
    let out = sent (g.K.Sink.taken c.args.out.now) (g.K.Sink.taken c.greet.new.out) greeting c.greet.result c.in_default.not-Err c.greet.ensures.content in
    flagged Failed c.args.export.now.name.now c.args.export.now.blocks (g.S.Source.left c.args.input.now) (g.S.Source.left c.take_flags.new.input) (g.K.Sink.taken c.args.out.now) (g.K.Sink.taken c.greet.new.out) out c.in-Ok-Ok.zeroes
    (g.S.Source.left c.answer_all.new.input) (g.K.Sink.taken c.answer_all.new.out) c.answer_all.result (rw c.in-Ok-Ok.field-0-is at c.in-Ok-Ok.ensures.content) c.answer_all.ensures.content

pub returns-in-Ok-Err-clause-shake : goal.returns-in-Ok-Err-clause-shake
returns-in-Ok-Err-clause-shake g c =
    let out = sent (g.K.Sink.taken c.args.out.now) (g.K.Sink.taken c.greet.new.out) greeting c.greet.result c.in_default.not-Err c.greet.ensures.content in
    unflagged Failed c.args.export.now.name.now c.args.export.now.blocks (g.S.Source.left c.args.input.now) (g.S.Source.left c.take_flags.new.input) (g.K.Sink.taken c.args.out.now) (g.K.Sink.taken c.greet.new.out) out c.in-Ok-Err.why
    (rw c.in-Ok-Err.field-0-is at c.in-Ok-Err.ensures.content)

pub returns-in-Err-take_flags-clause-shake : goal.returns-in-Err-take_flags-clause-shake
returns-in-Err-take_flags-clause-shake g c =
    let out = sent (g.K.Sink.taken c.args.out.now) (g.K.Sink.taken c.greet.new.out) greeting c.greet.result c.in_default.not-Err c.greet.ensures.content in
    unread Failed c.args.export.now.name.now c.args.export.now.blocks (g.S.Source.left c.args.input.now) (g.S.Source.left c.take_flags.new.input) (g.K.Sink.taken c.args.out.now) (g.K.Sink.taken c.greet.new.out) out c.in-Err-take_flags.field-0 c.in-Err-take_flags.ensures.content
