use Rattle.std.proofs.Common.{refl}
use Rattle.wol_disk.specs.declared.disk.Failed.{Failed}
use Rattle.nbd_session.proofs.Served.{answered, at_fault, counts_still}
use Rattle.nbd_session.proofs.session.serve_request.Goals as goal

pub returns-in-Ok-clause-content : goal.returns-in-Ok-clause-content
returns-in-Ok-clause-content g c before t =
    answered g.V.Volume.Turned (g.V.Volume.home c.args.volume.now) (g.V.Volume.most c.args.volume.now) c.args.request c.args.volume.now before (g.S.Source.left c.args.input.now) (g.K.Sink.taken c.args.out.now) Failed c.take_and_ask.new.volume
    (g.S.Source.left c.take_and_ask.new.input) (g.K.Sink.taken c.reply_or_end.new.out) c.args.header.now c.take_and_ask.new.desk.bytes.items c.in-Ok.answered c.reply_or_end.result c.requires.stays t c.in-Ok.ensures.content
    (rw c.deref.ensures.value at c.reply_or_end.ensures.content)

pub returns-in-Ok-clause-faults : goal.returns-in-Ok-clause-faults
returns-in-Ok-clause-faults g c =
    counts_still (g.S.Source.faults c.args.input.now) (g.S.Source.faults c.take_and_ask.new.input) (g.S.Source.faults c.take_and_ask.new.input) (g.K.Sink.faults c.args.out.now) (g.K.Sink.faults c.args.out.now) (g.K.Sink.faults c.reply_or_end.new.out) c.reply_or_end.result
    c.in-Ok.ensures.calm refl (c.reply_or_end.ensures.faults (g.S.Source.faults c.take_and_ask.new.input))

pub returns-in-Err-clause-content : goal.returns-in-Err-clause-content
returns-in-Err-clause-content g c before t =
    at_fault g.V.Volume.Turned (g.V.Volume.home c.args.volume.now) (g.V.Volume.most c.args.volume.now) c.args.request c.args.volume.now before (g.S.Source.left c.args.input.now) (g.K.Sink.taken c.args.out.now) c.take_and_ask.new.volume
    (g.S.Source.left c.take_and_ask.new.input) c.args.header.now t c.in-Err.ensures.content.0 c.in-Err.ensures.content.1
