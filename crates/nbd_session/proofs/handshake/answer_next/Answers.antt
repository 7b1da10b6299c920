use Rattle.std.proofs.Common.{refl}
use Rattle.wol_disk.specs.declared.disk.Failed.{Failed}
use Rattle.nbd_session.proofs.Served.{counts_still}
use Rattle.nbd_session.proofs.Turns.{answered, ended, failed}
use Rattle.nbd_session.proofs.handshake.answer_next.Goals as goal

pub returns-in-Ok-Asked-clause-content : goal.returns-in-Ok-Asked-clause-content
returns-in-Ok-Asked-clause-content g c =
    answered Failed c.args.export.now.name.now c.args.export.now.blocks c.args.zeroes (g.S.Source.left c.args.input.now) (g.S.Source.left c.next_option.new.input) (g.K.Sink.taken c.args.out.now) c.next_option.new.room c.in-Ok-Asked.number c.in-Ok-Asked.length
    (g.K.Sink.taken c.answer.new.out) c.answer.result (rw c.in-Ok-Asked.field-0-is at c.in-Ok-Asked.ensures.content) c.answer.ensures.content

pub returns-in-Ok-Asked-clause-faults : goal.returns-in-Ok-Asked-clause-faults
returns-in-Ok-Asked-clause-faults g c =
    counts_still (g.S.Source.faults c.args.input.now) (g.S.Source.faults c.next_option.new.input) (g.S.Source.faults c.next_option.new.input) (g.K.Sink.faults c.args.out.now) (g.K.Sink.faults c.args.out.now) (g.K.Sink.faults c.answer.new.out) c.answer.result
    c.in-Ok-Asked.ensures.calm refl (c.answer.ensures.faults (g.S.Source.faults c.next_option.new.input))

pub returns-in-Ok-Ended-clause-content : goal.returns-in-Ok-Ended-clause-content
returns-in-Ok-Ended-clause-content g c =
    ended Failed c.args.export.now.name.now c.args.export.now.blocks c.args.zeroes (g.S.Source.left c.args.input.now) (g.S.Source.left c.next_option.new.input) (g.K.Sink.taken c.args.out.now) c.next_option.new.room c.in-Ok-Ended.why
    (rw c.in-Ok-Ended.field-0-is at c.in-Ok-Ended.ensures.content)

pub returns-in-Err-clause-content : goal.returns-in-Err-clause-content
returns-in-Err-clause-content g c =
    failed Failed c.args.export.now.name.now c.args.export.now.blocks c.args.zeroes (g.S.Source.left c.args.input.now) (g.S.Source.left c.next_option.new.input) (g.K.Sink.taken c.args.out.now) c.next_option.new.room c.in-Err.field-0 c.in-Err.ensures.content
