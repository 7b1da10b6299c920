use Rattle.std.proofs.Common.{inl, inr, take}
use Rattle.nbd_session.proofs.RequestAnswers.{payload_write, serves_look, serves_read, serves_write}
use Rattle.nbd_session.proofs.answer.ask.Goals as goal

pub returns-then-header-eq0-clause-serves : goal.returns-then-header-eq0-clause-serves
returns-then-header-eq0-clause-serves g c = serves_look _ _ _ _ _ c.args.bytes.now _ _ c.requires.known c.look.result (inr c.if-header-eq0.true) c.look.ensures.looked

pub returns-in-Read-clause-serves : goal.returns-in-Read-clause-serves
returns-in-Read-clause-serves g c = serves_read _ _ _ _ _ c.read.new.bytes _ _ c.requires.known c.read.result c.in-Read.is c.if-header-eq0.false c.read.ensures.read

pub returns-in-Write-clause-serves : goal.returns-in-Write-clause-serves
returns-in-Write-clause-serves g c = rw (payload_write c.args.header.now c.in-Write.is) (serves_write _ _ _ _ (take c.args.header.now.length c.args.bytes.now) c.args.bytes.now _ _ c.requires.known c.write.result c.in-Write.is c.if-header-eq0.false c.write.ensures.written)

pub returns-in-Flush-clause-serves : goal.returns-in-Flush-clause-serves
returns-in-Flush-clause-serves g c = serves_look _ _ _ _ _ c.args.bytes.now _ _ c.requires.known c.look-in-Flush.result (inl c.in-Flush.is) c.look-in-Flush.ensures.looked
