use Rattle.std.proofs.Common.{◌≡◌}
use Rattle.nbd_session.proofs.Turns.{SoFar}
use Rattle.nbd_session.proofs.handshake.answer_all.Given as goal

abbrev pub invariant-options : goal.invariant-options
invariant-options g l = record {
  so : SoFar l.export.name.now l.export.blocks l.zeroes (g.S.Source.left l.initial.input) (g.K.Sink.taken l.initial.out) l._answered (g.S.Source.left l.input) (g.K.Sink.taken l.out);
  calm_source : g.S.Source.faults l.input ≡ g.S.Source.faults l.initial.input;
  calm_sink : g.K.Sink.faults l.out ≡ g.K.Sink.faults l.initial.out;
}
