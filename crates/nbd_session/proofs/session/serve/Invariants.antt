use Rattle.std.proofs.Common.{◌≡◌}
use Rattle.nbd_session.specs.Turns.{StaysReady}
use Rattle.nbd_session.proofs.Served.{Underway}
use Rattle.nbd_session.proofs.session.serve.Given as goal

abbrev pub invariant-requests : goal.invariant-requests
invariant-requests g l = record {
  stays : StaysReady g.V.Volume.Ready g.V.Volume.home g.V.Volume.most l.initial.volume l.volume;
  underway : Underway g.V.Volume.Turned (g.V.Volume.home l.initial.volume) (g.V.Volume.most l.initial.volume) l.initial.volume (g.S.Source.left l.initial.input) (g.K.Sink.taken l.initial.out) l.request l.volume (g.S.Source.left l.input) (g.K.Sink.taken l.out);
  calm_source : g.S.Source.faults l.input ≡ g.S.Source.faults l.initial.input;
  calm_sink : g.K.Sink.faults l.out ≡ g.K.Sink.faults l.initial.out;
}
