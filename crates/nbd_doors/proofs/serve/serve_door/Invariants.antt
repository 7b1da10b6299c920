use Rattle.nbd_session.specs.Turns.{StaysReady}
use Rattle.nbd_doors.specs.Doors.{AreServed}
use Rattle.nbd_doors.proofs.serve.serve_door.Given as goal

abbrev pub invariant-clients : goal.invariant-clients
invariant-clients g l = record {
  stays : StaysReady g.V.Volume.Ready g.V.Volume.home g.V.Volume.most l.initial.volume l.volume;
  served : AreServed g.G.In.Source.left g.G.In.Source.faults g.G.Out.Sink.taken g.G.Out.Sink.faults g.V.Volume.Turned l.initial.name (g.V.Volume.home l.initial.volume) (g.V.Volume.most l.initial.volume) g.G.Door.Gave l.initial.door l.initial.volume l.door l.volume;
}
