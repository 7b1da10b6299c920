use Rattle.std.proofs.Common.{◌≡◌, []}
use Rattle.cleaning.proofs.Going.{Underway}
use Rattle.cleaning.proofs.calls.clean_open.Given as goal

abbrev pub invariant-loop-volume : goal.invariant-loop-volume
invariant-loop-volume g l = record {
  empty : l.text.items ≡ [];
  calm : g.K.Sink.faults l.out ≡ g.K.Sink.faults l.initial.out;
  underway : Underway g.D.Disk.tells g.D.Disk.state l.config l.initial.rack l.rack l.volume (g.K.Sink.taken l.initial.out) (g.K.Sink.taken l.out);
}
