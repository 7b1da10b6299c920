use Rattle.std.proofs.Common.{◌≡◌, []}
use Rattle.inspection.proofs.AsPrinted.{ArePrintedSo}
use Rattle.inspection.proofs.calls.print_volumes.Given as goal

abbrev pub invariant-loop-number : goal.invariant-loop-number
invariant-loop-number g l = record {
  empty : l.text.items ≡ [];
  calm : g.K.Sink.faults l.out ≡ g.K.Sink.faults l.initial.out;
  printed : ArePrintedSo g.D.Disk.tells g.D.Disk.state l.config l.asked l.initial.rack l.rack l.findings l.found l.number l.first (g.K.Sink.taken l.initial.out) (g.K.Sink.taken l.out);
}
