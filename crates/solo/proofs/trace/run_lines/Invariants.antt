use Rattle.std.proofs.Common.{◌≡◌, ◌≤◌, ◌+◌, ◌*◌, length, true}
use Rattle.msr_trace.specs.Reading.{pending}
use Rattle.solo.specs.Volume.{target_of}
use Rattle.solo.specs.Served.{content_of}
use Rattle.solo.proofs.Running.{SoFar}
use Rattle.solo.proofs.trace.run_lines.Given as goal

abbrev pub invariant-loop : goal.invariant-loop
invariant-loop g l = record {
  so_far : SoFar (target_of l.volume) (pending g.S.Source.left l.initial.lines) (content_of (g.D.Disk.state l.initial.part).values) (g.K.Sink.taken l.initial.out) l.lines.given (pending g.S.Source.left l.lines) l.tally (g.D.Disk.state l.part).values (g.K.Sink.taken l.out);
  live : l.lines.live ≡ true;
  turns : l.lines.given ≡ l.counter;
  lines : l.tally.lines ≡ l.lines.given;
  others : l.tally.blank + l.tally.skipped ≤ l.lines.given;
  requests : l.tally.reads + l.tally.writes ≤ 131073 * l.lines.given;
  few : l.lines.given ≤ 4294967296;
  size : (g.D.Disk.state l.part).size ≡ (g.D.Disk.state l.initial.part).size;
  room : length l.blocks ≡ 128;
  same_borrow : g.S.Source.borrow l.lines.source ≡ g.S.Source.borrow l.initial.lines.source;
  source_later : g.S.Source.faults l.initial.lines.source ≤ g.S.Source.faults l.lines.source;
  disk_later : (g.D.Disk.state l.initial.part).faults ≤ (g.D.Disk.state l.part).faults;
  later : g.K.Sink.faults l.initial.out ≤ g.K.Sink.faults l.out;
  source_calm : g.S.Source.faults l.lines.source ≡ g.S.Source.faults l.initial.lines.source;
  disk_calm : (g.D.Disk.state l.part).faults ≡ (g.D.Disk.state l.initial.part).faults;
  sink_calm : g.K.Sink.faults l.out ≡ g.K.Sink.faults l.initial.out;
}
