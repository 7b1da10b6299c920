use Rattle.std.proofs.Common.{◌≡◌, ◌≤◌, ◌++◌, length, map}
use Rattle.std.specs.Prelude.{All}
use Rattle.msr_trace.specs.Lines.{trace_line}
use Rattle.wol_model.specs.Trace.{pieces}
use Rattle.solo.specs.Requests.{piece_request}
use Rattle.solo.specs.Served.{Answered, IsSettled, content_after, content_of}
use Rattle.solo.proofs.line.run_line.Given as goal
use Rattle.wol_model.specs.TraceLaws.{LiesIn}

abbrev pub invariant-loop-piece : goal.invariant-loop-piece
invariant-loop-piece g l = record {
  size : (g.D.Disk.state l.part).size ≡ (g.D.Disk.state l.initial.part).size;
  settled : IsSettled (g.D.Disk.state l.part).values;
  values : content_of (g.D.Disk.state l.part).values ≡ content_after (map (piece_request l.number l.line.kind) l.yielded) (content_of (g.D.Disk.state l.initial.part).values);
  answered : Answered (content_of (g.D.Disk.state l.initial.part).values) (map (piece_request l.number l.line.kind) l.yielded) (g.K.Sink.taken l.initial.out) (g.K.Sink.taken l.out);
  split : pieces l.home 128 (trace_line l.line) ≡ l.yielded ++ l.piece-iterator;
  lie : All (LiesIn l.home 128) l.piece-iterator;
  count : l.count ≡ length l.yielded;
  room : length l.blocks ≡ 128;
  disk_later : (g.D.Disk.state l.initial.part).faults ≤ (g.D.Disk.state l.part).faults;
  later : g.K.Sink.faults l.initial.out ≤ g.K.Sink.faults l.out;
  disk_calm : (g.D.Disk.state l.part).faults ≡ (g.D.Disk.state l.initial.part).faults;
  sink_calm : g.K.Sink.faults l.out ≡ g.K.Sink.faults l.initial.out;
}
