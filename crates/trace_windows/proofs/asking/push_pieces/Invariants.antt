use Rattle.std.proofs.Common.{◌≡◌, ◌+◌, ◌++◌, length, map}
use Rattle.msr_trace.specs.Lines.{trace_line}
use Rattle.wol_model.specs.Trace.{pieces}
use Rattle.trace_windows.specs.Requests.{numbered}
use Rattle.trace_windows.proofs.Numbering.{request_of}
use Rattle.trace_windows.proofs.asking.push_pieces.Given as goal
use Rattle.wol_config.specs.Configs.{most_of}

abbrev pub invariant-loop-piece : goal.invariant-loop-piece
invariant-loop-piece l = record {
  pushed : l.out.items ≡ l.initial.out.items ++ numbered l.next (map (request_of l.number l.volume l.line.kind) l.yielded);
  place : l.place ≡ l.next + length l.yielded;
  split : pieces l.home (most_of l.config) (trace_line l.line) ≡ l.yielded ++ l.piece-iterator;
}
