use Rattle.std.proofs.Common.{◌/◌, ◌%◌}
use Rattle.std.proofs.lemmas.Nat.{mod_below}
use Rattle.msr_trace.specs.Lines.{trace_line}
use Rattle.msr_trace.proofs.Runs.{line_run, run_lies}
use Rattle.msr_trace.proofs.format.Line.pieces.Goals as goal

pub returns : goal.returns
returns c = record {
  content = rw c.within.ensures (line_run c.args.home c.args.most c.blocks_touched.result (trace_line c.args.self.now) c.blocks_touched.ensures.touched c.blocks_touched.ensures.none);
  lies = rw c.within.ensures (run_lies c.blocks_touched.result c.args.home c.args.most (c.args.self.now.offset / 512 % c.args.home) c.blocks_touched.result c.requires.most (mod_below (c.args.self.now.offset / 512) c.args.home c.requires.home));
}
