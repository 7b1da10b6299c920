use Rattle.std.proofs.Common.{arith}
use Rattle.block_cells.proofs.Counting.{counted}
use Rattle.block_cells.proofs.record.Rec.runs.Goals as goal

pub loop-i-preserved : goal.loop-i-preserved
loop-i-preserved c = (counted c.args.self.now.keep c.args.self.now.count c.loop-i.i c.loop-i.runs c.begins-runs.result _ c.loop-i.before c.loop-i-test.true c.loop-i.invariant.0 c.begins-runs.ensures.value, omega arith)
