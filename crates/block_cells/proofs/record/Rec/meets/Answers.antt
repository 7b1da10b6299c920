use Rattle.std.proofs.Common.{arith}
use Rattle.block_cells.proofs.Meeting.{meets_none, meets_some}
use Rattle.block_cells.proofs.record.Rec.meets.Goals as goal

pub returns-then-kept-ne0 : goal.returns-then-kept-ne0
returns-then-kept-ne0 c = meets_some c.args.self.now.lbn c.args.self.now.keep c.args.lbn c.args.count c.saturating_sub-before.result c.moved-kept.result _ _
    (record { gap = c.saturating_sub-before.ensures; fits = omega arith; bits = c.moved-kept.ensures }) c.if-kept-ne0.true (omega arith) (omega arith) (simp c.from.ensures at c.saturating_add.ensures) c.from-then-kept-ne0.ensures

pub returns-else-kept-ne0 : goal.returns-else-kept-ne0
returns-else-kept-ne0 c = meets_none c.args.self.now.lbn c.args.self.now.keep c.args.lbn c.args.count c.saturating_sub-before.result c.moved-kept.result
    (record { gap = c.saturating_sub-before.ensures; fits = omega arith; bits = c.moved-kept.ensures }) c.if-kept-ne0.false
