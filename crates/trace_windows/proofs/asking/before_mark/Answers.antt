use Rattle.std.proofs.Common.{arith, sym, ◌∙◌}
use Rattle.trace_windows.proofs.Marking.{none_more}
use Rattle.trace_windows.proofs.asking.before_mark.Goals as goal

pub loop-start-preserved : goal.loop-start-preserved
loop-start-preserved c =
    (omega arith, none_more c.args.mark c.args.volumes.now c.loop-start.start c.loop-start.invariant.1 (sym c.have_mark_among.ensures ∙ c.if-have_mark_among.false))
