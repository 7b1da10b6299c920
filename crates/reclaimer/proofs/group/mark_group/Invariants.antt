use Rattle.reclaimer.proofs.MarkedSoFar.{MarkedSoFar}
use Rattle.reclaimer.proofs.group.mark_group.Given as goal

abbrev pub invariant-loop-laid : goal.invariant-loop-laid
invariant-loop-laid g l = MarkedSoFar g.D.Disk.tells g.D.Disk.state l.initial.m l.m l.group l.laid-index l.blocks
