use Rattle.rack.proofs.Setting.{AreDealtDown}
use Rattle.rack.proofs.lists.Lists.deal.Given as goal

abbrev pub invariant-loop-left : goal.invariant-loop-left
invariant-loop-left g l = AreDealtDown l.fn.self l.self l.left

abbrev pub decreases-loop-left : goal.decreases-loop-left
decreases-loop-left g l = l.left
