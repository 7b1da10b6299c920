use Rattle.rack.proofs.Basics.{vec_len}
use Rattle.rack.proofs.Setting.{AreSpindlesPut}
use Rattle.rack.proofs.lists.Lists.put_spindles.Given as goal

abbrev pub invariant-loop-lock : goal.invariant-loop-lock
invariant-loop-lock g l = AreSpindlesPut l.fn.spindles.items l.spindles.items l.fn.self l.self

abbrev pub decreases-loop-lock : goal.decreases-loop-lock
decreases-loop-lock g l = vec_len l.spindles
