use Rattle.std.proofs.Common.{length}
use Rattle.window_desks.specs.Stations.{AreLeaving}
use Rattle.window_desks.proofs.setting.take_down.Given as goal

abbrev pub invariant-loop-lock : goal.invariant-loop-lock
invariant-loop-lock g l = AreLeaving l.fn.locks.items l.fn.passes l.locks.items (record { desks = l.desks; helpers = l.helpers; keepers = l.keepers; help = l.fn.passes.help; work = l.fn.passes.work; room = l.room })

abbrev pub decreases-loop-lock : goal.decreases-loop-lock
decreases-loop-lock g l = length l.locks.items
