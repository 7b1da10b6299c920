use Rattle.std.proofs.Common.{length}
use Rattle.window_desks.specs.Stations.{AreMoving}
use Rattle.window_desks.proofs.setting.move_all.Given as goal

abbrev pub invariant-loop-station : goal.invariant-loop-station
invariant-loop-station g l = record {
  moving : AreMoving l.fn.passes.room.items l.locks l.passes;
}

abbrev pub decreases-loop-station : goal.decreases-loop-station
decreases-loop-station g l = length l.passes.room.items
