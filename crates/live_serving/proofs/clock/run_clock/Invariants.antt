use Rattle.live_serving.specs.Moments.{CanTick, hands}
use Rattle.live_serving.proofs.Still.{SoFar}
use Rattle.live_serving.proofs.clock.run_clock.Given as goal

abbrev pub invariant-moments : goal.invariant-moments
invariant-moments g l = record {
  ready : CanTick l.initial.locks l.initial.shared (hands l.spindles l.keepers l.helpers) l.room.fault;
  so : SoFar g.T.Ticks.Gave g.T.Ticks.last g.D.Disk.tells l.initial.ticks (hands l.initial.spindles l.initial.keepers l.initial.helpers) l.ticks (hands l.spindles l.keepers l.helpers);
}
