use Rattle.std.proofs.Common.{map}
use Rattle.std.specs.List.{range_with_len}
use Rattle.whatif.specs.Machine.{tidying}
use Rattle.whatif.specs.Stands.{AreReady, HaveTurned}
use Rattle.whatif.proofs.machine.reclaim_all.Given as goal

abbrev pub invariant-loop-number : goal.invariant-loop-number
invariant-loop-number l = record {
  ready : AreReady l.volumes l.disks l.asked l.moment;
  turned : HaveTurned (map tidying (range_with_len 0 l.number)) l.initial.volumes l.initial.disks l.volumes l.disks;
}
