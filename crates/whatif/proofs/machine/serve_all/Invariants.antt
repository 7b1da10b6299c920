use Rattle.std.proofs.Common.{◌+◌, length, map, take}
use Rattle.whatif.specs.Machine.{asking}
use Rattle.whatif.specs.Stands.{AreReady, HaveTurned, HaveWaited}
use Rattle.whatif.specs.Waits.{AreFewIn}
use Rattle.whatif.proofs.machine.serve_all.Given as goal

abbrev pub invariant-loop-place : goal.invariant-loop-place
invariant-loop-place l = record {
  ready : AreReady l.volumes l.disks (l.asked + l.place) l.moment;
  tallies : AreFewIn (length l.initial.volumes) (l.asked + l.place) l.tallies;
  waited : HaveWaited l.wake (take l.place l.asks) l.initial.volumes l.initial.disks l.initial.tallies l.tallies;
  turned : HaveTurned (map asking (take l.place l.asks)) l.initial.volumes l.initial.disks l.volumes l.disks;
}
