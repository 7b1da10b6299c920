use Rattle.std.proofs.Common.{◌≤◌, ◌++◌, List, map, take, drop}
use Rattle.std.specs.List.{AllByRecursion}
use Rattle.wol_model.specs.Journal.{SpindleState, Began, used}
use Rattle.whatif.specs.Disks.{AreDisks, IsKept, moments_of}
use Rattle.whatif.proofs.machine.begin_disks.Given as goal

abbrev pub invariant-loop-place : goal.invariant-loop-place
invariant-loop-place l = record {
  kept : AllByRecursion IsKept l.disks;
  moments : AllByRecursion (λ t. t ≤ l.at) (moments_of l.disks);
  began : (ss : List SpindleState) → AreDisks l.initial.disks ss → AreDisks l.disks (map (λ s. used l.timeout s 0 (Began l.at)) (take l.place ss) ++ drop l.place ss);
}
