use Rattle.std.proofs.Common.{◌≡◌, ◌++◌, List, length, map, take, drop}
use Rattle.std.specs.List.{AllByRecursion}
use Rattle.wol_model.specs.Journal.{SpindleState}
use Rattle.whatif.specs.Disks.{AreDisks}
use Rattle.whatif.specs.Machine.{seeing}
use Rattle.whatif.specs.Stands.{IsAmong}
use Rattle.whatif.specs.Volumes.{volume_in}
use Rattle.whatif.proofs.machine.show_disks.Given as goal

abbrev pub invariant-loop-place : goal.invariant-loop-place
invariant-loop-place l = record {
  volumes : AllByRecursion (IsAmong (length l.disks) l.asked) l.volumes;
  seen : (ss : List SpindleState) → AreDisks l.disks ss
      → map volume_in l.volumes ≡ map (seeing ss) (take l.place (map volume_in l.initial.volumes)) ++ drop l.place (map volume_in l.initial.volumes);
}
