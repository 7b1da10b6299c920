use Rattle.std.proofs.Common.{◌≡◌, ◌≤◌, ◌*◌, ◌^◌, List, take}
use Rattle.wol_model.specs.Journal.{SpindleState}
use Rattle.whatif.specs.Disks.{AreDisks}
use Rattle.whatif.specs.Machine.{all_sleeps, all_units, all_wakes}
use Rattle.whatif.proofs.machine.sum_up.Given as goal

abbrev pub invariant-loop-place : goal.invariant-loop-place
invariant-loop-place l = record {
  few_wakes : 10000 * l.sums.wakes ≤ l.place * 2 ^ 64;
  few_sleeps : 10000 * l.sums.sleeps ≤ l.place * 2 ^ 64;
  few_units : l.sums.units ≤ l.place * 2 ^ 110;
  wakes : (ss : List SpindleState) → AreDisks l.disks ss → l.sums.wakes ≡ all_wakes (take l.place ss);
  sleeps : (ss : List SpindleState) → AreDisks l.disks ss → l.sums.sleeps ≡ all_sleeps (take l.place ss);
  units : (ss : List SpindleState) → AreDisks l.disks ss → l.sums.units ≡ all_units l.powers (take l.place ss) l.to;
}
