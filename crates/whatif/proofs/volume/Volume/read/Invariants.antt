use Rattle.std.proofs.Common.{◌≡◌, ◌≤◌, ◌-◌, ℕ, List, length, map}
use Rattle.std.specs.List.{AllByRecursion, range_with_len}
use Rattle.wol_model.specs.Index.{listed_in}
use Rattle.wol_model.specs.Journal.{SpindleState}
use Rattle.wol_promise.specs.Policy.{woken}
use Rattle.whatif.specs.Disks.{AreDisks, IsKept, moments_of}
use Rattle.whatif.specs.Machine.{all_accessed, source_of}
use Rattle.whatif.specs.Waits.{wait_on}
use Rattle.whatif.specs.Volumes.{IsVolume, IsWithin, look_in, reach_in}
use Rattle.whatif.proofs.volume.Volume.read.Given as goal

abbrev pub invariant-runs : goal.invariant-runs
invariant-runs l = record {
  few : l.done ≤ l.count;
  volume : IsVolume l.self;
  reach : reach_in l.self ≡ reach_in l.initial.self;
  store : l.self.store ≡ l.initial.self.store;
  look : look_in l.self ≡ woken (look_in l.initial.self) l.lbn l.done;
  within : IsWithin (length l.disks) (reach_in l.self);
  kept : AllByRecursion IsKept l.disks;
  moments : moments_of l.disks ≡ moments_of l.initial.disks;
  used : (t : ℕ) (ss : List SpindleState) → AreDisks l.initial.disks ss
      → AreDisks l.disks (all_accessed t (map (source_of (reach_in l.initial.self) (listed_in l.initial.self.index.entries)) (range_with_len l.lbn l.done)) ss);
  late : (t : ℕ) (ss : List SpindleState) → AreDisks l.initial.disks ss
      → l.wait ≡ wait_on t l.spin_up (map (source_of (reach_in l.initial.self) (listed_in l.initial.self.index.entries)) (range_with_len l.lbn l.done)) ss;
}

abbrev pub decreases-runs : goal.decreases-runs
decreases-runs l = l.count - l.done
