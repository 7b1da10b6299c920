use Rattle.std.proofs.Common.{◌≡◌, length, map}
use Rattle.std.specs.List.{AllByRecursion, range_with_len}
use Rattle.whatif.specs.Machine.{first_volume}
use Rattle.whatif.specs.Policies.{reach_of}
use Rattle.whatif.specs.Stands.{IsAmong}
use Rattle.whatif.specs.Volumes.{volume_in}
use Rattle.whatif.proofs.machine.volumes_of.Given as goal

abbrev pub invariant-loop-number : goal.invariant-loop-number
invariant-loop-number l = record {
  count : length l.made.items ≡ l.number;
  all : AllByRecursion (IsAmong (length l.volumes) 0) l.made.items;
  made : map volume_in l.made.items ≡ map (λ n. first_volume l.whole (reach_of l.policy l.volumes n)) (range_with_len 0 l.number);
}
