use Rattle.std.proofs.Common.{◌≡◌, ◌<◌, ◌≤◌, ◌-◌, ◌^◌, false}
use Rattle.std.specs.List.{AllByRecursion}
use Rattle.garbage_list.specs.Least.{has_awake, from_on}
use Rattle.garbage_list.proofs.find.next_from.Given as goal

-- none of the versions so far
abbrev pub invariant-loop-version : goal.invariant-loop-version
invariant-loop-version l = record {
  none : AllByRecursion (λ e. e.listed.version < l.from → from_on l.start (has_awake l.sought l.lanes l.index.entries) e ≡ false) l.index.entries;
  above : l.start ≤ l.from;
}

abbrev pub decreases-loop-version : goal.decreases-loop-version
decreases-loop-version l = 2 ^ 64 - l.from
