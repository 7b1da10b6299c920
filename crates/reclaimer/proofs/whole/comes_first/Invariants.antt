use Rattle.std.proofs.Common.{◌≡◌, ◌+◌, true, false, take}
use Rattle.std.specs.List.{AllByRecursion}
use Rattle.manager.specs.Reclaim.{GoesIn, lies_elsewhere}
use Rattle.manager.specs.Stands.{entries_at}
use Rattle.garbage_list.specs.Least.{is_awake}
use Rattle.reclaimer.proofs.whole.comes_first.Given as goal

abbrev pub invariant-loop-place : goal.invariant-loop-place
invariant-loop-place l =
    AllByRecursion (GoesIn l.first.lane l.first.segment l.index.entries) (take l.place l.index.entries)
    × AllByRecursion (λ e. lies_elsewhere l.first.lane l.first.segment e ≡ true → is_awake l.lanes e ≡ false) (take l.place l.index.entries)
    × (entries_at l.first.lane l.first.segment (take l.place l.index.entries) + l.left ≡ l.count)
