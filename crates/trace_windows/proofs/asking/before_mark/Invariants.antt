use Rattle.std.proofs.Common.{◌≡◌, ◌≤◌, ◌-◌, false, length, take}
use Rattle.std.specs.List.{list_any}
use Rattle.trace_windows.proofs.Marking.{has_mark}
use Rattle.trace_windows.proofs.asking.before_mark.Given as goal

abbrev pub invariant-loop-start : goal.invariant-loop-start
invariant-loop-start l = (l.start ≤ length l.volumes) × (list_any (has_mark l.mark) (take l.start l.volumes) ≡ false)

abbrev pub decreases-loop-start : goal.decreases-loop-start
decreases-loop-start l = length l.volumes - l.start
