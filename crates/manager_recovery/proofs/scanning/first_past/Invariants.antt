use Rattle.std.proofs.Common.{◌+◌, ◌≤◌, take}
use Rattle.std.specs.List.{AllByRecursion}
use Rattle.log_scan.specs.declared.Found.{Found}
use Rattle.manager_recovery.proofs.scanning.first_past.Given as goal

abbrev pub invariant-loop-one : goal.invariant-loop-one
invariant-loop-one l = AllByRecursion (λ (f : Found). f.head.lbn + f.head.count ≤ l.home) (take l.one-index l.found)
