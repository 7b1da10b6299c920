use Rattle.std.proofs.Common.{◌-◌, ◌^◌}
use Rattle.log_cleaner.proofs.Marking.{AreMarkedBelow}
use Rattle.log_cleaner.proofs.marks.marks_of.Given as goal

abbrev pub invariant-records : goal.invariant-records
invariant-records l = AreMarkedBelow l.marks l.from l.index.entries

abbrev pub decreases-records : goal.decreases-records
decreases-records l = 2 ^ 63 - l.from
