use Rattle.std.proofs.Common.{◌-◌, ◌^◌}
use Rattle.log_cleaner.proofs.Dropping.{NoneLiveBelow}
use Rattle.log_cleaner.proofs.giving.is_covered.Given as goal

abbrev pub invariant-records : goal.invariant-records
invariant-records l = NoneLiveBelow l.lane l.segment l.from l.index.entries

abbrev pub decreases-records : goal.decreases-records
decreases-records l = 2 ^ 63 - l.from
