use Rattle.manager_recovery.proofs.Thinning.{IsRetiredTo}
use Rattle.manager_recovery.proofs.retiring.retire_bare.Given as goal

abbrev pub invariant-loop-k : goal.invariant-loop-k
invariant-loop-k g l = IsRetiredTo g.D.Disk.state l.shared l.fn.opening l.opening l.fn.scans.items l.scans.items l.k

abbrev pub decreases-loop-k : goal.decreases-loop-k
decreases-loop-k g l = l.k
