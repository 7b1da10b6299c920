use Rattle.manager_recovery.proofs.Held.{IsHeldTo}
use Rattle.manager_recovery.proofs.holding.hold_all.Given as goal

abbrev pub invariant-loop-scan : goal.invariant-loop-scan
invariant-loop-scan g l = IsHeldTo g.D.Disk.state l.shared l.fn.opening l.opening l.fn.scans l.scan-index
