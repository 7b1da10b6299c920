use Rattle.manager_recovery.proofs.ScanAll.{IsUpTo}
use Rattle.manager_recovery.proofs.scanning.scan_all.Given as goal

abbrev pub invariant-loop-k : goal.invariant-loop-k
invariant-loop-k g l = IsUpTo g.D.Disk.tells g.D.Disk.state l.shared l.fn.opening l.opening l.k l.scans.items
