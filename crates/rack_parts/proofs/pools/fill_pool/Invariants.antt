use Rattle.rack_parts.proofs.LocksIssued.{IsFilledTo}
use Rattle.rack_parts.proofs.pools.fill_pool.Given as goal

abbrev pub invariant-loop-index : goal.invariant-loop-index
invariant-loop-index g l = IsFilledTo g.D.Disk.state l.heads l.fn.segments l.segments l.fn.pool l.pool l.index
