use Rattle.rack_parts.proofs.Basics.{vec_len}
use Rattle.rack_parts.proofs.PoolsEmptied.{AreEndedTo}
use Rattle.rack_parts.proofs.pools.end_pools.Given as goal

abbrev pub invariant-loop-issued : goal.invariant-loop-issued
invariant-loop-issued g l = AreEndedTo g.D.Disk.state l.fn.images l.images l.fn.made.items l.made.items

abbrev pub decreases-loop-issued : goal.decreases-loop-issued
decreases-loop-issued g l = vec_len l.made
