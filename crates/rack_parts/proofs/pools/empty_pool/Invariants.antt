use Rattle.rack_parts.proofs.PoolsEmptied.{AreMovedInto, free_count}
use Rattle.rack_parts.proofs.pools.empty_pool.Given as goal

abbrev pub invariant-loop-index : goal.invariant-loop-index
invariant-loop-index g l = AreMovedInto l.fn.pool l.pool l.fn.image l.image

abbrev pub decreases-loop-index : goal.decreases-loop-index
decreases-loop-index g l = free_count l.pool.slots.items
