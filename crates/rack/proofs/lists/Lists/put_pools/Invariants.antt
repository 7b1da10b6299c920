use Rattle.rack.proofs.Basics.{vec_len}
use Rattle.rack.proofs.Setting.{ArePoolsPut}
use Rattle.rack.proofs.lists.Lists.put_pools.Given as goal

abbrev pub invariant-loop-lock : goal.invariant-loop-lock
invariant-loop-lock g l = ArePoolsPut l.fn.pools.items l.pools.items l.fn.self l.self

abbrev pub decreases-loop-lock : goal.decreases-loop-lock
decreases-loop-lock g l = vec_len l.pools
