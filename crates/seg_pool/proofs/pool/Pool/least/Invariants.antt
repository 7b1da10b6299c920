use Rattle.std.proofs.Common.{◌≡◌, ◌<◌, ℕ, None}
use Rattle.seg_pool.specs.Pools.{item_at}
use Rattle.seg_pool.proofs.pool.Pool.least.Given as goal

abbrev pub invariant-loop-index : goal.invariant-loop-index
invariant-loop-index g l = (i : ℕ) → i < l.index → item_at l.self i ≡ None
