use Rattle.std.proofs.Common.{◌≡◌, ℕ, None, All, vec_len}
use Rattle.seg_pool.specs.Pools.{item_in}
use Rattle.seg_pool.specs.declared.pool.Slot.{Slot}
use Rattle.seg_pool.proofs.pool.Pool.destroy_empty.Given as goal

-- no slot that is left has an item
abbrev pub invariant-loop-slot : goal.invariant-loop-slot
invariant-loop-slot g l = record { none : All (λ s. item_in s ≡ None) l.slots.items }

abbrev pub decreases-loop-slot : goal.decreases-loop-slot
decreases-loop-slot g l = vec_len l.slots
