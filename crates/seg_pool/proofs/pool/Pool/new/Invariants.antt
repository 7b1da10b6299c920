use Rattle.std.proofs.Common.{◌≡◌, ℕ, vec_len, vec_capacity}
use Rattle.std.specs.Prelude.{slice_index_or}
use Rattle.seg_pool.specs.declared.pool.Slot.TheVariants.{Empty}
use Rattle.seg_pool.proofs.pool.Pool.new.Given as goal

-- as many slots as were made, each empty
abbrev pub invariant-loop-made : goal.invariant-loop-made
invariant-loop-made g l = (vec_len l.slots ≡ l._made) × (vec_capacity l.slots ≡ l.room) × ((i : ℕ) → slice_index_or l.slots.items i Empty ≡ Empty)
