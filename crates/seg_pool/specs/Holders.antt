-- Who has each segment of a volume's log, as passes take segments from its pool and give them back.
use Rattle.std.specs.Prelude.{⊤, ◌≡◌, ◌≢◌, ◌==◌, ℕ, Bool, true, false, List, [], ◌∷◌, Option, None, Some, slice_index_or, slice_set, if◌then◌else◌}
use Rattle.seg_pool.specs.declared.base.Holder.{Holder}
use Rattle.seg_pool.specs.declared.base.Holder.TheVariants.{Elsewhere, InPool, HeldBy}

-- what a pass does at a pool: it takes the segment of an index, or none; or it gives one back
pub data PoolUse : Type 0 where
  Took : (index : Option ℕ) → PoolUse
  Gave : (index : ℕ) → PoolUse

-- who has the segment of an index
abbrev pub holder : List Holder → (index : ℕ) → Holder
holder holders index = slice_index_or holders index Elsewhere

-- the holders after a pass's use
abbrev pub pool_used : List Holder → (pass : ℕ) → PoolUse → List Holder
pool_used holders pass (Took None) = holders
pool_used holders pass (Took (Some index)) = slice_set holders index (HeldBy pass)
pool_used holders pass (Gave index) = slice_set holders index InPool

-- none is taken only where none is free; a segment is taken from the pool, and given by the pass
-- that holds it
abbrev pub MayUsePool : List Holder → (pass : ℕ) → PoolUse → Type 0
MayUsePool holders pass (Took None) = (index : ℕ) → holder holders index ≢ InPool
MayUsePool holders pass (Took (Some index)) = holder holders index ≡ InPool
MayUsePool holders pass (Gave index) = holder holders index ≡ HeldBy pass

-- the holders after passes' uses
abbrev pub pool_after : List Holder → List (ℕ × PoolUse) → List Holder
pool_after holders [] = holders
pool_after holders (u ∷ uses) = pool_after (pool_used holders u.0 u.1) uses

-- uses that may follow one another
abbrev pub ArePoolUses : List Holder → List (ℕ × PoolUse) → Type 0
ArePoolUses holders [] = ⊤
ArePoolUses holders (u ∷ uses) =
    MayUsePool holders u.0 u.1 × ArePoolUses (pool_used holders u.0 u.1) uses

-- whether the segment is free
abbrev pub is_in_pool : Holder → Bool
is_in_pool InPool = true
is_in_pool (HeldBy pass) = false
is_in_pool Elsewhere = false

-- whether that pass has the segment
abbrev pub is_held_by : (pass : ℕ) → Holder → Bool
is_held_by pass InPool = false
is_held_by pass (HeldBy p) = p == pass
is_held_by pass Elsewhere = false

-- whether a pass that made these uses holds the segment of an index, where it held it before or not
abbrev pub holds_after : (index : ℕ) → (held : Bool) → List PoolUse → Bool
holds_after index held [] = held
holds_after index held (Took None ∷ uses) = holds_after index held uses
holds_after index held (Took (Some i) ∷ uses) =
    holds_after index (if i == index then true else held) uses
holds_after index held (Gave i ∷ uses) = holds_after index (if i == index then false else held) uses
