-- Laws of a pool's uses and operations.
use Rattle.std.specs.Prelude.{◌≡◌, ℕ, List, [], ◌∷◌, ◌++◌}
use Rattle.turn_lock.specs.Histories.{Entry, own}
use Rattle.seg_pool.specs.declared.base.PoolBase.{PoolBase}
use Rattle.seg_pool.specs.Holders.{PoolUse, holder, ArePoolUses, is_held_by, holds_after}
use Rattle.seg_pool.specs.Operations.{operation_of, use_of, uses_of, holds}
use Rattle.seg_pool.specs.Pools.{holders_after}

-- the numbers of a use are read back as that use, so no two uses have the same
abbrev pub OperationsDiffer : Type 0
OperationsDiffer = (u : PoolUse) → use_of (operation_of u) ≡ u

-- a pass holds an index from when it took it until it gave it; other uses change nothing of it
abbrev pub HoldsAfterUse : Type 0
HoldsAfterUse = (b : PoolBase) (entries : List Entry) (pass index : ℕ) (u : PoolUse)
    → holds b pass (entries ++ (pass, operation_of u) ∷ []) index
    ≡ holds_after index (holds b pass entries index) (u ∷ [])

-- whether a pass holds an index follows from its own entries
abbrev pub HeldByOwnEntries : Type 0
HeldByOwnEntries = (b : PoolBase) (entries : List Entry) (pass index : ℕ)
    → ArePoolUses b.holders (uses_of entries)
    → is_held_by pass (holder (holders_after b entries) index)
    ≡ holds b pass (own pass entries) index
