-- The uses of a pool as the operations of its lock. Each use has a list of numbers of its own.
use Rattle.std.specs.Prelude.{◌==◌, ℕ, Bool, List, [], ◌∷◌, Option, None, Some, map, if◌then◌else◌}
use Rattle.turn_lock.specs.Histories.{Entry}
use Rattle.seg_pool.specs.declared.base.PoolBase.{PoolBase}
use Rattle.seg_pool.specs.Holders.{PoolUse, Took, Gave, holder, is_held_by, holds_after}

-- the numbers of a use
abbrev pub operation_of : PoolUse → List ℕ
operation_of (Took (Some index)) = 1 ∷ index ∷ []
operation_of (Took None) = 2 ∷ []
operation_of (Gave index) = 3 ∷ index ∷ []

-- the use that has these numbers, and `Took None` where none has them
abbrev pub use_of : List ℕ → PoolUse
use_of [] = Took None
use_of (kind ∷ []) = Took None
use_of (kind ∷ index ∷ []) =
    if kind == 1 then Took (Some index) else if kind == 3 then Gave index else Took None
use_of (kind ∷ index ∷ more ∷ rest) = Took None

-- the uses of a lock's entries, each with the number of its pass
abbrev pub uses_of : List Entry → List (ℕ × PoolUse)
uses_of entries = map (λ (e : Entry). (e.0, use_of e.1)) entries

-- the entries of uses
abbrev pub entries_of : List (ℕ × PoolUse) → List Entry
entries_of uses = map (λ (u : ℕ × PoolUse). (u.0, operation_of u.1)) uses

-- whether a pass that made these entries holds the segment of an index
abbrev pub holds : PoolBase → (pass : ℕ) → List Entry → (index : ℕ) → Bool
holds b pass entries index = holds_after index (is_held_by pass (holder b.holders index))
    (map (λ (e : Entry). use_of e.1) entries)

-- the use of a turn in which `take` gave this answer
abbrev pub taken : {T : Type 0} → Option (ℕ × T) → PoolUse
taken None = Took None
taken (Some pair) = Took (Some pair.0)
