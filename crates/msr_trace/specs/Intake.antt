-- Bytes that are taken from a source and held until they are given.
use Rattle.std.specs.Prelude.{◌≡◌, ◌≤◌, ℕ, Bool, List, ◌++◌, Option}
use Rattle.std.specs.Io.KnownBytes.{Keeps, prepend_known}

-- the source, the bytes that are held, and whether the source has told that nothing is left
pub record Held (S : Type 0) : Type 0 where
  pub source : S
  pub bytes : List ℕ
  pub ended : Bool

-- what is held, and what is left where the source tells it
abbrev pub to_give : {S : Type 0} → (S → Option (List ℕ)) → Held S → Option (List ℕ)
to_give left h = prepend_known h.bytes (left h.source)

-- bytes may have been taken, and none was given
pub record Takes {S : Type 0} (left : S → Option (List ℕ)) (faults borrow : S → ℕ)
    (old new : Held S) : Type 0 where
  pub kept : Keeps (to_give left old) (to_give left new)
  pub more : (more : List ℕ) × (new.bytes ≡ old.bytes ++ more)
  pub later : faults old.source ≤ faults new.source
  pub same_borrow : borrow new.source ≡ borrow old.source
