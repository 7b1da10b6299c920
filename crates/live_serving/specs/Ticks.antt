-- Moments one after another.
use Rattle.std.specs.Prelude.{◌≡◌, ◌≤◌, ◌∷◌, ℕ, Bool, List, [], Option, None, Some, max}

-- a moment came that is none before the last, and it is the last now; without one nothing changed
abbrev pub GoesOn : (last : ℕ) → Option ℕ → (last' : ℕ) → Type 0
GoesOn last (Some t) last' = (last ≤ t) × (last' ≡ t)
GoesOn last None last' = last' ≡ last

-- moments from this one on, none of which is before the one before it, up to that one
abbrev pub AreInOrder : (first : ℕ) → List (ℕ × List Bool) → (last : ℕ) → Type 0
AreInOrder first [] last = first ≤ last
AreInOrder first ((t, awake) ∷ moments) last = (first ≤ t) × AreInOrder t moments last

-- moments that are to come, and the last that came
pub record Coming : Type 0 where
  pub coming : List ℕ
  pub last : ℕ

-- the first of them came, or the last one again where that is later
abbrev pub GivesFirst : Coming → Option ℕ → Coming → Type 0
GivesFirst old (Some t) new =
    (m : ℕ) × (old.coming ≡ m ∷ new.coming) × (t ≡ max m old.last) × (new.last ≡ t)
GivesFirst old None new = (old.coming ≡ []) × (new ≡ old)
