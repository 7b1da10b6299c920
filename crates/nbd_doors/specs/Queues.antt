-- Doors in memory.
use Rattle.std.specs.Prelude.{◌≡◌, ◌∷◌, [], List, Option, None, Some}

-- the first of these was given, and the others are left; or there was none
abbrev pub GivesFirst : {T : Type 0} → (old : List T) → Option T → (new : List T) → Type 0
GivesFirst old (Some first) new = old ≡ first ∷ new
GivesFirst old None new = (old ≡ []) × (new ≡ [])
