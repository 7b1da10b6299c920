-- The accesses that passes begin at spindles, and which of them may wake a disk.
use Rattle.std.specs.Prelude.{ℕ, Bool, true, false, List, ◌∷◌, map}
use Rattle.std.specs.List.{count_by}
use Rattle.wol_model.specs.Journal.{Use, Started, Began, Needed, Done, Stayed}

-- the use begins an access
abbrev pub is_need : Use → Bool
is_need Needed = true
is_need Done = false
is_need (Started at) = false
is_need (Began at) = false
is_need Stayed = false

-- the accesses that a pass's own uses began
abbrev pub needs_in : (mine : List Use) → ℕ
needs_in mine = count_by is_need mine

-- the keeper's entries since opening: one Started at the account's start, then one Began for each
-- window's moment in order
abbrev pub keeper_uses : (start : ℕ) → (moments : List ℕ) → List Use
keeper_uses start moments = Started start ∷ map Began moments
