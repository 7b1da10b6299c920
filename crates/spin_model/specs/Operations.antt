-- The uses of a spindle as the operations of its lock. Each use has a list of numbers of its own.
use Rattle.std.specs.Prelude.{ℕ, ◌==◌, Bool, false, List, [], ◌∷◌, map, if◌then◌else◌}
use Rattle.turn_lock.specs.Histories.{Entry}
use Rattle.wol_model.specs.Journal.{Use, Started, Began, Needed, Done, Stayed, needs_after}

-- the numbers of a use
abbrev pub operation_of : Use → List ℕ
operation_of (Started at) = 1 ∷ at ∷ []
operation_of (Began at) = 2 ∷ at ∷ []
operation_of Needed = 3 ∷ []
operation_of Done = 4 ∷ []
operation_of Stayed = 5 ∷ []

-- the use that has these numbers, and Stayed where none has them
abbrev pub use_of : List ℕ → Use
use_of [] = Stayed
use_of (kind ∷ []) = if kind == 3 then Needed else if kind == 4 then Done else Stayed
use_of (kind ∷ at ∷ []) = if kind == 1 then Started at else if kind == 2 then Began at else Stayed
use_of (kind ∷ at ∷ more ∷ rest) = Stayed

-- the uses of a lock's entries, each with the number of its pass
abbrev pub uses_of : List Entry → List (ℕ × Use)
uses_of entries = map (λ (e : Entry). (e.0, use_of e.1)) entries

-- the entries of uses
abbrev pub entries_of : List (ℕ × Use) → List Entry
entries_of uses = map (λ (u : ℕ × Use). (u.0, operation_of u.1)) uses

-- whether a pass that made these entries has a token
abbrev pub has_token : List Entry → Bool
has_token entries = needs_after false (map (λ (e : Entry). use_of e.1) entries)
