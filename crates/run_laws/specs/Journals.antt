-- Laws of the time that a spindle's journal covers.
use Rattle.std.specs.Prelude.{◌≡◌, ◌≢◌, ◌≤◌, ◌⊎◌, ◌==◌, ℕ, Bool, true, false, List, [], ◌∷◌, map}
use Rattle.std.specs.List.{filter, AllByRecursion}
use Rattle.wol_model.specs.Journal.{Use, Started, Began, Needed, Done, Stayed, SpindleState, new_spindle, spindle_after, used}
use Rattle.wol_promise.specs.Spindle.{keeper_uses}

-- the uses of one pass among those of a spindle
abbrev pub uses_by : (pass : ℕ) → List (ℕ × Use) → List Use
uses_by pass uses = map (λ (u : ℕ × Use). u.1) (filter (λ (u : ℕ × Use). u.0 == pass) uses)

-- each use of another pass is one of an access
abbrev pub OthersAccess : (keeper : ℕ) → List (ℕ × Use) → Type 0
OthersAccess keeper uses =
    AllByRecursion (λ (u : ℕ × Use). u.0 ≢ keeper → (u.1 ≡ Needed) ⊎ (u.1 ≡ Done)) uses

-- the answer of a use that is this pass's, before the answers of the later ones: a Began tells
-- whether the disk is awake then
abbrev pub answer_then : (own : Bool) → Use → (awake : Bool) → List Bool → List Bool
answer_then true (Began at) awake rest = awake ∷ rest
answer_then true (Started at) awake rest = rest
answer_then true Needed awake rest = rest
answer_then true Done awake rest = rest
answer_then true Stayed awake rest = rest
answer_then false u awake rest = rest

-- whether the disk was awake behind each Began of this pass, in order
abbrev pub answers_by : (timeout : ℕ) → SpindleState → (pass : ℕ) → List (ℕ × Use) → List Bool
answers_by timeout s pass [] = []
answers_by timeout s pass (u ∷ uses) = answer_then (u.0 == pass) u.1 (used timeout s u.0 u.1).awake
    (answers_by timeout (used timeout s u.0 u.1) pass uses)

-- where the keeper began the account, and windows up to its end, a spindle's time is that of the
-- account
abbrev pub AccountCovers : Type 0
AccountCovers = (timeout keeper start ended : ℕ) (moments : List ℕ) (uses : List (ℕ × Use))
    → OthersAccess keeper uses → uses_by keeper uses ≡ keeper_uses start moments
    → start ≤ ended → AllByRecursion (λ m. m ≤ ended) moments
    → ((spindle_after timeout new_spindle uses).from ≡ start)
    × ((spindle_after timeout new_spindle uses).now ≤ ended)

-- where it began none, no time went by
abbrev pub NoAccount : Type 0
NoAccount = (timeout keeper : ℕ) (uses : List (ℕ × Use)) → OthersAccess keeper uses
    → uses_by keeper uses ≡ []
    → ((spindle_after timeout new_spindle uses).from ≡ 0)
    × ((spindle_after timeout new_spindle uses).now ≡ 0)
