-- The entries of requests by cases, and what the outcomes of several writes in one entry say.
use Rattle.replay.proofs.Basics.{◌≡◌, ◌≤◌, ℕ, zero, suc, true, false, List, [], ◌∷◌, ◌++◌, length, replicate, refl, sym, ap, subst, arith}
use Rattle.replay.proofs.Terms.{Answered, Noted, AreAllAnswered, Place, asked, Request, AreEntriesOf, AreMade, IsGroupEntry, none, one}
use Rattle.replay.proofs.Terms.{several, Outcome, StopsAtRefusal, answers_to, told}
use Rattle.request_turns.specs.declared.outcome.Outcome.TheVariants as outcome

-- so many writes went there together
abbrev pub all_wrote : ℕ → Place → List Outcome
all_wrote n place = replicate n (outcome.Wrote place false)

-- ---- By cases

-- What holds where no request was made, then of one request more, and of several more in one entry, holds of what was made.
pub made_by_cases : (view : List ℕ) (P : List Request → List Outcome → List Noted → Type 0) → P [] [] []
    → ((r : Request) (rs : List Request) (o : Outcome) (os : List Outcome) (first rest : List Noted) → AreEntriesOf view r rs o first → AreMade view rs os rest → P rs os rest → P (r ∷ rs) (o ∷ os) (first ++ rest))
    → ((group rs : List Request) (place : Place) (os : List Outcome) (n : Noted) (rest : List Noted) → 2 ≤ length group → IsGroupEntry view group place n → P rs os rest → P (group ++ rs) (all_wrote (length group) place ++ os) (n ∷ rest))
    → (rs : List Request) (os : List Outcome) (notes : List Noted) → AreMade view rs os notes → P rs os notes
made_by_cases view P no_request request group _ _ _ none = no_request
made_by_cases view P no_request request group _ _ _ (one r rs o os notes first rest notes_is entries others) =
    subst (λ (l : List Noted). P (r ∷ rs) (o ∷ os) l) (sym notes_is) (request r rs o os first rest entries others (made_by_cases view P no_request request group rs os rest others))
made_by_cases view P no_request request group _ _ _ (several all outcomes notes gs rs place os n rest two all_is outcomes_is notes_is entry others) =
    subst (λ (l : List Request). P l outcomes notes) (sym all_is)
    (subst (λ (l : List Outcome). P (gs ++ rs) l notes) (sym outcomes_is)
    (subst (λ (l : List Noted). P (gs ++ rs) (all_wrote (length gs) place ++ os) l) (sym notes_is)
    (group gs rs place os n rest two entry (made_by_cases view P no_request request group rs os rest others))))

-- ---- Several writes in one entry

-- their answers, and behind them those of further requests
abbrev pub wrote_all : List Request → Place → List Answered
wrote_all group place = answers_to group (all_wrote (length group) place)

pub answers_behind : (group rs : List Request) (place : Place) (os : List Outcome) → answers_to (group ++ rs) (all_wrote (length group) place ++ os) ≡ wrote_all group place ++ answers_to rs os
answers_behind [] rs place os = refl
answers_behind (r ∷ group) rs place os = ap (λ (l : List Answered). record { request = asked r; outcome = told (outcome.Wrote place false) } ∷ l) (answers_behind group rs place os)

-- all were answered
pub all_wrote_answered : (group : List Request) (place : Place) → AreAllAnswered (wrote_all group place)
all_wrote_answered [] place = tt
all_wrote_answered (r ∷ group) place = (refl, all_wrote_answered group place)

pub answered_then : (group rs : List Request) (place : Place) (os : List Outcome) → AreAllAnswered (answers_to rs os) → AreAllAnswered (answers_to (group ++ rs) (all_wrote (length group) place ++ os))
answered_then [] rs place os all = all
answered_then (r ∷ group) rs place os all = (refl, answered_then group rs place os all)

pub answered_rest : (group rs : List Request) (place : Place) (os : List Outcome) → AreAllAnswered (answers_to (group ++ rs) (all_wrote (length group) place ++ os)) → AreAllAnswered (answers_to rs os)
answered_rest [] rs place os all = all
answered_rest (r ∷ group) rs place os all = answered_rest group rs place os all.1

-- the requests behind them are run
pub stops_behind : (n : ℕ) (place : Place) (os : List Outcome) → StopsAtRefusal true (all_wrote n place ++ os) → StopsAtRefusal true os
stops_behind zero place os stops = stops
stops_behind (suc n) place os stops = stops_behind n place os stops.1

-- none is behind a refused one
pub none_stopped : (n : ℕ) (place : Place) (os : List Outcome) → 1 ≤ n → StopsAtRefusal false (all_wrote n place ++ os) → ⊥
none_stopped zero place os some stops = absurd (omega (arith, some))
none_stopped (suc n) place os some stops = absurd (cc (stops.0))
