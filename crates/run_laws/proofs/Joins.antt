-- Answers of windows one after the other.
use Rattle.std.proofs.Common.{◌≡◌, ℕ, zero, suc, Bool, true, false, cond, List, [], ◌∷◌, ◌++◌, refl, sym, ap, subst, ◌∙◌, length, take, drop}
use Rattle.std.specs.Prelude.{⊤}
use Rattle.std.specs.List.{AllByRecursion}
use Rattle.wol_model.specs.Blocks.{Write}
use Rattle.wol_model.specs.History.{Wrote, Read, Kept, Broke}
use Rattle.wol_promise.specs.Outcomes.{Answered, AreOutcomes, AreWritten, answered_in, is_answered}
use Rattle.run_laws.specs.Answers.{answers_of}
use Rattle.run_laws.specs.Laws.{FirstsJoin, OutcomesJoin}
use Rattle.run_laws.proofs.ReadLines.{volume_joined}

-- as many answers are there as writes
front_written : (xs ys : List Answered) (ws : List Write) → AreWritten (take (length ws) xs) ws → (take (length ws) (xs ++ ys) ≡ take (length ws) xs) × (drop (length ws) (xs ++ ys) ≡ drop (length ws) xs ++ ys)
front_written xs ys [] written = (refl, refl)
front_written [] ys (w ∷ ws) written = absurd written
front_written (x ∷ xs) ys (w ∷ ws) written = let rest = front_written xs ys ws written.1 in (ap (λ (l : List Answered). x ∷ l) rest.0, rest.1)

pub outcomes_join : OutcomesJoin
outcomes_join xs ys [] ps left right = subst (λ (l : List Answered). AreOutcomes (l ++ ys) ps) (sym left) right
outcomes_join xs ys (Kept ∷ os) ps left right = outcomes_join xs ys os ps left right
outcomes_join xs ys (Broke ws ∷ os) ps left right = outcomes_join xs ys os ps left right
outcomes_join xs ys (Wrote ws ∷ os) ps left right =
    let front = front_written xs ys ws left.0 in (
      subst (λ (l : List Answered). AreWritten l ws) (sym front.0) left.0,
      subst (λ (l : List Answered). AreOutcomes l (os ++ ps)) (sym front.1) (outcomes_join (drop (length ws) xs) ys os ps left.1 right),
    )
outcomes_join [] ys (Read first reply ∷ os) ps left right = absurd left
outcomes_join (x ∷ xs) ys (Read first reply ∷ os) ps left right = (left.0, outcomes_join xs ys os ps left.1 right)

false_true : {X : Type 0} → false ≡ true → X
false_true e = absurd (subst (λ (t : Bool). cond t ⊥ ⊤) e tt)

-- behind answered ones
answered_behind : (xs ys : List Answered) → AllByRecursion (λ (a : Answered). is_answered a.outcome ≡ true) xs → answered_in (xs ++ ys) ≡ xs ++ answered_in ys
answered_behind [] ys all = refl
answered_behind (x ∷ xs) ys all = at (answered_behind xs ys all.1) (is_answered x.outcome) all.0
  where
    at : answered_in (xs ++ ys) ≡ xs ++ answered_in ys → (t : Bool) → t ≡ true → cond t (x ∷ answered_in (xs ++ ys)) (answered_in (xs ++ ys)) ≡ x ∷ (xs ++ answered_in ys)
    at further true so = ap (λ (l : List Answered). x ∷ l) further
    at further false so = false_true so

take_behind : {X : Type 0} (k : ℕ) (xs ys : List X) → take (length (xs ++ take k ys)) (xs ++ ys) ≡ xs ++ take (length (take k ys)) ys
take_behind k [] ys = refl
take_behind k (x ∷ xs) ys = ap (λ l. x ∷ l) (take_behind k xs ys)

take_taken : {X : Type 0} (k : ℕ) (ys : List X) → take (length (take k ys)) ys ≡ take k ys
take_taken zero ys = refl
take_taken (suc k) [] = refl
take_taken (suc k) (y ∷ ys) = ap (λ l. y ∷ l) (take_taken k ys)

pub firsts_join : FirstsJoin
firsts_join v xs ys all first =
    let X = answers_of v xs in
    let Y = answers_of v ys in
    let k = length (answered_in Y) in
    let joined : answered_in (answers_of v (xs ++ ys)) ≡ X ++ take k Y = ap answered_in (volume_joined v xs ys) ∙ (answered_behind X Y all ∙ ap (λ (l : List Answered). X ++ l) first) in
    joined ∙ sym (
    (λ i. take (length (joined i)) (volume_joined v xs ys i))
    ∙ take_behind k X Y
    ∙ ap (λ (l : List Answered). X ++ l) (take_taken k Y))
