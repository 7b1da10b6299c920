-- How many of its requests each volume answered, and why not all.
use Rattle.replay.proofs.Basics.{◌≡◌, ◌≢◌, ◌<◌, ◌≤◌, ◌^◌, ℕ, Bool, true, false, cond, List, [], ◌∷◌, ◌++◌, length, refl, sym, ap, subst}
use Rattle.replay.proofs.Basics.{◌∙◌, length-append, arith, IsTrue, flat_map-append}
use Rattle.replay.proofs.Terms.{Answered, answered_in, is_answered, of_volume, answered_count, answers_of, requests_in, AreAllAnswered}
use Rattle.replay.proofs.Terms.{length_mapped, volume_joined, volume_requests, answers_to, History, CountAnswered, answers_in, is_broken_at}
use Rattle.replay.proofs.Terms.{next_at, ServedWindow}
use Rattle.replay.proofs.AnswersServed.{all_both, answered_joined}

shorter : (xs : List Answered) → length (answered_in xs) ≤ length xs
shorter [] = omega arith
shorter (x ∷ xs) = at (is_answered x.outcome) (shorter xs)
  where
    at : (t : Bool) → length (answered_in xs) ≤ length xs → length (cond t (x ∷ answered_in xs) (answered_in xs)) ≤ length (x ∷ xs)
    at true le = omega (arith, le)
    at false le = omega (arith, le)

pub all_there : (xs : List Answered) → AreAllAnswered xs → answered_in xs ≡ xs
all_there [] all = refl
all_there (x ∷ xs) (first, others) = at (is_answered x.outcome) first (all_there xs others)
  where
    at : (t : Bool) → t ≡ true → answered_in xs ≡ xs → cond t (x ∷ answered_in xs) (answered_in xs) ≡ x ∷ xs
    at true is same = ap (λ l. x ∷ l) same
    at false is same = absurd (cc is)

pub answers_joined : (earlier last : List ServedWindow) → answers_in (earlier ++ last) ≡ answers_in earlier ++ answers_in last
answers_joined earlier last = flat_map-append (λ (s : ServedWindow). answers_to s.batch.requests s.answer.outcomes.items) earlier last

module _ (answers : List Answered) (v : ℕ) where
  of_volume_count : length (of_volume v (requests_in answers)) ≡ length (answers_of v answers)
  of_volume_count = ap length (sym (volume_requests v answers)) ∙ length_mapped (λ (a : Answered). a.request) (answers_of v answers)

  pub within_count : answered_count answers v ≤ length (of_volume v (requests_in answers))
  within_count = let short = shorter (answers_of v answers) in omega (arith, short, of_volume_count)

  pub all_count : AreAllAnswered (answers_of v answers) → answered_count answers v ≡ length (of_volume v (requests_in answers))
  all_count all = ap length (all_there (answers_of v answers) all) ∙ sym of_volume_count

-- those of the windows before the last are among them
before_count : (earlier last : List Answered) (v : ℕ) → AreAllAnswered (answers_of v earlier) → length (of_volume v (requests_in earlier)) ≤ answered_count (earlier ++ last) v
before_count earlier last v all =
    let joined : answered_count (earlier ++ last) v ≡ length (answered_in (answers_of v earlier) ++ answered_in (answers_of v last))
    = ap (λ l. length (answered_in l)) (volume_joined v earlier last) ∙ ap length (answered_joined (answers_of v earlier) (answers_of v last)) in
    let both = length-append (answered_in (answers_of v earlier)) (answered_in (answers_of v last)) in
    let here = all_count earlier v all in
    omega (arith, joined, both, here)

module _ (earlier last : List ServedWindow) (histories : List History) (well : (v : ℕ) → AreAllAnswered (answers_of v (answers_in earlier))) where
  abbrev answers : List Answered
  answers = answers_in (earlier ++ last)

  before_last : (v : ℕ) → length (of_volume v (requests_in (answers_in earlier))) ≤ answered_count answers v
  before_last v = subst (λ l. length (of_volume v (requests_in (answers_in earlier))) ≤ answered_count l v) (sym (answers_joined earlier last)) (before_count (answers_in earlier) (answers_in last) v (well v))

  -- all of the last window were answered too
  pub counts_whole : (status : ℕ) → ((v : ℕ) → AreAllAnswered (answers_of v (answers_in last))) → CountAnswered (answers_in earlier) answers status histories
  counts_whole status all = record {
    within = λ v. within_count answers v;
    windows_before = before_last;
    unless = λ v other memory part versions. each v;
    at_0 = λ v is. each v;
  }
    where
      each : (v : ℕ) → answered_count answers v ≡ length (of_volume v (requests_in answers))
      each v = all_count answers v (subst (λ l. AreAllAnswered (answers_of v l)) (sym (answers_joined earlier last))
          (subst AreAllAnswered (sym (volume_joined v (answers_in earlier) (answers_in last)))
          (all_both (λ (a : Answered). is_answered a.outcome ≡ true) (answers_of v (answers_in earlier)) (answers_of v (answers_in last)) (well v) (all v))))

  -- the sink failed, or there was no memory
  pub counts_cut : (status : ℕ) → status ≢ 0 → ((status ≢ 7) → (status ≢ 9) → ⊥) → CountAnswered (answers_in earlier) answers status histories
  counts_cut status not_0 cut = record {
    within = λ v. within_count answers v;
    windows_before = before_last;
    unless = λ v other memory part versions. absurd (cut other memory);
    at_0 = λ v is. absurd (not_0 is);
  }

  -- a request or a step of reclaim was refused
  pub counts_refused : (status : ℕ) → status ≢ 0
      → ((v : ℕ) → status ≢ 9 → (IsTrue (is_broken_at histories v) → ⊥) → next_at histories v < 2 ^ 63 → AreAllAnswered (answers_of v (answers_in last)))
      → CountAnswered (answers_in earlier) answers status histories
  counts_refused status not_0 all = record {
    within = λ v. within_count answers v;
    windows_before = before_last;
    unless = λ v other memory part versions. all_count answers v (subst (λ l. AreAllAnswered (answers_of v l)) (sym (answers_joined earlier last))
        (subst AreAllAnswered (sym (volume_joined v (answers_in earlier) (answers_in last)))
        (all_both (λ (a : Answered). is_answered a.outcome ≡ true) (answers_of v (answers_in earlier)) (answers_of v (answers_in last)) (well v) (all v memory part versions))));
    at_0 = λ v is. absurd (not_0 is);
  }
