-- The writes that are counted of windows are those of the volumes' histories.
use Rattle.replay.proofs.Basics.{◌≡◌, ◌==◌, ◌<◌, ◌+◌, ◌++◌, ℕ, suc, Bool, true, false, cond, List, [], ◌∷◌, length, map, take, drop, refl}
use Rattle.replay.proofs.Basics.{sym, ap, subst, ◌∙◌, Some, is_some, not, ltb, arith, count_by, slice_get, sum_by, AllByRecursion}
use Rattle.replay.proofs.Basics.{take-append-drop, sum_by-append, sum_by-cons}
use Rattle.replay.proofs.Terms.{Write, Broke, Kept, Operation, Read, Wrote, written_by, writes, Answered, AreOutcomes, AreWritten}
use Rattle.replay.proofs.Terms.{IsWriteOf, Unanswered, WasRead, WasWritten, answered_in, is_answered, home_writes, logged_writes}
use Rattle.replay.proofs.Terms.{entries_of, answers_of, asked, Request, answers_to, told, was_logged, went_home, History, answers_in}
use Rattle.replay.proofs.Terms.{ServedWindow, outcomes_in}
use Rattle.std.proofs.lemmas.Bool.Decides.{nat_tests}
use Rattle.wol_promise.specs.Outcomes.{Outcome}
use Rattle.wol_model.specs.History as history
use Rattle.manager.specs.declared.part.Place.TheVariants as place
use Rattle.request_turns.specs.declared.outcome.Outcome as turns
use Rattle.request_turns.specs.declared.outcome.Outcome.TheVariants as outcome

-- ---- Outcomes that pass a test

module _ (passes : Outcome → Bool) where
  abbrev pub does : Answered → Bool
  does a = passes a.outcome

  pub counted_more : (x : Answered) (xs : List Answered) → count_by does (x ∷ xs) ≡ cond (does x) 1 0 + count_by does xs
  counted_more x xs = sum_by-cons (λ (y : Answered). cond (does y) 1 0) x xs

  pub joined : (xs ys : List Answered) → count_by does (xs ++ ys) ≡ count_by does xs + count_by does ys
  joined xs ys = sum_by-append (λ (y : Answered). cond (does y) 1 0) xs ys

  -- ---- Volume by volume

  -- those of the volumes below n, and those of volume n
  below : (n : ℕ) → List Answered → ℕ
  below n [] = 0
  below n (x ∷ xs) = cond (ltb x.request.volume n) (cond (does x) 1 0) 0 + below n xs

  just : (n : ℕ) → List Answered → ℕ
  just n [] = 0
  just n (x ∷ xs) = cond (x.request.volume == n) (cond (does x) 1 0) 0 + just n xs

  of_one : (n : ℕ) (xs : List Answered) → count_by does (answers_of n xs) ≡ just n xs
  unfolding just
  of_one n [] = refl
  of_one n (x ∷ xs) = at (x.request.volume == n) (of_one n xs)
    where
      at : (t : Bool) → count_by does (answers_of n xs) ≡ just n xs → count_by does (cond t (x ∷ answers_of n xs) (answers_of n xs)) ≡ cond {A = ℕ} t (cond (does x) 1 0) 0 + just n xs
      at true rest = let a = counted_more x (answers_of n xs) in omega (arith, a, rest)
      at false rest = omega (arith, rest)

  one_volume : (v n w : ℕ) → cond {A = ℕ} (ltb v (n + 1)) w 0 ≡ cond {A = ℕ} (ltb v n) w 0 + cond {A = ℕ} (v == n) w 0
  one_volume v n w = grind (arith, nat_tests)

  below_more : (n : ℕ) (xs : List Answered) → below (n + 1) xs ≡ below n xs + just n xs
  unfolding below just
  below_more n [] = refl
  below_more n (x ∷ xs) = let one = one_volume x.request.volume n (cond (does x) 1 0) in let rest = below_more n xs in omega (arith, one, rest)

  below_none : (xs : List Answered) → below 0 xs ≡ 0
  unfolding below
  below_none [] = refl
  below_none (x ∷ xs) = let none : ltb x.request.volume 0 ≡ false = grind (arith, nat_tests) in let rest = below_none xs in ap (λ (t : Bool). cond {A = ℕ} t (cond (does x) 1 0) 0 + below 0 xs) none ∙ omega (arith, rest)

  below_all : (n : ℕ) (xs : List Answered) → AllByRecursion (λ (a : Answered). a.request.volume < n) xs → below n xs ≡ count_by does xs
  unfolding below
  below_all n [] all = refl
  below_all n (x ∷ xs) (first, others) =
      let here : ltb x.request.volume n ≡ true = grind (arith, nat_tests) in
      let rest = below_all n xs others in
      let a = counted_more x xs in
      ap (λ (t : Bool). cond {A = ℕ} t (cond (does x) 1 0) 0 + below n xs) here ∙ omega (arith, a, rest)

  by_volume : (hs : List History) (worth : History → ℕ) (start : ℕ) (xs : List Answered) → ((k : ℕ) (h : History) → slice_get hs k ≡ Some h → worth h ≡ just (start + k) xs)
      → sum_by worth hs + below start xs ≡ below (start + length hs) xs
  by_volume [] worth start xs each = omega (arith, ap (λ (n : ℕ). below n xs) (let e : start + 0 ≡ start = omega arith in e))
  by_volume (h ∷ hs) worth start xs each =
      let first : worth h ≡ just start xs = each 0 h refl ∙ ap (λ (n : ℕ). just n xs) (omega arith) in
      let rest = by_volume hs worth (start + 1) xs (λ k x there. each (suc k) x there ∙ ap (λ (n : ℕ). just n xs) (omega arith)) in
      let next = below_more start xs in
      let sum = sum_by-cons worth h hs in
      let ends : below (start + length (h ∷ hs)) xs ≡ below (start + 1 + length hs) xs = ap (λ (n : ℕ). below n xs) (omega arith) in
      omega (arith, first, rest, next, sum, ends)

  -- ---- Windows

  -- a test of outcomes that is the same
  module _ (test : turns.Outcome → Bool) (same : (o : turns.Outcome) → test o ≡ passes (told o)) where
    of_window : (rs : List Request) (os : List turns.Outcome) → length os ≡ length rs → count_by test os ≡ count_by does (answers_to rs os)
    of_window [] [] sized = refl
    of_window [] (o ∷ os) sized = absurd (omega (arith, sized))
    of_window (r ∷ rs) [] sized = absurd (omega (arith, sized))
    of_window (r ∷ rs) (o ∷ os) sized =
        let here : cond {A = ℕ} (test o) 1 0 ≡ cond {A = ℕ} (passes (told o)) 1 0 = ap (λ (t : Bool). cond {A = ℕ} t 1 0) (same o) in
        let rest = of_window rs os (omega (arith, sized)) in
        let a = sum_by-cons (λ (x : turns.Outcome). cond (test x) 1 0) o os in
        let b = counted_more (record { request = asked r; outcome = told o }) (answers_to rs os) in
        omega (arith, here, rest, a, b)

    pub of_windows : (ss : List ServedWindow) → AllByRecursion (λ (s : ServedWindow). length s.answer.outcomes.items ≡ length s.batch.requests) ss → count_by test (outcomes_in ss) ≡ count_by does (answers_in ss)
    of_windows [] all = refl
    of_windows (s ∷ ss) (first, others) =
        let a = sum_by-append (λ (x : turns.Outcome). cond (test x) 1 0) s.answer.outcomes.items (outcomes_in ss) in
        let b = joined (answers_to s.batch.requests s.answer.outcomes.items) (answers_in ss) in
        let here = of_window s.batch.requests s.answer.outcomes.items first in
        let rest = of_windows ss others in
        omega (arith, a, b, here, rest)

    -- what is counted of windows is the sum of what each volume's history is worth
    pub all_counted : (ss : List ServedWindow) (hs : List History) → AllByRecursion (λ (s : ServedWindow). length s.answer.outcomes.items ≡ length s.batch.requests) ss
        → AllByRecursion (λ (a : Answered). a.request.volume < length hs) (answers_in ss)
        → (worth : History → ℕ) → ((v : ℕ) (h : History) → slice_get hs v ≡ Some h → worth h ≡ count_by does (answers_of v (answers_in ss))) → count_by test (outcomes_in ss) ≡ sum_by worth hs
    all_counted ss hs sized within worth is =
        let xs = answers_in ss in
        let each : (k : ℕ) (h : History) → slice_get hs k ≡ Some h → worth h ≡ just (0 + k) xs = λ k h there. is k h there ∙ of_one k xs ∙ ap (λ (n : ℕ). just n xs) (omega arith) in
        let sum = by_volume hs worth 0 xs each in
        let none = below_none xs in
        let whole = below_all (0 + length hs) xs (subst (λ (n : ℕ). AllByRecursion (λ (a : Answered). a.request.volume < n) xs) (let e : length hs ≡ 0 + length hs = omega arith in e) within) in
        let out = of_windows ss sized in
        omega (arith, sum, none, whole, out)

-- ---- Writes by where they went

-- an answered write that passes a test of whether it went to a log
abbrev pub writes_that : (goes : Bool → Bool) → Outcome → Bool
writes_that goes (WasRead mark) = false
writes_that goes (WasWritten logged drained) = goes logged
writes_that goes Unanswered = false

module _ (goes : Bool → Bool) where
  abbrev goes_write : Write → Bool
  goes_write w = goes (is_some w.version)

  written_more : (w : Write) (ws : List Write) → count_by goes_write (w ∷ ws) ≡ cond (goes_write w) 1 0 + count_by goes_write ws
  written_more w ws = sum_by-cons (λ (y : Write). cond (goes_write y) 1 0) w ws

  -- ---- Against a history

  same_place : (o : Outcome) (r : _) (w : Write) → IsWriteOf o r w → goes_write w ≡ writes_that goes o
  same_place (WasWritten logged drained) r w (is, payload) = ap goes payload.place
  same_place (WasRead mark) r w is = absurd is
  same_place Unanswered r w is = absurd is

  all_placed : (xs : List Answered) (ws : List Write) → AreWritten xs ws → count_by goes_write ws ≡ count_by (does (writes_that goes)) xs
  all_placed [] [] written = refl
  all_placed [] (w ∷ ws) written = absurd written
  all_placed (x ∷ xs) [] written = absurd written
  all_placed (x ∷ xs) (w ∷ ws) (first, others) =
      let here : cond (goes_write w) 1 0 ≡ cond {A = ℕ} (does (writes_that goes) x) 1 0 = ap (λ (t : Bool). cond {A = ℕ} t 1 0) (same_place x.outcome x.request w first) in
      let rest = all_placed xs ws others in
      let a = written_more w ws in
      let b = counted_more (writes_that goes) x xs in
      omega (arith, a, b, here, rest)

  placed_in : (xs : List Answered) (entries : List history.Entry) → AreOutcomes xs (map (λ (e : history.Entry). e.operation) entries) → count_by goes_write (writes entries) ≡ count_by (does (writes_that goes)) xs
  placed_in xs [] outs = ap (λ (l : List Answered). count_by (does (writes_that goes)) l) (sym outs)
  placed_in xs (e ∷ entries) outs = at e.operation xs outs (λ ys more. placed_in ys entries more)
    where
      at : (o : Operation) (ys : List Answered) → AreOutcomes ys (o ∷ map (λ (d : history.Entry). d.operation) entries) → ((zs : List Answered) → AreOutcomes zs (map (λ (d : history.Entry). d.operation) entries) → count_by goes_write (writes entries) ≡ count_by (does (writes_that goes)) zs)
          → count_by goes_write (written_by o ++ writes entries) ≡ count_by (does (writes_that goes)) ys
      at Kept ys all rest = rest ys all
      at (Broke ws) ys all rest = rest ys all
      at (Read first reply) [] all rest = absurd all
      at (Read first reply) (y ∷ ys) all rest =
          let none : cond {A = ℕ} (does (writes_that goes) y) 1 0 ≡ 0 = ap (λ (o : Outcome). cond {A = ℕ} (writes_that goes o) 1 0) all.0.marked in
          let more = rest ys all.1 in
          let here = counted_more (writes_that goes) y ys in
          omega (arith, more, here, none)
      at (Wrote ws) ys all rest =
          let n = length ws in
          let split : count_by (does (writes_that goes)) ys ≡ count_by (does (writes_that goes)) (take n ys) + count_by (does (writes_that goes)) (drop n ys) = ap (λ (l : List Answered). count_by (does (writes_that goes)) l) (sym (take-append-drop n ys)) ∙ joined (writes_that goes) (take n ys) (drop n ys) in
          let both : count_by goes_write (ws ++ writes entries) ≡ count_by goes_write ws + count_by goes_write (writes entries) = sum_by-append (λ (w : Write). cond (goes_write w) 1 0) ws (writes entries) in
          let here = all_placed (take n ys) ws all.0 in
          let more = rest (drop n ys) all.1 in
          omega (arith, split, both, here, more)

  -- the others weren't answered
  only_answered : (xs : List Answered) → count_by (does (writes_that goes)) (answered_in xs) ≡ count_by (does (writes_that goes)) xs
  only_answered [] = refl
  only_answered (x ∷ xs) = at x.outcome refl (only_answered xs)
    where
      more : cond {A = ℕ} (does (writes_that goes) x) 1 0 + count_by (does (writes_that goes)) xs ≡ count_by (does (writes_that goes)) (x ∷ xs)
      more = sym (counted_more (writes_that goes) x xs)

      at : (o : Outcome) → x.outcome ≡ o → count_by (does (writes_that goes)) (answered_in xs) ≡ count_by (does (writes_that goes)) xs → count_by (does (writes_that goes)) (answered_in (x ∷ xs)) ≡ count_by (does (writes_that goes)) (x ∷ xs)
      at (WasRead mark) is rest = ap (λ (t : Bool). count_by (does (writes_that goes)) (cond t (x ∷ answered_in xs) (answered_in xs))) (ap is_answered is) ∙ (let a = counted_more (writes_that goes) x (answered_in xs) in let b = counted_more (writes_that goes) x xs in omega (arith, a, b, rest))
      at (WasWritten logged drained) is rest = ap (λ (t : Bool). count_by (does (writes_that goes)) (cond t (x ∷ answered_in xs) (answered_in xs))) (ap is_answered is) ∙ (let a = counted_more (writes_that goes) x (answered_in xs) in let b = counted_more (writes_that goes) x xs in omega (arith, a, b, rest))
      at Unanswered is rest =
          let none : cond {A = ℕ} (does (writes_that goes) x) 1 0 ≡ 0 = ap (λ (o : Outcome). cond {A = ℕ} (writes_that goes o) 1 0) is in
          ap (λ (t : Bool). count_by (does (writes_that goes)) (cond t (x ∷ answered_in xs) (answered_in xs))) (ap is_answered is) ∙ (let b = counted_more (writes_that goes) x xs in omega (arith, b, rest, none))

  -- the writes of a volume's history
  placed_of : (v : ℕ) (answers : List Answered) (entries : List history.Entry) → AreOutcomes (answered_in (answers_of v answers)) (map (λ (e : history.Entry). e.operation) entries)
      → count_by goes_write (writes entries) ≡ count_by (does (writes_that goes)) (answers_of v answers)
  placed_of v answers entries outs = placed_in (answered_in (answers_of v answers)) entries outs ∙ only_answered (answers_of v answers)

-- ---- The whole

place_same : (o : turns.Outcome) → (was_logged o ≡ writes_that (λ t. t) (told o)) × (went_home o ≡ writes_that not (told o))
place_same (outcome.Read mark sources) = (refl, refl)
place_same (outcome.Wrote place.Home drained) = (refl, refl)
place_same (outcome.Wrote (place.Log logger) drained) = (refl, refl)
place_same (outcome.NoRead refusal) = (refl, refl)
place_same (outcome.NoWrite refusal) = (refl, refl)
place_same outcome.NotRun = (refl, refl)

-- the writes to logs and those home that are counted are those of the histories
pub record ArePlaced (ss : List ServedWindow) (hs : List History) : Type 0 where
  pub log : count_by was_logged (outcomes_in ss) ≡ sum_by (λ (h : History). logged_writes h.notes) hs
  pub home : count_by went_home (outcomes_in ss) ≡ sum_by (λ (h : History). home_writes h.notes) hs

pub counts_placed : (ss : List ServedWindow) (hs : List History) → AllByRecursion (λ (s : ServedWindow). length s.answer.outcomes.items ≡ length s.batch.requests) ss
    → AllByRecursion (λ (a : Answered). a.request.volume < length hs) (answers_in ss)
    → ((v : ℕ) (h : History) → slice_get hs v ≡ Some h → AreOutcomes (answered_in (answers_of v (answers_in ss))) (map (λ (e : history.Entry). e.operation) (entries_of h.notes))) → ArePlaced ss hs
counts_placed ss hs sized within answered = record {
  log = all_counted (writes_that (λ t. t)) was_logged (λ o. (place_same o).0) ss hs sized within (λ (h : History). logged_writes h.notes) (λ v h here. placed_of (λ t. t) v (answers_in ss) (entries_of h.notes) (answered v h here));
  home = all_counted (writes_that not) went_home (λ o. (place_same o).1) ss hs sized within (λ (h : History). home_writes h.notes) (λ v h here. placed_of not v (answers_in ss) (entries_of h.notes) (answered v h here));
}
