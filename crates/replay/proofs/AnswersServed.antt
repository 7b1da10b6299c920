-- The answers to the requests of windows, volume by volume.
use Rattle.replay.proofs.Basics.{◌≡◌, ◌==◌, ◌<◌, ◌+◌, ℕ, zero, suc, Bool, true, false, cond, List, [], ◌∷◌, ◌++◌, length, map, refl, sym}
use Rattle.replay.proofs.Basics.{ap, subst, ◌∙◌, append_assoc, append-nil, Option, arith, slice_index_or, AllByRecursion, map-append}
use Rattle.replay.proofs.Terms.{pass_number, pass_mine, IsSamePass, Operation, Wrote, Read, Kept, Broke, IsHelp, Answered, AreOutcomes}
use Rattle.replay.proofs.Terms.{answered_in, is_answered, Noted, answers_of, outcomes_join, volume_joined, asked, Request, Outcome}
use Rattle.replay.proofs.Terms.{HasClosed, ManagerPass, coded, IsClosed, answers_to, own_requests, outcomes_of, told, HasWorked, Desk}
use Rattle.replay.proofs.Terms.{Floor, Reclaim, answers_in, ServedWindow, ServedFromStart, WasServed, WereServed}
use Rattle.window_desks.specs.declared.request.Reclaim.TheVariants as reclaim

-- ---- Requests with their outcomes

no_answers : (rs : List Request) → answers_to rs [] ≡ []
no_answers [] = refl
no_answers (r ∷ rs) = refl

-- the answers to the requests of one volume
pub own_answers : (v : ℕ) (rs : List Request) (os : List Outcome) → answers_of v (answers_to rs os) ≡ answers_to (own_requests v rs) (outcomes_of v rs os)
own_answers v [] os = refl
own_answers v (r ∷ rs) [] = sym (no_answers (own_requests v (r ∷ rs)))
own_answers v (r ∷ rs) (o ∷ os) = at (r.volume == v) (own_answers v rs os)
  where
    at : (t : Bool) → answers_of v (answers_to rs os) ≡ answers_to (own_requests v rs) (outcomes_of v rs os)
        → cond t (record { request = asked r; outcome = told o } ∷ answers_of v (answers_to rs os)) (answers_of v (answers_to rs os))
        ≡ answers_to (cond t (r ∷ own_requests v rs) (own_requests v rs)) (cond t (o ∷ outcomes_of v rs os) (outcomes_of v rs os))
    at true same = ap (λ (l : List Answered). record { request = asked r; outcome = told o } ∷ l) same
    at false same = same

pub answered_joined : (xs ys : List Answered) → answered_in (xs ++ ys) ≡ answered_in xs ++ answered_in ys
answered_joined [] ys = refl
answered_joined (x ∷ xs) ys = at (is_answered x.outcome) (answered_joined xs ys)
  where
    at : (t : Bool) → answered_in (xs ++ ys) ≡ answered_in xs ++ answered_in ys
        → cond t (x ∷ answered_in (xs ++ ys)) (answered_in (xs ++ ys)) ≡ cond t (x ∷ answered_in xs) (answered_in xs) ++ answered_in ys
    at true same = ap (λ (l : List Answered). x ∷ l) same
    at false same = same

-- ---- A worker's pass

-- an entry's operation
abbrev pub operation_in : Noted → Operation
operation_in n = n.entry.operation

-- What a worker's pass added since is what these answers, of its volume, read and wrote.
pub record HasAnswers {D : Type 0} (v : ℕ) (answers : List Answered) (p q : ManagerPass D) : Type 0 where
  pub same : IsSamePass p q
  pub notes : List Noted
  pub mine : pass_mine q ≡ pass_mine p ++ map coded notes
  pub numbers : AllByRecursion (λ (n : Noted). n.entry.pass ≡ pass_number p) notes
  pub answered : AreOutcomes (answered_in (answers_of v answers)) (map operation_in notes)

pub answers_none : {D : Type 0} (v : ℕ) (p : ManagerPass D) → HasAnswers v [] p p
answers_none v p = record { same = (refl, refl); notes = []; mine = sym (append-nil (pass_mine p)); numbers = tt; answered = refl }

pub all_both : {X : Type 0} (P : X → Type 0) (xs ys : List X) → AllByRecursion P xs → AllByRecursion P ys → AllByRecursion P (xs ++ ys)
all_both P [] ys left right = right
all_both P (x ∷ xs) ys (first, others) right = (first, all_both P xs ys others right)

pub answers_both : {D : Type 0} (v : ℕ) (xs ys : List Answered) (p q r : ManagerPass D) → HasAnswers v xs p q → HasAnswers v ys q r → HasAnswers v (xs ++ ys) p r
answers_both v xs ys p q r left right = record {
  same = (right.same.0 ∙ left.same.0, right.same.1 ∙ left.same.1);
  notes = left.notes ++ right.notes;
  mine = rw (right.mine, left.mine, map-append coded left.notes right.notes) (append_assoc (pass_mine p) (map coded left.notes) (map coded right.notes));
  numbers = all_both (λ (n : Noted). n.entry.pass ≡ pass_number p) left.notes right.notes left.numbers (subst (λ (k : ℕ). AllByRecursion (λ (n : Noted). n.entry.pass ≡ k) right.notes) left.same.1 right.numbers);
  answered = rw (volume_joined v xs ys, answered_joined (answers_of v xs) (answers_of v ys), map-append operation_in left.notes right.notes)
      (outcomes_join (answered_in (answers_of v xs)) (answered_in (answers_of v ys)) (map operation_in left.notes) (map operation_in right.notes) left.answered right.answered);
}

-- an entry that changes no content answers nothing
help_answers : (o : Operation) → IsHelp o → AreOutcomes [] (o ∷ [])
help_answers Kept help = refl
help_answers (Broke ws) help = refl
help_answers (Wrote ws) help = absurd help
help_answers (Read first reply) help = absurd help

closed_answers : {D : Type 0} (tells : Bool) (v : ℕ) (fault : Option _) (p q : ManagerPass D) → HasClosed tells fault p q → HasAnswers v [] p q
closed_answers tells v fault p q closed = record {
  same = closed.turned.same;
  notes = closed.note ∷ [];
  mine = closed.turned.mine;
  numbers = (closed.turned.number, tt);
  answered = help_answers closed.note.entry.operation closed.help;
}

pub turn_answers : {D : Type 0} (tells : Bool) (mode : Reclaim) (v : ℕ) (fault : Option _) (p q : ManagerPass D) → IsClosed tells mode fault p q → HasAnswers v [] p q
turn_answers tells reclaim.Off v fault p q closed = subst (λ x. HasAnswers v [] p x) (sym closed.0) (answers_none v p)
turn_answers tells reclaim.Between v fault p q closed = closed_answers tells v fault p q closed
turn_answers tells reclaim.Beside v fault p q closed = closed_answers tells v fault p q closed

-- a window's requests, and then its reclaim turn
pub worked_answers : {D : Type 0} (tells : Bool) (rs : List Request) (os : List Outcome) (mode : Reclaim) (k : ℕ) (d e : Desk D) → HasWorked tells rs os mode k d e
    → HasAnswers k (answers_to rs os) d.worker e.worker
worked_answers {D} tells rs os mode k d e w =
    let first : HasAnswers k (answers_to rs os) d.worker w.middle = record {
      same = w.gains.same;
      notes = w.notes;
      mine = w.gains.mine;
      numbers = w.gains.numbers;
      answered = subst (λ (l : List Answered). AreOutcomes (answered_in l) (map operation_in w.notes)) (sym (own_answers k rs os)) w.answered;
    } in
    subst (λ (l : List Answered). HasAnswers k l d.worker e.worker) (append-nil (answers_to rs os)) (answers_both k (answers_to rs os) [] d.worker w.middle e.worker first (turn_answers tells mode k e.fault w.middle e.worker w.closed))

-- ---- The desks of a floor

-- a desk is there after a window, since whatever stood for one would have its number
pub desk_there : {D : Type 0} (tells : Bool) (rs : List Request) (os : List Outcome) (mode : Reclaim) (ds es : List (Desk D)) (k : ℕ) (d : Desk D)
    → ((x : Desk D) → HasWorked tells rs os mode k (slice_index_or ds k x) (slice_index_or es k x)) → k < length ds → k < length es
desk_there {D} tells rs os mode ds es k d worked lt = at es k worked
  where
    at : (ys : List (Desk D)) (j : ℕ) → ((x : Desk D) → HasWorked tells rs os mode k (slice_index_or ds k x) (slice_index_or ys j x)) → j < length ys
    at [] j all =
        let here : Desk D = slice_index_or ds k d in
        let one = (all (record d { id = (slice_index_or ds k d).id + 1 })).id in
        absurd (apart (slice_index_or ds k d).id (one ∙ ap (λ (x : Desk D). x.id) (same ds k lt (record d { id = (slice_index_or ds k d).id + 1 }) d)))
      where
        same : (xs : List (Desk D)) (i : ℕ) → i < length xs → (x y : Desk D) → slice_index_or xs i x ≡ slice_index_or xs i y
        same [] i less x y = absurd (omega (arith, less))
        same (z ∷ xs) zero less x y = refl
        same (z ∷ xs) (suc i) less x y = same xs i (omega (arith, less)) x y

        apart : (n : ℕ) → n + 1 ≡ n → ⊥
        apart n eq = omega (arith, eq)
    at (y ∷ ys) zero all = omega arith
    at (y ∷ ys) (suc j) all = let rest : j < length ys = at ys j all in omega (arith, rest)

module _ {D : Type 0} (tells : Bool) (mode : Reclaim) (k : ℕ) (d : Desk D) where
  abbrev worker_at : Floor D → ManagerPass D
  worker_at f = (slice_index_or f.desks.items k d).worker

  -- one window was served
  was_answers : (s : ServedWindow) (f : Floor D) (ps : List _) (g : Floor D) (qs : List _) → WasServed tells mode s f ps g qs → k < length f.desks.items
      → HasAnswers k (answers_to s.batch.requests s.answer.outcomes.items) (worker_at f) (worker_at g) × (k < length g.desks.items)
  was_answers s f ps g qs was lt =
      let desks : was.begun.desks ≡ f.desks = ap (λ (x : Floor D). x.desks) was.only in
      let less : k < length was.begun.desks.items = rw desks lt in
      let each = λ (x : Desk D). was.run.worked k x less in
      let here = worked_answers tells s.batch.requests s.answer.outcomes.items mode k (slice_index_or was.begun.desks.items k d) (slice_index_or g.desks.items k d) (each d) in (
        subst (λ x. HasAnswers k (answers_to s.batch.requests s.answer.outcomes.items) (slice_index_or x.items k d).worker (worker_at g)) desks here,
        desk_there tells s.batch.requests s.answer.outcomes.items mode was.begun.desks.items g.desks.items k d each less,
      )

  pub were_answers : (ss : List ServedWindow) (f : Floor D) (ps : List _) (g : Floor D) (qs : List _) → WereServed tells mode ss f ps g qs → k < length f.desks.items
      → HasAnswers k (answers_in ss) (worker_at f) (worker_at g)
  were_answers [] f ps g qs (floor, passes) lt = subst (λ (x : Floor D). HasAnswers k [] (worker_at f) (worker_at x)) (sym floor) (answers_none k (worker_at f))
  were_answers (s ∷ ss) f ps g qs (h, rs, was, others) lt =
      let (first, less) = was_answers s f ps h rs was lt in
      answers_both k (answers_to s.batch.requests s.answer.outcomes.items) (answers_in ss) (worker_at f) (worker_at h) (worker_at g) first (were_answers ss h rs g qs others less)

  pub served_answers : (ss : List ServedWindow) (f : Floor D) (ps : List _) (g : Floor D) (qs : List _) → ServedFromStart tells mode ss f ps g qs → k < length f.desks.items
      → HasAnswers k (answers_in ss) (worker_at f) (worker_at g)
  served_answers [] f ps g qs (floor, passes) lt = subst (λ (x : Floor D). HasAnswers k [] (worker_at f) (worker_at x)) (sym floor) (answers_none k (worker_at f))
  served_answers (s ∷ ss) f ps g qs (rs, started, were) lt = were_answers (s ∷ ss) f rs g qs were lt
