-- The answered requests of a volume are its first ones: all of the windows that went well, and the first ones of the window behind them.
use Rattle.replay.proofs.Basics.{◌≡◌, ◌==◌, ◌<◌, ◌≤◌, ℕ, Bool, true, false, cond, List, [], ◌∷◌, ◌++◌, length, take, refl, sym, ap, subst}
use Rattle.replay.proofs.Basics.{◌∙◌, append-nil, Option, None, Some, arith, slice_index_or, if◌then◌else◌, list_any, AllByRecursion}
use Rattle.replay.proofs.Basics.{option_or}
use Rattle.replay.proofs.Terms.{Answered, answered_in, is_answered, Noted, answers_of, AreFirst, AreAllAnswered, firsts_join, volume_joined}
use Rattle.replay.proofs.Terms.{Place, Fault, Memory, asked, Request, AreEntriesOf, AreMade, Outcome, answers_to, own_requests, outcomes_of}
use Rattle.replay.proofs.Terms.{StopsAtRefusal, told, HasWorked, Desk, Floor, Reclaim, Window, fault_of_outcome, fault_of_window}
use Rattle.replay.proofs.Terms.{fault_of_reclaim, first_refused, lacked_memory, answers_in, ServedWindow, ServedFromStart, WasServed}
use Rattle.replay.proofs.Terms.{WereServed, WentWell}
use Rattle.replay.proofs.AnswersServed.{own_answers, all_both, desk_there}
use Rattle.replay.proofs.Grouped.{all_wrote, answered_then, made_by_cases, stops_behind}
use Rattle.manager.specs.declared.part.WriteRefusal.TheVariants as write
use Rattle.request_turns.specs.declared.outcome.Outcome.TheVariants as outcome

-- ---- One window

-- nothing is answered behind a refused request
pub none_behind : (rs : List Request) (os : List Outcome) → StopsAtRefusal false os → answered_in (answers_to rs os) ≡ []
none_behind [] os stops = refl
none_behind (r ∷ rs) [] stops = refl
none_behind (r ∷ rs) (outcome.Read mark sources ∷ os) stops = absurd (cc (stops.0))
none_behind (r ∷ rs) (outcome.Wrote place drained ∷ os) stops = absurd (cc (stops.0))
none_behind (r ∷ rs) (outcome.NoRead refusal ∷ os) stops = none_behind rs os stops.1
none_behind (r ∷ rs) (outcome.NoWrite refusal ∷ os) stops = none_behind rs os stops.1
none_behind (r ∷ rs) (outcome.NotRun ∷ os) stops = none_behind rs os stops.1

pub first_answered : (rs : List Request) (os : List Outcome) → StopsAtRefusal true os → answered_in (answers_to rs os) ≡ take (length (answered_in (answers_to rs os))) (answers_to rs os)
first_answered [] os stops = refl
first_answered (r ∷ rs) [] stops = refl
first_answered (r ∷ rs) (outcome.Read mark sources ∷ os) stops = ap (λ (l : List Answered). record { request = asked r; outcome = told (outcome.Read mark sources) } ∷ l) (first_answered rs os stops.1)
first_answered (r ∷ rs) (outcome.Wrote place drained ∷ os) stops = ap (λ (l : List Answered). record { request = asked r; outcome = told (outcome.Wrote place drained) } ∷ l) (first_answered rs os stops.1)
first_answered (r ∷ rs) (outcome.NoRead refusal ∷ os) stops = rw (none_behind rs os stops.1) refl
first_answered (r ∷ rs) (outcome.NoWrite refusal ∷ os) stops = rw (none_behind rs os stops.1) refl
first_answered (r ∷ rs) (outcome.NotRun ∷ os) stops = rw (none_behind rs os stops.1) refl

request_answered : (view : List ℕ) (r : Request) (rs : List Request) (o : Outcome) (os : List Outcome) (first : List Noted) → AreEntriesOf view r rs o first → StopsAtRefusal true (o ∷ os) → first_refused (r ∷ rs) (o ∷ os) ≡ None
    → (StopsAtRefusal true os → first_refused rs os ≡ None → AreAllAnswered (answers_to rs os)) → AreAllAnswered (answers_to (r ∷ rs) (o ∷ os))
request_answered view r rs (outcome.Read mark sources) os first entries stops none further = (refl, further stops.1 none)
request_answered view r rs (outcome.Wrote place drained) os first entries stops none further = (refl, further stops.1 none)
request_answered view r rs (outcome.NoRead refusal) os first entries stops none further = absurd (cc none)
request_answered view r rs (outcome.NoWrite write.Full) os first (n, is_one, full) stops none further = absurd full.1
request_answered view r rs (outcome.NoWrite (write.DiskFault p)) os first entries stops none further = absurd (cc none)
request_answered view r rs (outcome.NoWrite (write.Down p)) os first entries stops none further = absurd (cc none)
request_answered view r rs (outcome.NoWrite write.VersionsSpent) os first entries stops none further = absurd (cc none)
request_answered view r rs (outcome.NoWrite write.NoMemory) os first entries stops none further = absurd (cc none)
request_answered view r rs outcome.NotRun os first entries stops none further = absurd (cc (stops.0))

-- nothing is told of several writes in one entry
refused_behind : (group rs : List Request) (place : Place) (os : List Outcome) → first_refused (group ++ rs) (all_wrote (length group) place ++ os) ≡ first_refused rs os
refused_behind [] rs place os = refl
refused_behind (r ∷ group) rs place os = refused_behind group rs place os

-- where nothing was refused, all requests were answered
pub all_answered : (view : List ℕ) (rs : List Request) (os : List Outcome) (notes : List Noted) → AreMade view rs os notes → StopsAtRefusal true os → first_refused rs os ≡ None → AreAllAnswered (answers_to rs os)
all_answered view rs os notes made =
    made_by_cases view (λ rs os notes. StopsAtRefusal true os → first_refused rs os ≡ None → AreAllAnswered (answers_to rs os)) (λ stops none. tt)
    (λ r rs o os first rest entries others further stops none. request_answered view r rs o os first entries stops none further)
    (λ group rs place os n rest two entry further stops none. answered_then group rs place os (further (stops_behind (length group) place os stops) (sym (refused_behind group rs place os) ∙ none)))
    rs os notes made

no_refused : (rs : List Request) → first_refused rs [] ≡ None
no_refused [] = refl
no_refused (r ∷ rs) = refl

or_none : (x y : Option Fault) → option_or x y ≡ None → (x ≡ None) × (y ≡ None)
or_none None y none = (refl, none)
or_none (Some f) y none = absurd (cc none)

-- none of a volume was refused
pub own_refused : (v : ℕ) (rs : List Request) (os : List Outcome) → first_refused rs os ≡ None → first_refused (own_requests v rs) (outcomes_of v rs os) ≡ None
own_refused v [] os none = refl
own_refused v (r ∷ rs) [] none = no_refused (own_requests v (r ∷ rs))
own_refused v (r ∷ rs) (o ∷ os) none = let (here, rest) = or_none (fault_of_outcome r.volume o) (first_refused rs os) none in at (r.volume == v) here (own_refused v rs os rest)
  where
    at : (t : Bool) → fault_of_outcome r.volume o ≡ None → first_refused (own_requests v rs) (outcomes_of v rs os) ≡ None
        → first_refused (cond t (r ∷ own_requests v rs) (own_requests v rs)) (cond t (o ∷ outcomes_of v rs os) (outcomes_of v rs os)) ≡ None
    at true here rest = rw (here, rest) refl
    at false here rest = rest

-- where a window went well no request was refused
pub well_refused : (rs : List Request) (w : Window) → fault_of_window rs w ≡ None → first_refused rs w.outcomes.items ≡ None
well_refused rs w well = at (list_any lacked_memory w.outcomes.items) well
  where
    at : (t : Bool) → (if t then Some Memory else option_or (first_refused rs w.outcomes.items) (fault_of_reclaim w.fault)) ≡ None → first_refused rs w.outcomes.items ≡ None
    at true none = absurd (cc none)
    at false none = (or_none (first_refused rs w.outcomes.items) (fault_of_reclaim w.fault) none).0

module _ {D : Type 0} (tells : Bool) (mode : Reclaim) (k : ℕ) (rs : List Request) (w : Window) (d e : Desk D) (worked : HasWorked tells rs w.outcomes.items mode k d e) where
  -- those of one volume
  pub window_answered : fault_of_window rs w ≡ None → AreAllAnswered (answers_of k (answers_to rs w.outcomes.items))
  window_answered well = rw (own_answers k rs w.outcomes.items)
      (all_answered _ (own_requests k rs) (outcomes_of k rs w.outcomes.items) worked.notes worked.made worked.stops (own_refused k rs w.outcomes.items (well_refused rs w well)))

  pub window_first : AreFirst k (answers_to rs w.outcomes.items)
  window_first =
      subst (λ (l : List Answered). answered_in l ≡ take (length (answered_in l)) l) (sym (own_answers k rs w.outcomes.items)) (first_answered (own_requests k rs) (outcomes_of k rs w.outcomes.items) worked.stops)

-- ---- Windows in a row

-- all windows before the last went well
pub data EndsWell : List ServedWindow → Type 0 where
  never : EndsWell []
  here : (s : ServedWindow) → EndsWell (s ∷ [])
  later : (s : ServedWindow) (ss : List ServedWindow) → WentWell s → EndsWell ss → EndsWell (s ∷ ss)

pub ends_well : (earlier last : List ServedWindow) → AllByRecursion WentWell earlier → length last ≤ 1 → EndsWell (earlier ++ last)
ends_well [] [] well one = never
ends_well [] (s ∷ []) well one = here s
ends_well [] (s ∷ t ∷ last) well one = absurd (omega (arith, one))
ends_well (s ∷ earlier) last (first, others) one = later s (earlier ++ last) first (ends_well earlier last others one)

pub answers_more : (v : ℕ) (s : ServedWindow) (ss : List ServedWindow) → answers_of v (answers_in (s ∷ ss)) ≡ answers_of v (answers_to s.batch.requests s.answer.outcomes.items) ++ answers_of v (answers_in ss)
answers_more v s ss = volume_joined v (answers_to s.batch.requests s.answer.outcomes.items) (answers_in ss)

module _ {D : Type 0} (tells : Bool) (mode : Reclaim) (k : ℕ) (d : Desk D) where
  pub was_worked : (s : ServedWindow) (f : Floor D) (ps : List _) (g : Floor D) (qs : List _) (was : WasServed tells mode s f ps g qs) → k < length f.desks.items
      → HasWorked tells s.batch.requests s.answer.outcomes.items mode k (slice_index_or was.begun.desks.items k d) (slice_index_or g.desks.items k d) × (k < length g.desks.items)
  was_worked s f ps g qs was lt =
      let desks : was.begun.desks ≡ f.desks = ap (λ (x : Floor D). x.desks) was.only in
      let less : k < length was.begun.desks.items = rw desks lt in
      let each = λ (x : Desk D). was.run.worked k x less in
      (each d, desk_there tells s.batch.requests s.answer.outcomes.items mode was.begun.desks.items g.desks.items k d each less)

  -- all requests of windows that went well were answered
  pub were_answered : (ss : List ServedWindow) (f : Floor D) (ps : List _) (g : Floor D) (qs : List _) → WereServed tells mode ss f ps g qs → AllByRecursion WentWell ss → k < length f.desks.items
      → AreAllAnswered (answers_of k (answers_in ss))
  were_answered [] f ps g qs were well lt = tt
  were_answered (s ∷ ss) f ps g qs (h, rs, was, others) (first, rest) lt =
      let (worked, less) = was_worked s f ps h rs was lt in
      rw (answers_more k s ss)
      (all_both (λ (a : Answered). is_answered a.outcome ≡ true) (answers_of k (answers_to s.batch.requests s.answer.outcomes.items)) (answers_of k (answers_in ss))
      (window_answered tells mode k s.batch.requests s.answer (slice_index_or was.begun.desks.items k d) (slice_index_or h.desks.items k d) worked first)
      (were_answered ss h rs g qs others rest less))

  -- the answered ones of windows all but the last of which went well are the first ones
  pub were_first : (ss : List ServedWindow) (f : Floor D) (ps : List _) (g : Floor D) (qs : List _) → WereServed tells mode ss f ps g qs → EndsWell ss → k < length f.desks.items → AreFirst k (answers_in ss)
  were_first [] f ps g qs were never lt = refl
  were_first (s ∷ []) f ps g qs (h, rs, was, others) (here _) lt =
      let (worked, less) = was_worked s f ps h rs was lt in
      subst (λ (l : List Answered). AreFirst k l) (sym (append-nil (answers_to s.batch.requests s.answer.outcomes.items)))
      (window_first tells mode k s.batch.requests s.answer (slice_index_or was.begun.desks.items k d) (slice_index_or h.desks.items k d) worked)
  were_first (s ∷ ss) f ps g qs (h, rs, was, others) (later _ _ first rest) lt =
      let (worked, less) = was_worked s f ps h rs was lt in
      firsts_join k (answers_to s.batch.requests s.answer.outcomes.items) (answers_in ss)
      (window_answered tells mode k s.batch.requests s.answer (slice_index_or was.begun.desks.items k d) (slice_index_or h.desks.items k d) worked first)
      (were_first ss h rs g qs others rest less)

  pub served_first : (ss : List ServedWindow) (f : Floor D) (ps : List _) (g : Floor D) (qs : List _) → ServedFromStart tells mode ss f ps g qs → EndsWell ss → k < length f.desks.items → AreFirst k (answers_in ss)
  served_first [] f ps g qs served well lt = refl
  served_first (s ∷ ss) f ps g qs (rs, started, were) well lt = were_first (s ∷ ss) f rs g qs were well lt

  pub served_answered : (ss : List ServedWindow) (f : Floor D) (ps : List _) (g : Floor D) (qs : List _) → ServedFromStart tells mode ss f ps g qs → AllByRecursion WentWell ss → k < length f.desks.items
      → AreAllAnswered (answers_of k (answers_in ss))
  served_answered [] f ps g qs served well lt = tt
  served_answered (s ∷ ss) f ps g qs (rs, started, were) well lt = were_answered (s ∷ ss) f rs g qs were well lt
