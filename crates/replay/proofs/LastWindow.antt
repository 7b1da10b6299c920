-- In the last window all requests of a volume were answered, but where a part of it failed, its versions ended or there was no memory.
use Rattle.replay.proofs.Basics.{◌≡◌, ◌≢◌, ◌<◌, ◌≤◌, ◌==◌, ◌^◌, ℕ, zero, suc, Bool, true, false, cond, List, [], ◌∷◌, ◌++◌, length, map}
use Rattle.replay.proofs.Basics.{Option, Some, refl, sym, ap, subst, ◌∙◌, append_assoc, append-nil, arith, slice_index_or, if◌then◌else◌}
use Rattle.replay.proofs.Basics.{◌||◌, list_any, AllByRecursion, option_or}
use Rattle.replay.proofs.Terms.{Entry, Begins, own, pass_mine, pass_seen, worker, Noted, answers_of, AreAllAnswered, notes_of, Place}
use Rattle.replay.proofs.Terms.{StepFault, Fault, Memory, Request, AreEntriesOf, AreMade, TellsFault, ManagerPass, IsBroken, coded}
use Rattle.replay.proofs.Terms.{notes_seen, Outcome, broken_more, down_breaks, gains_turn, notes_joined, IsClosed, answers_to, own_requests}
use Rattle.replay.proofs.Terms.{outcomes_of, StopsAtRefusal, HasWorked, Desk, Floor, Reclaim, Window, fault_of_reclaim, fault_of_window}
use Rattle.replay.proofs.Terms.{first_refused, lacked_memory, ServedFromStart, ServedWindow, WereServed}
use Rattle.replay.proofs.AnswersServed.{own_answers}
use Rattle.replay.proofs.EntriesOwn.{all_mine, notes_back}
use Rattle.replay.proofs.FirstsServed.{was_worked}
use Rattle.replay.proofs.Grouped.{all_wrote, answered_then, made_by_cases, stops_behind}
use Rattle.manager.specs.declared.part.ReadRefusal.TheVariants as read
use Rattle.manager.specs.declared.part.WriteRefusal.TheVariants as write
use Rattle.request_turns.specs.declared.outcome.Outcome.TheVariants as outcome
use Rattle.window_desks.specs.declared.request.Reclaim.TheVariants as reclaim

-- ---- Refused requests

-- the next version that an entry leaves
abbrev pub IsBelow : ℕ → Noted → Type 0
IsBelow most n = n.look.next ≤ most

pub part_right : {X : Type 0} (P : X → Type 0) (xs ys : List X) → AllByRecursion P (xs ++ ys) → AllByRecursion P ys
part_right P [] ys all = all
part_right P (x ∷ xs) ys all = part_right P xs ys all.1

pub part_left : {X : Type 0} (P : X → Type 0) (xs ys : List X) → AllByRecursion P (xs ++ ys) → AllByRecursion P xs
part_left P [] ys all = tt
part_left P (x ∷ xs) ys all = (all.0, part_left P xs ys all.1)

module _ (view : List ℕ) (seen : List Noted) (most : ℕ) (few : most < 2 ^ 63) (whole : IsBroken seen → ⊥) where
  request_unless : (r : Request) (rs : List Request) (o : Outcome) (os : List Outcome) (first : List Noted) → AreEntriesOf view r rs o first → StopsAtRefusal true (o ∷ os) → TellsFault seen o
      → list_any lacked_memory (o ∷ os) ≡ false → AllByRecursion (IsBelow most) first → (StopsAtRefusal true os → list_any lacked_memory os ≡ false → AreAllAnswered (answers_to rs os)) → AreAllAnswered (answers_to (r ∷ rs) (o ∷ os))
  request_unless r rs (outcome.Read mark sources) os first entries stops fault memory below further = (refl, further stops.1 memory)
  request_unless r rs (outcome.Wrote place drained) os first entries stops fault memory below further = (refl, further stops.1 memory)
  request_unless r rs (outcome.NoRead (read.DiskFault p)) os first entries stops fault memory below further = absurd (whole (down_breaks p seen fault))
  request_unless r rs (outcome.NoRead (read.Down p)) os first entries stops fault memory below further = absurd (whole (down_breaks p seen fault))
  request_unless r rs (outcome.NoWrite write.Full) os first (n, is_one, full) stops fault memory below further = absurd full.1
  request_unless r rs (outcome.NoWrite (write.DiskFault p)) os first entries stops fault memory below further = absurd (whole (down_breaks p seen fault))
  request_unless r rs (outcome.NoWrite (write.Down p)) os first entries stops fault memory below further = absurd (whole (down_breaks p seen fault))
  request_unless r rs (outcome.NoWrite write.VersionsSpent) os first (n, is_one, spent) stops fault memory below further =
      let here : AllByRecursion (IsBelow most) (n ∷ []) = subst (λ l. AllByRecursion (IsBelow most) l) is_one below in
      let low : n.look.next ≤ most = here.0 in
      let next : n.look.next ≡ 2 ^ 63 = spent.1.1 in
      absurd (omega (arith, low, next, few))
  request_unless r rs (outcome.NoWrite write.NoMemory) os first entries stops fault memory below further = absurd (cc memory)
  request_unless r rs outcome.NotRun os first entries stops fault memory below further = absurd (cc (stops.0))

  -- several writes in one entry lacked no memory
  memory_behind : (n : ℕ) (place : Place) (os : List Outcome) → list_any lacked_memory (all_wrote n place ++ os) ≡ list_any lacked_memory os
  memory_behind zero place os = refl
  memory_behind (suc n) place os = memory_behind n place os

  all_unless : (rs : List Request) (os : List Outcome) (notes : List Noted) → AreMade view rs os notes → StopsAtRefusal true os → AllByRecursion (TellsFault seen) os → list_any lacked_memory os ≡ false
      → AllByRecursion (IsBelow most) notes → AreAllAnswered (answers_to rs os)
  all_unless rs os notes made =
      made_by_cases view (λ rs os notes. StopsAtRefusal true os → AllByRecursion (TellsFault seen) os → list_any lacked_memory os ≡ false → AllByRecursion (IsBelow most) notes → AreAllAnswered (answers_to rs os))
      (λ stops faults memory below. tt)
      (λ r rs o os first rest entries others further stops faults memory below.
      request_unless r rs o os first entries stops faults.0 memory (part_left (IsBelow most) first rest below) (λ on none. further on faults.1 none (part_right (IsBelow most) first rest below)))
      (λ group rs place os n rest two entry further stops faults memory below.
      answered_then group rs place os
      (further (stops_behind (length group) place os stops) (part_right (TellsFault seen) (all_wrote (length group) place) os faults) (sym (memory_behind (length group) place os) ∙ memory) below.1)) rs os notes made

-- ---- Want of memory

or_false : (x y : Bool) → (x || y) ≡ false → (x ≡ false) × (y ≡ false)
or_false true y is = absurd (cc is)
or_false false y is = (refl, is)

own_memory : (v : ℕ) (rs : List Request) (os : List Outcome) → list_any lacked_memory os ≡ false → list_any lacked_memory (outcomes_of v rs os) ≡ false
own_memory v [] os none = refl
own_memory v (r ∷ rs) [] none = refl
own_memory v (r ∷ rs) (o ∷ os) none = let (here, rest) = or_false (lacked_memory o) (list_any lacked_memory os) none in at (r.volume == v) here (own_memory v rs os rest)
  where
    at : (t : Bool) → lacked_memory o ≡ false → list_any lacked_memory (outcomes_of v rs os) ≡ false → list_any lacked_memory (cond t (o ∷ outcomes_of v rs os) (outcomes_of v rs os)) ≡ false
    at true here rest = rw (here, rest) refl
    at false here rest = rest

-- a window that ended a run for another cause didn't lack memory
other_cause : (rs : List Request) (w : Window) (f : Fault) → fault_of_window rs w ≡ Some f → f ≢ Memory → list_any lacked_memory w.outcomes.items ≡ false
other_cause rs w f is other = at (list_any lacked_memory w.outcomes.items) is
  where
    at : (t : Bool) → (if t then Some Memory else option_or (first_refused rs w.outcomes.items) (fault_of_reclaim w.fault)) ≡ Some f → t ≡ false
    at true so = let same : Memory ≡ f = cc so in absurd (other (sym same))
    at false so = refl

-- ---- The last window

-- a turn of reclaim adds to what a pass saw and made
pub closed_more : {D : Type 0} (tells : Bool) (mode : Reclaim) (fault : Option StepFault) (p q : ManagerPass D) → IsClosed tells mode fault p q
    → (more : List Entry) × (notes : List Noted) × (pass_seen q ≡ pass_seen p ++ more) × (pass_mine q ≡ pass_mine p ++ map coded notes)
closed_more tells reclaim.Off fault p q c = ([], [], ap (λ (x : ManagerPass _). pass_seen x) c.0 ∙ sym (append-nil (pass_seen p)), ap (λ (x : ManagerPass _). pass_mine x) c.0 ∙ sym (append-nil (pass_mine p)))
closed_more tells reclaim.Between fault p q c = let g = gains_turn tells p q c.before c.note c.turned in (_, c.note ∷ [], g.seen, g.mine)
closed_more tells reclaim.Beside fault p q c = let g = gains_turn tells p q c.before c.note c.turned in (_, c.note ∷ [], g.seen, g.mine)

module _ {D : Type 0} (tells : Bool) (mode : Reclaim) (k : ℕ) (rs : List Request) (w : Window) (d e : Desk D) (worked : HasWorked tells rs w.outcomes.items mode k d e) (entries : List Entry)
    (seen : Begins (pass_seen e.worker) entries) (mine : own worker entries ≡ pass_mine e.worker) where
  -- a call that had failed when the requests were served had failed in the end
  broken_then : IsBroken (notes_seen worked.middle) → IsBroken (notes_of entries)
  broken_then broken =
      let (more, notes, seen_more, mine_more) = closed_more tells mode e.fault worked.middle e.worker worked.closed in
      let all : entries ≡ pass_seen worked.middle ++ (more ++ seen.0) = sym seen.1 ∙ ap (λ l. l ++ seen.0) seen_more ∙ append_assoc (pass_seen worked.middle) more seen.0 in
      subst IsBroken (sym (ap notes_of all ∙ notes_joined (pass_seen worked.middle) (more ++ seen.0))) (broken_more (notes_seen worked.middle) (notes_of (more ++ seen.0)) broken)

  -- what holds of all entries holds of those of the requests
  of_requests : (P : Noted → Type 0) → AllByRecursion P (notes_of entries) → AllByRecursion P worked.notes
  of_requests P all =
      let (more, notes, seen_more, mine_more) = closed_more tells mode e.fault worked.middle e.worker worked.closed in
      let whole : own worker entries ≡ (pass_mine d.worker ++ map coded worked.notes) ++ map coded notes = mine ∙ mine_more ∙ ap (λ l. l ++ map coded notes) worked.gains.mine in
      let own_all : AllByRecursion P (notes_of (own worker entries)) = all_mine P worker entries all in
      let split : notes_of (own worker entries) ≡ (notes_of (pass_mine d.worker) ++ worked.notes) ++ notes_of (map coded notes)
      = ap notes_of whole ∙ notes_joined (pass_mine d.worker ++ map coded worked.notes) (map coded notes)
      ∙ ap (λ l. l ++ notes_of (map coded notes)) (notes_joined (pass_mine d.worker) (map coded worked.notes) ∙ ap (λ l. notes_of (pass_mine d.worker) ++ l) (notes_back worked.notes)) in
      part_right P (notes_of (pass_mine d.worker)) worked.notes (part_left P (notes_of (pass_mine d.worker) ++ worked.notes) (notes_of (map coded notes)) (subst (λ l. AllByRecursion P l) split own_all))

  pub last_answered : (f : Fault) (most : ℕ) → fault_of_window rs w ≡ Some f → f ≢ Memory → (IsBroken (notes_of entries) → ⊥) → most < 2 ^ 63 → AllByRecursion (IsBelow most) (notes_of entries)
      → AreAllAnswered (answers_of k (answers_to rs w.outcomes.items))
  last_answered f most is other whole few below =
      subst AreAllAnswered (sym (own_answers k rs w.outcomes.items))
      (all_unless _ (notes_seen worked.middle) most few (λ broken. whole (broken_then broken)) (own_requests k rs) (outcomes_of k rs w.outcomes.items) worked.notes worked.made worked.stops worked.faults
      (own_memory k rs w.outcomes.items (other_cause rs w f is other)) (of_requests (IsBelow most) below))

-- ---- The window behind all others

module _ {D : Type 0} (tells : Bool) (mode : Reclaim) (k : ℕ) (d : Desk D) where
  abbrev LastWorked : ServedWindow → Floor D → Type 0
  LastWorked s g = (x : Desk D) × HasWorked tells s.batch.requests s.answer.outcomes.items mode k x (slice_index_or g.desks.items k d)

  were_last : (earlier : List ServedWindow) (s : ServedWindow) (f : Floor D) (ps : List _) (g : Floor D) (qs : List _) → WereServed tells mode (earlier ++ s ∷ []) f ps g qs → k < length f.desks.items → LastWorked s g
  were_last [] s f ps g qs (h, rs, was, same) lt =
      subst (λ (x : Floor D). LastWorked s x) (sym same.0) (slice_index_or was.begun.desks.items k d, (was_worked tells mode k d s f ps h rs was lt).0)
  were_last (t ∷ earlier) s f ps g qs (h, rs, was, others) lt = were_last earlier s h rs g qs others (was_worked tells mode k d t f ps h rs was lt).1

  pub served_last : (earlier : List ServedWindow) (s : ServedWindow) (f : Floor D) (ps : List _) (g : Floor D) (qs : List _) → ServedFromStart tells mode (earlier ++ s ∷ []) f ps g qs → k < length f.desks.items → LastWorked s g
  served_last [] s f ps g qs (rs, started, were) lt = were_last [] s f rs g qs were lt
  served_last (t ∷ earlier) s f ps g qs (rs, started, were) lt = were_last (t ∷ earlier) s f rs g qs were lt
