-- The writes that were in flight when a disk call of a volume failed are those of its next requests.
use Rattle.replay.proofs.Basics.{◌≡◌, ◌<◌, ◌≤◌, ◌⊎◌, ◌++◌, ℕ, zero, suc, Bool, true, false, cond, List, [], ◌∷◌, length, map, take, drop}
use Rattle.replay.proofs.Basics.{refl, sym, ap, subst, ◌∙◌, append_assoc, append-nil, Option, None, Some, is_some, inl, inr, arith}
use Rattle.replay.proofs.Basics.{slice_index_or, AllByRecursion, option_or, map-append}
use Rattle.replay.proofs.Terms.{unversioned, Write, Broke, IsHelp, Kept, Operation, Read, Wrote, flight_from, flight_of, payload, Kind}
use Rattle.replay.proofs.Terms.{Answered, answered_in, is_answered, Noted, entries_of, answers_of, requests_in, AreAllAnswered}
use Rattle.replay.proofs.Terms.{volume_joined, pass_mine, Place, StepFault, asked, Request, HasClosed, AreEntriesOf, AreMade, IsFlight}
use Rattle.replay.proofs.Terms.{IsGroupEntry, before_others, front_writes, ManagerPass, coded, Outcome, IsClosed, StopsAtRefusal}
use Rattle.replay.proofs.Terms.{answers_to, outcomes_of, own_requests, told, HasWorked, Desk, Floor, Reclaim, answers_in, ServedFromStart}
use Rattle.replay.proofs.Terms.{ServedWindow, WereServed, Begins, Entry, IsFlightAt, Part, TellsFault, WasDown, notes_of, notes_seen, pass_seen}
use Rattle.replay.proofs.AnswersServed.{own_answers}
use Rattle.replay.proofs.FirstsServed.{EndsWell, here, later, never, none_behind, was_worked, window_answered}
use Rattle.replay.proofs.Grouped.{all_wrote, all_wrote_answered, answers_behind, made_by_cases, none_stopped, stops_behind, wrote_all}
use Rattle.replay.proofs.LastWindow.{part_right}
use Rattle.replay.proofs.WindowBroken.{flight_joined, part_down_in}
use Rattle.wol_model.specs.Trace as trace
use Rattle.wol_model.specs.declared.trace.Kind.TheVariants as kind
use Rattle.manager.specs.declared.part.ReadRefusal.TheVariants as read
use Rattle.manager.specs.declared.part.WriteRefusal.TheVariants as write
use Rattle.request_turns.specs.declared.outcome.Outcome.TheVariants as outcome
use Rattle.window_desks.specs.declared.request.Reclaim.TheVariants as reclaim

-- ---- The next requests

-- the requests behind the answered ones of these
abbrev pub next_requests : List Answered → List trace.Request
next_requests answers = drop (length (answered_in answers)) (requests_in answers)

-- nothing was in flight, or it was on its way to a part that was down behind one of these entries
abbrev pub WasOnItsWay : (seen : List Noted) → List Write → Type 0
WasOnItsWay seen ws = (ws ≡ []) ⊎ ((p : Part) × WasDown p seen × IsFlightAt p ws)

-- The writes in flight are what some next requests ask for, each a write: several of them only on their way to a log together.
pub record IsInFlight (seen : List Noted) (answers : List Answered) (ws : List Write) : Type 0 where
  pub requests : List trace.Request
  pub next : requests ≡ take (length requests) (next_requests answers)
  pub are_writes : AllByRecursion (λ (r : trace.Request). r.kind ≡ kind.Write) requests
  pub same : map unversioned ws ≡ map payload requests
  pub together : (length requests ≤ 1) ⊎ AllByRecursion (λ (w : Write). is_some w.version ≡ true) ws
  pub way : WasOnItsWay seen ws

-- the writes in flight in these notes are those of the next requests
abbrev pub HasFlight : (seen : List Noted) → List Answered → List Noted → Type 0
HasFlight seen answers notes = (ws : List Write) → flight_of (entries_of notes) ≡ Some ws → IsInFlight seen answers ws

pub no_write : (seen : List Noted) (answers : List Answered) → IsInFlight seen answers []
no_write seen answers = record { requests = []; next = refl; are_writes = tt; same = refl; together = inl (omega arith); way = inl refl }

next_more : (seen : List Noted) (answers more : List Answered) (ws : List Write) → next_requests more ≡ next_requests answers → IsInFlight seen answers ws → IsInFlight seen more ws
next_more seen answers more ws same is = record {
  requests = is.requests;
  next = is.next ∙ ap (λ (l : List trace.Request). take (length is.requests) l) (sym same);
  are_writes = is.are_writes;
  same = is.same;
  together = is.together;
  way = is.way;
}

-- what a pass saw stays
pub seen_more : (xs es : List Entry) (answers : List Answered) (ws : List Write) → Begins xs es → IsInFlight (notes_of xs) answers ws → IsInFlight (notes_of es) answers ws
seen_more xs es answers ws begins is = record {
  requests = is.requests;
  next = is.next;
  are_writes = is.are_writes;
  same = is.same;
  together = is.together;
  way = elim is.way [
    | inl none ↦ inl none
    | inr (p, was, at) ↦ inr (p, part_down_in p xs es begins was, at)
  ];
}

-- behind answered requests
skipped_front : (xs ys : List Answered) → AreAllAnswered xs → next_requests (xs ++ ys) ≡ next_requests ys
skipped_front [] ys all = refl
skipped_front (x ∷ xs) ys (first, others) = at (is_answered x.outcome) first (skipped_front xs ys others)
  where
    at : (t : Bool) → t ≡ true → next_requests (xs ++ ys) ≡ next_requests ys → drop (length (cond t (x ∷ answered_in (xs ++ ys)) (answered_in (xs ++ ys)))) (requests_in (x ∷ (xs ++ ys))) ≡ next_requests ys
    at true is rest = rest
    at false is rest = absurd (cc is)

no_next : (xs : List Answered) → AreAllAnswered xs → next_requests xs ≡ []
no_next xs all = ap next_requests (sym (append-nil xs)) ∙ skipped_front xs [] all

none_taken : {X : Type 0} (n : ℕ) → take {A = X} n [] ≡ []
none_taken zero = refl
none_taken (suc n) = refl

none_mapped : (ws : List Write) → map unversioned ws ≡ [] → ws ≡ []
none_mapped [] none = refl
none_mapped (w ∷ ws) none = absurd (cc none)

-- where all were answered none was in flight
none_flying : (seen : List Noted) (xs : List Answered) (ws : List Write) → AreAllAnswered xs → IsInFlight seen xs ws → ws ≡ []
none_flying seen xs ws all is =
    let none : is.requests ≡ [] = is.next ∙ ap (λ (l : List trace.Request). take (length is.requests) l) (no_next xs all) ∙ none_taken (length is.requests) in
    none_mapped ws (is.same ∙ ap (λ (l : List trace.Request). map payload l) none)

-- ---- The first writes among requests

-- so many first payloads are those of some first requests, each a write
record HasFront (rs : List Request) (count : ℕ) (payloads : List Write) : Type 0 where
  requests : List trace.Request
  next : requests ≡ take (length requests) (map asked rs)
  are_writes : AllByRecursion (λ (r : trace.Request). r.kind ≡ kind.Write) requests
  few : length requests ≤ count
  same : take count payloads ≡ map payload requests

no_front : (rs : List Request) (count : ℕ) → HasFront rs count []
no_front rs count = record { requests = []; next = refl; are_writes = tt; few = omega arith; same = none_taken count }

more_front : (r : Request) (rs : List Request) (payloads : List Write) → r.kind ≡ kind.Write → ((n : ℕ) → HasFront rs n payloads) → (count : ℕ) → HasFront (r ∷ rs) count (payload (asked r) ∷ payloads)
more_front r rs payloads is rest zero = record { requests = []; next = refl; are_writes = tt; few = omega arith; same = refl }
more_front r rs payloads is rest (suc n) =
    let front = rest n in
    let short = front.few in
    record {
      requests = asked r ∷ front.requests;
      next = ap (λ (l : List trace.Request). asked r ∷ l) front.next;
      are_writes = (is, front.are_writes);
      few = omega (arith, short);
      same = ap (λ (l : List Write). payload (asked r) ∷ l) front.same;
    }

front_of_writes : (rs : List Request) (count : ℕ) → HasFront rs count (front_writes rs)
front_of_writes [] count = no_front [] count
front_of_writes (r ∷ rs) count = at r.kind refl (front_of_writes rs)
  where
    at : (k : Kind) → r.kind ≡ k → ((n : ℕ) → HasFront rs n (front_writes rs)) → HasFront (r ∷ rs) count (before_others k (payload (asked r)) (front_writes rs))
    at kind.Read is rest = no_front (r ∷ rs) count
    at kind.Write is rest = more_front r rs (front_writes rs) is rest count

-- ---- The requests of a window

-- there are as many outcomes as requests
asked_behind : (group rs : List Request) (place : Place) (os : List Outcome) → requests_in (answers_to rs os) ≡ map asked rs → requests_in (answers_to (group ++ rs) (all_wrote (length group) place ++ os)) ≡ map asked (group ++ rs)
asked_behind [] rs place os rest = rest
asked_behind (r ∷ group) rs place os rest = ap (λ (l : List trace.Request). asked r ∷ l) (asked_behind group rs place os rest)

made_asked : (view : List ℕ) (rs : List Request) (os : List Outcome) (notes : List Noted) → AreMade view rs os notes → requests_in (answers_to rs os) ≡ map asked rs
made_asked view rs os notes made =
    made_by_cases view (λ rs os notes. requests_in (answers_to rs os) ≡ map asked rs) refl (λ r rs o os first rest entries others more. ap (λ (l : List trace.Request). asked r ∷ l) more)
    (λ group rs place os n rest two entry more. asked_behind group rs place os more) rs os notes made

-- nothing is noted of requests that weren't run
request_not_run : (view : List ℕ) (r : Request) (rs : List Request) (o : Outcome) (os : List Outcome) (first rest : List Noted) → AreEntriesOf view r rs o first → StopsAtRefusal false (o ∷ os) → (StopsAtRefusal false os → rest ≡ []) → first ++ rest ≡ []
request_not_run view r rs (outcome.Read mark sources) os first rest entries stops further = absurd (cc (stops.0))
request_not_run view r rs (outcome.Wrote place drained) os first rest entries stops further = absurd (cc (stops.0))
request_not_run view r rs (outcome.NoRead refusal) os first rest entries stops further = absurd (cc (stops.0))
request_not_run view r rs (outcome.NoWrite refusal) os first rest entries stops further = absurd (cc (stops.0))
request_not_run view r rs outcome.NotRun os first rest none stops further = (λ i. none i ++ rest) ∙ further stops.1

not_run : (view : List ℕ) (rs : List Request) (os : List Outcome) (notes : List Noted) → AreMade view rs os notes → StopsAtRefusal false os → notes ≡ []
not_run view rs os notes made =
    made_by_cases view (λ rs os notes. StopsAtRefusal false os → notes ≡ []) (λ stops. refl) (λ r rs o os first rest entries others further stops. request_not_run view r rs o os first rest entries stops further)
    (λ group rs place os n rest two entry further stops. absurd (none_stopped (length group) place os (omega (arith, two)) stops)) rs os notes made

-- the first note's operation comes before those of the rest
one_more : (first rest : List Noted) (n : Noted) → first ≡ n ∷ [] → flight_of (entries_of (first ++ rest)) ≡ flight_from n.entry.operation (flight_of (entries_of rest))
one_more first rest n one = ap (λ (l : List Noted). flight_of (entries_of (l ++ rest))) one

passing : (first rest : List Noted) (n : Noted) (o : Operation) → first ≡ n ∷ [] → n.entry.operation ≡ o → ((x : Option (List Write)) → flight_from o x ≡ x) → flight_of (entries_of (first ++ rest)) ≡ flight_of (entries_of rest)
passing first rest n o one is through = one_more first rest n one ∙ ap (λ (p : Operation). flight_from p (flight_of (entries_of rest))) is ∙ through (flight_of (entries_of rest))

breaking : (first rest : List Noted) (n : Noted) (ws : List Write) → first ≡ n ∷ [] → n.entry.operation ≡ Broke ws → flight_of (entries_of (first ++ rest)) ≡ Some ws
breaking first rest n ws one is = one_more first rest n one ∙ ap (λ (p : Operation). flight_from p (flight_of (entries_of rest))) is

-- a request that was refused without a failed call, behind which none was run
quiet : (view : List ℕ) (rs : List Request) (os : List Outcome) (first rest : List Noted) (n : Noted) (ws : List Write) → first ≡ n ∷ [] → n.entry.operation ≡ Kept
    → AreMade view rs os rest → StopsAtRefusal false os → flight_of (entries_of (first ++ rest)) ≡ Some ws → ⊥
quiet view rs os first rest n ws one kept others stops flight =
    let no : None ≡ Some ws = ap (λ (l : List Noted). flight_of (entries_of l)) (sym (not_run view rs os rest others stops)) ∙ sym (passing first rest n Kept one kept (λ x. refl)) ∙ flight in cc no

-- a write that was refused, and the writes behind it that were to go with it
refused_flight : (seen : List Noted) (view : List ℕ) (r : Request) (rs : List Request) (o : Outcome) (os : List Outcome) (rest : List Noted) (ws : List Write) → is_answered (told o) ≡ false → r.kind ≡ kind.Write → AreMade view rs os rest
    → StopsAtRefusal false os → IsFlight (payload (asked r) ∷ front_writes rs) ws → WasOnItsWay seen ws → IsInFlight seen (answers_to (r ∷ rs) (o ∷ os)) ws
refused_flight seen view r rs o os rest ws refused is_write others stops flight way =
    let front = more_front r rs (front_writes rs) is_write (front_of_writes rs) flight.count in
    let short = front.few in
    let answers : List Answered = answers_to (r ∷ rs) (o ∷ os) in
    let none : answered_in answers ≡ [] = ap (λ (t : Bool). cond t (record { request = asked r; outcome = told o } ∷ answered_in (answers_to rs os)) (answered_in (answers_to rs os))) refused ∙ none_behind rs os stops in
    let all : next_requests answers ≡ map asked (r ∷ rs) = ap (λ (l : List Answered). drop (length l) (requests_in answers)) none ∙ ap (λ (l : List trace.Request). asked r ∷ l) (made_asked view rs os rest others) in
    record {
      requests = front.requests;
      next = front.next ∙ ap (λ (l : List trace.Request). take (length front.requests) l) (sym all);
      are_writes = front.are_writes;
      same = flight.same ∙ front.same;
      together = elim flight.logged [
        | inl few ↦ inl (omega (arith, few, short))
        | inr logged ↦ inr logged
      ];
      way = way;
    }

request_flight : (seen : List Noted) (view : List ℕ) (r : Request) (rs : List Request) (o : Outcome) (os : List Outcome) (first rest : List Noted) → AreEntriesOf view r rs o first → AreMade view rs os rest → TellsFault seen o → StopsAtRefusal true (o ∷ os)
    → (StopsAtRefusal true os → HasFlight seen (answers_to rs os) rest) → HasFlight seen (answers_to (r ∷ rs) (o ∷ os)) (first ++ rest)
request_flight seen view r rs (outcome.Read mark sources) os first rest (n, one, entry) others tells stops further ws flight =
    next_more seen (answers_to rs os) (answers_to (r ∷ rs) (outcome.Read mark sources ∷ os)) ws refl (further stops.1 ws (sym (passing first rest n (Read r.lbn entry.reply) one entry.operation (λ x. refl)) ∙ flight))
request_flight seen view r rs (outcome.Wrote place drained) os first rest (n, one, (is_write, entry)) others tells stops further ws flight =
    next_more seen (answers_to rs os) (answers_to (r ∷ rs) (outcome.Wrote place drained ∷ os)) ws refl (further stops.1 ws (sym (passing first rest n (Wrote (entry.write ∷ [])) one entry.operation (λ x. refl)) ∙ flight))
request_flight seen view r rs (outcome.NoRead (read.DiskFault p)) os first rest (n, one, (is_read, broke)) others tells stops further ws flight =
    let none : [] ≡ ws = cc (sym (breaking first rest n [] one broke) ∙ flight) in
    subst (λ (l : List Write). IsInFlight seen (answers_to (r ∷ rs) (outcome.NoRead (read.DiskFault p) ∷ os)) l) none (no_write seen (answers_to (r ∷ rs) (outcome.NoRead (read.DiskFault p) ∷ os)))
request_flight seen view r rs (outcome.NoRead (read.Down p)) os first rest (n, one, (is_read, kept)) others tells stops further ws flight = absurd (quiet view rs os first rest n ws one kept others stops.1 flight)
request_flight seen view r rs (outcome.NoWrite write.Full) os first rest (n, one, (is_write, full)) others tells stops further ws flight = absurd full
request_flight seen view r rs (outcome.NoWrite (write.DiskFault p)) os first rest (n, one, (is_write, (vs, broke, flown, at))) others tells stops further ws flight =
    let is : vs ≡ ws = cc (sym (breaking first rest n vs one broke) ∙ flight) in
    subst (λ (l : List Write). IsInFlight seen (answers_to (r ∷ rs) (outcome.NoWrite (write.DiskFault p) ∷ os)) l) is (refused_flight seen view r rs (outcome.NoWrite (write.DiskFault p)) os rest vs refl is_write others stops.1 flown (inr (p, tells, at)))
request_flight seen view r rs (outcome.NoWrite (write.Down p)) os first rest (n, one, (is_write, kept)) others tells stops further ws flight = absurd (quiet view rs os first rest n ws one kept others stops.1 flight)
request_flight seen view r rs (outcome.NoWrite write.VersionsSpent) os first rest (n, one, (is_write, (kept, spent))) others tells stops further ws flight = absurd (quiet view rs os first rest n ws one kept others stops.1 flight)
request_flight seen view r rs (outcome.NoWrite write.NoMemory) os first rest (n, one, (is_write, kept)) others tells stops further ws flight = absurd (quiet view rs os first rest n ws one kept others stops.1 flight)
request_flight seen view r rs outcome.NotRun os first rest entries others tells stops further ws flight = absurd (cc (stops.0))

-- several writes in one entry, and what was in flight behind them
group_flight : (seen : List Noted) (view : List ℕ) (group rs : List Request) (place : Place) (os : List Outcome) (n : Noted) (rest : List Noted) → IsGroupEntry view group place n → (StopsAtRefusal true os → HasFlight seen (answers_to rs os) rest)
    → StopsAtRefusal true (all_wrote (length group) place ++ os) → HasFlight seen (answers_to (group ++ rs) (all_wrote (length group) place ++ os)) (n ∷ rest)
group_flight seen view group rs place os n rest entry further stops ws flight =
    let past : flight_of (entries_of (n ∷ rest)) ≡ flight_of (entries_of rest) = ap (λ (p : Operation). flight_from p (flight_of (entries_of rest))) entry.together.operation in
    next_more seen (answers_to rs os) (answers_to (group ++ rs) (all_wrote (length group) place ++ os)) ws
    (ap next_requests (answers_behind group rs place os) ∙ skipped_front (wrote_all group place) (answers_to rs os) (all_wrote_answered group place))
    (further (stops_behind (length group) place os stops) ws (sym past ∙ flight))

pub made_flight : (seen : List Noted) (view : List ℕ) (rs : List Request) (os : List Outcome) (notes : List Noted) → AreMade view rs os notes → AllByRecursion (TellsFault seen) os → StopsAtRefusal true os → HasFlight seen (answers_to rs os) notes
made_flight seen view rs os notes made =
    made_by_cases view (λ rs os notes. AllByRecursion (TellsFault seen) os → StopsAtRefusal true os → HasFlight seen (answers_to rs os) notes) (λ tells stops ws flight. absurd (cc flight))
    (λ r rs o os first rest entries others further tells stops. request_flight seen view r rs o os first rest entries others tells.0 stops (further tells.1))
    (λ group rs place os n rest two entry further tells stops. group_flight seen view group rs place os n rest entry (further (part_right (TellsFault seen) (all_wrote (length group) place) os tells)) stops) rs os notes made

-- ---- A worker's pass

-- What a worker's pass added since had in flight what these answers, of its volume, say.
pub record AddsFlight {D : Type 0} (v : ℕ) (answers : List Answered) (p q : ManagerPass D) : Type 0 where
  pub notes : List Noted
  pub mine : pass_mine q ≡ pass_mine p ++ map coded notes
  pub flight : HasFlight (notes_seen q) (answers_of v answers) notes

adds_none : {D : Type 0} (v : ℕ) (p : ManagerPass D) → AddsFlight v [] p p
adds_none v p = record { notes = []; mine = sym (append-nil (pass_mine p)); flight = λ ws none. absurd (cc none) }

-- either part of the notes
which : (xs ys : List Noted) (ws : List Write) → flight_of (entries_of (xs ++ ys)) ≡ Some ws → (flight_of (entries_of xs) ≡ Some ws) ⊎ (flight_of (entries_of ys) ≡ Some ws)
which xs ys ws flight = at (flight_of (entries_of xs)) refl (sym (ap flight_of (map-append (λ (n : Noted). n.entry) xs ys) ∙ flight_joined (entries_of xs) (entries_of ys)) ∙ flight)
  where
    at : (x : Option (List Write)) → flight_of (entries_of xs) ≡ x → option_or x (flight_of (entries_of ys)) ≡ Some ws → (flight_of (entries_of xs) ≡ Some ws) ⊎ (flight_of (entries_of ys) ≡ Some ws)
    at None is rest = inr rest
    at (Some vs) is same = inl (is ∙ same)

mine_both : {D : Type 0} (p q r : ManagerPass D) (xs ys : List Noted) → pass_mine q ≡ pass_mine p ++ map coded xs → pass_mine r ≡ pass_mine q ++ map coded ys → pass_mine r ≡ pass_mine p ++ map coded (xs ++ ys)
mine_both p q r xs ys left right = rw (right, left, map-append coded xs ys) (append_assoc (pass_mine p) (map coded xs) (map coded ys))

-- behind requests all of which were answered
adds_then : {D : Type 0} (v : ℕ) (xs ys : List Answered) (p q r : ManagerPass D) → AreAllAnswered (answers_of v xs) → AddsFlight v xs p q → AddsFlight v ys q r → AddsFlight v (xs ++ ys) p r
adds_then {D} v xs ys p q r all left right = record {
  notes = left.notes ++ right.notes;
  mine = mine_both p q r left.notes right.notes left.mine right.mine;
  flight = λ ws flight. subst (λ (l : List Answered). IsInFlight (notes_seen r) l ws) (sym (volume_joined v xs ys)) (elim (which left.notes right.notes ws flight) [
    | inl first ↦
        let none = none_flying (notes_seen q) (answers_of v xs) ws all (left.flight ws first) in
        subst (λ (l : List Write). IsInFlight (notes_seen r) (answers_of v xs ++ answers_of v ys) l) (sym none) (no_write (notes_seen r) (answers_of v xs ++ answers_of v ys))
    | inr second ↦ next_more (notes_seen r) (answers_of v ys) (answers_of v xs ++ answers_of v ys) ws (skipped_front (answers_of v xs) (answers_of v ys) all) (right.flight ws second)
  ]);
}

-- a turn that changes no content has no write in flight
help_flight : (o : Operation) (ws : List Write) → IsHelp o → flight_from o None ≡ Some ws → ws ≡ []
help_flight Kept ws help flight = absurd (cc flight)
help_flight (Broke vs) ws help flight = let same : vs ≡ ws = cc flight in sym same ∙ help
help_flight (Wrote vs) ws help flight = absurd help
help_flight (Read first reply) ws help flight = absurd help

with_turn : {D : Type 0} (tells : Bool) (v : ℕ) (fault : Option StepFault) (answers : List Answered) (p q r : ManagerPass D) → AddsFlight v answers p q → HasClosed tells fault q r → AddsFlight v answers p r
with_turn tells v fault answers p q r left closed = record {
  notes = left.notes ++ closed.note ∷ [];
  mine = mine_both p q r left.notes (closed.note ∷ []) left.mine closed.turned.mine;
  flight = λ ws flight. elim (which left.notes (closed.note ∷ []) ws flight) [
    | inl first ↦
        let before = seen_more (pass_seen q) closed.before (answers_of v answers) ws closed.turned.begins (left.flight ws first) in
        seen_more closed.before (pass_seen r) (answers_of v answers) ws (_, sym closed.turned.seen) before
    | inr second ↦ subst (λ (l : List Write). IsInFlight (notes_seen r) (answers_of v answers) l) (sym (help_flight closed.note.entry.operation ws closed.help second)) (no_write (notes_seen r) (answers_of v answers))
  ];
}

with_reclaim : {D : Type 0} (tells : Bool) (mode : Reclaim) (v : ℕ) (fault : Option StepFault) (answers : List Answered) (p q r : ManagerPass D) → AddsFlight v answers p q → IsClosed tells mode fault q r → AddsFlight v answers p r
with_reclaim tells reclaim.Off v fault answers p q r left closed = subst (λ x. AddsFlight v answers p x) (sym closed.0) left
with_reclaim tells reclaim.Between v fault answers p q r left closed = with_turn tells v fault answers p q r left closed
with_reclaim tells reclaim.Beside v fault answers p q r left closed = with_turn tells v fault answers p q r left closed

-- a window's requests, and then its reclaim turn
worked_flight : {D : Type 0} (tells : Bool) (rs : List Request) (os : List Outcome) (mode : Reclaim) (k : ℕ) (d e : Desk D) → HasWorked tells rs os mode k d e → AddsFlight k (answers_to rs os) d.worker e.worker
worked_flight tells rs os mode k d e w = with_reclaim tells mode k e.fault (answers_to rs os) d.worker w.middle e.worker (record {
  notes = w.notes;
  mine = w.gains.mine;
  flight = subst (λ (l : List Answered). HasFlight (notes_seen w.middle) l w.notes) (sym (own_answers k rs os)) (made_flight (notes_seen w.middle) _ (own_requests k rs) (outcomes_of k rs os) w.notes w.made w.faults w.stops);
}) w.closed

-- ---- The desks of a floor

module _ {D : Type 0} (tells : Bool) (mode : Reclaim) (k : ℕ) (d : Desk D) where
  abbrev worker_at : Floor D → ManagerPass D
  worker_at f = (slice_index_or f.desks.items k d).worker

  were_flying : (ss : List ServedWindow) (f : Floor D) (ps : List _) (g : Floor D) (qs : List _) → WereServed tells mode ss f ps g qs → EndsWell ss → k < length f.desks.items → AddsFlight k (answers_in ss) (worker_at f) (worker_at g)
  were_flying [] f ps g qs (floor, passes) never lt = subst (λ (x : Floor D). AddsFlight k [] (worker_at f) (worker_at x)) (sym floor) (adds_none k (worker_at f))
  were_flying (s ∷ []) f ps g qs (h, rs, was, others) (here _) lt =
      let (worked, less) = was_worked tells mode k d s f ps h rs was lt in
      let one = worked_flight tells s.batch.requests s.answer.outcomes.items mode k (slice_index_or was.begun.desks.items k d) (slice_index_or h.desks.items k d) worked in
      let first = subst (λ x. AddsFlight k (answers_to s.batch.requests s.answer.outcomes.items) (slice_index_or x.items k d).worker (worker_at h)) (ap (λ (x : Floor D). x.desks) was.only) one in
      subst (λ (x : Floor D). AddsFlight k (answers_in (s ∷ [])) (worker_at f) (worker_at x)) (sym others.0)
      (subst (λ (l : List Answered). AddsFlight k l (worker_at f) (worker_at h)) (sym (append-nil (answers_to s.batch.requests s.answer.outcomes.items))) first)
  were_flying (s ∷ ss) f ps g qs (h, rs, was, others) (later _ _ well rest) lt =
      let (worked, less) = was_worked tells mode k d s f ps h rs was lt in
      let one = worked_flight tells s.batch.requests s.answer.outcomes.items mode k (slice_index_or was.begun.desks.items k d) (slice_index_or h.desks.items k d) worked in
      let first = subst (λ x. AddsFlight k (answers_to s.batch.requests s.answer.outcomes.items) (slice_index_or x.items k d).worker (worker_at h)) (ap (λ (x : Floor D). x.desks) was.only) one in
      adds_then k (answers_to s.batch.requests s.answer.outcomes.items) (answers_in ss) (worker_at f) (worker_at h) (worker_at g)
      (window_answered tells mode k s.batch.requests s.answer (slice_index_or was.begun.desks.items k d) (slice_index_or h.desks.items k d) worked well) first (were_flying ss h rs g qs others rest less)

  pub served_flight : (ss : List ServedWindow) (f : Floor D) (ps : List _) (g : Floor D) (qs : List _) → ServedFromStart tells mode ss f ps g qs → EndsWell ss → k < length f.desks.items
      → AddsFlight k (answers_in ss) (worker_at f) (worker_at g)
  served_flight [] f ps g qs (floor, passes) well lt = subst (λ (x : Floor D). AddsFlight k [] (worker_at f) (worker_at x)) (sym floor) (adds_none k (worker_at f))
  served_flight (s ∷ ss) f ps g qs (rs, started, were) well lt = were_flying (s ∷ ss) f rs g qs were well lt
