-- The writes in flight in a closed volume's history are those of its next requests.
use Rattle.replay.proofs.Basics.{◌≡◌, ◌≢◌, ◌==◌, ◌⊎◌, ◌++◌, ℕ, Bool, true, false, cond, List, [], ◌∷◌, map, refl, sym, ap, subst, ◌∙◌}
use Rattle.replay.proofs.Basics.{Option, Some, inl, inr, slice_get, AllByRecursion, eqb-false}
use Rattle.replay.proofs.Terms.{Write, Broke, IsHelp, Kept, Operation, Read, Wrote, flight_from, flight_of, helper, keeper, worker}
use Rattle.replay.proofs.Terms.{noted_of, Answered, Noted, entries_of, answers_of, Entry, own, pass_mine, pass_number, notes_of, Station}
use Rattle.replay.proofs.Terms.{ManagerPass, coded, pass_kept, IsMoved, Desk, Floor, Reclaim, AreUnused, IsUnused, answers_in}
use Rattle.replay.proofs.Terms.{ServedFromStart, ServedWindow, IsPartOf, notes_seen, pass_seen}
use Rattle.replay.proofs.EntriesOwn.{notes_back}
use Rattle.replay.proofs.FirstsServed.{EndsWell}
use Rattle.replay.proofs.FlightServed.{HasFlight, IsInFlight, no_write, seen_more, served_flight}
use Rattle.replay.proofs.StationsRan.{EndsOn, desk, first, worker_same}
use Rattle.replay.proofs.RacksServed.{at_place}
use Rattle.replay.proofs.WindowBroken.{flight_in}
use Rattle.wol_model.specs.History as history

-- ---- All entries

abbrev operation_of : Entry → Operation
operation_of e = (noted_of e.0 e.1).entry.operation

-- a Broke with writes is the worker's
pub own_flight : (es : List Entry) → AllByRecursion (λ (e : history.Entry). e.pass ≢ worker → IsHelp e.operation) (entries_of (notes_of es)) → (ws : List Write) → flight_in es ≡ Some ws
    → (ws ≡ []) ⊎ (flight_in (own worker es) ≡ Some ws)
own_flight [] help ws flight = absurd (cc flight)
own_flight (e ∷ es) (help, others) ws flight = at (operation_of e) refl (e.0 == worker) refl (λ same. own_flight es others ws (sym (same es) ∙ flight))
  where
    past : (o : Operation) → operation_of e ≡ o → ((x : Option (List Write)) → flight_from o x ≡ x) → (xs : List Entry) → flight_in (e ∷ xs) ≡ flight_in xs
    past o is through xs = ap (λ (p : Operation). flight_from p (flight_in xs)) is ∙ through (flight_in xs)

    skip : (t : Bool) → ((xs : List Entry) → flight_in (e ∷ xs) ≡ flight_in xs) → flight_in (cond t (e ∷ own worker es) (own worker es)) ≡ flight_in (own worker es)
    skip true same = same (own worker es)
    skip false same = refl

    passed_by : ((xs : List Entry) → flight_in (e ∷ xs) ≡ flight_in xs) → (((xs : List Entry) → flight_in (e ∷ xs) ≡ flight_in xs) → (ws ≡ []) ⊎ (flight_in (own worker es) ≡ Some ws)) → (ws ≡ []) ⊎ (flight_in (own worker (e ∷ es)) ≡ Some ws)
    passed_by same rest = elim (rest same) [
      | inl none ↦ inl none
      | inr is ↦ inr (skip (e.0 == worker) same ∙ is)
    ]

    broke : (vs : List Write) → operation_of e ≡ Broke vs → (xs : List Entry) → flight_in (e ∷ xs) ≡ Some vs
    broke vs is xs = ap (λ (p : Operation). flight_from p (flight_in xs)) is

    at : (o : Operation) → operation_of e ≡ o → (t : Bool) → (e.0 == worker) ≡ t → (((xs : List Entry) → flight_in (e ∷ xs) ≡ flight_in xs) → (ws ≡ []) ⊎ (flight_in (own worker es) ≡ Some ws)) → (ws ≡ []) ⊎ (flight_in (own worker (e ∷ es)) ≡ Some ws)
    at (Wrote vs) is t mine rest = passed_by (past (Wrote vs) is (λ x. refl)) rest
    at (Read from reply) is t mine rest = passed_by (past (Read from reply) is (λ x. refl)) rest
    at Kept is t mine rest = passed_by (past Kept is (λ x. refl)) rest
    at (Broke vs) is true mine rest =
        let same : vs ≡ ws = cc (sym (broke vs is es) ∙ flight) in
        inr (ap (λ (t : Bool). flight_in (cond t (e ∷ own worker es) (own worker es))) mine ∙ broke vs is (own worker es) ∙ ap (λ (l : List Write). Some l) same)
    at (Broke vs) is false mine rest =
        let same : vs ≡ ws = cc (sym (broke vs is es) ∙ flight) in
        let none : vs ≡ [] = subst IsHelp is (help (λ so. eqb-false e.0 worker mine (sym (pass_kept e.0 e.1) ∙ so))) in
        inl (sym same ∙ none)

-- ---- One volume

-- the writes in flight in what the worker of volume v made are those of the next requests
pub record StationFlew {D : Type 0} (v : ℕ) (answers : List Answered) (s : Station D) : Type 0 where
  pub notes : List Noted
  pub mine : pass_mine s.worker ≡ map coded notes
  pub flight : HasFlight (notes_seen s.worker) (answers_of v answers) notes

-- a station that wasn't used
pub station_still : {D : Type 0} (v : ℕ) (s : Station D) → IsUnused s.worker → StationFlew v [] s
station_still v s unused = record { notes = []; mine = unused.mine; flight = λ ws none. absurd (cc none) }

pub station_flew : {D : Type 0} (tells : Bool) (mode : Reclaim) (ss : List ServedWindow) (olds news : List (Station D)) (before middle after : Floor D) (ps qs : List _) → IsMoved olds before → IsMoved news after
    → AreUnused olds → ServedFromStart tells mode ss before ps middle qs → EndsOn tells middle after → EndsWell ss → (v : ℕ) (old new : Station D) → slice_get olds v ≡ Some old → slice_get news v ≡ Some new
    → (pass_number old.worker ≡ worker) × (pass_number old.helper ≡ helper) × (pass_number old.keeper ≡ keeper) → StationFlew v (answers_in ss) new
station_flew {D} tells mode ss olds news before middle after ps qs moved back unused served_ ends well v old new there now numbered =
    let one : Desk D = desk tells mode ss olds news before middle after ps qs moved back unused served_ ends v old new there now numbered in
    let at = first tells mode ss olds news before middle after ps qs moved back unused served_ ends v old new there now numbered in
    let same = worker_same tells mode ss olds news before middle after ps qs moved back unused served_ ends v old new there now numbered in
    let flew = served_flight tells mode v one ss before ps middle qs served_ well at.desk in
    let (less, is) = at_place olds v old there in
    let none : pass_mine old.worker ≡ [] = ap (λ (s : Station D). pass_mine s.worker) (sym (is old)) ∙ (unused v old less).0.mine in
    record {
      notes = flew.notes;
      mine = ap (λ (x : ManagerPass D). pass_mine x) same ∙ flew.mine ∙ ap (λ (x : ManagerPass D). pass_mine x ++ map coded flew.notes) at.worker_is ∙ ap (λ (l : List Entry). l ++ map coded flew.notes) none;
      flight = subst (λ (x : ManagerPass D). HasFlight (notes_seen x) (answers_of v (answers_in ss)) flew.notes) (sym same) flew.flight;
    }

-- all entries of the volume
pub entries_flew : {D : Type 0} (v : ℕ) (answers : List Answered) (s : Station D) (es : List Entry) → StationFlew v answers s → pass_number s.worker ≡ worker → IsPartOf es s.worker
    → AllByRecursion (λ (e : history.Entry). e.pass ≢ worker → IsHelp e.operation) (entries_of (notes_of es)) → HasFlight (notes_of es) (answers_of v answers) (notes_of es)
entries_flew v answers s es flew number part help ws flight = elim (own_flight es help ws flight) [
  | inl none ↦ subst (λ (l : List Write). IsInFlight (notes_of es) (answers_of v answers) l) (sym none) (no_write (notes_of es) (answers_of v answers))
  | inr here ↦
      let made : own worker es ≡ map coded flew.notes = ap (λ (n : ℕ). own n es) (sym number) ∙ part.mine ∙ flew.mine in
      seen_more (pass_seen s.worker) es (answers_of v answers) ws part.seen (flew.flight ws (ap (λ (l : List Noted). flight_of (entries_of l)) (sym (ap notes_of made ∙ notes_back flew.notes)) ∙ here))
]
