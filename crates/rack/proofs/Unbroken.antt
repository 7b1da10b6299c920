-- A history in which no pass made a Broke has none; one whose passes had nothing in flight has nothing in flight; and one in which
-- no pass wrote has no writes.
use Rattle.rack.proofs.ClosingBasics.{◌≡◌, ◌≢◌, ◌⊎◌, ◌==◌, inl, inr, ℕ, Bool, true, false, cond, List, [], ◌∷◌, ◌++◌, Option, None, refl, sym, ap, ◌∙◌, subst, arith, unwrap_or, cases_eq}
use Rattle.rack.proofs.ClosingBasics.{All-from_recursion, Some}
use Rattle.rack.proofs.ClosingTerms.{Write, Operation, Broke, Wrote, Read, Kept, worker, helper, keeper, flight_of, flight_from, writes, written_by, entries_of, pass_number, pass_mine, AreWhole}
use Rattle.rack.proofs.ClosingTerms.{notes_of, Station, IsStation, IsUnbroken, IsQuiet}
use Rattle.wol_promise.specs.Code.{noted_of}
use Rattle.wol_promise.specs.Ruled.{Noted}
use Rattle.turn_lock.specs.Histories.{Entry, own}
use Rattle.turn_lock.specs.Passes.{IsPartOf}
use Rattle.rack.specs.BayRuns.{History, WritesNothing}
use Rattle.rack.specs.RackRuns.{IsHistoryOf}
use Rattle.rack_parts.proofs.SpindlesClosed.{self_equal}

abbrev flight_in : List Entry → Option (List Write)
flight_in es = flight_of (entries_of (notes_of es))

abbrev operation_of : Entry → Operation
operation_of e = (noted_of e.0 e.1).entry.operation

rest_so : (Q : Option (List Write) → Type 0) (t : Bool) (e : Entry) (xs : List Entry) → flight_in (e ∷ xs) ≡ flight_in xs → Q (flight_in (cond t (e ∷ xs) xs)) → Q (flight_in xs)
rest_so Q false e xs same so = so
rest_so Q true e xs same so = subst Q same so

-- what is so of what each pass had in flight is so of what was in flight
by_pass : (Q : Option (List Write) → Type 0) (es : List Entry) → ((n : ℕ) → Q (flight_in (own n es))) → Q (flight_in es)
by_pass Q [] each = each 0
by_pass Q (e ∷ es) each = go (operation_of e) refl (λ so. by_pass Q es so)
  where
    passing : (o : Operation) → operation_of e ≡ o → ((rest : Option (List Write)) → flight_from o rest ≡ rest) → (((n : ℕ) → Q (flight_in (own n es))) → Q (flight_in es)) → Q (flight_in (e ∷ es))
    passing o is through later =
        let same : (xs : List Entry) → flight_in (e ∷ xs) ≡ flight_in xs = λ xs. ap (λ (p : Operation). flight_from p (flight_in xs)) is ∙ through (flight_in xs) in
        subst Q (sym (same es)) (later (λ n. rest_so Q (e.0 == n) e (own n es) (same (own n es)) (each n)))

    go : (o : Operation) → operation_of e ≡ o → (((n : ℕ) → Q (flight_in (own n es))) → Q (flight_in es)) → Q (flight_in (e ∷ es))
    go (Broke ws) is later =
        let broke : (xs : List Entry) → flight_in (e ∷ xs) ≡ Some ws = λ xs. ap (λ (p : Operation). flight_from p (flight_in xs)) is in
        subst Q (broke (own e.0 es) ∙ sym (broke es)) (subst (λ (t : Bool). Q (flight_in (cond t (e ∷ own e.0 es) (own e.0 es)))) (self_equal e.0) (each e.0))
    go (Wrote ws) is later = passing (Wrote ws) is (λ rest. refl) later
    go (Read first reply) is later = passing (Read first reply) is (λ rest. refl) later
    go Kept is later = passing Kept is (λ rest. refl) later

-- what is so of the entries of each pass of a station is so of those of any number
by_station : {D : Type 0} (Q : List Entry → Type 0) → Q [] → (s : Station D) (es : List Entry) → IsStation s → IsPartOf es s.worker → IsPartOf es s.helper → IsPartOf es s.keeper → ((n : ℕ) → n ≢ worker → n ≢ helper → n ≢ keeper → own n es ≡ [])
    → Q (pass_mine s.worker) → Q (pass_mine s.helper) → Q (pass_mine s.keeper) → (n : ℕ) → Q (own n es)
by_station {D} Q nothing s es station works helps keeps no_more worked helped kept n = one (cases_eq n worker) (cases_eq n helper) (cases_eq n keeper)
  where
    one : (n ≡ worker) ⊎ (n ≢ worker) → (n ≡ helper) ⊎ (n ≢ helper) → (n ≡ keeper) ⊎ (n ≢ keeper) → Q (own n es)
    one (inl e) x y = subst Q (sym (ap (λ (k : ℕ). own k es) (e ∙ sym station.worker_.number_is) ∙ works.mine)) worked
    one (inr w) (inl e) y = subst Q (sym (ap (λ (k : ℕ). own k es) (e ∙ sym station.helper_.number_is) ∙ helps.mine)) helped
    one (inr w) (inr h) (inl e) = subst Q (sym (ap (λ (k : ℕ). own k es) (e ∙ sym station.keeper_.number_is) ∙ keeps.mine)) kept
    one (inr w) (inr h) (inr k) = subst Q (sym (no_more n w h k)) nothing

-- so of a whole history
by_whole : {D : Type 0} (Q : List Entry → Type 0) → Q [] → (s : Station D) (es : List Entry) → IsStation s → AreWhole es (s.worker ∷ s.helper ∷ s.keeper ∷ [])
    → Q (pass_mine s.worker) → Q (pass_mine s.helper) → Q (pass_mine s.keeper) → (n : ℕ) → Q (own n es)
by_whole Q nothing s es station whole =
    by_station Q nothing s es station (whole.parts 0 s.worker (omega arith)) (whole.parts 1 s.worker (omega arith)) (whole.parts 2 s.worker (omega arith))
    (λ n w h k. whole.no_more n (All-from_recursion (λ p. pass_number p ≢ n) (s.worker ∷ s.helper ∷ s.keeper ∷ [])
    (λ e. w (sym e ∙ station.worker_.number_is), (λ e. h (sym e ∙ station.helper_.number_is), (λ e. k (sym e ∙ station.keeper_.number_is), tt)))))

pub unbroken : {D : Type 0} (s : Station D) (es : List Entry) → IsStation s → AreWhole es (s.worker ∷ s.helper ∷ s.keeper ∷ []) → IsUnbroken s → flight_in es ≡ None
unbroken s es station whole quiet = by_pass (λ o. o ≡ None) es (by_whole (λ xs. flight_in xs ≡ None) refl s es station whole quiet.0 quiet.1 quiet.2)

pub unflown : {D : Type 0} (s : Station D) (es : List Entry) → IsStation s → AreWhole es (s.worker ∷ s.helper ∷ s.keeper ∷ []) → IsQuiet s → unwrap_or (flight_in es) [] ≡ []
unflown s es station whole quiet = by_pass (λ o. unwrap_or o [] ≡ []) es (by_whole (λ xs. unwrap_or (flight_in xs) [] ≡ []) refl s es station whole quiet.0.0 quiet.0.1 quiet.0.2)

-- ---- And one in which no pass wrote has no writes

abbrev written_in : List Entry → List Write
written_in es = writes (entries_of (notes_of es))

front_none : (xs ys : List Write) → xs ++ ys ≡ [] → xs ≡ []
front_none [] ys e = refl
front_none (x ∷ xs) ys e = absurd (cc e)

back_none : (xs ys : List Write) → xs ++ ys ≡ [] → ys ≡ []
back_none [] ys e = e
back_none (x ∷ xs) ys e = absurd (cc e)

rest_none : (t : Bool) (e : Entry) (xs : List Entry) → written_in (cond t (e ∷ xs) xs) ≡ [] → written_in xs ≡ []
rest_none false e xs none = none
rest_none true e xs none = back_none (written_by (operation_of e)) (written_in xs) none

none_by_pass : (es : List Entry) → ((n : ℕ) → written_in (own n es) ≡ []) → written_in es ≡ []
none_by_pass [] each = refl
none_by_pass (e ∷ es) each =
    ap (λ (xs : List Write). xs ++ written_in es) (front_none (written_by (operation_of e)) (written_in (own e.0 es)) made) ∙ none_by_pass es (λ n. rest_none (e.0 == n) e (own n es) (each n))
  where
    made : written_by (operation_of e) ++ written_in (own e.0 es) ≡ []
    made = subst (λ (t : Bool). written_in (cond t (e ∷ own e.0 es) (own e.0 es)) ≡ []) (self_equal e.0) (each e.0)

pub unwritten : {D : Type 0} (s : Station D) (es : List Entry) → IsStation s → AreWhole es (s.worker ∷ s.helper ∷ s.keeper ∷ []) → IsQuiet s → writes (entries_of (notes_of es)) ≡ []
unwritten s es station whole quiet = none_by_pass es (by_whole (λ xs. written_in xs ≡ []) refl s es station whole quiet.1.0 quiet.1.1 quiet.1.2)

-- a station to which nothing was written has a history that wrote nothing
pub writes_nothing : {D : Type 0} (s : Station D) (h : History) → IsStation s → IsHistoryOf s h → IsQuiet s → WritesNothing h
writes_nothing {D} s h station its quiet = record {
  none = subst (λ (ns : List Noted). writes (entries_of ns) ≡ []) (sym its.notes)
      (none_by_pass its.entries (all (λ xs. written_in xs ≡ []) refl quiet.1.0 quiet.1.1 quiet.1.2));
  calm = subst (λ (ns : List Noted). unwrap_or (flight_of (entries_of ns)) [] ≡ []) (sym its.notes)
      (by_pass (λ o. unwrap_or o [] ≡ []) its.entries (all (λ xs. unwrap_or (flight_in xs) [] ≡ []) refl quiet.0.0 quiet.0.1 quiet.0.2));
}
  where
    all : (Q : List Entry → Type 0) → Q [] → Q (pass_mine s.worker) → Q (pass_mine s.helper) → Q (pass_mine s.keeper) → (n : ℕ) → Q (own n its.entries)
    all Q nothing = by_station Q nothing s its.entries station its.worker_part its.helper_part its.keeper_part its.no_more
