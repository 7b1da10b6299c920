-- Where all requests of a trace were answered, what is counted of reads and writes is the trace's.
use Rattle.replay.proofs.Basics.{◌≡◌, ◌==◌, ◌<◌, ℕ, Bool, true, false, cond, List, [], ◌∷◌, length, map, take, drop, refl, sym, ap, subst}
use Rattle.replay.proofs.Basics.{◌∙◌, Some, not, arith, count_by, slice_get, AllByRecursion, eq-eqb, take-append-drop, sum_by-cons}
use Rattle.replay.proofs.Terms.{Write, Broke, Kept, Operation, Read, Wrote, Kind, Answered, AreOutcomes, AreWritten, IsWriteOf, Unanswered}
use Rattle.replay.proofs.Terms.{WasRead, WasWritten, answered_in, entries_of, answers_of, requests_in, AreAllAnswered, told, is_write}
use Rattle.replay.proofs.Terms.{was_read, was_written, History, answers_in, ServedWindow, outcomes_in}
use Rattle.wol_model.specs.Trace.{Request}
use Rattle.wol_promise.specs.Outcomes.{Outcome}
use Rattle.replay.proofs.AnswersServed.{all_both}
use Rattle.replay.proofs.CountsLeft.{all_there}
use Rattle.replay.proofs.RacksServed.{a_member}
use Rattle.replay.proofs.WritesPlaced.{counted_more, does, of_windows}
use Rattle.wol_model.specs.History as history
use Rattle.request_turns.specs.declared.outcome.Outcome as turns
use Rattle.request_turns.specs.declared.outcome.Outcome.TheVariants as outcome

abbrev read_in : Outcome → Bool
read_in (WasRead mark) = true
read_in (WasWritten logged drained) = false
read_in Unanswered = false

abbrev written_in : Outcome → Bool
written_in (WasRead mark) = false
written_in (WasWritten logged drained) = true
written_in Unanswered = false

-- ---- Answers of the kind that was asked for

-- a read was read, and a write was written
abbrev IsOfKind : Answered → Type 0
IsOfKind a = (read_in a.outcome ≡ not (is_write a.request.kind)) × (written_in a.outcome ≡ is_write a.request.kind)

of_written : (xs : List Answered) (ws : List Write) → AreWritten xs ws → AllByRecursion IsOfKind xs
of_written [] [] written = tt
of_written [] (w ∷ ws) written = absurd written
of_written (x ∷ xs) [] written = absurd written
of_written (x ∷ xs) (w ∷ ws) (first, others) = (at x.outcome refl first, of_written xs ws others)
  where
    at : (o : Outcome) → x.outcome ≡ o → IsWriteOf o x.request w → IsOfKind x
    at (WasWritten logged drained) is (kind_is, payload) = (ap read_in is ∙ sym (ap (λ (k : Kind). not (is_write k)) kind_is), ap written_in is ∙ sym (ap is_write kind_is))
    at (WasRead mark) is none = absurd none
    at Unanswered is none = absurd none

of_outcomes : (xs : List Answered) (operations : List Operation) → AreOutcomes xs operations → AllByRecursion IsOfKind xs
of_outcomes xs [] outs = subst (λ (l : List Answered). AllByRecursion IsOfKind l) (sym outs) tt
of_outcomes xs (Kept ∷ operations) outs = of_outcomes xs operations outs
of_outcomes xs (Broke ws ∷ operations) outs = of_outcomes xs operations outs
of_outcomes xs (Wrote ws ∷ operations) outs =
    subst (λ (l : List Answered). AllByRecursion IsOfKind l) (take-append-drop (length ws) xs)
    (all_both IsOfKind (take (length ws) xs) (drop (length ws) xs) (of_written (take (length ws) xs) ws outs.0) (of_outcomes (drop (length ws) xs) operations outs.1))
of_outcomes [] (Read first reply ∷ operations) outs = absurd outs
of_outcomes (x ∷ xs) (Read first reply ∷ operations) (one, others) =
    ((ap read_in one.marked ∙ sym (ap (λ (k : Kind). not (is_write k)) one.asked), ap written_in one.marked ∙ sym (ap is_write one.asked)), of_outcomes xs operations others)

-- what holds of the answers of each volume holds of all
by_volumes : (P : Answered → Type 0) (n : ℕ) (xs : List Answered) → AllByRecursion (λ (a : Answered). a.request.volume < n) xs → ((v : ℕ) → v < n → AllByRecursion P (answers_of v xs)) → AllByRecursion P xs
by_volumes P n [] within each = tt
by_volumes P n (x ∷ xs) (lt, within) each =
    (here (x.request.volume == x.request.volume) (eq-eqb x.request.volume x.request.volume refl) (each x.request.volume lt), by_volumes P n xs within (λ v less. rest v (x.request.volume == v) (each v less)))
  where
    here : (t : Bool) → t ≡ true → AllByRecursion P (cond t (x ∷ answers_of x.request.volume xs) (answers_of x.request.volume xs)) → P x
    here true is all = all.0
    here false is all = absurd (cc is)

    rest : (v : ℕ) (t : Bool) → AllByRecursion P (cond t (x ∷ answers_of v xs) (answers_of v xs)) → AllByRecursion P (answers_of v xs)
    rest v true all = all.1
    rest v false all = all

-- ---- Counts

kinds_counted : (passes : Outcome → Bool) (asks : Request → Bool) (xs : List Answered) → AllByRecursion (λ (a : Answered). passes a.outcome ≡ asks a.request) xs → count_by (does passes) xs ≡ count_by asks (requests_in xs)
kinds_counted passes asks [] all = refl
kinds_counted passes asks (x ∷ xs) (first, others) =
    let here : cond {A = ℕ} (passes x.outcome) 1 0 ≡ cond {A = ℕ} (asks x.request) 1 0 = ap (λ (t : Bool). cond {A = ℕ} t 1 0) first in
    let a = counted_more passes x xs in
    let b = sum_by-cons (λ (r : Request). cond (asks r) 1 0) x.request (requests_in xs) in
    let rest = kinds_counted passes asks xs others in
    omega (arith, here, a, b, rest)

kind_same : (o : turns.Outcome) → (was_read o ≡ read_in (told o)) × (was_written o ≡ written_in (told o))
kind_same (outcome.Read mark sources) = (refl, refl)
kind_same (outcome.Wrote place drained) = (refl, refl)
kind_same (outcome.NoRead refusal) = (refl, refl)
kind_same (outcome.NoWrite refusal) = (refl, refl)
kind_same outcome.NotRun = (refl, refl)

all_map : (P Q : Answered → Type 0) (xs : List Answered) → ((a : Answered) → P a → Q a) → AllByRecursion P xs → AllByRecursion Q xs
all_map P Q [] f all = tt
all_map P Q (x ∷ xs) f (first, others) = (f x first, all_map P Q xs f others)

-- as many answered reads, and answered writes, as requests ask for
pub record AreAllCounted (rs : List Request) (ss : List ServedWindow) : Type 0 where
  pub reads : count_by was_read (outcomes_in ss) ≡ count_by (λ (r : Request). not (is_write r.kind)) rs
  pub writes : count_by was_written (outcomes_in ss) ≡ count_by (λ (r : Request). is_write r.kind) rs

pub all_counted_asked : (rs : List Request) (ss : List ServedWindow) (hs : List History) → AllByRecursion (λ (s : ServedWindow). length s.answer.outcomes.items ≡ length s.batch.requests) ss
    → AllByRecursion (λ (a : Answered). a.request.volume < length hs) (answers_in ss) → requests_in (answers_in ss) ≡ rs
    → ((v : ℕ) (h : History) → slice_get hs v ≡ Some h → AreOutcomes (answered_in (answers_of v (answers_in ss))) (map (λ (e : history.Entry). e.operation) (entries_of h.notes)))
    → ((v : ℕ) → AreAllAnswered (answers_of v (answers_in ss))) → AreAllCounted rs ss
all_counted_asked rs ss hs sized within asked answered all =
    let kinds : AllByRecursion IsOfKind (answers_in ss) = by_volumes IsOfKind (length hs) (answers_in ss) within (λ v lt. (let (h, here) = a_member hs v lt in
    subst (λ (l : List Answered). AllByRecursion IsOfKind l) (all_there (answers_of v (answers_in ss)) (all v)) (of_outcomes (answered_in (answers_of v (answers_in ss))) (map (λ (e : history.Entry). e.operation) (entries_of h.notes)) (answered v h here)))) in
    record {
      reads = of_windows read_in was_read (λ o. (kind_same o).0) ss sized ∙ kinds_counted read_in (λ (r : Request). not (is_write r.kind)) (answers_in ss) (all_map IsOfKind _ (answers_in ss) (λ a is. is.0) kinds) ∙ ap (λ (l : List Request). count_by (λ (r : Request). not (is_write r.kind)) l) asked;
      writes = of_windows written_in was_written (λ o. (kind_same o).1) ss sized ∙ kinds_counted written_in (λ (r : Request). is_write r.kind) (answers_in ss) (all_map IsOfKind _ (answers_in ss) (λ a is. is.1) kinds) ∙ ap (λ (l : List Request). count_by (λ (r : Request). is_write r.kind) l) asked;
    }
