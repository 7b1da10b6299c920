-- Where a volume's versions ended a run, a write to it wasn't answered.
use Rattle.replay.proofs.Basics.{◌≡◌, ◌==◌, ◌<◌, ℕ, zero, suc, Bool, true, false, cond, List, [], ◌∷◌, ◌++◌, length, refl, subst, ◌∙◌}
use Rattle.replay.proofs.Basics.{Option, None, Some, arith, ⊤, Contains, if◌then◌else◌, list_any, AllByRecursion, option_or, eq-eqb}
use Rattle.replay.proofs.Terms.{Answered, is_answered, Noted, Place, StepFault, Fault, Memory, Versions, asked, Request, AreEntriesOf}
use Rattle.replay.proofs.Terms.{AreMade, Outcome, HasRun, answers_to, outcomes_of, own_requests, told, Floor, Reclaim, HasRefusedWrite}
use Rattle.replay.proofs.Terms.{fault_of_outcome, fault_of_reclaim, fault_of_window, first_refused, lacked_memory, ServedWindow}
use Rattle.replay.proofs.Grouped.{all_wrote, made_by_cases}
use Rattle.replay.proofs.RacksServed.{a_member}
use Rattle.wol_model.specs.declared.trace.Kind.TheVariants as kind
use Rattle.manager.specs.declared.part.StepFault.TheVariants as step
use Rattle.manager.specs.declared.part.ReadRefusal.TheVariants as read
use Rattle.manager.specs.declared.part.WriteRefusal.TheVariants as write
use Rattle.request_turns.specs.declared.outcome.Outcome.TheVariants as outcome

-- ---- Kinds

-- a request with the outcome of a write is a write
abbrev FitsKind : Request → Outcome → Type 0
FitsKind r (outcome.Read mark sources) = ⊤
FitsKind r (outcome.Wrote place drained) = ⊤
FitsKind r (outcome.NoRead refusal) = ⊤
FitsKind r (outcome.NoWrite refusal) = r.kind ≡ kind.Write
FitsKind r outcome.NotRun = ⊤

abbrev FitKinds : List Request → List Outcome → Type 0
FitKinds [] os = ⊤
FitKinds (r ∷ rs) [] = ⊤
FitKinds (r ∷ rs) (o ∷ os) = FitsKind r o × FitKinds rs os

request_kind : (view : List ℕ) (r : Request) (rs : List Request) (o : Outcome) (first : List Noted) → AreEntriesOf view r rs o first → FitsKind r o
request_kind view r rs (outcome.Read mark sources) first entries = tt
request_kind view r rs (outcome.Wrote place drained) first entries = tt
request_kind view r rs (outcome.NoRead refusal) first entries = tt
request_kind view r rs (outcome.NoWrite refusal) first (n, one, (is_write, refused)) = is_write
request_kind view r rs outcome.NotRun first entries = tt

kinds_behind : (group rs : List Request) (place : Place) (os : List Outcome) → FitKinds rs os → FitKinds (group ++ rs) (all_wrote (length group) place ++ os)
kinds_behind [] rs place os rest = rest
kinds_behind (r ∷ group) rs place os rest = (tt, kinds_behind group rs place os rest)

made_kinds : (view : List ℕ) (rs : List Request) (os : List Outcome) (notes : List Noted) → AreMade view rs os notes → FitKinds rs os
made_kinds view rs os notes made =
    made_by_cases view (λ rs os notes. FitKinds rs os) tt (λ r rs o os first rest entries others more. (request_kind view r rs o first entries, more)) (λ group rs place os n rest two entry more. kinds_behind group rs place os more)
    rs os notes made

-- ---- The refused request

-- a write among answers that wasn't answered
record IsRefusedIn (v : ℕ) (answers : List Answered) : Type 0 where
  answer : Answered
  among : Contains answers answer
  volume : answer.request.volume ≡ v
  kind_is : answer.request.kind ≡ kind.Write
  refused : is_answered answer.outcome ≡ false

spent_outcome : (r : Request) (o : Outcome) (v : ℕ) → fault_of_outcome r.volume o ≡ Some (Versions v) → FitsKind r o → (r.volume ≡ v) × (r.kind ≡ kind.Write) × (is_answered (told o) ≡ false)
spent_outcome r (outcome.Read mark sources) v is fits = absurd (cc is)
spent_outcome r (outcome.Wrote place drained) v is fits = absurd (cc is)
spent_outcome r (outcome.NoRead (read.DiskFault p)) v is fits = absurd (cc is)
spent_outcome r (outcome.NoRead (read.Down p)) v is fits = absurd (cc is)
spent_outcome r (outcome.NoWrite write.Full) v is fits = absurd (cc is)
spent_outcome r (outcome.NoWrite (write.DiskFault p)) v is fits = absurd (cc is)
spent_outcome r (outcome.NoWrite (write.Down p)) v is fits = absurd (cc is)
spent_outcome r (outcome.NoWrite write.VersionsSpent) v is fits = (cc is, fits, refl)
spent_outcome r (outcome.NoWrite write.NoMemory) v is fits = absurd (cc is)
spent_outcome r outcome.NotRun v is fits = absurd (cc is)

spent_request : (n : ℕ) (rs : List Request) (os : List Outcome) (v : ℕ) → first_refused rs os ≡ Some (Versions v) → AllByRecursion (λ (r : Request). r.volume < n) rs
    → ((k : ℕ) → k < n → FitKinds (own_requests k rs) (outcomes_of k rs os)) → IsRefusedIn v (answers_to rs os)
spent_request n [] os v refused within kinds = absurd (cc refused)
spent_request n (r ∷ rs) [] v refused within kinds = absurd (cc refused)
spent_request n (r ∷ rs) (o ∷ os) v refused within kinds =
    at (fault_of_outcome r.volume o) refl refused (λ rest. spent_request n rs os v rest within.1 (λ k lt. behind k (r.volume == k) (kinds k lt)))
  where
    behind : (k : ℕ) (b : Bool) → FitKinds (cond b (r ∷ own_requests k rs) (own_requests k rs)) (cond b (o ∷ outcomes_of k rs os) (outcomes_of k rs os)) → FitKinds (own_requests k rs) (outcomes_of k rs os)
    behind k true all = all.1
    behind k false all = all

    at : (x : Option Fault) → fault_of_outcome r.volume o ≡ x → option_or x (first_refused rs os) ≡ Some (Versions v) → (first_refused rs os ≡ Some (Versions v) → IsRefusedIn v (answers_to rs os))
        → IsRefusedIn v (answers_to (r ∷ rs) (o ∷ os))
    at None is rest others =
        let found = others rest in
        let (k, less, same) = found.among in
        record { answer = found.answer; among = (suc k, omega (arith, less), same); volume = found.volume; kind_is = found.kind_is; refused = found.refused }
    at (Some f) is here others =
        let all = subst (λ (b : Bool). FitKinds (cond b (r ∷ own_requests r.volume rs) (own_requests r.volume rs)) (cond b (o ∷ outcomes_of r.volume rs os) (outcomes_of r.volume rs os))) (eq-eqb r.volume r.volume refl)
        (kinds r.volume within.0) in
        let (volume, is_write, none) = spent_outcome r o v (is ∙ here) all.0 in
        record { answer = record { request = asked r; outcome = told o }; among = (zero, omega arith, refl); volume = volume; kind_is = is_write; refused = none }

-- ---- A window

step_part : (k v : ℕ) (s : StepFault) → fault_of_reclaim (Some (k, s)) ≡ Some (Versions v) → ⊥
step_part k v (step.DiskFault p) is = absurd (cc is)
step_part k v (step.Down p) is = absurd (cc is)

pub window_spent : {D : Type 0} (tells : Bool) (mode : Reclaim) (f g : Floor D) (s : ServedWindow) → HasRun tells s.batch.requests mode f g s.answer → (v : ℕ) → fault_of_window s.batch.requests s.answer ≡ Some (Versions v)
    → AllByRecursion (λ (r : Request). r.volume < length f.desks.items) s.batch.requests → HasRefusedWrite v s
window_spent {D} tells mode f g s run v fault within = at (list_any lacked_memory s.answer.outcomes.items) fault
  where
    kinds : (k : ℕ) → k < length f.desks.items → FitKinds (own_requests k s.batch.requests) (outcomes_of k s.batch.requests s.answer.outcomes.items)
    kinds k lt = let worked = run.worked k (a_member f.desks.items k lt).0 lt in made_kinds _ (own_requests k s.batch.requests) (outcomes_of k s.batch.requests s.answer.outcomes.items) worked.notes worked.made

    of_request : first_refused s.batch.requests s.answer.outcomes.items ≡ Some (Versions v) → HasRefusedWrite v s
    of_request refused =
        let found = spent_request (length f.desks.items) s.batch.requests s.answer.outcomes.items v refused within kinds in
        record { answer = found.answer; among = found.among; volume = found.volume; kind_is = found.kind_is; refused = found.refused }

    of_reclaim : (x : Option (ℕ × StepFault)) → fault_of_reclaim x ≡ Some (Versions v) → HasRefusedWrite v s
    of_reclaim None is = absurd (cc is)
    of_reclaim (Some (k, step_)) is = absurd (step_part k v step_ is)

    next : (x : Option Fault) → first_refused s.batch.requests s.answer.outcomes.items ≡ x → option_or x (fault_of_reclaim s.answer.fault) ≡ Some (Versions v) → HasRefusedWrite v s
    next None is rest = of_reclaim s.answer.fault rest
    next (Some y) is here = of_request (is ∙ here)

    at : (b : Bool) → (if b then Some Memory else option_or (first_refused s.batch.requests s.answer.outcomes.items) (fault_of_reclaim s.answer.fault)) ≡ Some (Versions v) → HasRefusedWrite v s
    at true is = absurd (cc is)
    at false is = next (first_refused s.batch.requests s.answer.outcomes.items) refl is
