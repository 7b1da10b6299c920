-- Where a volume's versions ended a run, its writes to logs took all of them.
use Rattle.replay.proofs.Basics.{◌≡◌, ◌==◌, ◌<◌, ◌≤◌, ◌+◌, ◌^◌, ℕ, Bool, true, false, cond, List, [], ◌∷◌, ◌++◌, refl, sym, ap, subst, ◌∙◌}
use Rattle.replay.proofs.Basics.{Option, None, Some, is_some, arith, append_assoc, if◌then◌else◌, list_any, AllByRecursion, option_or}
use Rattle.replay.proofs.Basics.{eq-eqb}
use Rattle.replay.proofs.Terms.{Begins, Entry, pass_seen, Write, flight_of, Answered, Look, logged_writes, Noted, AreRuled, entries_of}
use Rattle.replay.proofs.Terms.{notes_of, StepFault, Fault, Memory, Versions, Request, TellsFault, WasSpent, notes_seen, Outcome}
use Rattle.replay.proofs.Terms.{notes_joined, answers_to, outcomes_of, HasWorked, Desk, Reclaim, Window, fault_of_outcome, fault_of_reclaim}
use Rattle.replay.proofs.Terms.{fault_of_window, first_refused, lacked_memory}
use Rattle.replay.proofs.LastWindow.{closed_more}
use Rattle.replay.proofs.PassesRuled.{IsRuled}
use Rattle.replay.proofs.VersionsLeft.{next_at_most}
use Rattle.request_turns.proofs.Gaining.{spent_more}
use Rattle.manager.specs.declared.part.StepFault.TheVariants as step
use Rattle.manager.specs.declared.part.ReadRefusal.TheVariants as read
use Rattle.manager.specs.declared.part.WriteRefusal.TheVariants as write
use Rattle.request_turns.specs.declared.outcome.Outcome.TheVariants as outcome

-- ---- The refused write

-- the outcome is that of a write to this volume, and tells so
spent_outcome : (o : Outcome) (w v : ℕ) → fault_of_outcome w o ≡ Some (Versions v) → (seen : List Noted) → (w ≡ v) × (TellsFault seen o → WasSpent seen)
spent_outcome (outcome.Read mark sources) w v is seen = absurd (cc is)
spent_outcome (outcome.Wrote place drained) w v is seen = absurd (cc is)
spent_outcome (outcome.NoRead (read.DiskFault p)) w v is seen = absurd (cc is)
spent_outcome (outcome.NoRead (read.Down p)) w v is seen = absurd (cc is)
spent_outcome (outcome.NoWrite write.Full) w v is seen = absurd (cc is)
spent_outcome (outcome.NoWrite (write.DiskFault p)) w v is seen = absurd (cc is)
spent_outcome (outcome.NoWrite (write.Down p)) w v is seen = absurd (cc is)
spent_outcome (outcome.NoWrite write.VersionsSpent) w v is seen = (cc is, λ told. told)
spent_outcome (outcome.NoWrite write.NoMemory) w v is seen = absurd (cc is)
spent_outcome outcome.NotRun w v is seen = absurd (cc is)

-- the first refused request is one of this volume
pub spent_within : (n : ℕ) (rs : List Request) (os : List Outcome) (v : ℕ) → first_refused rs os ≡ Some (Versions v) → AllByRecursion (λ (a : Answered). a.request.volume < n) (answers_to rs os) → v < n
spent_within n [] os v refused within = absurd (cc refused)
spent_within n (r ∷ rs) [] v refused within = absurd (cc refused)
spent_within n (r ∷ rs) (o ∷ os) v refused within = at (fault_of_outcome r.volume o) refl refused (λ rest. spent_within n rs os v rest within.1)
  where
    at : (x : Option Fault) → fault_of_outcome r.volume o ≡ x → option_or x (first_refused rs os) ≡ Some (Versions v) → (first_refused rs os ≡ Some (Versions v) → v < n) → v < n
    at None is rest others = others rest
    at (Some f) is here others = subst (λ (m : ℕ). m < n) (spent_outcome o r.volume v (is ∙ here) []).0 within.0

spent_own : (rs : List Request) (os : List Outcome) (v : ℕ) → first_refused rs os ≡ Some (Versions v) → (seen : List Noted) → AllByRecursion (TellsFault seen) (outcomes_of v rs os) → WasSpent seen
spent_own [] os v refused seen tells = absurd (cc refused)
spent_own (r ∷ rs) [] v refused seen tells = absurd (cc refused)
spent_own (r ∷ rs) (o ∷ os) v refused seen tells = at (fault_of_outcome r.volume o) refl refused (λ rest. spent_own rs os v rest seen (behind (r.volume == v) tells))
  where
    behind : (b : Bool) → AllByRecursion (TellsFault seen) (cond b (o ∷ outcomes_of v rs os) (outcomes_of v rs os)) → AllByRecursion (TellsFault seen) (outcomes_of v rs os)
    behind true all = all.1
    behind false all = all

    at : (x : Option Fault) → fault_of_outcome r.volume o ≡ x → option_or x (first_refused rs os) ≡ Some (Versions v) → (first_refused rs os ≡ Some (Versions v) → WasSpent seen) → WasSpent seen
    at None is rest others = others rest
    at (Some f) is here others =
        let own_one = spent_outcome o r.volume v (is ∙ here) seen in
        own_one.1 (subst (λ (b : Bool). AllByRecursion (TellsFault seen) (cond b (o ∷ outcomes_of v rs os) (outcomes_of v rs os))) (eq-eqb r.volume v own_one.0) tells).0

step_part : (k v : ℕ) (s : StepFault) → fault_of_reclaim (Some (k, s)) ≡ Some (Versions v) → ⊥
step_part k v (step.DiskFault p) is = absurd (cc is)
step_part k v (step.Down p) is = absurd (cc is)

-- it was a request, and no step of reclaim
pub spent_request : (rs : List Request) (w : Window) (v : ℕ) → fault_of_window rs w ≡ Some (Versions v) → first_refused rs w.outcomes.items ≡ Some (Versions v)
spent_request rs w v fault = at (list_any lacked_memory w.outcomes.items) fault
  where
    of_reclaim : (x : Option (ℕ × StepFault)) → fault_of_reclaim x ≡ Some (Versions v) → first_refused rs w.outcomes.items ≡ Some (Versions v)
    of_reclaim None is = absurd (cc is)
    of_reclaim (Some (k, s)) is = absurd (step_part k v s is)

    next : (x : Option Fault) → first_refused rs w.outcomes.items ≡ x → option_or x (fault_of_reclaim w.fault) ≡ Some (Versions v) → first_refused rs w.outcomes.items ≡ Some (Versions v)
    next None is rest = of_reclaim w.fault rest
    next (Some y) is here = is ∙ here

    at : (b : Bool) → (if b then Some Memory else option_or (first_refused rs w.outcomes.items) (fault_of_reclaim w.fault)) ≡ Some (Versions v) → first_refused rs w.outcomes.items ≡ Some (Versions v)
    at true is = absurd (cc is)
    at false is = next (first_refused rs w.outcomes.items) refl is

-- ---- The entries of the volume

none_flew : (o : Option (List Write)) → (is_some o ≡ true → ⊥) → o ≡ None
none_flew None whole = refl
none_flew (Some ws) whole = absurd (whole refl)

-- where one of these entries left no version, before any call failed, the versions of the writes among them reach the end
spent_next : (l : Look) (notes : List Noted) → AreRuled l notes → AllByRecursion IsRuled notes → WasSpent notes → 2 ^ 63 ≤ l.next + logged_writes notes
spent_next l notes rules all is =
    let least = next_at_most l is.front is.note is.later (subst (λ (ns : List Noted). AreRuled l ns) is.seen_is rules) (subst (λ (ns : List Noted). AllByRecursion IsRuled ns) is.seen_is all)
    (none_flew (flight_of (entries_of (is.front ++ is.note ∷ []))) is.unbroken) in
    let same : logged_writes notes ≡ logged_writes (is.front ++ is.note ∷ is.later) = ap logged_writes is.seen_is in
    let spent = is.spent in
    omega (arith, least, same, spent)

module _ {D : Type 0} (tells : Bool) (mode : Reclaim) (k : ℕ) (rs : List Request) (w : Window) (d e : Desk D) (worked : HasWorked tells rs w.outcomes.items mode k d e) (entries : List Entry) (seen : Begins (pass_seen e.worker) entries) where
  -- a volume whose versions ended a window had none left then
  pub versions_ended : fault_of_window rs w ≡ Some (Versions k) → (l : Look) → AreRuled l (notes_of entries) → AllByRecursion IsRuled (notes_of entries) → 2 ^ 63 ≤ l.next + logged_writes (notes_of entries)
  versions_ended fault l rules all =
      let (more, notes, seen_more, mine_more) = closed_more tells mode e.fault worked.middle e.worker worked.closed in
      let whole : entries ≡ pass_seen worked.middle ++ (more ++ seen.0) = sym seen.1 ∙ ap (λ es. es ++ seen.0) seen_more ∙ append_assoc (pass_seen worked.middle) more seen.0 in
      let at_end : notes_of entries ≡ notes_seen worked.middle ++ notes_of (more ++ seen.0) = ap notes_of whole ∙ notes_joined (pass_seen worked.middle) (more ++ seen.0) in
      let early : WasSpent (notes_seen worked.middle) = spent_own rs w.outcomes.items k (spent_request rs w k fault) (notes_seen worked.middle) worked.faults in
      spent_next l (notes_of entries) rules all (subst WasSpent (sym at_end) (spent_more (notes_seen worked.middle) (notes_of (more ++ seen.0)) early))
