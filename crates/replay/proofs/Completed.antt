-- A run over open volumes in whose way nothing stands comes to its end.
use Rattle.replay.proofs.Basics.{◌≡◌, ◌≤◌, ◌⊎◌, ◌+◌, ◌++◌, ◌^◌, ℕ, Bool, true, false, List, [], ◌∷◌, length, refl, sym, ap, subst, ◌∙◌}
use Rattle.replay.proofs.Basics.{Option, None, Some, Result, Ok, Err, inl, inr, arith, IsTrue, if◌then◌else◌, slice_get, count_by, list_any}
use Rattle.replay.proofs.Basics.{option_map_or, option_or, cases_lt}
use Rattle.replay.proofs.Terms.{Rose, BayState, Told, requests, Answered, answered_in, of_volume, entries_of, answers_of, requests_in}
use Rattle.replay.proofs.Terms.{length_mapped, volume_requests, Config, StepFault, Fault, Memory, TraceSource, Versions}
use Rattle.replay.proofs.Terms.{trouble_of_part, targets_of, IsTold, Outcome, Window, Completes, MayComplete, is_write, writes_to, EndsFor}
use Rattle.replay.proofs.Terms.{HasRefusedWrite, IsPartFault, memory, no_line, refused, sink_failed, fault_of_outcome, fault_of_reclaim}
use Rattle.replay.proofs.Terms.{fault_of_window, first_refused, lacked_memory, History, answers_in, is_broken_at, next_after}
use Rattle.replay.proofs.Terms.{next_at, Replays, status_in, ServedWindow, Given, Options, Stop, most_of}
use Rattle.wol_model.specs.Trace.{Request}
use Rattle.replay.proofs.LastRefused.{one_refused}
use Rattle.replay.proofs.Refused.{no_refusal}
use Rattle.replay.proofs.WritesAnswered.{asked_writes, logged_answered, writes_in}
use Rattle.manager.specs.declared.part.ReadRefusal.TheVariants as read
use Rattle.manager.specs.declared.part.StepFault.TheVariants as step
use Rattle.manager.specs.declared.part.WriteRefusal.TheVariants as write
use Rattle.trace_windows.specs.declared.request.Request as program
use Rattle.request_turns.specs.declared.outcome.Outcome.TheVariants as outcome
use Rattle.replay.specs.declared.stop.Stop.TheVariants as stop

-- ---- What a window may end a run with

-- a part, want of memory, or an end of versions
abbrev IsOfWindow : Fault → Type 0
IsOfWindow f = IsPartFault f ⊎ (f ≡ Memory) ⊎ ((v : ℕ) × (f ≡ Versions v))

outcome_kind : (o : Outcome) (v : ℕ) (f : Fault) → fault_of_outcome v o ≡ Some f → IsOfWindow f
outcome_kind (outcome.Read mark sources) v f is = absurd (cc is)
outcome_kind (outcome.Wrote place drained) v f is = absurd (cc is)
outcome_kind (outcome.NoRead (read.DiskFault p)) v f is = inl (v, trouble_of_part p, sym (cc is))
outcome_kind (outcome.NoRead (read.Down p)) v f is = inl (v, trouble_of_part p, sym (cc is))
outcome_kind (outcome.NoWrite write.Full) v f is = absurd (cc is)
outcome_kind (outcome.NoWrite (write.DiskFault p)) v f is = inl (v, trouble_of_part p, sym (cc is))
outcome_kind (outcome.NoWrite (write.Down p)) v f is = inl (v, trouble_of_part p, sym (cc is))
outcome_kind (outcome.NoWrite write.VersionsSpent) v f is = inr (inr (v, sym (cc is)))
outcome_kind (outcome.NoWrite write.NoMemory) v f is = inr (inl (sym (cc is)))
outcome_kind outcome.NotRun v f is = absurd (cc is)

first_kind : (rs : List program.Request) (os : List Outcome) (f : Fault) → first_refused rs os ≡ Some f → IsOfWindow f
first_kind [] os f is = absurd (cc is)
first_kind (r ∷ rs) [] f is = absurd (cc is)
first_kind (r ∷ rs) (o ∷ os) f is = at (fault_of_outcome r.volume o) refl is (λ rest. first_kind rs os f rest)
  where
    at : (x : Option Fault) → fault_of_outcome r.volume o ≡ x → option_or x (first_refused rs os) ≡ Some f → (first_refused rs os ≡ Some f → IsOfWindow f) → IsOfWindow f
    at None none rest others = others rest
    at (Some g) some here others = outcome_kind o r.volume f (some ∙ here)

reclaim_kind : (x : Option (ℕ × StepFault)) (f : Fault) → fault_of_reclaim x ≡ Some f → IsOfWindow f
reclaim_kind None f is = absurd (cc is)
reclaim_kind (Some (k, step.DiskFault p)) f is = inl (k, trouble_of_part p, sym (cc is))
reclaim_kind (Some (k, step.Down p)) f is = inl (k, trouble_of_part p, sym (cc is))

window_kind : (rs : List program.Request) (w : Window) (f : Fault) → fault_of_window rs w ≡ Some f → IsOfWindow f
window_kind rs w f is = at (list_any lacked_memory w.outcomes.items) is
  where
    next : (x : Option Fault) → first_refused rs w.outcomes.items ≡ x → option_or x (fault_of_reclaim w.fault) ≡ Some f → IsOfWindow f
    next None none rest = reclaim_kind w.fault f rest
    next (Some g) some here = first_kind rs w.outcomes.items f (some ∙ here)

    at : (b : Bool) → (if b then Some Memory else option_or (first_refused rs w.outcomes.items) (fault_of_reclaim w.fault)) ≡ Some f → IsOfWindow f
    at true so = inr (inl (sym (cc so)))
    at false so = next (first_refused rs w.outcomes.items) refl so

-- ---- Versions

told_there : (P : Told → Told → Type 0) (a b : Option Told) (e : Told) → IsTold P a b → a ≡ Some e → (n : Told) × P e n
told_there P None b e told is = absurd (cc is)
told_there P (Some x) None e told is = absurd told
told_there P (Some x) (Some n) e told is = let same : x ≡ e = cc is in (n, subst (λ (y : Told). P y n) same told)

module _ {S T : Type 0} (tells : Bool) (left : S → Option (List ℕ)) (config : Config) (options : Options) (start now : Given S) (old new : BayState) (result : Result T Stop) (sink sink' source source' : ℕ) (printed printed' : Option (List ℕ))
    (r : Replays tells left config options start now old new result sink sink' printed printed') (m : MayComplete tells left config start now old new sink sink' source source') where
  abbrev answers : List Answered
  answers = answers_in (r.earlier ++ r.last)

  -- no volume's versions end
  versions_left : (v : ℕ) (s : ServedWindow) → r.last ≡ s ∷ [] → HasRefusedWrite v s → status_in result ≡ 11 → ⊥
  versions_left v s only write_ status =
      let (short, few) = one_refused r.earlier r.last v s only write_ in
      let sized : length (of_volume v (requests_in answers)) ≡ length (answers_of v answers) = ap length (sym (volume_requests v answers)) ∙ length_mapped (λ (x : Answered). x.request) (answers_of v answers) in
      let intact : IsTrue (is_broken_at r.histories v) → ⊥ = λ broken. m.bay_calm (r.cause v broken) in
      elim (cases_lt (next_at r.histories v) (2 ^ 63)) [
        | inl less ↦
            let every = r.counts.unless v (λ is. (let no : 11 ≡ 7 = sym status ∙ is in absurd (omega (arith, no)))) (λ is. (let no : 11 ≡ 9 = sym status ∙ is in absurd (omega (arith, no)))) intact less in
            absurd (omega (arith, every, sized, short))
        | inr more ↦ spent (slice_get r.histories v) refl more few
      ]
    where
      spent : (o : Option History) → slice_get r.histories v ≡ o → 2 ^ 63 ≤ option_map_or next_after o 0 → writes_in (answered_in (answers_of v answers)) + 1 ≤ writes_in (answers_of v answers) → ⊥
      spent None none more few = absurd (omega (arith, more))
      spent (Some h) here more few =
          let one = r.are.each v h here in
          let (n, begun) = told_there _ old.told new.told m.entry (r.begun m.telling) m.entry_is in
          let room = m.versions h.base (begun v h here) r.run r.more r.given in
          let asked : writes_to h.base.owner (requests (most_of config) (targets_of config) r.run) ≡ writes_in (answers_of v answers)
          = (λ i. writes_to (one.owner i) (sym r.asked i)) ∙ ap (λ (l : List Request). count_by (λ (x : Request). is_write x.kind) l) (sym (volume_requests v answers)) ∙ sym (asked_writes (answers_of v answers)) in
          let logged = logged_answered (answered_in (answers_of v answers)) (entries_of h.notes) one.answered in
          absurd (omega (arith, more, room, asked, logged, few))

  pub completes_ran : (result ≡ Err (stop.Fault TraceSource) → Rose source source') → Completes result
  completes_ran source_is = by result r.ends refl
    where
      by : (x : Result T Stop) → EndsFor left config start now r.run r.last old.faults new.faults sink sink' x → x ≡ result → Completes x
      by (Ok x) ends is = inl refl
      by (Err (stop.Fault _)) (no_line refusal other only refuses) is = absurd (no_refusal left start now r.run result (λ e. m.source_calm (source_is e)) (λ number why. m.spelled number why r.run) (m.few r.run) refusal other refuses is)
      by (Err (stop.Fault _)) (refused f s only told rose spent) is = elim (window_kind s.batch.requests s.answer f told) [
        | inl part ↦ absurd (m.bay_calm (rose part))
        | inr (inl lacks) ↦ inr (ap (λ (g : Fault). Err (stop.Fault g)) lacks)
        | inr (inr (v, versions)) ↦ absurd (versions_left v s only (spent v versions) (ap (λ (y : Result T Stop). status_in y) (sym is) ∙ ap (λ (g : Fault). status_in {T = T} (Err (stop.Fault g))) versions))
      ]
      by (Err (stop.Fault _)) memory is = inr refl
      by (Err stop.Sink) (sink_failed rose) is = absurd (m.sink_calm rose)
