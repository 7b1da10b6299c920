-- Why not all requests of the last window were answered: a part of the volume failed, or its versions ended.
use Rattle.replay.proofs.Basics.{◌≡◌, ◌≢◌, ◌<◌, ◌≤◌, ◌^◌, ℕ, Bool, true, List, [], ◌∷◌, Option, None, Some, refl, sym, ap, subst, ◌∙◌}
use Rattle.replay.proofs.Basics.{append-nil, arith, IsTrue, is_some, slice_get, AllByRecursion, option_map_or}
use Rattle.replay.proofs.Terms.{Begins, own, pass_mine, pass_number, pass_seen, BayState, Write, flight_of, worker, Answered, logged_writes}
use Rattle.replay.proofs.Terms.{AreRuled, entries_of, answers_of, AreAllAnswered, Config, Station, Fault, ImageRest, notes_of, IsBroken}
use Rattle.replay.proofs.Terms.{ManagerPass, answers_to, Reclaim, fault_of_window, History, answers_in, is_broken_at, next_after, next_at}
use Rattle.replay.proofs.Terms.{ServedWindow}
use Rattle.replay.proofs.HistoriesLeft.{IsHistoryAt}
use Rattle.replay.proofs.LastWindow.{IsBelow, last_answered}
use Rattle.replay.proofs.PassesRuled.{IsRuled}
use Rattle.replay.proofs.SpentLeft.{versions_ended}
use Rattle.replay.proofs.TracesLeft.{LastServed}
use Rattle.report.specs.declared.fault.Fault.TheVariants as fault

-- ---- The last window

none_flew : (o : Option (List Write)) → (is_some o ≡ true → ⊥) → o ≡ None
none_flew None whole = refl
none_flew (Some ws) whole = absurd (whole refl)

module _ {D : Type 0} (tells : Bool) (mode : Reclaim) (config : Config) (out : List (Option (ImageRest D))) (old new : BayState) (ss : List (Station D)) (histories : List History) (v : ℕ) (h : History) (here : slice_get histories v ≡ Some h)
    (at : IsHistoryAt tells config out old new ss v h) (numbered : pass_number at.station.worker ≡ worker) (below : flight_of (entries_of h.notes) ≡ None → AllByRecursion (IsBelow (next_after h)) h.notes)
    (s : ServedWindow) (served : LastServed tells mode v s at.station) where
  -- all requests of the volume were answered, where none of its parts failed and it had versions left
  pub answered_last : (f : Fault) → fault_of_window s.batch.requests s.answer ≡ Some f → f ≢ fault.Memory → (IsTrue (is_broken_at histories v) → ⊥) → next_at histories v < 2 ^ 63
      → AreAllAnswered (answers_of v (answers_in (s ∷ [])))
  answered_last f is other whole few =
      subst (λ (l : List Answered). AreAllAnswered (answers_of v l)) (sym (append-nil (answers_to s.batch.requests s.answer.outcomes.items)))
      (last_answered tells mode v s.batch.requests s.answer served.before served.after served.worked at.closed.entries seen mine f (next_after h) is other
      (λ broken. unbroken (subst (λ (x : History). IsBroken x.notes) (sym at.is) broken)) low
      (subst (λ (x : History). AllByRecursion (IsBelow (next_after h)) x.notes) at.is (below (none_flew (flight_of (entries_of h.notes)) unbroken))))
    where
      seen : Begins (pass_seen served.after.worker) at.closed.entries
      seen = subst (λ (p : ManagerPass D). Begins (pass_seen p) at.closed.entries) served.same at.closed.worker_part.seen

      mine : own worker at.closed.entries ≡ pass_mine served.after.worker
      mine = ap (λ n. own n at.closed.entries) (sym numbered) ∙ at.closed.worker_part.mine ∙ ap (λ (p : ManagerPass D). pass_mine p) served.same

      unbroken : IsBroken h.notes → ⊥
      unbroken broken = whole (rw here broken)

      low : next_after h < 2 ^ 63
      low = subst (λ (o : Option History). option_map_or next_after o 0 < 2 ^ 63) here few

  -- where its versions ended the window, its writes to logs took all of them
  pub spent_last : fault_of_window s.batch.requests s.answer ≡ Some (fault.Versions v) → AreRuled h.base.look h.notes → AllByRecursion IsRuled h.notes → h.base.look.next ≡ h.base.next → 2 ^ 63 ≤ next_at histories v
  spent_last ended rules all opened =
      let least = versions_ended tells mode v s.batch.requests s.answer served.before served.after served.worked at.closed.entries
      (subst (λ (p : ManagerPass D). Begins (pass_seen p) at.closed.entries) served.same at.closed.worker_part.seen) ended h.base.look
      (subst (λ (x : History). AreRuled h.base.look x.notes) at.is rules) (subst (λ (x : History). AllByRecursion IsRuled x.notes) at.is all) in
      let logged : logged_writes h.notes ≡ logged_writes (notes_of at.closed.entries) = ap (λ (x : History). logged_writes x.notes) at.is in
      let now : next_at histories v ≡ next_after h = ap (λ (o : Option History). option_map_or next_after o 0) here in
      omega (arith, least, logged, now, opened)
