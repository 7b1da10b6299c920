-- The requests that were looked at.
use Rattle.replay.proofs.Basics.{◌≡◌, ◌≢◌, ◌<◌, ◌+◌, ℕ, Bool, true, false, cond, List, [], ◌∷◌, length, drop, get_or, Option, None, Some, refl}
use Rattle.replay.proofs.Basics.{sym, ap, ◌∙◌, Result, Err, list_any, option_or, drop_more}
use Rattle.replay.proofs.Terms.{StepFault, Fault, Memory, TraceSource, Request, Outcome, Window, fault_of_outcome, fault_of_read}
use Rattle.replay.proofs.Terms.{fault_of_reclaim, fault_of_window, fault_of_write, first_refused, lacked_memory}
use Rattle.replay.proofs.Terms.{TraceFault, TraceLine, Refuses, fault_of_trace, Given, Stop}
use Rattle.manager.specs.declared.part.ReadRefusal.{ReadRefusal}
use Rattle.manager.specs.declared.part.WriteRefusal.{WriteRefusal}
use Rattle.manager.specs.declared.part.ReadRefusal.TheVariants as read
use Rattle.manager.specs.declared.part.StepFault.TheVariants as step
use Rattle.manager.specs.declared.part.WriteRefusal.TheVariants as write
use Rattle.msr_trace.specs.declared.format.BadLine.{BadLine}
use Rattle.msr_trace.specs.declared.format.TraceFault.TheVariants as trace
use Rattle.request_turns.specs.declared.outcome.Outcome.TheVariants as outcome
use Rattle.replay.specs.declared.stop.Stop.TheVariants as stop

-- the first of those that are left is the next one, or the first of the others
pub refused_next : (rs : List Request) (os : List Outcome) (k : ℕ) (r : Request) (o : Outcome) → k < length rs → k < length os → r ≡ get_or rs k r → o ≡ get_or os k o
    → first_refused (drop k rs) (drop k os) ≡ option_or (fault_of_outcome r.volume o) (first_refused (drop (k + 1) rs) (drop (k + 1) os))
refused_next rs os k r o here there is are =
    let next : drop k rs ≡ r ∷ drop (k + 1) rs = drop_more rs k r here ∙ ap (λ (x : Request). x ∷ drop (k + 1) rs) (sym is) in
    let then : drop k os ≡ o ∷ drop (k + 1) os = drop_more os k o there ∙ ap (λ (x : Outcome). x ∷ drop (k + 1) os) (sym are) in
    rw (next, then) refl

-- ---- No line was refused where nothing stands in the way

pub no_refusal : {S T : Type 0} (left : S → Option (List ℕ)) (start now : Given S) (run : List (Option TraceLine)) (result : Result T Stop) → (result ≡ Err (stop.Fault TraceSource) → ⊥)
    → ((number : ℕ) (why : BadLine) → Refuses left (trace.Bad number why) start now run → ⊥) → (Refuses left trace.Spent start now run → ⊥)
    → (refusal : TraceFault) → refusal ≢ trace.NoMemory → Refuses left refusal start now run → Err (stop.Fault (fault_of_trace refusal)) ≡ result → ⊥
no_refusal left start now run result source spelled few trace.Source other refuses is = source (sym is)
no_refusal left start now run result source spelled few (trace.Bad number why) other refuses is = spelled number why refuses
no_refusal left start now run result source spelled few trace.Spent other refuses is = few refuses
no_refusal left start now run result source spelled few trace.NoMemory other refuses is = other refl

-- ---- No window ends a run as a failed source does

module _ (volume : ℕ) where
  write_refused : (r : WriteRefusal) → fault_of_write volume r ≡ Some TraceSource → ⊥
  write_refused write.Full is = cc
  write_refused (write.DiskFault p) is = cc
  write_refused (write.Down p) is = cc
  write_refused write.VersionsSpent is = cc
  write_refused write.NoMemory is = cc

  read_refused : (r : ReadRefusal) → Some (fault_of_read volume r) ≡ Some TraceSource → ⊥
  read_refused (read.DiskFault p) is = cc
  read_refused (read.Down p) is = cc

  outcome_refused : (o : Outcome) → fault_of_outcome volume o ≡ Some TraceSource → ⊥
  outcome_refused (outcome.Read mark sources) is = cc
  outcome_refused (outcome.Wrote place drained) is = cc
  outcome_refused (outcome.NoRead r) is = read_refused r is
  outcome_refused (outcome.NoWrite r) is = write_refused r is
  outcome_refused outcome.NotRun is = cc

either_refused : (x y : Option Fault) → (x ≡ Some TraceSource → ⊥) → (y ≡ Some TraceSource → ⊥) → option_or x y ≡ Some TraceSource → ⊥
either_refused (Some f) y first second is = first is
either_refused None y first second is = second is

none_refused : (rs : List Request) (os : List Outcome) → first_refused rs os ≡ Some TraceSource → ⊥
none_refused [] os is = cc
none_refused (r ∷ rs) [] is = cc
none_refused (r ∷ rs) (o ∷ os) is = either_refused (fault_of_outcome r.volume o) (first_refused rs os) (outcome_refused r.volume o) (none_refused rs os) is

step_refused : (f : Option (ℕ × StepFault)) → fault_of_reclaim f ≡ Some TraceSource → ⊥
step_refused None is = cc
step_refused (Some (volume, step.DiskFault p)) is = cc
step_refused (Some (volume, step.Down p)) is = cc

pub window_refused : (rs : List Request) (w : Window) → fault_of_window rs w ≡ Some TraceSource → ⊥
window_refused rs w is = at (list_any lacked_memory w.outcomes.items) is
  where
    at : (b : Bool) → cond b (Some Memory) (option_or (first_refused rs w.outcomes.items) (fault_of_reclaim w.fault)) ≡ Some TraceSource → ⊥
    at true is = cc
    at false is = either_refused (first_refused rs w.outcomes.items) (fault_of_reclaim w.fault) (none_refused rs w.outcomes.items) (step_refused w.fault) is
