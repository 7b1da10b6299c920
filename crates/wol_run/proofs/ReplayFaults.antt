-- Which faults a window and a run of a trace can end with, and their statuses.
use Rattle.std.proofs.Common.{◌≡◌, ◌≢◌, ℕ, List, Some, inl, inr, refl, sym, subst, arith}
use Rattle.std.specs.Bool.{⊤}
use Rattle.msr_trace.specs.declared.format.TraceFault.{TraceFault}
use Rattle.msr_trace.specs.declared.format.TraceFault.TheVariants as trace
use Rattle.report.specs.Faults.{status_of}
use Rattle.report.specs.Troubles.{trouble_status}
use Rattle.report.specs.declared.fault.Fault.{Fault}
use Rattle.report.specs.declared.fault.Fault.TheVariants as fault
use Rattle.report.specs.declared.trouble.Trouble.{Trouble}
use Rattle.report.specs.declared.trouble.Trouble.TheVariants as trouble
use Rattle.trace_windows.specs.declared.request.Request.{Request}
use Rattle.window_desks.specs.declared.request.Window.{Window}
use Rattle.replay.specs.Endings.{fault_of_window}
use Rattle.replay.specs.Stops.{fault_of_trace}
use Rattle.wol_run.proofs.WindowFaults.{ends_window}

-- ---- Faults of windows

-- what a window ends a run with: a volume isn't in order, or has no version left, or there was no memory
abbrev pub IsOfWindow : Fault → Type 0
IsOfWindow fault.Words = ⊥
IsOfWindow (fault.Config why) = ⊥
IsOfWindow (fault.Line line why) = ⊥
IsOfWindow (fault.Volume volume t) = ⊤
IsOfWindow fault.ConfigSource = ⊥
IsOfWindow fault.TraceSource = ⊥
IsOfWindow fault.Memory = ⊤
IsOfWindow fault.Lines = ⊥
IsOfWindow (fault.Versions volume) = ⊤

pub of_window : (rs : List Request) (w : Window) (f : Fault) → fault_of_window rs w ≡ Some f → IsOfWindow f
of_window rs w f is = elim (ends_window rs w f is) [
  | inl ((volume, t, same), four) ↦ subst IsOfWindow (sym same) tt
  | inr (inl same) ↦ subst IsOfWindow (sym same) tt
  | inr (inr (volume, same)) ↦ subst IsOfWindow (sym same) tt
]

-- ---- Faults of runs

-- what a run ends with: what a window ends it with, or no further line
abbrev pub CanEnd : Fault → Type 0
CanEnd fault.Words = ⊥
CanEnd (fault.Config why) = ⊥
CanEnd (fault.Line line why) = ⊤
CanEnd (fault.Volume volume t) = ⊤
CanEnd fault.ConfigSource = ⊥
CanEnd fault.TraceSource = ⊤
CanEnd fault.Memory = ⊤
CanEnd fault.Lines = ⊤
CanEnd (fault.Versions volume) = ⊤

pub window_can : (f : Fault) → IsOfWindow f → CanEnd f
window_can fault.Words h = h
window_can (fault.Config why) h = h
window_can (fault.Line line why) h = tt
window_can (fault.Volume volume t) h = tt
window_can fault.ConfigSource h = h
window_can fault.TraceSource h = tt
window_can fault.Memory h = tt
window_can fault.Lines h = tt
window_can (fault.Versions volume) h = tt

pub trace_can : (e : TraceFault) → CanEnd (fault_of_trace e)
trace_can trace.Source = tt
trace_can (trace.Bad line why) = tt
trace_can trace.Spent = tt
trace_can trace.NoMemory = tt

-- the status of a trouble is 4, 5, 6 or 12
other_status : (t : Trouble) (k : ℕ) → (k ≢ 4) → (k ≢ 5) → (k ≢ 6) → (k ≢ 12) → trouble_status t ≢ k
other_status trouble.Absent k four five six twelve is = twelve (sym is)
other_status (trouble.Length bytes) k four five six twelve is = five (sym is)
other_status trouble.LabelDiffers k four five six twelve is = five (sym is)
other_status (trouble.Damaged volume block) k four five six twelve is = five (sym is)
other_status (trouble.Twins v first w second) k four five six twelve is = five (sym is)
other_status (trouble.OutsideView logger segment) k four five six twelve is = five (sym is)
other_status (trouble.LoggerMissing id) k four five six twelve is = six (sym is)
other_status trouble.Bay k four five six twelve is = four (sym is)
other_status trouble.Label k four five six twelve is = four (sym is)
other_status trouble.Home k four five six twelve is = four (sym is)
other_status (trouble.Segment logger index) k four five six twelve is = four (sym is)

-- the status of what ends a run by a window is one of those, 9 or 11: neither 3 nor 10
other_window : (f : Fault) (k : ℕ) → IsOfWindow f → (k ≢ 4) → (k ≢ 5) → (k ≢ 6) → (k ≢ 9) → (k ≢ 11) → (k ≢ 12) → status_of f ≢ k
other_window fault.Words k h four five six nine eleven twelve is = h
other_window (fault.Config why) k h four five six nine eleven twelve is = h
other_window (fault.Line line why) k h four five six nine eleven twelve is = h
other_window (fault.Volume volume t) k h four five six nine eleven twelve is = other_status t k four five six twelve is
other_window fault.ConfigSource k h four five six nine eleven twelve is = h
other_window fault.TraceSource k h four five six nine eleven twelve is = h
other_window fault.Memory k h four five six nine eleven twelve is = nine (sym is)
other_window fault.Lines k h four five six nine eleven twelve is = h
other_window (fault.Versions volume) k h four five six nine eleven twelve is = eleven (sym is)

pub not_three : (f : Fault) → IsOfWindow f → status_of f ≢ 3
not_three f h = other_window f 3 h (λ e. omega (arith, e)) (λ e. omega (arith, e)) (λ e. omega (arith, e)) (λ e. omega (arith, e)) (λ e. omega (arith, e)) (λ e. omega (arith, e))

pub not_ten : (f : Fault) → IsOfWindow f → status_of f ≢ 10
not_ten f h = other_window f 10 h (λ e. omega (arith, e)) (λ e. omega (arith, e)) (λ e. omega (arith, e)) (λ e. omega (arith, e)) (λ e. omega (arith, e)) (λ e. omega (arith, e))

-- a run that ends with status 8 ends by the source of its trace
pub is_source : (f : Fault) → CanEnd f → status_of f ≡ 8 → f ≡ fault.TraceSource
is_source fault.Words h is = absurd h
is_source (fault.Config why) h is = absurd h
is_source (fault.Line line why) h is = absurd (omega (arith, is))
is_source (fault.Volume volume t) h is = absurd (other_status t 8 (λ e. omega (arith, e)) (λ e. omega (arith, e)) (λ e. omega (arith, e)) (λ e. omega (arith, e)) is)
is_source fault.ConfigSource h is = absurd h
is_source fault.TraceSource h is = refl
is_source fault.Memory h is = absurd (omega (arith, is))
is_source fault.Lines h is = absurd (omega (arith, is))
is_source (fault.Versions volume) h is = absurd (omega (arith, is))
