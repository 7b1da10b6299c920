-- What a window ends a run with: a part of a volume, want of memory, or versions that ended.
use Rattle.std.proofs.Common.{◌≡◌, ◌⊎◌, ℕ, Bool, true, false, List, [], ◌∷◌, Option, None, Some, if◌then◌else◌, inl, inr, refl, sym, ap, ◌∙◌}
use Rattle.std.specs.Option.{option_or}
use Rattle.std.specs.List.{list_any}
use Rattle.std.proofs.lemmas.Option.{same_Some}
use Rattle.manager.specs.declared.part.Part.{Part}
use Rattle.manager.specs.declared.part.Part.TheVariants as part
use Rattle.manager.specs.declared.part.ReadRefusal.TheVariants as read
use Rattle.manager.specs.declared.part.StepFault.{StepFault}
use Rattle.manager.specs.declared.part.StepFault.TheVariants as step
use Rattle.manager.specs.declared.part.WriteRefusal.TheVariants as write
use Rattle.report.specs.Faults.{status_of}
use Rattle.report.specs.declared.fault.Fault.{Fault}
use Rattle.report.specs.declared.fault.Fault.TheVariants as fault
use Rattle.trace_windows.specs.declared.request.Request.{Request}
use Rattle.request_turns.specs.declared.outcome.Outcome.{Outcome}
use Rattle.request_turns.specs.declared.outcome.Outcome.TheVariants.{Read, Wrote, NoRead, NoWrite, NotRun}
use Rattle.window_desks.specs.declared.request.Window.{Window}
use Rattle.rack.specs.Troubles.{trouble_of_part}
use Rattle.replay.specs.Ended.{IsPartFault}
use Rattle.replay.specs.Endings.{fault_of_outcome, fault_of_part, fault_of_reclaim, fault_of_window, first_refused, lacked_memory}

-- the fault of a part has status 4; the others are want of memory, and versions that ended
abbrev pub EndsWindow : Fault → Type 0
EndsWindow f = (IsPartFault f × (status_of f ≡ 4)) ⊎ (f ≡ fault.Memory) ⊎ ((v : ℕ) × (f ≡ fault.Versions v))

part_four : (volume : ℕ) (p : Part) → status_of (fault_of_part volume p) ≡ 4
part_four volume (part.Home v) = refl
part_four volume (part.Segment v index) = refl

of_part : (volume : ℕ) (p : Part) (f : Fault) → Some (fault_of_part volume p) ≡ Some f → EndsWindow f
of_part volume p f is =
    let same : fault_of_part volume p ≡ f = same_Some (fault_of_part volume p) f is in
    inl ((volume, trouble_of_part p, sym same), ap status_of (sym same) ∙ part_four volume p)

none_is : (f : Fault) → None ≡ Some f → EndsWindow f
none_is f is = absurd (cc)

of_outcome : (volume : ℕ) (o : Outcome) (f : Fault) → fault_of_outcome volume o ≡ Some f → EndsWindow f
of_outcome volume (Read mark sources) f is = none_is f is
of_outcome volume (Wrote place drained) f is = none_is f is
of_outcome volume (NoRead (read.DiskFault p)) f is = of_part volume p f is
of_outcome volume (NoRead (read.Down p)) f is = of_part volume p f is
of_outcome volume (NoWrite write.Full) f is = none_is f is
of_outcome volume (NoWrite (write.DiskFault p)) f is = of_part volume p f is
of_outcome volume (NoWrite (write.Down p)) f is = of_part volume p f is
of_outcome volume (NoWrite write.VersionsSpent) f is = inr (inr (volume, sym (same_Some (fault.Versions volume) f is)))
of_outcome volume (NoWrite write.NoMemory) f is = inr (inl (sym (same_Some fault.Memory f is)))
of_outcome volume NotRun f is = none_is f is

either : (a b : Option Fault) → ((f : Fault) → a ≡ Some f → EndsWindow f) → ((f : Fault) → b ≡ Some f → EndsWindow f) → (f : Fault) → option_or a b ≡ Some f → EndsWindow f
either None b one other f is = other f is
either (Some x) b one other f is = one f is

of_first : (rs : List Request) (os : List Outcome) (f : Fault) → first_refused rs os ≡ Some f → EndsWindow f
of_first [] os f is = none_is f is
of_first (r ∷ rs) [] f is = none_is f is
of_first (r ∷ rs) (o ∷ os) f is = either (fault_of_outcome r.volume o) (first_refused rs os) (of_outcome r.volume o) (of_first rs os) f is

of_reclaim : (o : Option (ℕ × StepFault)) (f : Fault) → fault_of_reclaim o ≡ Some f → EndsWindow f
of_reclaim None f is = none_is f is
of_reclaim (Some (volume, step.DiskFault p)) f is = of_part volume p f is
of_reclaim (Some (volume, step.Down p)) f is = of_part volume p f is

pub ends_window : (rs : List Request) (w : Window) (f : Fault) → fault_of_window rs w ≡ Some f → EndsWindow f
ends_window rs w f is = by (list_any lacked_memory w.outcomes.items) is
  where
    rest : Option Fault
    rest = option_or (first_refused rs w.outcomes.items) (fault_of_reclaim w.fault)

    by : (b : Bool) → (if b then Some fault.Memory else rest) ≡ Some f → EndsWindow f
    by true same = inr (inl (sym (same_Some fault.Memory f same)))
    by false same = either (first_refused rs w.outcomes.items) (fault_of_reclaim w.fault) (of_first rs w.outcomes.items) (of_reclaim w.fault) f same
