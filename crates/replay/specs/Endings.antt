-- What a window ends a run with.
use Rattle.std.specs.Prelude.{ℕ, Bool, true, false, List, [], ◌∷◌, Option, None, Some, if◌then◌else◌}
use Rattle.std.specs.List.{list_any}
use Rattle.std.specs.Option.{option_or}
use Rattle.manager.specs.declared.part.Part.{Part}
use Rattle.manager.specs.declared.part.ReadRefusal.{ReadRefusal}
use Rattle.manager.specs.declared.part.ReadRefusal.TheVariants as read
use Rattle.manager.specs.declared.part.StepFault.{StepFault}
use Rattle.manager.specs.declared.part.StepFault.TheVariants as step
use Rattle.manager.specs.declared.part.WriteRefusal.{WriteRefusal}
use Rattle.manager.specs.declared.part.WriteRefusal.TheVariants as write
use Rattle.report.specs.declared.fault.Fault.{Fault}
use Rattle.report.specs.declared.fault.Fault.TheVariants.{Volume, Memory, Versions}
use Rattle.trace_windows.specs.declared.request.Request.{Request}
use Rattle.request_turns.specs.declared.outcome.Outcome.{Outcome}
use Rattle.request_turns.specs.declared.outcome.Outcome.TheVariants.{Read, Wrote, NoRead, NoWrite, NotRun}
use Rattle.window_desks.specs.declared.request.Window.{Window}
use Rattle.rack.specs.Troubles.{trouble_of_part}

-- a call of a part failed
abbrev pub fault_of_part : (volume : ℕ) → Part → Fault
fault_of_part volume p = Volume volume (trouble_of_part p)

abbrev pub fault_of_read : (volume : ℕ) → ReadRefusal → Fault
fault_of_read volume (read.DiskFault p) = fault_of_part volume p
fault_of_read volume (read.Down p) = fault_of_part volume p

-- no request is refused as full
abbrev pub fault_of_write : (volume : ℕ) → WriteRefusal → Option Fault
fault_of_write volume write.Full = None
fault_of_write volume (write.DiskFault p) = Some (fault_of_part volume p)
fault_of_write volume (write.Down p) = Some (fault_of_part volume p)
fault_of_write volume write.VersionsSpent = Some (Versions volume)
fault_of_write volume write.NoMemory = Some Memory

abbrev pub fault_of_step : (volume : ℕ) → StepFault → Fault
fault_of_step volume (step.DiskFault p) = fault_of_part volume p
fault_of_step volume (step.Down p) = fault_of_part volume p

-- what is told of a request of this volume with this outcome, if it was refused
abbrev pub fault_of_outcome : (volume : ℕ) → Outcome → Option Fault
fault_of_outcome volume (Read mark sources) = None
fault_of_outcome volume (Wrote place drained) = None
fault_of_outcome volume (NoRead refusal) = Some (fault_of_read volume refusal)
fault_of_outcome volume (NoWrite refusal) = fault_of_write volume refusal
fault_of_outcome volume NotRun = None

-- refused for want of memory
abbrev pub lacks_memory : WriteRefusal → Bool
lacks_memory write.Full = false
lacks_memory (write.DiskFault p) = false
lacks_memory (write.Down p) = false
lacks_memory write.VersionsSpent = false
lacks_memory write.NoMemory = true

abbrev pub lacked_memory : Outcome → Bool
lacked_memory (Read mark sources) = false
lacked_memory (Wrote place drained) = false
lacked_memory (NoRead refusal) = false
lacked_memory (NoWrite refusal) = lacks_memory refusal
lacked_memory NotRun = false

-- what is told of the first refused request
abbrev pub first_refused : List Request → List Outcome → Option Fault
first_refused [] os = None
first_refused (r ∷ rs) [] = None
first_refused (r ∷ rs) (o ∷ os) = option_or (fault_of_outcome r.volume o) (first_refused rs os)

-- what is told of a refused step of reclaim
abbrev pub fault_of_reclaim : Option (ℕ × StepFault) → Option Fault
fault_of_reclaim None = None
fault_of_reclaim (Some (volume, f)) = Some (fault_of_step volume f)

-- want of memory of a request, or else the first refused request, or else the first refused step of
-- reclaim
abbrev pub fault_of_window : List Request → Window → Option Fault
fault_of_window rs w =
    if list_any lacked_memory w.outcomes.items then Some Memory
    else option_or (first_refused rs w.outcomes.items) (fault_of_reclaim w.fault)
