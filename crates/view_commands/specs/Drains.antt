-- What is done with a rack whose volumes are all to be open, one of which may be drained.
use Rattle.std.specs.Prelude.{◌≡◌, ℕ, Bool, List, Option, None, Some, Result, Ok, Err, slice_get}
use Rattle.wol_disk.specs.Disk.{State}
use Rattle.manager.specs.declared.part.StepFault.{StepFault}
use Rattle.manager.specs.declared.part.StepFault.TheVariants.{DiskFault, Down}
use Rattle.manager.specs.declared.station.Station.{Station}
use Rattle.request_turns.specs.Turns.{ManagerPass}
use Rattle.report.specs.declared.fault.Fault.{Fault}
use Rattle.report.specs.declared.fault.Fault.TheVariants.{Volume, Memory}
use Rattle.report.specs.declared.trouble.Trouble.{Trouble}
use Rattle.rack.specs.Troubles.{trouble_of_part}
use Rattle.rack_parts.specs.declared.rack.Rack.{Rack}
use Rattle.rack_parts.specs.declared.volume_fault.VolumeFault.{VolumeFault}
use Rattle.rack.specs.NotOpened.{first_closed}
use Rattle.inspection.specs.Racks.{IsSameRack, IsStationAt}
use Rattle.view_change.specs.Drained.{HasDrainedAll}
use Rattle.view_change.specs.declared.answers.Change.{Change}
use Rattle.view_change.specs.declared.answers.Change.TheVariants.{Add, Remove}

-- all volumes are open
abbrev pub AllOpen : List (Option VolumeFault) → Type 0
AllOpen faults = first_closed 0 faults ≡ None

-- what is told of a refused step
abbrev pub trouble_of_step : StepFault → Trouble
trouble_of_step (DiskFault part) = trouble_of_part part
trouble_of_step (Down part) = trouble_of_part part

-- the volume of a station was drained, in one turn of its worker's pass
pub record IsDrained {D : Type 0} (tells : Bool) (state : D → State) (old new : Rack D) (volume : ℕ)
    (answer : Result (ℕ × ℕ) StepFault) : Type 0 where
  pub place : ℕ
  pub station : Station D
  pub is_station : IsStationAt old.stations.items volume place station
  pub pass : ManagerPass D
  pub now : slice_get new.stations.items place ≡ Some (record station { worker = pass })
  pub drained : HasDrainedAll tells state station.worker pass answer

-- A volume was drained; or a step was refused; or there was no memory, and nothing was done.
pub data TellsDrain {D : Type 0} (tells : Bool) (state : D → State) (old new : Rack D) (volume : ℕ)
    (told : Result (Unit {0}) Fault) : Type 0 where
  done : (counts : ℕ × ℕ) → IsDrained tells state old new volume (Ok counts) → told ≡ Ok tt
      → TellsDrain tells state old new volume told
  refused : (fault : StepFault) → IsDrained tells state old new volume (Err fault)
      → told ≡ Err (Volume volume (trouble_of_step fault))
      → TellsDrain tells state old new volume told
  no_memory : new ≡ old → told ≡ Err Memory → TellsDrain tells state old new volume told

-- a logger that leaves is emptied of the volume before; for one that comes nothing is done
abbrev pub TellsChange : {D : Type 0} → (tells : Bool) → (state : D → State) → Change → (volume : ℕ)
    → (old new : Rack D) → (told : Result (Unit {0}) Fault) → Type 0
TellsChange tells state (Add logger) volume old new told = (new ≡ old) × (told ≡ Ok tt)
TellsChange tells state (Remove logger) volume old new told =
    TellsDrain tells state old new volume told

-- What is done with a rack: the first volume that isn't open ends it, and then nothing is done.
pub data TellsRack {D : Type 0} (tells : Bool) (state : D → State) (change : Change) (volume : ℕ)
    (old new : Rack D) (told : Result (Unit {0}) Fault) : Type 0 where
  closed : (fault : Fault) → first_closed 0 old.faults.items ≡ Some fault → new ≡ old
      → told ≡ Err fault → TellsRack tells state change volume old new told
  open_ : AllOpen old.faults.items → IsSameRack old new
      → TellsChange tells state change volume old new told
      → TellsRack tells state change volume old new told
