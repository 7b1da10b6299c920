-- What is printed of the volumes of a rack, and what is wrong with them.
use Rattle.std.specs.Prelude.{◌≡◌, ◌⊎◌, ◌≤◌, ℕ, Bool, List, [], ◌∷◌, length, Option, None, Some, Result, Ok, Err, IfOk, OnErr, slice_get}
use Rattle.std.specs.List.{flat_map}
use Rattle.std.specs.Io.KnownBytes.{Appends}
use Rattle.wol_disk.specs.Disk.{State, Rose}
use Rattle.wol_io.specs.Streams.{AppendsFront}
use Rattle.wol_config.specs.declared.config.Config.{Config}
use Rattle.manager.specs.declared.part.Part.{Part}
use Rattle.manager.specs.declared.station.Station.{Station}
use Rattle.request_turns.specs.Turns.{ManagerPass}
use Rattle.inspection.specs.declared.fault.DumpFault.{DumpFault}
use Rattle.inspection.specs.declared.fault.DumpFault.TheVariants as dump
use Rattle.report.specs.Names.{name_at, printed_names}
use Rattle.report.specs.Troubles.{trouble_text}
use Rattle.report.specs.Words.{line_of}
use Rattle.report.specs.declared.trouble.Trouble.{Trouble}
use Rattle.rack.specs.Troubles.{trouble_of, trouble_of_part}
use Rattle.rack_parts.specs.declared.rack.Rack.{Rack}
use Rattle.rack_parts.specs.declared.volume_fault.VolumeFault.{VolumeFault}
use Rattle.inspection.specs.Looks.{LooksAt}
use Rattle.inspection.specs.Racks.{IsSameRack, IsStationAt, LeavesOthers}
use Rattle.inspection.specs.declared.asked.Asked.{Asked}
use Rattle.inspection.specs.declared.calls.Stop.{Stop}
use Rattle.inspection.specs.declared.calls.Stop.TheVariants.{Sink, Memory}

-- the line of a volume that isn't in order
abbrev pub trouble_line : Config → (number : ℕ) → Trouble → List ℕ
trouble_line config number trouble = line_of
    (name_at (printed_names config.volumes.items) number
    ∷ trouble_text (printed_names config.volumes.items) trouble ∷ [])

-- what is wrong with a volume that was looked at
abbrev pub trouble_told : Result (Unit {0}) DumpFault → Option Trouble
trouble_told (Ok done) = None
trouble_told (Err (dump.DiskFault part)) = Some (trouble_of_part part)
trouble_told (Err (dump.Down part)) = Some (trouble_of_part part)
trouble_told (Err dump.NoMemory) = None

-- the volume of a station was looked at: its worker's pass is this one then
pub record LooksAtVolume {D : Type 0} (tells : Bool) (state : D → State) (config : Config)
    (asked : Asked) (old new : Rack D) (number : ℕ) (answer : Result (Unit {0}) DumpFault)
    (text : List ℕ) : Type 0 where
  pub place : ℕ
  pub station : Station D
  pub is_station : IsStationAt old.stations.items number place station
  pub pass : ManagerPass D
  pub now : slice_get new.stations.items place ≡ Some (record station { worker = pass })
  pub looks : LooksAt tells state config asked number station.worker pass answer [] text

-- what is printed of one volume, and what is wrong with it
pub record Telling : Type 0 where
  pub trouble : Option Trouble
  pub text : List ℕ

-- the volume has no station, and its fault is told
pub record TellsFault {D : Type 0} (config : Config) (r : Rack D) (number : ℕ) (t : Telling) :
    Type 0 where
  pub fault : VolumeFault
  pub is_fault : slice_get r.faults.items number ≡ Some (Some fault)
  pub trouble : t.trouble ≡ Some (trouble_of fault)
  pub text : t.text ≡ trouble_line config number (trouble_of fault)

-- it was looked at, and is in order
pub record TellsOrder {D : Type 0} (tells : Bool) (state : D → State) (config : Config)
    (asked : Asked) (old new : Rack D) (number : ℕ) (t : Telling) : Type 0 where
  pub looked : LooksAtVolume tells state config asked old new number (Ok tt) t.text
  pub trouble : t.trouble ≡ None

-- it was looked at, and a call of this part had failed or did
pub record TellsFailed {D : Type 0} (tells : Bool) (state : D → State) (config : Config)
    (asked : Asked) (old new : Rack D) (number : ℕ) (t : Telling) : Type 0 where
  pub part : Part
  pub answer : Result (Unit {0}) DumpFault
  pub is_answer : (answer ≡ Err (dump.DiskFault part)) ⊎ (answer ≡ Err (dump.Down part))
  pub looked : LooksAtVolume tells state config asked old new number answer []
  pub trouble : t.trouble ≡ Some (trouble_of_part part)
  pub text : t.text ≡ trouble_line config number (trouble_of_part part)

-- what is told of a volume
abbrev pub IsTelling : {D : Type 0} → (tells : Bool) → (D → State) → Config → Asked
    → (old new : Rack D) → (number : ℕ) → Telling → Type 0
IsTelling tells state config asked old new number t =
    TellsFault config old number t ⊎ TellsOrder tells state config asked old new number t
    ⊎ TellsFailed tells state config asked old new number t

-- The text of a volume was appended: only its station is another, and there is what is told of it;
-- or there was no memory, and the text is empty.
pub record AppendsVolume {D E : Type 0} (tells : Bool) (state : D → State) (config : Config)
    (asked : Asked) (old new : Rack D) (number : ℕ) (result : Result (Option Trouble) E)
    (text : List ℕ) : Type 0 where
  pub same : IsSameRack old new
  pub others : LeavesOthers old new number
  pub ok : IfOk result
      (λ t. IsTelling tells state config asked old new number (record { trouble = t; text = text }))
  pub err : OnErr result (text ≡ [])

-- what is told of some first volumes of a rack, in order
pub record AreTellings {D : Type 0} (tells : Bool) (state : D → State) (config : Config)
    (asked : Asked) (old new : Rack D) (ts : List Telling) : Type 0 where
  pub few : length ts ≤ length config.volumes.items
  pub each : (k : ℕ) (t : Telling) → slice_get ts k ≡ Some t
      → IsTelling tells state config asked old new k t

-- the texts, one after another
abbrev pub text_of : List Telling → List ℕ
text_of ts = flat_map (λ (t : Telling). t.text) ts

abbrev pub first_of : Option Trouble → Option Trouble → Option Trouble
first_of None other = other
first_of (Some trouble) other = Some trouble

-- what is wrong with the first volume that isn't in order
abbrev pub first_trouble : List Telling → Option Trouble
first_trouble [] = None
first_trouble (t ∷ ts) = first_of t.trouble (first_trouble ts)

-- What printing the volumes comes to: all were printed; or some first ones, and there was no memory
-- for more; or a front of some first ones, and the sink failed.
abbrev pub PrintsBy : Result (Option Trouble) Stop → Config → List Telling → (faults faults' : ℕ)
    → (printed new : Option (List ℕ)) → Type 0
PrintsBy (Ok trouble) config ts faults faults' printed new =
    (length ts ≡ length config.volumes.items) × (trouble ≡ first_trouble ts) × (faults' ≡ faults)
    × Appends printed new (text_of ts)
PrintsBy (Err Memory) config ts faults faults' printed new =
    (faults' ≡ faults) × Appends printed new (text_of ts)
PrintsBy (Err Sink) config ts faults faults' printed new =
    Rose faults faults' × AppendsFront printed new (text_of ts)

-- the volumes of a rack were looked at and printed, and faults of the sink counted
pub record PrintsVolumes {D : Type 0} (tells : Bool) (state : D → State) (config : Config)
    (asked : Asked) (old new : Rack D) (result : Result (Option Trouble) Stop) (faults faults' : ℕ)
    (printed printed' : Option (List ℕ)) : Type 0 where
  pub same : IsSameRack old new
  pub later : faults ≤ faults'
  pub told : List Telling
  pub are : AreTellings tells state config asked old new told
  pub prints : PrintsBy result config told faults faults' printed printed'
