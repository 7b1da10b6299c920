-- What looks at volumes side by side found.
use Rattle.std.specs.Prelude.{◌≡◌, ◌⊎◌, ◌++◌, ◌<◌, ◌≤◌, ℕ, ⊤, Bool, List, [], length, Option, None, Some, Result, Err, IfOk, OnErr, slice_index_or, All}
use Rattle.wol_disk.specs.Disk.{State}
use Rattle.wol_config.specs.declared.config.Config.{Config}
use Rattle.logger.specs.declared.shared.Shared.{Shared}
use Rattle.manager.specs.declared.part.Part.{Part}
use Rattle.manager.specs.declared.station.Station.{Station}
use Rattle.inspection.specs.declared.fault.DumpFault.TheVariants as dump
use Rattle.report.specs.Names.{printed_names}
use Rattle.report.specs.Troubles.{IsAmong}
use Rattle.report.specs.declared.trouble.Trouble.{Trouble}
use Rattle.rack.specs.Troubles.{trouble_of_part}
use Rattle.rack.specs.Racks.{IsStation, base_of_station}
use Rattle.rack_parts.specs.declared.rack.Rack.{Rack}
use Rattle.inspection.specs.Looks.{IsConfiguredBase, LooksAt}
use Rattle.inspection.specs.Racks.{IsSameStation, IsStationAt}
use Rattle.inspection.specs.Lines.{AppendsVolume, Telling, TellsFault, trouble_line, trouble_told}
use Rattle.inspection.specs.declared.asked.Asked.{Asked}
use Rattle.inspection.specs.declared.asked.Asked.TheVariants.{Check, Dump}
use Rattle.inspection.specs.declared.beside.Finding.{Finding}

-- a station whose volume may be looked at, and a finding of nothing yet
pub record CanBeLookedAt {D : Type 0} (config : Config) (shared : Shared D) (s : Station D)
    (f : Finding) : Type 0 where
  pub station : IsStation s
  pub base : IsConfiguredBase config shared (base_of_station s)
  pub empty : f.text.items ≡ []

-- so it is of each of these stations, which has a finding of its own
pub record CanAllBeLookedAt {D : Type 0} (config : Config) (shared : Shared D)
    (ss : List (Station D)) (fs : List Finding) : Type 0 where
  pub count : length fs ≡ length ss
  pub each : (k : ℕ) (s : Station D) (f : Finding) → k < length ss
      → CanBeLookedAt config shared (slice_index_or ss k s) (slice_index_or fs k f)

-- findings of nothing yet
abbrev pub AreEmpty : List Finding → Type 0
AreEmpty fs = All (λ (f : Finding). f.text.items ≡ []) fs

-- a part that a finding tells has the name of a configured volume
abbrev pub IsKnown : Config → Finding → Type 0
IsKnown config f = (p : Part) → (f.answer ≡ Err (dump.DiskFault p)) ⊎ (f.answer ≡ Err (dump.Down p))
    → IsAmong (length (printed_names config.volumes.items)) (trouble_of_part p)

-- the volume of a station was looked at for its line, and this was found
pub record HasFound {D : Type 0} (tells : Bool) (state : D → State) (config : Config)
    (s t : Station D) (f : Finding) : Type 0 where
  pub same : IsSameStation s t
  pub looks : LooksAt tells state config Check s.id s.worker t.worker f.answer [] f.text.items
  pub err : OnErr f.answer (f.text.items ≡ [])
  pub known : IsKnown config f

-- so it is of each of these stations
pub record HaveFound {D : Type 0} (tells : Bool) (state : D → State) (config : Config)
    (ss ts : List (Station D)) (fs : List Finding) : Type 0 where
  pub each : (k : ℕ) (s : Station D) (f : Finding) → k < length ss
      → HasFound tells state config (slice_index_or ss k s) (slice_index_or ts k s)
      (slice_index_or fs k f)

-- the line of a volume that isn't in order, or none
abbrev pub lines_of : Config → (number : ℕ) → Option Trouble → List ℕ
lines_of config number None = []
lines_of config number (Some trouble) = trouble_line config number trouble

-- The volumes of the first n of these stations were looked at, and the others are as they were.
pub record AreFoundTo {D : Type 0} (tells : Bool) (state : D → State) (config : Config)
    (ss ts : List (Station D)) (fs : List Finding) (n : ℕ) : Type 0 where
  pub long : length ts ≡ length ss
  pub count : length fs ≡ length ss
  pub within : n ≤ length ss
  pub found : (k : ℕ) (s : Station D) (f : Finding) → k < n
      → HasFound tells state config (slice_index_or ss k s) (slice_index_or ts k s)
      (slice_index_or fs k f)
  pub ahead : (k : ℕ) (s : Station D) → n ≤ k → slice_index_or ts k s ≡ slice_index_or ss k s
  pub nothing : (k : ℕ) (f : Finding) → n ≤ k → k < length fs
      → (slice_index_or fs k f).text.items ≡ []

-- the first n stations, and what was found of them, stay
pub record KeepsFound {D : Type 0} (n : ℕ) (ss ts : List (Station D)) (fs hs : List Finding) :
    Type 0 where
  pub long : length ts ≡ length ss
  pub stations : (k : ℕ) (s : Station D) → k < n → slice_index_or ts k s ≡ slice_index_or ss k s
  pub findings : (k : ℕ) (f : Finding) → k < n → slice_index_or hs k f ≡ slice_index_or fs k f

-- these stations' volumes may be looked at, and those of the first n were
pub record CanFindMore {D : Type 0} (tells : Bool) (state : D → State) (config : Config)
    (shared : Shared D) (ts : List (Station D)) (fs : List Finding) (n : ℕ) : Type 0 where
  pub stations : All (λ s. IsStation s × IsConfiguredBase config shared (base_of_station s)) ts
  pub before : List (Station D)
  pub going : AreFoundTo tells state config before ts fs n

-- those of the first n had been looked at, and now those of the first m have been
pub record HasFoundMore {D : Type 0} (tells : Bool) (state : D → State) (config : Config)
    (ts us : List (Station D)) (fs hs : List Finding) (n m : ℕ) : Type 0 where
  pub going : (before : List (Station D)) → AreFoundTo tells state config before ts fs n
      → AreFoundTo tells state config before us hs m
  pub keeps : KeepsFound n ts us fs hs

-- what is told of a volume by what was found at its station, which is one of the first n
pub record TellsFound {D : Type 0} (config : Config) (r : Rack D) (fs : List Finding) (n number : ℕ)
    (t : Telling) : Type 0 where
  pub place : ℕ
  pub station : Station D
  pub is_station : IsStationAt r.stations.items number place station
  pub within : place < n
  pub finding : Finding
  pub is_finding : finding ≡ slice_index_or fs place finding
  pub trouble : t.trouble ≡ trouble_told finding.answer
  pub memory : finding.answer ≡ Err dump.NoMemory → ⊥
  pub text : t.text ≡ finding.text.items ++ lines_of config number t.trouble

-- what is told of a volume
abbrev pub IsToldBy : {D : Type 0} → Config → Rack D → List Finding → (n number : ℕ) → Telling
    → Type 0
IsToldBy config r fs n number t = TellsFault config r number t ⊎ TellsFound config r fs n number t

-- ---- The lines of the next volume

-- Each station has a finding of nothing yet where volumes are looked at side by side.
abbrev pub HasRoom : Asked → (stations : ℕ) → List Finding → Type 0
HasRoom Check stations fs = (length fs ≡ stations) × AreEmpty fs
HasRoom Dump stations fs = ⊤

-- Side by side, the volumes of the first n stations were looked at.
abbrev pub AreAhead : {D : Type 0} → (tells : Bool) → (D → State) → Config → Asked
    → (ts : List (Station D)) → List Finding → (n : ℕ) → Type 0
AreAhead {D} tells state config Check ts fs n =
    (before : List (Station D)) × AreFoundTo tells state config before ts fs n
AreAhead tells state config Dump ts fs n = ⊤

-- The volumes of some more stations were looked at, and there is what is told of this volume.
pub record AppendsFound {D E : Type 0} (tells : Bool) (state : D → State) (config : Config)
    (old new : Rack D) (fs hs : List Finding) (n m number : ℕ) (result : Result (Option Trouble) E)
    (text : List ℕ) : Type 0 where
  pub rest : new ≡ record old { stations = new.stations }
  pub more : n ≤ m
  pub found : HasFoundMore tells state config old.stations.items new.stations.items fs hs n m
  pub told : IfOk result
      (λ t. IsToldBy config new hs m number (record { trouble = t; text = text }))

-- The text of a volume was appended, after a look at it alone or at those of a run.
abbrev pub AppendsNext : {D E : Type 0} → (tells : Bool) → (D → State) → Config → Asked
    → (old new : Rack D) → (fs hs : List Finding) → (n m number : ℕ)
    → Result (Option Trouble) E → (text : List ℕ) → Type 0
AppendsNext tells state config Check old new fs hs n m number result text =
    AppendsFound tells state config old new fs hs n m number result text
AppendsNext tells state config Dump old new fs hs n m number result text =
    AppendsVolume tells state config Dump old new number result text
