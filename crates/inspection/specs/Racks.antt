-- The rack whose volumes are looked at.
use Rattle.std.specs.Prelude.{◌≡◌, ℕ, List, length, map, None, Some, slice_get, Contains, All}
use Rattle.std.specs.List.{AllByRecursion, AllZip}
use Rattle.wol_config.specs.declared.config.Config.{Config}
use Rattle.turn_lock.specs.Passes.{pass_mine, IsFree, IsSamePass}
use Rattle.wol_model.specs.History.{IsHelp}
use Rattle.manager.specs.Stands.{notes_of}
use Rattle.manager.specs.declared.station.Station.{Station}
use Rattle.report.specs.Names.{printed_names}
use Rattle.report.specs.Troubles.{IsAmong}
use Rattle.rack.specs.Troubles.{trouble_of}
use Rattle.rack.specs.Racks.{IsStation, base_of_station}
use Rattle.rack_parts.specs.declared.rack.Rack.{Rack}
use Rattle.rack_parts.specs.declared.volume_fault.VolumeFault.{VolumeFault}
use Rattle.inspection.specs.Looks.{IsConfiguredBase}

-- the numbers of the volumes with a station
abbrev pub numbers_of : {D : Type 0} → List (Station D) → List ℕ
numbers_of {D} stations = map (λ (s : Station D). s.id) stations

-- the station of a volume stands at this place
pub record IsStationAt {D : Type 0} (stations : List (Station D)) (volume place : ℕ)
    (s : Station D) : Type 0 where
  pub there : slice_get stations place ≡ Some s
  pub id : s.id ≡ volume

-- a volume without a station has a fault that names configured volumes, and the stations serve
-- configured volumes
pub record CanLook {D : Type 0} (config : Config) (r : Rack D) : Type 0 where
  pub count : length r.faults.items ≡ length config.volumes.items
  pub known : (k : ℕ) (f : VolumeFault) → slice_get r.faults.items k ≡ Some (Some f)
      → IsAmong (length (printed_names config.volumes.items)) (trouble_of f)
  pub open_ : (k : ℕ) → slice_get r.faults.items k ≡ Some None
      → Contains (numbers_of r.stations.items) k
  pub stations :
      All (λ s. IsStation s × IsConfiguredBase config r.shared (base_of_station s)) r.stations.items

-- only what the worker's pass has seen and made is another
pub record IsSameStation {D : Type 0} (s t : Station D) : Type 0 where
  pub same : t ≡ record s { worker = t.worker }
  pub pass : IsSamePass s.worker t.worker
  pub free : IsFree s.worker → IsFree t.worker
  -- and where its own entries changed no content, they still don't
  pub helps : AllByRecursion (λ n. IsHelp n.entry.operation) (notes_of (pass_mine s.worker))
      → AllByRecursion (λ n. IsHelp n.entry.operation) (notes_of (pass_mine t.worker))

-- the stations of other volumes stay as they are
abbrev pub LeavesOthers : {D : Type 0} → (r q : Rack D) → (volume : ℕ) → Type 0
LeavesOthers {D} r q volume = (place : ℕ) (s : Station D)
    → slice_get r.stations.items place ≡ Some s
    → (s.id ≡ volume → ⊥) → slice_get q.stations.items place ≡ Some s

-- a rack is the same but for what the passes of its stations have seen and made
pub record IsSameRack {D : Type 0} (r q : Rack D) : Type 0 where
  pub same : q ≡ record r { stations = q.stations }
  pub each : AllZip IsSameStation r.stations.items q.stations.items
