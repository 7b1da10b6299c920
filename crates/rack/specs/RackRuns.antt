-- A rack whose bay was run: of which images it was opened, and which station has which history.
use Rattle.std.specs.Prelude.{◌≡◌, ◌≢◌, ◌≤◌, ℕ, Bool, List, [], Some, Contains, IfSome, IsTrue}
use Rattle.wol_disk.specs.Disk.{State}
use Rattle.wol_model.specs.History.{worker, helper, keeper}
use Rattle.wol_bay.specs.Bay.{BayState}
use Rattle.wol_config.specs.declared.config.Config.{Config}
use Rattle.turn_lock.specs.Histories.{Entry, own}
use Rattle.turn_lock.specs.Passes.{IsPartOf}
use Rattle.manager.specs.Stands.{notes_of}
use Rattle.manager.specs.declared.station.Station.{Station}
use Rattle.volume_images.specs.Left.{IsTold}
use Rattle.rack_parts.specs.Racks.{KeepToViews, base_of_station}
use Rattle.rack_parts.specs.declared.rack.Rack.{Rack}
use Rattle.rack.specs.BayRuns.{BayRun, History, UsesPools}
use Rattle.rack.specs.Closes.{is_kept_home}
use Rattle.rack.specs.Opens.{BeganWith, HasFaulty, KeepsOthers, WereThere}
use Rattle.rack.specs.Owners.{HadRefused}

-- The rack began with the images that were in the bay as it was first, and the bay stands so now.
pub record BeganIn {D : Type 0} (tells : Bool) (state : D → State) (config : Config)
    (first now : BayState) (r : Rack D) : Type 0 where
  pub began : IsTrue tells → IfSome first.told (λ t. BeganWith state config t r)
  pub there : IsTrue tells → IfSome first.told (λ t. WereThere config r.rest.images.items t)
  pub kept : IsTrue tells → IsTold (HadRefused config r.rest.images.items) first.told now.told
  pub faulty : IsTold HasFaulty first.told now.told
  pub others : IsTold (KeepsOthers config) first.told now.told
  pub counts : first.faults ≤ now.faults

-- A station's history: what its manager began with, and the entries of its passes and of no other.
pub record IsHistoryOf {D : Type 0} (s : Station D) (h : History) : Type 0 where
  pub base : h.base ≡ (base_of_station s).volume.began
  pub entries : List Entry
  pub notes : h.notes ≡ notes_of entries
  pub worker_part : IsPartOf entries s.worker
  pub helper_part : IsPartOf entries s.helper
  pub keeper_part : IsPartOf entries s.keeper
  pub no_more : (n : ℕ) → n ≢ worker → n ≢ helper → n ≢ keeper → own n entries ≡ []

-- The run of a rack's bay: images that aren't out are refused, and the volumes that have a station
-- have its history.
pub record RunsRack {D : Type 0} (tells : Bool) (config : Config) (old new : BayState) (r : Rack D) :
    Type 0 where
  pub run : BayRun tells config old new
  pub refused : run.refused ≡ is_kept_home r.rest.images.items
  pub of : (s : Station D) → Contains r.stations.items s
      → (h : History) × (run.histories s.id ≡ Some h) × IsHistoryOf s h
  pub only : (v : ℕ) (h : History) → run.histories v ≡ Some h
      → (s : Station D) × Contains r.stations.items s × (s.id ≡ v) × IsHistoryOf s h
  -- where each volume used the pools of its view alone
  pub pools : (views : ℕ → List ℕ) → KeepToViews views r
      → UsesPools tells config run.histories old new
