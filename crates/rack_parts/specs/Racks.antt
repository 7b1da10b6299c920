-- A rack, whatever its volumes were told since it was opened: what it needs to be closed.
use Rattle.std.specs.Prelude.{⊤, ◌≡◌, ◌≢◌, ◌<◌, ◌↔◌, ℕ, List, [], length, map, None, Some, slice_get, slice_index_or, Contains, All, AllPairs}
use Rattle.std.specs.List.{AllByRecursion}
use Rattle.wol_disk.specs.Disk.{State}
use Rattle.wol_model.specs.Heads.{Shape}
use Rattle.wol_bay.specs.Bay.{BayState, IsHome, IsOut}
use Rattle.wol_config.specs.declared.config.Config.{Config}
use Rattle.wol_config.specs.declared.config.VolumeConf.{VolumeConf}
use Rattle.turn_lock.specs.Passes.{lock_id, lock_passes, pass_seen, pass_mine, IsPassAt}
use Rattle.turn_lock.specs.declared.lock.TurnLock.{TurnLock}
use Rattle.turn_lock.specs.declared.pass.PassOf.{PassOf}
use Rattle.spin_model.specs.declared.spindle.Spindle.{Spindle}
use Rattle.spin_model.specs.declared.spindle.SpindleBase.{SpindleBase}
use Rattle.seg_pool.specs.declared.base.PoolBase.{PoolBase}
use Rattle.seg_pool.specs.declared.pool.Pool.{Pool}
use Rattle.log_segment.specs.declared.free.FreeSegment.{FreeSegment}
use Rattle.wol_model.specs.Index.{AreRising}
use Rattle.logger.specs.declared.shared.Shared.{Shared}
use Rattle.manager.specs.Stands.{IsShared}
use Rattle.manager.specs.Stations.{HasOwnPasses}
use Rattle.manager.specs.declared.base.LaneBase.{LaneBase}
use Rattle.manager.specs.declared.base.ManagerBase.{ManagerBase}
use Rattle.manager.specs.declared.station.Station.{Station}
use Rattle.volume_images.specs.Formatted.{part_sizes}
use Rattle.volume_images.specs.Volumes.{shape_in, shapes_of}
use Rattle.rack_parts.specs.Rests.{AreLocks, IsRest, IsImageOut, OnlyAccess, image_here, pool_pass, spindle_pass}
use Rattle.rack_parts.specs.Foreign.{AreForeign}
use Rattle.manager.specs.declared.part.Part.TheVariants.{Home, Segment}
use Rattle.manager_recovery.specs.declared.refusal.OpenRefusal.TheVariants.{LabelDiffers, LoggerMissing, OutsideView, Damaged, Twins, DiskFault, NoMemory}
use Rattle.rack_parts.specs.declared.volume_fault.VolumeFault.{VolumeFault}
use Rattle.rack_parts.specs.declared.volume_fault.VolumeFault.TheVariants.{Absent, WrongLength, Refused, LabelFault, BayFailed}
use Rattle.rack_parts.specs.declared.rack.ImageRest.{ImageRest}
use Rattle.rack_parts.specs.declared.rack.Rack.{Rack}
use Rattle.wol_config.specs.Configs.{most_of}

-- what a station's manager began with
abbrev pub base_of_station : {D : Type 0} → Station D → ManagerBase
base_of_station s = (lock_id s.lock).base

-- a manager of a volume whose image is out, over the locks of these shared ones and its own passes
-- of them
pub record IsOpenBase {D : Type 0} (config : Config) (shared : Shared D)
    (images : List (Rattle.std.specs.Prelude.Option (ImageRest D))) (b : ManagerBase) : Type 0 where
  pub out : IsImageOut images b.volume.began.owner
  pub home_blocks : (s : Shape) → slice_get (shapes_of config) b.volume.began.owner ≡ Some s
      → b.volume.began.home_blocks ≡ s.home
  pub at : IsShared shared b
  pub loggers : map (λ (l : LaneBase). l.logger) b.lanes ≡ b.volume.began.view
  pub loggers_out : AllByRecursion (IsImageOut images) b.volume.began.view
  -- the view names each logger once, and not the volume itself
  pub others : Contains b.volume.began.view b.volume.began.owner → ⊥
  pub apart : AllPairs (λ j k. j ≢ k) b.volume.began.view
  pub most : b.volume.began.most ≡ most_of config
  pub own_spindle : b.spindle_number ≡ b.volume.began.owner
  pub own_lanes : AllByRecursion (λ (l : LaneBase).
      (l.pool_number ≡ b.volume.began.owner) × (l.spindle_number ≡ b.volume.began.owner))
      b.lanes
  -- no pass had taken a segment by then
  pub untaken : AllByRecursion (λ (l : LaneBase). l.takes ≡ 0) b.lanes

-- the lock of a volume's manager with its three passes, each in no turn
pub record IsStation {D : Type 0} (s : Station D) : Type 0 where
  pub id : (base_of_station s).volume.began.owner ≡ s.id
  pub passes : lock_passes s.lock ≡ 3
  pub own_passes : HasOwnPasses s
  pub open own_passes use *

-- a keeper's pass of each spindle's lock, in no turn
abbrev pub AreKeepers : {D : Type 0} → Config → Shared D → List (PassOf Spindle SpindleBase)
    → Type 0
AreKeepers config shared keepers =
    (length keepers ≡ length (shapes_of config))
    × ((k : ℕ) (l : TurnLock Spindle SpindleBase) (p : PassOf Spindle SpindleBase)
    → slice_get shared.spindles.items k ≡ Some l → slice_get keepers k ≡ Some p
    → IsPassAt l (length (shapes_of config)) p)

-- the names of the images that are out are out with the sizes of their parts, and the others aren't
abbrev pub AreOut : {D : Type 0} → Config → List (Rattle.std.specs.Prelude.Option (ImageRest D))
    → BayState → Type 0
AreOut config images b = (k : ℕ) (v : VolumeConf) → slice_get config.volumes.items k ≡ Some v
    → (IsImageOut images k → IsOut v.name (part_sizes (shape_in config v)) b)
    × (image_here images k ≡ None → IsHome v.name b)

-- a pass that was not used yet
pub record IsUnused {T B : Type 0} (p : PassOf T B) : Type 0 where
  pub seen : pass_seen p ≡ []
  pub mine : pass_mine p ≡ []

-- no pass of these stations was used yet
abbrev pub AreUnused : {D : Type 0} → List (Station D) → Type 0
AreUnused {D} stations =
    All (λ (s : Station D). IsUnused s.worker × IsUnused s.helper × IsUnused s.keeper) stations

-- All that closing needs: each lock, station and pass is there, each pass in no turn, and each part
-- is in one place.
pub record IsClosable {D : Type 0} (state : D → State) (config : Config) (b : BayState)
    (r : Rack D) : Type 0 where
  pub out : AreOut config r.rest.images.items b
  pub locks : AreLocks config r.shared
  pub keepers : AreKeepers config r.shared r.keepers.items
  pub stations : All (λ s. IsStation s) r.stations.items
  pub rising : AreRising (map (λ (s : Station D). s.id) r.stations.items)
  pub bases : All (λ s. IsOpenBase config r.shared r.rest.images.items (base_of_station s))
      r.stations.items
  pub rest : IsRest state config r.shared
      (map (λ (s : Station D). base_of_station s) r.stations.items) r.rest
  pub foreign :
      AreForeign state (map (λ (s : Station D). base_of_station s) r.stations.items) r.rest
  pub accesses : OnlyAccess r.rest

-- the volumes that a fault names are among so many; no volume is refused for want of memory
abbrev pub NamesVolumes : (volumes : ℕ) → VolumeFault → Type 0
NamesVolumes n Absent = ⊤
NamesVolumes n (WrongLength bytes) = ⊤
NamesVolumes n LabelFault = ⊤
NamesVolumes n BayFailed = ⊤
NamesVolumes n (Refused LabelDiffers) = ⊤
NamesVolumes n (Refused (LoggerMissing id)) = ⊤
NamesVolumes n (Refused (OutsideView logger segment)) = logger < n
NamesVolumes n (Refused (Damaged volume block)) = volume < n
NamesVolumes n (Refused (Twins first_volume first second_volume second)) =
    (first_volume < n) × (second_volume < n)
NamesVolumes n (Refused (DiskFault (Home volume))) = ⊤
NamesVolumes n (Refused (DiskFault (Segment volume index))) = volume < n
NamesVolumes n (Refused NoMemory) = ⊥

-- Which disks and pools the volumes used, where these are their views: the pass of a volume at
-- another's spindle was used only if its view names that volume, and so was that at a pool, its own
-- too. A station's view is the one that it was opened with.
pub record KeepToViews {D : Type 0} (views : ℕ → List ℕ) (r : Rack D) : Type 0 where
  pub opened : All (λ s. views s.id ≡ (base_of_station s).volume.began.view) r.stations.items
  pub unused : (v k : ℕ) (p : PassOf Spindle SpindleBase) → v ≢ k → (Contains (views v) k → ⊥)
      → spindle_pass r.rest v k ≡ Some p → pass_mine p ≡ []
  pub unused_pools : (v k : ℕ) (p : PassOf (Pool (FreeSegment D)) PoolBase)
      → (Contains (views v) k → ⊥) → pool_pass r.rest v k ≡ Some p → pass_mine p ≡ []

-- The rack is whole: it may be closed, and a volume has a station exactly where it has no fault.
pub record IsRack {D : Type 0} (state : D → State) (config : Config) (b : BayState) (r : Rack D) :
    Type 0 where
  pub closable : IsClosable state config b r
  pub open closable use *
  pub fault_count : length r.faults.items ≡ length (shapes_of config)
  pub faults : (k : ℕ) → k < length (shapes_of config)
      → (slice_index_or r.faults.items k None ≡ None)
      ↔ Contains (map (λ (s : Station D). s.id) r.stations.items) k
  pub known : (k : ℕ) (f : VolumeFault) → slice_get r.faults.items k ≡ Some (Some f)
      → NamesVolumes (length (shapes_of config)) f
  -- a volume used the disks of its own image and of its view alone, and the pools of its view
  pub users : (views : ℕ → List ℕ) × KeepToViews views r
