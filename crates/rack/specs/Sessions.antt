-- All volumes of a bay are opened, something is done with them, and they are closed. `old` is the
-- bay before, `bay` the bay while they are open, `new` the bay behind.
use Rattle.std.specs.Prelude.{◌≡◌, ◌<◌, ◌≤◌, ◌++◌, ℕ, Bool, List, length, Option, None, Some, All, IfSome, IsTrue, slice_get}
use Rattle.wol_disk.specs.Disk.{State, Rose}
use Rattle.wol_model.specs.Images.{AreSound, Images, all_segments, recovered_from}
use Rattle.wol_model.specs.Index.{Listed}
use Rattle.wol_model.specs.Recovered.{extents_of}
use Rattle.wol_bay.specs.Bay.{BayState, Name, Told}
use Rattle.wol_config.specs.declared.config.Config.{Config}
use Rattle.wol_config.specs.declared.config.VolumeConf.{VolumeConf}
use Rattle.spin_model.specs.Spindles.{SpindleView}
use Rattle.manager.specs.declared.part.Part.{Part}
use Rattle.manager_recovery.specs.declared.refusal.OpenRefusal.TheVariants.{DiskFault}
use Rattle.volume_images.specs.Left.{IsTold}
use Rattle.volume_images.specs.Volumes.{AreLeft, images_read, shapes_of}
use Rattle.rack.specs.Closes.{AreLeftOfParts, AreListedOf, CameBackFaulty, IsClosedSpindle, IsClosedVolume, IsQuiet, LeavesOpen, LeavesUnopened, ListsFaulty, SharePools, segments_out}
use Rattle.rack.specs.Opens.{AreRefused, BeganWith, LeavesAll, RefusesVolume, WereThere}
use Rattle.rack.specs.Owners.{HadRefused}
use Rattle.rack.specs.Racks.{AreUnused, IsRack, IsUnused, KeepToViews}
use Rattle.rack.specs.Rests.{IsImageOut, image_here}
use Rattle.rack.specs.RackRuns.{RunsRack}
use Rattle.rack_parts.specs.declared.rack.ImageRest.{ImageRest}
use Rattle.rack_parts.specs.declared.rack.Rack.{Rack}
use Rattle.rack_parts.specs.declared.volume_fault.VolumeFault.{VolumeFault}
use Rattle.rack_parts.specs.declared.volume_fault.VolumeFault.TheVariants.{Refused}
use Rattle.rack.specs.Again.{IsRackAgain}

-- whatever images a crash leaves, the records of volume v that keep a block in those of the images
-- that are out with these are the listed ones
abbrev pub LeavesRecordsIn : {D : Type 0} → Config → List (Option (ImageRest D)) → (v : ℕ)
    → (listed : List Listed) → Told → Type 0
LeavesRecordsIn config out v listed left = (images : Images) → AreLeft config left images
    → AreListedOf listed (extents_of v (segments_out config out images))

-- whatever images a crash leaves, the records of volume v that keep a block in them are these
abbrev pub LeavesRecords : Config → (v : ℕ) → List Listed → Told → Type 0
LeavesRecords config v records left =
    (images : Images) → AreLeft config left images
    → AreListedOf records (extents_of v (all_segments (shapes_of config) images))

-- whatever images a crash leaves, each volume recovers to the array that the images at entry recover
-- to as they read
abbrev pub KeepsArrays : Config → (entry left : Told) → Type 0
KeepsArrays config entry left =
    (images : Images) → AreLeft config left images → (v : ℕ) → v < length (shapes_of config)
    → recovered_from (shapes_of config) images v
    ≡ recovered_from (shapes_of config) (images_read config entry) v

-- what a rack is that was opened, and what it began with
pub record IsOpened {D : Type 0} (tells : Bool) (state : D → State) (config : Config)
    (old bay : BayState) (r : Rack D) : Type 0 where
  pub rack : IsRack state config bay r
  -- no pass was used
  pub fresh : AreUnused r.stations.items
  pub fresh_keepers : All (λ p. IsUnused p) r.keepers.items
  -- it began with the images as they read before
  pub began : IsTrue tells → IfSome old.told (λ t. BeganWith state config t r)
  pub there : IsTrue tells → IfSome old.told (λ t. WereThere config r.rest.images.items t)
  pub kept : IsTrue tells → IsTold (HadRefused config r.rest.images.items) old.told bay.told
  -- the list of parts that came back with a fault only grows; it is the same where all images are
  -- out
  pub faulty :
      IsTold (λ x y. (more : List (Name × ℕ)) × (y.faulty ≡ x.faulty ++ more)) old.told bay.told
  pub unfaulty : ((k : ℕ) → k < length (shapes_of config) → IsImageOut r.rest.images.items k)
      → IsTold (λ x y. y.faulty ≡ x.faulty) old.told bay.told

-- what closing leaves of a rack, whatever was done with it
pub record IsClosed {D : Type 0} (tells : Bool) (state : D → State) (config : Config)
    (bay new : BayState) (r : Rack D) (spindles : List SpindleView) : Type 0 where
  pub count : length spindles ≡ length (shapes_of config)
  pub each : (k : ℕ) (s : SpindleView) → slice_get spindles k ≡ Some s → IsClosedSpindle r k s
  pub stations : All (IsClosedVolume tells config r.rest.images.items bay new) r.stations.items
  pub pools : SharePools tells config bay new r stations
  pub parts : IsTrue tells → IsTold (λ x y. AreLeftOfParts state config r y) bay.told new.told
  -- the parts that came back with a fault are listed
  pub lists : IsTold (ListsFaulty state config r.rest) bay.told new.told

-- A rack was opened, this was done with it, and it was closed.
pub record OpensAndCloses {D : Type 0} (tells : Bool) (state : D → State) (config : Config)
    (did : (before after : Rack D) → Type 0) (old new : BayState) (spindles : List SpindleView) :
    Type 0 where
  pub bay : BayState
  pub before : Rack D
  pub after : Rack D
  pub opened : IsOpened tells state config old bay before
  pub done : did before after
  pub again : IsRackAgain before after
  -- a volume used the disks of its own image and of its view alone, and the pools of its view
  pub users : (views : ℕ → List ℕ) × KeepToViews views after
  pub closed : IsClosed tells state config bay new after spindles
  -- the run of the bay, in which each station has its history
  pub runs : RunsRack tells config old new after
  pub sooner : old.faults ≤ bay.faults
  pub later : bay.faults ≤ new.faults
  -- a volume without a station was refused for its fault, and that of a disk is counted
  pub refused : AreRefused tells state config old new before
  pub failed : (k : ℕ) (p : Part) → slice_get before.faults.items k
      ≡ Some (Some (Refused (DiskFault p))) → Rose old.faults new.faults
  -- and the part that is told came back with a fault
  pub part : (k : ℕ) (p : Part) → slice_get before.faults.items k
      ≡ Some (Some (Refused (DiskFault p))) → IsTold (CameBackFaulty config p) old.told new.told
  -- an image that isn't out was refused, and is left only as it might have been left before
  pub missing : (k : ℕ) (v : VolumeConf) → slice_get config.volumes.items k ≡ Some v
      → image_here before.rest.images.items k ≡ None
      → (f : VolumeFault) × RefusesVolume tells state config before.rest.images.items old new k v f
  pub kept : IsTrue tells → IsTold (HadRefused config before.rest.images.items) old.told new.told
  -- where the images are sound as they read, and no call failed, each volume was open
  pub complete : IsTrue tells → IfSome old.told
      (λ t. AreSound (shapes_of config) (images_read config t) → (Rose old.faults new.faults → ⊥)
      → (k : ℕ) → k < length (shapes_of config) → slice_get before.faults.items k ≡ Some None)
  -- whatever was written, a volume that wasn't opened recovers to what it might have, and its logs
  -- stay
  pub left_unopened : IsTrue tells → IsTold (LeavesUnopened config after) old.told new.told
  -- where nothing was written, each open volume recovers to what the images before recovered to,
  -- and each volume to what it might have
  pub left_open : IsTrue tells → All (λ s. IsQuiet s) after.stations.items
      → IsTold (LeavesOpen config after) old.told new.told
  pub left : IsTrue tells → All (λ s. IsQuiet s) after.stations.items
      → IsTold (LeavesAll tells state config old new) old.told new.told

-- Nothing stands in the way of a command that opens all volumes: the images at entry are sound as
-- they read, and no call failed.
pub record MayComplete (tells : Bool) (config : Config) (old new : BayState) (sink sink' : ℕ) :
    Type 0 where
  pub telling : IsTrue tells
  pub entry : Told
  pub entry_is : old.told ≡ Some entry
  pub sound : AreSound (shapes_of config) (images_read config entry)
  pub bay_calm : Rose old.faults new.faults → ⊥
  pub sink_calm : Rose sink sink' → ⊥
