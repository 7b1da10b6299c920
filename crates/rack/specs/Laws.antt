-- Laws of racks that are opened over one bay one after the other. `state` is that of a part's disk.
use Rattle.std.specs.Prelude.{⊤, ◌≡◌, ◌⊎◌, ◌<◌, ℕ, Bool, List, [], length, Option, Some, None, unwrap_or, slice_get, Contains, IsTrue}
use Rattle.std.specs.List.{AllByRecursion}
use Rattle.wol_disk.specs.Disk.{Block, State, Rose}
use Rattle.wol_model.specs.Blocks.{after}
use Rattle.wol_model.specs.History.{Entry, writes, flight_of, IsCut}
use Rattle.wol_model.specs.Images.{Images, AreSound}
use Rattle.wol_promise.specs.Ruled.{entries_of}
use Rattle.wol_bay.specs.Bay.{Told, BayState}
use Rattle.wol_config.specs.declared.config.Config.{Config}
use Rattle.wol_config.specs.Configs.{IsValid}
use Rattle.wol_config.specs.declared.config.VolumeConf.{VolumeConf}
use Rattle.manager.specs.Stands.{notes_of}
use Rattle.manager.specs.declared.part.Part.{Part}
use Rattle.manager.specs.declared.station.Station.{Station}
use Rattle.manager_recovery.specs.declared.refusal.OpenRefusal.TheVariants.{LabelDiffers, LoggerMissing, OutsideView, Damaged, Twins, DiskFault, NoMemory}
use Rattle.volume_images.specs.Volumes.{shapes_of, images_read, AreLeft}
use Rattle.rack.specs.BayRuns.{History, HoldsVolume, WasBegun, WritesNothing}
use Rattle.rack.specs.Owners.{recovered_but}
use Rattle.rack.specs.Closes.{IsClosedVolume, AreLeftOfParts, HasFaultIn}
use Rattle.rack.specs.Opens.{BeganWith, RefusesVolume, AreRefused, KeepsAllSound}
use Rattle.rack_parts.specs.Racks.{base_of_station, IsRack, NamesVolumes}
use Rattle.rack_parts.specs.Rests.{image_here, IsImageOut}
use Rattle.rack_parts.specs.declared.rack.ImageRest.{ImageRest}
use Rattle.rack_parts.specs.declared.rack.Rack.{Rack}
use Rattle.rack_parts.specs.declared.volume_fault.VolumeFault.{VolumeFault}
use Rattle.rack_parts.specs.declared.volume_fault.VolumeFault.TheVariants.{Absent, WrongLength, Refused, LabelFault, BayFailed}

-- the images as they read are among those that a crash may leave
abbrev pub ReadsAreLeft : Type 0
ReadsAreLeft = (config : Config) (t : Told) → AreLeft config t (images_read config t)

-- one rack was closed over a bay, and the next was opened of the images that are in it then; what
-- is out again was out before
pub record FollowsOn {D : Type 0} (state : D → State) (config : Config)
    (opened closed after : BayState) (t : Told) (r q : Rack D) : Type 0 where
  pub entry : Told
  pub entry_is : opened.told ≡ Some entry
  pub left_is : closed.told ≡ Some t
  pub rack : IsRack state config opened r
  pub next : IsRack state config after q
  pub began : BeganWith state config t q
  pub parts : AreLeftOfParts state config r t
  pub no_more : (k : ℕ) → IsImageOut q.rest.images.items k → IsImageOut r.rest.images.items k

-- What is said of each volume that was closed and is opened again, the loggers of its view being out
-- again: of the array that it began with, of its entries until it was closed, and of the array that
-- it begins with now.
abbrev pub OfOpenedAgain : {D : Type 0} → (tells : Bool) → (D → State)
    → ((was : List Block) → List Entry → (now : List Block) → Type 0) → Type 0
OfOpenedAgain {D} tells state Says = IsTrue tells
    → (config : Config) (opened closed last : BayState) (t : Told) (r q : Rack D)
    → FollowsOn state config opened closed last t r q
    → (s n : Station D) → Contains r.stations.items s → Contains q.stations.items n → n.id ≡ s.id
    → AllByRecursion (IsImageOut q.rest.images.items) (base_of_station s).volume.began.view
    → (c : IsClosedVolume tells config r.rest.images.items opened closed s)
    → Says (base_of_station s).volume.began.array (entries_of (notes_of c.entries))
    (base_of_station n).volume.began.array

-- It begins with what was written to the array that it began with before, where no call of a disk
-- had failed.
abbrev pub OpensAgain : {D : Type 0} → (tells : Bool) → (D → State) → Type 0
OpensAgain tells state = OfOpenedAgain tells state
    (λ was es now. flight_of es ≡ None → now ≡ after was (writes es))

-- Where one had failed, it begins with a cut of the writes in flight.
abbrev pub OpensCut : {D : Type 0} → (tells : Bool) → (D → State) → Type 0
OpensCut tells state = OfOpenedAgain tells state
    (λ was es now. IsCut was (writes es) (unwrap_or (flight_of es) []) now)

-- ---- Runs of bays

-- An open volume to which nothing was written recovers to what the images at entry recover to as they
-- were read, those that are refused giving no segments.
abbrev pub QuietKeeps : Type 0
QuietKeeps = (config : Config) (refused : ℕ → Bool) (h : History) (entry : Told) (images : Images)
    → WasBegun config refused entry h → HoldsVolume config refused h images → WritesNothing h
    → recovered_but (shapes_of config) refused images h.base.owner
    ≡ recovered_but (shapes_of config) refused (images_read config entry) h.base.owner

-- ---- Sound images

-- a call failed, also where a logger isn't out
abbrev pub IsOfFailedCall : {D : Type 0} → List (Option (ImageRest D)) → (old new : BayState)
    → VolumeFault → Type 0
IsOfFailedCall out old new Absent = ⊥
IsOfFailedCall out old new (WrongLength bytes) = ⊥
IsOfFailedCall out old new BayFailed = Rose old.faults new.faults
IsOfFailedCall out old new LabelFault = Rose old.faults new.faults
IsOfFailedCall out old new (Refused LabelDiffers) = ⊥
IsOfFailedCall out old new (Refused (LoggerMissing id)) = image_here out id ≡ None
IsOfFailedCall out old new (Refused (OutsideView logger segment)) = ⊥
IsOfFailedCall out old new (Refused (Damaged volume block)) = ⊥
IsOfFailedCall out old new (Refused (Twins first_volume first second_volume second)) = ⊥
IsOfFailedCall out old new (Refused (DiskFault p)) = ⊤
IsOfFailedCall out old new (Refused NoMemory) = ⊥

-- Of images that are sound as they read, a volume is refused only for a failed call.
abbrev pub RefusesSound : {D : Type 0} → (tells : Bool) → (D → State) → Type 0
RefusesSound {D} tells state = IsTrue tells → (config : Config) → IsValid config
    → (out : List (Option (ImageRest D))) (old new : BayState) (t : Told) → old.told ≡ Some t
    → AreSound (shapes_of config) (images_read config t)
    → (k : ℕ) (v : VolumeConf) (f : VolumeFault) → slice_get config.volumes.items k ≡ Some v
    → NamesVolumes (length (shapes_of config)) f
    → RefusesVolume tells state config out old new k v f → IsOfFailedCall out old new f

-- the images that closing a rack left are opened again, and no call fails
pub record OpensCalm {D : Type 0} (tells : Bool) (state : D → State) (config : Config)
    (closed after : BayState) (t : Told) (q : Rack D) : Type 0 where
  pub left_is : closed.told ≡ Some t
  pub rack : IsRack state config after q
  pub refused : AreRefused tells state config closed after q
  pub failed : (k : ℕ) (p : Part) → slice_get q.faults.items k ≡ Some (Some (Refused (DiskFault p)))
      → HasFaultIn state q.rest ⊎ Rose closed.faults after.faults
  pub no_fault : HasFaultIn state q.rest → ⊥
  pub calm : Rose closed.faults after.faults → ⊥

-- Where the images at the first entry were sound, each volume is open again.
abbrev pub OpensAllAgain : {D : Type 0} → (tells : Bool) → (D → State) → Type 0
OpensAllAgain {D} tells state = IsTrue tells → (config : Config) → IsValid config
    → (closed last : BayState) (entry t : Told) (q : Rack D)
    → OpensCalm tells state config closed last t q
    → KeepsAllSound config entry t
    → ((images : Images) → AreLeft config entry images → AreSound (shapes_of config) images)
    → (k : ℕ) → k < length (shapes_of config)
    → (n : Station D) × Contains q.stations.items n × (n.id ≡ k)
