-- The first volume that isn't open, and what a bay is left with where not all volumes could be
-- opened.
use Rattle.std.specs.Prelude.{⊤, ◌≡◌, ◌⊎◌, ◌<◌, ◌+◌, ℕ, Bool, List, [], ◌∷◌, length, Option, None, Some, IfSome, slice_get, Contains, IsTrue}
use Rattle.wol_disk.specs.Disk.{Rose, State}
use Rattle.wol_model.specs.Extents.{AreDistinct, covers_of}
use Rattle.wol_model.specs.Images.{Images}
use Rattle.wol_model.specs.Index.{Listed}
use Rattle.wol_model.specs.Recovered.{extents_of}
use Rattle.wol_bay.specs.Bay.{BayState, Told}
use Rattle.wol_config.specs.declared.config.Config.{Config}
use Rattle.wol_config.specs.declared.config.VolumeConf.{VolumeConf}
use Rattle.manager.specs.declared.part.Part.{Part}
use Rattle.manager_recovery.specs.declared.refusal.OpenRefusal.TheVariants as refusal
use Rattle.volume_images.specs.Left.{IsTold}
use Rattle.volume_images.specs.Volumes.{AreLeft, shapes_of}
use Rattle.report.specs.declared.fault.Fault.{Fault}
use Rattle.report.specs.declared.fault.Fault.TheVariants.{Volume}
use Rattle.rack.specs.Troubles.{trouble_of}
use Rattle.rack.specs.Closes.{CameBackFaulty, IsOnLogger, is_kept_home, segments_out}
use Rattle.rack.specs.Opens.{KeepsAllSound, LeavesAll, RefusesVolume, WereThere, KeepsViews}
use Rattle.rack.specs.Owners.{HadRefused, KeepsLogs, WasOpened}
use Rattle.rack.specs.Racks.{NamesVolumes}
use Rattle.rack.specs.Rests.{IsImageOut}
use Rattle.rack_parts.specs.declared.rack.ImageRest.{ImageRest}
use Rattle.rack_parts.specs.declared.volume_fault.VolumeFault.{VolumeFault}
use Rattle.rack_parts.specs.declared.volume_fault.VolumeFault.TheVariants as fault
use Rattle.rack.specs.Sessions.{LeavesRecordsIn}

-- what is told of the first of these volumes, from number k on, that has a fault
abbrev pub first_closed : (k : ℕ) → List (Option VolumeFault) → Option Fault
first_closed k [] = None
first_closed k (None ∷ faults) = first_closed (k + 1) faults
first_closed k (Some f ∷ faults) = Some (Volume k (trouble_of f))

-- the volume isn't open since a call failed
abbrev pub IsOfCall : VolumeFault → Type 0
IsOfCall fault.Absent = ⊥
IsOfCall (fault.WrongLength bytes) = ⊥
IsOfCall fault.LabelFault = ⊤
IsOfCall fault.BayFailed = ⊤
IsOfCall (fault.Refused (refusal.DiskFault part)) = ⊤
IsOfCall (fault.Refused refusal.LabelDiffers) = ⊥
IsOfCall (fault.Refused (refusal.LoggerMissing id)) = ⊥
IsOfCall (fault.Refused (refusal.OutsideView logger segment)) = ⊥
IsOfCall (fault.Refused (refusal.Damaged volume block)) = ⊥
IsOfCall (fault.Refused (refusal.Twins first_volume first second_volume second)) = ⊥
IsOfCall (fault.Refused refusal.NoMemory) = ⊥

-- Volume v was opened of the images that are out, and in these the records that are left of it are
-- those with which it was opened: no two of them have one version, and each lies on the logger of
-- its lane.
pub record LeavesAsOpened {D : Type 0} (config : Config) (out : List (Option (ImageRest D))) (v : ℕ)
    (entry left : Told) : Type 0 where
  pub was : WasOpened config (is_kept_home out) entry v
  pub records : LeavesRecordsIn config out v was.base.look.listed left
  pub distinct : (images : Images) → AreLeft config left images
      → AreDistinct (covers_of (extents_of v (segments_out config out images)))
  pub on_loggers : (images : Images) → AreLeft config left images → (e : Listed)
      → Contains was.base.look.listed e
      → IsOnLogger (shapes_of config) images v was.base.view e

-- the image of volume v is out, and so it is told of the volume
abbrev pub LeavesOpened : {D : Type 0} → (tells : Bool) → Config → List (Option (ImageRest D))
    → (old new : BayState) → (v : ℕ) → Type 0
LeavesOpened tells config out old new v = IsImageOut out v
    × (IsTrue tells → IsTold (LeavesAsOpened config out v) old.told new.told)

-- Volume v isn't open, for its first cause, which names configured volumes. Where a call failed the
-- bay's count rose, and the part that is named came back with a fault. Its logs stay, and none is
-- forged.
pub record WasRefused {D : Type 0} (tells : Bool) (state : D → State) (config : Config)
    (out : List (Option (ImageRest D))) (old new : BayState) (v : ℕ) (conf : VolumeConf)
    (f : VolumeFault) : Type 0 where
  pub refused : RefusesVolume tells state config out old new v conf f
  pub names : NamesVolumes (length config.volumes.items) f
  pub cause : IsOfCall f → Rose old.faults new.faults
  pub part : (p : Part) → f ≡ fault.Refused (refusal.DiskFault p)
      → IsTold (CameBackFaulty config p) old.told new.told
  pub logs : IsTrue tells → IsTold (KeepsLogs config v) old.told new.told

-- Volume k is the first that isn't open. Each image that was handed out was there and may be opened
-- as it reads; of each other a crash may leave only what it might have left before. Each volume was
-- opened and keeps its records, or was refused; those before k were opened.
pub record IsFirstClosed {D : Type 0} (tells : Bool) (state : D → State) (config : Config)
    (old new : BayState) (k : ℕ) (f : VolumeFault) : Type 0 where
  pub out : List (Option (ImageRest D))
  pub count : length out ≡ length config.volumes.items
  pub there : IsTrue tells → IfSome old.told (λ t. WereThere config out t)
  pub kept : IsTrue tells → IsTold (HadRefused config out) old.told new.told
  pub each : (j : ℕ) (v : VolumeConf) → slice_get config.volumes.items j ≡ Some v
      → LeavesOpened tells config out old new j
      ⊎ ((g : VolumeFault) × WasRefused tells state config out old new j v g)
  pub before : (j : ℕ) → j < k → LeavesOpened tells config out old new j
  pub conf : VolumeConf
  pub conf_is : slice_get config.volumes.items k ≡ Some conf
  pub is_refused : WasRefused tells state config out old new k conf f
  pub open is_refused use *

-- each image that is left recovers to what an image at entry did, and sound images stay sound
pub record LeavesBay {D : Type 0} (tells : Bool) (state : D → State) (config : Config)
    (old new : BayState) : Type 0 where
  pub left : IsTrue tells → IsTold (LeavesAll tells state config old new) old.told new.told
  pub sound : IsTrue tells → IsTold (KeepsAllSound config) old.told new.told

-- .. and no label or view was changed
pub record LeavesViews {D : Type 0} (tells : Bool) (state : D → State) (config : Config)
    (old new : BayState) : Type 0 where
  pub bay : LeavesBay tells state config old new
  pub views : IsTrue tells → IsTold (KeepsViews config) old.told new.told
