-- A volume of a bay whose volumes were all open: what it was opened of, and what is left of one to
-- which nothing was done.
use Rattle.std.specs.Prelude.{◌≡◌, ◌<◌, ℕ, Bool, length, Some, IsTrue, slice_get}
use Rattle.wol_disk.specs.Disk.{State}
use Rattle.wol_bay.specs.Bay.{BayState, Told}
use Rattle.wol_config.specs.declared.config.Config.{Config}
use Rattle.wol_config.specs.declared.config.VolumeConf.{VolumeConf}
use Rattle.wol_model.specs.Images.{Images, recovered_from}
use Rattle.wol_promise.specs.Manager.{Base}
use Rattle.volume_images.specs.Left.{IsTold}
use Rattle.volume_images.specs.Volumes.{AreLeft, images_read, shapes_of}
use Rattle.rack.specs.Opens.{LeavesFront, WasAccepted}
use Rattle.rack.specs.Owners.{IsBegun}
use Rattle.rack.specs.NotOpened.{LeavesBay}
use Rattle.inspection.specs.Logs.{LeavesLogs}

-- Volume v was open: its image was accepted, and this base is what the images gave as they were
-- read. Its label and view are left.
pub record IsOpen (config : Config) (v : ℕ) (conf : VolumeConf) (base : Base) (entry left : Told) :
    Type 0 where
  pub accepted_ : WasAccepted config entry v conf
  pub begun : IsBegun config (images_read config entry) base
  pub front : LeavesFront config v entry left

-- Volume v was open, and nothing was done to it: whatever images a crash leaves, it recovers to its
-- array at entry, and its logs have the records with which it was opened.
pub record IsKept (config : Config) (v : ℕ) (entry left : Told) : Type 0 where
  pub conf : VolumeConf
  pub conf_is : slice_get config.volumes.items v ≡ Some conf
  pub base : Base
  pub owner : base.owner ≡ v
  pub open_ : IsOpen config v conf base entry left
  pub array : (images : Images) → AreLeft config left images
      → recovered_from (shapes_of config) images v
      ≡ recovered_from (shapes_of config) (images_read config entry) v
  pub logs : LeavesLogs config v base.view base.look.listed left

-- so it is of each volume
abbrev pub AreKept : Config → (entry left : Told) → Type 0
AreKept config entry left = (v : ℕ) → v < length config.volumes.items → IsKept config v entry left

-- All volumes of a bay were open, and nothing was done to them.
pub record KeepsBay {D : Type 0} (tells : Bool) (state : D → State) (config : Config)
    (old new : BayState) : Type 0 where
  pub kept : IsTrue tells → IsTold (AreKept config) old.told new.told
  pub leaves : LeavesBay tells state config old new
