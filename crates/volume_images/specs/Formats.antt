-- What a format leaves of the images of all volumes.
use Rattle.std.specs.Prelude.{◌≡◌, ◌≢◌, ◌⊎◌, ◌<◌, ℕ, length, Some, Result, Ok, Err, slice_index_or, slice_get}
use Rattle.wol_disk.specs.Zeros.{zeros}
use Rattle.wol_model.specs.Heads.{Shape}
use Rattle.wol_model.specs.Images.{Images, AreSound, recovered_from}
use Rattle.wol_bay.specs.Bay.{Name, Image, Told, at_name}
use Rattle.wol_config.specs.declared.config.Config.{Config}
use Rattle.wol_config.specs.declared.config.VolumeConf.{VolumeConf}
use Rattle.volume_images.specs.Formatted.{formatted}
use Rattle.volume_images.specs.Left.{IsUnfinished, LeavesFailed, settled_image}
use Rattle.volume_images.specs.Volumes.{shape_in, shapes_of, AreLeft}
use Rattle.volume_images.specs.declared.fault.RackFault.{RackFault}
use Rattle.volume_images.specs.declared.fault.RackFault.TheVariants.{Failed, NoMemory}

-- the image of volume k is the whole formatted one, on which all is synced
abbrev pub IsFormatted : Config → (k : ℕ) → VolumeConf → Told → Type 0
IsFormatted config k v t =
    at_name v.name t.images ≡ Some (settled_image (formatted k (shape_in config v) v.view))

-- the images of the first n volumes are formatted, and all others are as they were
pub record FormatsFirst (config : Config) (n : ℕ) (old new : Told) : Type 0 where
  pub each : (k : ℕ) (d : VolumeConf) → k < n
      → IsFormatted config k (slice_index_or config.volumes.items k d) new
  pub others : (name : Name) → ((k : ℕ) (d : VolumeConf) → k < n
      → name ≢ (slice_index_or config.volumes.items k d).name)
      → at_name name new.images ≡ at_name name old.images
  pub faulty : new.faulty ≡ old.faulty

-- Volumes are formatted in their order. Where a part of volume n failed, those before it are
-- formatted, its own image may be unfinished, and those behind it are as they were.
abbrev pub LeavesImages : Config → Result (Unit {0}) RackFault → Told → Told → Type 0
LeavesImages config (Ok done) old new = FormatsFirst config (length config.volumes.items) old new
LeavesImages config (Err NoMemory) old new =
    (n : ℕ) × (n < length config.volumes.items) × FormatsFirst config n old new
LeavesImages config (Err (Failed n part)) old new =
    (n < length config.volumes.items) × (mid : Told) × FormatsFirst config n old mid
    × ((d : VolumeConf) → let v = slice_index_or config.volumes.items n d in
    LeavesFailed part v.name n (shape_in config v) v.view mid new)

-- the image of volume k is as it was, or each image that a crash may leave has no label or is a
-- whole formatted one
abbrev pub IsAsItWasOrUnfinished : Config → (k : ℕ) → VolumeConf → Told → Told → Type 0
IsAsItWasOrUnfinished config k v old new =
    (at_name v.name new.images ≡ at_name v.name old.images)
    ⊎ ((image : Image) × (at_name v.name new.images ≡ Some image)
    × IsUnfinished k (shape_in config v) v.view image)

-- whatever stop there was, so is each volume's
abbrev pub LosesNone : Config → Told → Told → Type 0
LosesNone config old new = (k : ℕ) (d : VolumeConf) → k < length config.volumes.items
    → IsAsItWasOrUnfinished config k (slice_index_or config.volumes.items k d) old new

-- whatever images a crash leaves, they are sound, and each volume recovers to zeros
abbrev pub LeavesSound : Config → Told → Told → Type 0
LeavesSound config old new =
    (images : Images) → AreLeft config new images → AreSound (shapes_of config) images

abbrev pub LeavesZeros : Config → Told → Told → Type 0
LeavesZeros config old new = (images : Images) → AreLeft config new images
    → (v : ℕ) (s : Shape) → slice_get (shapes_of config) v ≡ Some s
    → recovered_from (shapes_of config) images v ≡ zeros s.home
