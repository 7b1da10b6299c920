-- The volumes of a configuration and their images in a bay.
use Rattle.std.specs.Prelude.{◌≡◌, ◌≢◌, ◌<◌, ℕ, List, [], length, map, Option, None, Some, All, slice_index_or, ◌==◌, if◌then◌else◌, ⊤}
use Rattle.wol_disk.specs.Disk.{Block, IsImage, reads}
use Rattle.wol_model.specs.Heads.{Shape}
use Rattle.wol_model.specs.Images.{Images, image_of}
use Rattle.wol_bay.specs.Bay.{Image, Told, BayState, at_name, IsHome}
use Rattle.wol_config.specs.declared.config.Config.{Config}
use Rattle.wol_config.specs.declared.config.VolumeConf.{VolumeConf}

-- the sizes of a volume
abbrev pub shape_in : Config → VolumeConf → Shape
shape_in config v =
    record { home = v.home; segments = v.segments; segment_blocks = config.segment_blocks }

-- those of all volumes
abbrev pub shapes_of : Config → List Shape
shapes_of config = map (shape_in config) config.volumes.items

-- no name of the configuration is out
abbrev pub NoneOut : Config → BayState → Type 0
NoneOut config b = All (λ v. IsHome v.name b) config.volumes.items

-- what a crash may leave of the image of a name: one value of each block. An image whose bytes are
-- no whole blocks is none to its volume.
abbrev pub MayLeave : Option Image → Option (List Block) → Type 0
MayLeave None None = ⊤
MayLeave None (Some c) = ⊥
MayLeave (Some i) None = i.rest ≢ []
MayLeave (Some i) (Some c) = (i.rest ≡ []) × IsImage i.blocks c

-- one choice of the images that a crash may leave of all volumes
pub record AreLeft (config : Config) (t : Told) (images : Images) : Type 0 where
  pub count : length images ≡ length config.volumes.items
  pub each : (k : ℕ) (d : VolumeConf) → k < length config.volumes.items
      → MayLeave (at_name (slice_index_or config.volumes.items k d).name t.images)
      (image_of images k)

-- the image of a name as it reads, if it has whole blocks
abbrev pub image_read : Option Image → Option (List Block)
image_read None = None
image_read (Some i) = if length i.rest == 0 then Some (reads i.blocks) else None

-- those of all volumes, as they read
abbrev pub images_read : Config → Told → Images
images_read config t =
    map (λ (v : VolumeConf). image_read (at_name v.name t.images)) config.volumes.items
