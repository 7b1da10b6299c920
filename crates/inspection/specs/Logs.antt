-- What is left of the logs of a volume.
use Rattle.std.specs.Prelude.{ℕ, List, Contains}
use Rattle.wol_bay.specs.Bay.{Told}
use Rattle.wol_config.specs.declared.config.Config.{Config}
use Rattle.wol_model.specs.Extents.{AreDistinct, covers_of}
use Rattle.wol_model.specs.Images.{Images, all_segments}
use Rattle.wol_model.specs.Index.{Listed}
use Rattle.wol_model.specs.Recovered.{extents_of}
use Rattle.volume_images.specs.Volumes.{AreLeft, shapes_of}
use Rattle.rack.specs.Closes.{IsOnLogger}
use Rattle.rack.specs.Sessions.{LeavesRecords}

-- whatever images a crash leaves, each of these records lies in a log of volume v on a logger of
-- this view
abbrev pub LeavesOnLoggers : Config → (v : ℕ) → (view : List ℕ) → List Listed → Told → Type 0
LeavesOnLoggers config v view listed left = (images : Images) → AreLeft config left images
    → (e : Listed) → Contains listed e → IsOnLogger (shapes_of config) images v view e

-- .. and no two records of volume v in them have one version
abbrev pub LeavesDistinct : Config → (v : ℕ) → Told → Type 0
LeavesDistinct config v left = (images : Images) → AreLeft config left images
    → AreDistinct (covers_of (extents_of v (all_segments (shapes_of config) images)))

-- Whatever images a crash leaves, the records of volume v that keep a block in them are the listed
-- ones, each once, in logs on the loggers of its view.
pub record LeavesLogs (config : Config) (v : ℕ) (view : List ℕ) (listed : List Listed)
    (left : Told) : Type 0 where
  pub records : LeavesRecords config v listed left
  pub distinct : LeavesDistinct config v left
  pub on_loggers : LeavesOnLoggers config v view listed left
