-- The volume that a manager serves, as a configuration has it.
use Rattle.std.specs.Prelude.{◌≡◌, ◌<◌, ◌-◌, ℕ, List, ◌++◌, length, map, min, sum_by, slice_get, Some}
use Rattle.std.specs.List.{AllByRecursion}
use Rattle.wol_disk.specs.Disk.{Block, State}
use Rattle.wol_model.specs.Blocks.{after}
use Rattle.wol_model.specs.History.{writes}
use Rattle.wol_model.specs.Index.{Indexed}
use Rattle.wol_promise.specs.Ruled.{Noted, entries_of}
use Rattle.wol_config.specs.declared.config.Config.{Config}
use Rattle.wol_config.specs.declared.config.VolumeConf.{VolumeConf}
use Rattle.wol_config.specs.Documents.{names_of}
use Rattle.report.specs.Names.{name_at}
use Rattle.spin_model.specs.Spun.{state_of}
use Rattle.logger.specs.Lanes.{held_in, logger_of}
use Rattle.logger.specs.declared.lane.Lane.{Lane}
use Rattle.manager.specs.declared.base.ManagerBase.{ManagerBase}
use Rattle.manager.specs.declared.manager.Manager.{Manager}
use Rattle.inspection.specs.Texts.{AreRecordLines, IsRecordLine, count_text}

-- the manager serves this volume of the configuration: it stands there, and so do the loggers of
-- its lanes; home and the most blocks of a call are the configuration's
pub record IsVolumeOf {D : Type 0} (state : D → State) (config : Config) (number : ℕ)
    (m : Manager D) : Type 0 where
  pub volume : VolumeConf
  pub there : slice_get config.volumes.items number ≡ Some volume
  pub loggers :
      AllByRecursion (λ (l : Lane D). logger_of l < length config.volumes.items) m.lanes.items
  pub home : volume.home ≡ (state_of state m.home).size
  pub most : m.most ≡ min 128 (config.segment_blocks - 2)

-- the array that a manager stands for: what it was at its opening, after the writes since
abbrev pub array_of : ManagerBase → List Noted → List Block
array_of b notes = after b.volume.began.array (writes (entries_of notes))

-- how many segments a manager holds on all its loggers
abbrev pub held_segments : {D : Type 0} → Manager D → ℕ
held_segments {D} m = sum_by (λ (l : Lane D). length (held_in l)) m.lanes.items

-- the names of the loggers of a manager's lanes, by the places of the view
abbrev pub logger_names : {D : Type 0} → Config → Manager D → List (List ℕ)
logger_names {D} config m =
    map (λ (l : Lane D). name_at (names_of config.volumes.items) (logger_of l)) m.lanes.items

-- the line of the record at this place of the index was appended
pub record HasLine {D : Type 0} (config : Config) (m : Manager D) (place : ℕ) (old new : List ℕ) :
    Type 0 where
  pub entry : Indexed
  pub there : slice_get m.index.entries place ≡ Some entry
  pub line_ : List ℕ
  pub is : IsRecordLine (logger_names config m) m.index.entries entry line_
  pub appended : new ≡ old ++ line_

-- the lines of `dump` were appended: that of the volume, which has this name, and one for each record
-- of the index in order
pub record IsDumpOf {D : Type 0} (config : Config) (name : List ℕ) (m : Manager D)
    (old new : List ℕ) : Type 0 where
  pub lines : List ℕ
  pub are : AreRecordLines (logger_names config m) m.index.entries m.index.entries lines
  pub appended : new ≡ old ++ (count_text name (length m.index.entries) ++ lines)

-- the same of the volume of this number
abbrev pub IsDump : {D : Type 0} → Config → (number : ℕ) → Manager D → (old new : List ℕ) → Type 0
IsDump config number = IsDumpOf config (name_at (names_of config.volumes.items) number)
