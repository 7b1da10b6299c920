-- What a run of `format` leaves of the bay and prints, and its exit status.
use Rattle.std.specs.Prelude.{◌≡◌, ℕ, ◌<◌, ◌⊎◌, List, length, Option, None, Some, Result, Ok, Err, OnOk, IsErrOf}
use Rattle.std.specs.List.{flat_map}
use Rattle.wol_disk.specs.Disk.{Rose}
use Rattle.wol_bay.specs.Bay.{BayState}
use Rattle.wol_model.specs.Images.{image_size}
use Rattle.wol_config.specs.declared.config.Config.{Config}
use Rattle.volume_images.specs.Left.{IsTold}
use Rattle.volume_images.specs.Volumes.{shape_in}
use Rattle.volume_images.specs.Formats.{LeavesImages, LeavesSound, LeavesZeros, LosesNone}
use Rattle.volume_images.specs.declared.fault.PartName.{PartName}
use Rattle.volume_images.specs.declared.fault.PartName.TheVariants as part
use Rattle.volume_images.specs.declared.fault.RackFault.{RackFault}
use Rattle.volume_images.specs.declared.fault.RackFault.TheVariants.{Failed, NoMemory}
use Rattle.report.specs.declared.fault.Fault.{Fault}
use Rattle.report.specs.declared.fault.Fault.TheVariants as fault
use Rattle.report.specs.declared.trouble.Trouble.{Trouble}
use Rattle.report.specs.declared.trouble.Trouble.TheVariants as trouble
use Rattle.report.specs.Faults.{fault_text}
use Rattle.report.specs.Names.{printed_names}
use Rattle.report.specs.Summaries.{format_text}
use Rattle.wol_run.specs.Settings.{IsFaultLine}
use Rattle.wol_run.specs.Statuses.{no_memory_text}
use Rattle.wol_run.specs.Tops.{EndsWith}

-- the lines of formatted volumes: one for each, with the number of blocks of its image
abbrev pub format_lines : Config → List ℕ
format_lines config =
    flat_map (λ v. format_text v.name (image_size (shape_in config v))) config.volumes.items

-- what is told of a part of a volume a call of which failed
abbrev pub trouble_of : (volume : ℕ) → PartName → Trouble
trouble_of volume part.Bay = trouble.Bay
trouble_of volume part.Label = trouble.Label
trouble_of volume part.Home = trouble.Home
trouble_of volume (part.Segment index) = trouble.Segment volume index

-- the fault that is told of a format that wasn't done
abbrev pub fault_of : RackFault → Fault
fault_of (Failed volume part) = fault.Volume volume (trouble_of volume part)
fault_of NoMemory = fault.Memory

-- What a format with this result leaves of a bay. Where all volumes are formatted, whatever images
-- a crash leaves are sound, and each volume recovers to zeros. At each exit an image is as it was,
-- has no label or is whole. The count of faults rises exactly where a part failed.
pub record Formats (config : Config) (result : Result (Unit {0}) RackFault)
    (old new : BayState) : Type 0 where
  pub images : IsTold (LeavesImages config result) old.told new.told
  pub any_exit : IsTold (LosesNone config) old.told new.told
  pub sound : OnOk result (IsTold (LeavesSound config) old.told new.told)
  pub zeros_ : OnOk result (IsTold (LeavesZeros config) old.told new.told)
  pub cause : (n : ℕ) (part : PartName) → IsErrOf result (Failed n part)
      → Rose old.faults new.faults
  pub calm : ((n : ℕ) (part : PartName) → IsErrOf result (Failed n part) → ⊥)
      → new.faults ≡ old.faults

-- Status 0: all volumes are formatted, and the text is a line for each.
pub record IsWhole (config : Config) (old new : BayState) (text : List ℕ) (status : ℕ) :
    Type 0 where
  pub formats : Formats config (Ok tt) old new
  pub lines_ : text ≡ format_lines config
  pub done : status ≡ 0

-- Status 4: a part of a volume failed, and the text is the line that names it.
pub record IsPartFault (config : Config) (old new : BayState) (text : List ℕ) (status : ℕ) :
    Type 0 where
  pub volume : ℕ
  pub part : PartName
  pub known : volume < length config.volumes.items
  pub formats : Formats config (Err (Failed volume part)) old new
  pub line_ : text ≡ fault_text (printed_names config.volumes.items)
      (fault.Volume volume (trouble_of volume part))
  pub failed : status ≡ 4

-- Status 9: there was no memory to go on, or to say what the format came to.
pub record IsOutOfMemory (config : Config) (old new : BayState) (text : List ℕ) (status : ℕ) :
    Type 0 where
  pub result : Result (Unit {0}) RackFault
  pub formats : Formats config result old new
  pub line_ : text ≡ no_memory_text
  pub memory : status ≡ 9

-- Status 2, 8 or 9: the configuration wasn't had, the text says why, and the bay is as it was.
pub record IsUntouched (left : Option (List ℕ)) (faults faults' : ℕ) (old new : BayState)
    (text : List ℕ) (status : ℕ) : Type 0 where
  pub line_ : IsFaultLine left faults faults' text status
  pub bay : new ≡ old

-- the configuration wasn't had: the text says why, and the bay is as it was
pub record IsNotBegun (left : Option (List ℕ)) (faults faults' : ℕ) (old new : BayState)
    (status : ℕ) (printed printed' : Option (List ℕ)) : Type 0 where
  pub text : List ℕ
  pub wanted : ℕ
  pub untouched : IsUntouched left faults faults' old new text wanted
  pub ends : EndsWith text wanted status printed printed'

-- what a format comes to, by the configuration that was read; none: it wasn't had
abbrev pub FormatsFor : (read : Option Config) → (left : Option (List ℕ)) → (faults faults' : ℕ)
    → (old new : BayState) → (text : List ℕ) → (status : ℕ) → Type 0
FormatsFor (Some config) left faults faults' old new text status =
    IsWhole config old new text status ⊎ IsPartFault config old new text status
    ⊎ IsOutOfMemory config old new text status
FormatsFor None left faults faults' old new text status =
    IsUntouched left faults faults' old new text status

-- a run of `format`: one of these texts was printed whole, or a front of it to a sink that failed
pub record RunsFormat (read : Option Config) (left : Option (List ℕ)) (faults faults' : ℕ)
    (bay bay' : BayState) (status : ℕ) (printed new : Option (List ℕ)) : Type 0 where
  pub text : List ℕ
  pub wanted : ℕ
  pub allowed : FormatsFor read left faults faults' bay bay' text wanted
  pub ends : EndsWith text wanted status printed new
