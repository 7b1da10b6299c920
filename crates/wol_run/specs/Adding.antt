-- What a run of `format NAME` leaves of the bay and prints, and its exit status.
use Rattle.std.specs.Prelude.{◌≡◌, ◌⊎◌, ℕ, Bool, IsTrue, List, [], ◌∷◌, Option, None, Some, Result, Ok, Err, IfErr, codes, decimal, option_map, slice_get, unwrap_or}
use Rattle.wol_disk.specs.Disk.{State}
use Rattle.wol_bay.specs.Bay.{BayState}
use Rattle.wol_model.specs.Images.{image_size}
use Rattle.wol_config.specs.Documents.{names_of, number_named}
use Rattle.wol_config.specs.declared.config.Config.{Config}
use Rattle.wol_config.specs.declared.config.VolumeConf.{VolumeConf}
use Rattle.volume_images.specs.Left.{IsTold}
use Rattle.volume_images.specs.Volumes.{shape_in}
use Rattle.rack.specs.Missing.{LeavesMissing, RefusesMissing}
use Rattle.rack.specs.Troubles.{trouble_of}
use Rattle.rack.specs.declared.missing.MissingFault.{MissingFault}
use Rattle.rack.specs.declared.missing.MissingFault.TheVariants.{There, InView, HasSegment, Refused, Format}
use Rattle.report.specs.Faults.{fault_text, status_of}
use Rattle.report.specs.Names.{name_at, printed_names}
use Rattle.report.specs.Summaries.{format_text}
use Rattle.report.specs.Words.{line_of}
use Rattle.report.specs.declared.fault.Fault.TheVariants as fault
use Rattle.wol_run.specs.Formatting.{IsNotBegun, fault_of}
use Rattle.wol_run.specs.Tops.{EndsWith, TellsNoMemory}

-- the line of an image that was made, with the number of its blocks
abbrev pub made_line : Config → (id : ℕ) → List ℕ
made_line config id =
    unwrap_or (option_map (λ (v : VolumeConf). format_text v.name (image_size (shape_in config v)))
    (slice_get config.volumes.items id)) []

-- the line where no volume has the name
abbrev pub unknown_line : (name : List ℕ) → List ℕ
unknown_line name = line_of (codes "fault" ∷ decimal 15 ∷ codes "unknown" ∷ name ∷ [])

-- the line that says why the image of the volume of this name wasn't made, and its status
abbrev pub missing_text : Config → (name : List ℕ) → MissingFault → List ℕ
missing_text config name There =
    line_of (codes "fault" ∷ decimal 15 ∷ codes "there" ∷ name ∷ [])
missing_text config name (InView volume) =
    line_of (codes "fault" ∷ decimal 15 ∷ codes "in view of"
    ∷ name_at (names_of config.volumes.items) volume ∷ [])
missing_text config name (HasSegment logger index) =
    line_of (codes "fault" ∷ decimal 15 ∷ codes "records segment" ∷ decimal index ∷ codes "of"
    ∷ name_at (names_of config.volumes.items) logger ∷ [])
missing_text config name (Refused volume f) =
    fault_text (printed_names config.volumes.items) (fault.Volume volume (trouble_of f))
missing_text config name (Format e) = fault_text (printed_names config.volumes.items) (fault_of e)

abbrev pub missing_status : MissingFault → ℕ
missing_status There = 15
missing_status (InView volume) = 15
missing_status (HasSegment logger index) = 15
missing_status (Refused volume f) = status_of (fault.Volume volume (trouble_of f))
missing_status (Format e) = status_of (fault_of e)

-- what is printed at the end, and with which status
abbrev pub answer_text : Config → (id : ℕ) → (name : List ℕ) → Result (Unit {0}) MissingFault
    → List ℕ
answer_text config id name (Ok done) = made_line config id
answer_text config id name (Err f) = missing_text config name f

abbrev pub answer_status : Result (Unit {0}) MissingFault → ℕ
answer_status (Ok done) = 0
answer_status (Err f) = missing_status f

-- this text was written at the end with this status, or there was no memory to make it
abbrev pub EndsOrMemory : (text : List ℕ) → (wanted status : ℕ) → (printed new : Option (List ℕ))
    → Type 0
EndsOrMemory text wanted status printed new =
    EndsWith text wanted status printed new ⊎ TellsNoMemory status printed new

-- no volume has the name, and nothing was done
pub record IsUnknown (name : List ℕ) (config : Config) (old new : BayState) (status : ℕ)
    (printed printed' : Option (List ℕ)) : Type 0 where
  pub unknown : number_named (names_of config.volumes.items) name ≡ None
  pub bay : new ≡ old
  pub ends : EndsOrMemory (unknown_line name) 15 status printed printed'

-- The image of the volume of this name was to be made. At `Ok` it is whole and recovers to zeros, and
-- of each other image a crash may leave only what it might have left before, whatever the answer.
pub record IsNamed {D : Type 0} (tells : Bool) (state : D → State) (name : List ℕ) (config : Config)
    (old new : BayState) (status : ℕ) (printed printed' : Option (List ℕ)) : Type 0 where
  pub id : ℕ
  pub named : number_named (names_of config.volumes.items) name ≡ Some id
  pub conf : VolumeConf
  pub conf_is : slice_get config.volumes.items id ≡ Some conf
  pub result : Result (Unit {0}) MissingFault
  pub left_ : IsTrue tells → IsTold (LeavesMissing config id conf result) old.told new.told
  pub refused : IfErr result (RefusesMissing tells state config id old new)
  pub ends : EndsOrMemory (answer_text config id name result) (answer_status result) status printed
      printed'

-- a run of `format NAME`, by the configuration that was read (none: it wasn't had), the bytes of its
-- source and their count of faults, the bay, the status, and what the sink took
abbrev pub RunsMissing : {D : Type 0} → (tells : Bool) → (D → State) → (name : List ℕ)
    → (read : Option Config) → (left : Option (List ℕ)) → (faults faults' : ℕ)
    → (old new : BayState) → (status : ℕ) → (printed printed' : Option (List ℕ)) → Type 0
RunsMissing tells state name (Some config) left faults faults' old new status printed printed' =
    IsUnknown name config old new status printed printed'
    ⊎ IsNamed tells state name config old new status printed printed'
RunsMissing tells state name None left faults faults' old new status printed printed' =
    IsNotBegun left faults faults' old new status printed printed'
