-- What looking at the volumes of the configuration prints, and its exit status.
use Rattle.std.specs.Prelude.{◌≡◌, ℕ, ◌⊎◌, Bool, List, ◌++◌, length, Option, None, Some, IsTrue}
use Rattle.wol_disk.specs.Disk.{State}
use Rattle.wol_bay.specs.Bay.{BayState}
use Rattle.wol_config.specs.declared.config.Config.{Config}
use Rattle.report.specs.Troubles.{trouble_status}
use Rattle.report.specs.declared.trouble.Trouble.{Trouble}
use Rattle.inspection.specs.Lines.{Telling, first_trouble, text_of}
use Rattle.inspection.specs.Runs.{Looked}
use Rattle.inspection.specs.declared.asked.Asked.{Asked}
use Rattle.volume_images.specs.Left.{IsTold}
use Rattle.rack.specs.Opens.{KeepsAllSound}
use Rattle.wol_run.specs.Formatting.{IsUntouched}
use Rattle.wol_run.specs.Statuses.{no_memory_text}
use Rattle.wol_run.specs.Tops.{EndsWith}

-- the status of the first volume that isn't in order
abbrev pub status_of_first : Option Trouble → ℕ
status_of_first None = 0
status_of_first (Some trouble) = trouble_status trouble

-- this was told of some first volumes, and sound images stay sound
pub record HasLooked {D : Type 0} (tells : Bool) (state : D → State) (asked : Asked)
    (config : Config) (old new : BayState) : Type 0 where
  pub told : List Telling
  pub are : Looked tells state config asked old new told
  pub sound : IsTrue tells → IsTold (KeepsAllSound config) old.told new.told

-- Status 0, 4, 5, 6 or 12: the text is the lines of all volumes.
pub record IsLook {D : Type 0} (tells : Bool) (state : D → State) (asked : Asked) (config : Config)
    (old new : BayState) (text : List ℕ) (status : ℕ) : Type 0 where
  pub looked : HasLooked tells state asked config old new
  pub all : length looked.told ≡ length config.volumes.items
  pub lines_ : text ≡ text_of looked.told
  pub done : status ≡ status_of_first (first_trouble looked.told)

-- Status 9: behind the lines of some first volumes there was no memory.
pub record IsCutLook {D : Type 0} (tells : Bool) (state : D → State) (asked : Asked)
    (config : Config) (old new : BayState) (text : List ℕ) (status : ℕ) : Type 0 where
  pub looked : HasLooked tells state asked config old new
  pub lines_ : text ≡ text_of looked.told ++ no_memory_text
  pub memory : status ≡ 9

-- what a look comes to, by the configuration that was read; none: it wasn't had
abbrev pub LooksFor : {D : Type 0} → (tells : Bool) → (D → State) → Asked → (read : Option Config)
    → (left : Option (List ℕ)) → (faults faults' : ℕ) → (old new : BayState) → (text : List ℕ)
    → (status : ℕ) → Type 0
LooksFor tells state asked (Some config) left faults faults' old new text status =
    IsLook tells state asked config old new text status
    ⊎ IsCutLook tells state asked config old new text status
LooksFor tells state asked None left faults faults' old new text status =
    IsUntouched left faults faults' old new text status

-- a run of `check` or `dump`: one of these texts was printed whole, or a front of it to a sink that
-- failed
pub record RunsLook {D : Type 0} (tells : Bool) (state : D → State) (asked : Asked)
    (read : Option Config) (left : Option (List ℕ)) (faults faults' : ℕ) (bay bay' : BayState)
    (status : ℕ) (printed new : Option (List ℕ)) : Type 0 where
  pub text : List ℕ
  pub wanted : ℕ
  pub allowed : LooksFor tells state asked read left faults faults' bay bay' text wanted
  pub ends : EndsWith text wanted status printed new
