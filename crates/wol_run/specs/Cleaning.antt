-- What cleaning the volumes of the configuration prints and leaves, and its exit status.
use Rattle.std.specs.Prelude.{ℕ, Bool, List, Option, None, Some}
use Rattle.wol_disk.specs.Disk.{State}
use Rattle.wol_bay.specs.Bay.{BayState}
use Rattle.wol_config.specs.declared.config.Config.{Config}
use Rattle.volume_images.specs.Left.{IsTold}
use Rattle.rack.specs.Opens.{KeepsOthers}
use Rattle.replay.specs.NotOpened.{LeavesViews}
use Rattle.cleaning.specs.Runs.{CleansBay}
use Rattle.wol_run.specs.Formatting.{IsNotBegun}
use Rattle.wol_run.specs.Replaying.{IsRunOver}

-- the volumes of the configuration were to be cleaned
pub record IsCleaning {D : Type 0} (tells : Bool) (state : D → State) (config : Config)
    (old new : BayState) (sink sink' status : ℕ) (printed printed' : Option (List ℕ)) :
    Type 0 where
  pub over : IsRunOver config sink' status printed'
  -- each image that is left recovers to what an image at entry did, no label or view was changed,
  -- and sound images stay sound
  pub leaves : LeavesViews tells state config old new
  -- images of names that aren't configured are as they were
  pub others : IsTold (KeepsOthers config) old.told new.told
  pub cleans : CleansBay tells state config old new sink over.sink_then printed over.printed_then
      over.result

-- a run of `clean`, by the configuration that was read (none: it wasn't had), the bytes of its
-- source and their count of faults, the bay, the sink's count of faults, the status, and what the
-- sink took
abbrev pub RunsCleaning : {D : Type 0} → (tells : Bool) → (D → State) → (read : Option Config)
    → (left : Option (List ℕ)) → (faults faults' : ℕ) → (old new : BayState)
    → (sink sink' status : ℕ) → (printed printed' : Option (List ℕ)) → Type 0
RunsCleaning tells state (Some config) left faults faults' old new sink sink' status printed
    printed' =
    IsCleaning tells state config old new sink sink' status printed printed'
RunsCleaning tells state None left faults faults' old new sink sink' status printed printed' =
    IsNotBegun left faults faults' old new status printed printed'
