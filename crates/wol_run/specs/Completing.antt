-- What a run needs to come to its end, where no count rises and there is memory.
use Rattle.std.specs.Prelude.{◌≡◌, ℕ, ◌≤◌, ◌^◌, ◌+◌, Bool, List, [], length, map, Option, Some, IsTrue}
use Rattle.std.specs.List.{range_with_len}
use Rattle.wol_disk.specs.Disk.{Rose}
use Rattle.wol_bay.specs.Bay.{BayState, Told}
use Rattle.wol_model.specs.Images.{AreSound}
use Rattle.wol_model.specs.Trace.{TraceLine, requests}
use Rattle.wol_promise.specs.Manager.{Base}
use Rattle.wol_config.specs.declared.config.Config.{Config}
use Rattle.volume_images.specs.Volumes.{images_read, shapes_of}
use Rattle.rack.specs.Owners.{IsBegun}
use Rattle.solo.specs.Requests.{HasLines}
use Rattle.trace_gen.specs.Generated.{line, targets_of}
use Rattle.replay.specs.Completes.{writes_to}
use Rattle.cleaning.specs.Runs.{LacksVersions}
use Rattle.command_words.specs.declared.command.Generated.{Generated}
use Rattle.wol_run.specs.Settings.{HasConfig, IsConfigured}
use Rattle.wol_config.specs.Configs.{most_of}

-- the bay tells its images, and as they read they are sound for the configuration, with all volumes
-- there
pub record HasSoundImages (tells : Bool) (left : Option (List ℕ)) (bay : BayState) : Type 0 where
  pub telling : IsTrue tells
  pub entry : Told
  pub entry_is : bay.told ≡ Some entry
  pub sound : (config : Config) → HasConfig left config
      → AreSound (shapes_of config) (images_read config entry)

-- Nothing stands in the way of a command on the volumes: the images are sound for the
-- configuration, which is one, and no call of its source, of the bay or of the sink failed.
pub record IsUnhindered (tells : Bool) (left : Option (List ℕ)) (faults faults' : ℕ)
    (old new : BayState) (out out' : ℕ) : Type 0 where
  pub images : HasSoundImages tells left old
  pub configured : IsConfigured left
  pub source : ¬ Rose faults faults'
  pub bay : ¬ Rose old.faults new.faults
  pub sink : ¬ Rose out out'

-- the versions that a volume began with suffice for its writes in these lines
abbrev pub HasVersions : Config → Base → List (Option TraceLine) → Type 0
HasVersions config b lines =
    b.next + writes_to b.owner (requests (most_of config) (targets_of config) lines) ≤ 2 ^ 63

-- those of each volume do
abbrev pub HaveVersions : (left : Option (List ℕ)) → (entry : Told)
    → (lines : Config → List (Option TraceLine)) → Type 0
HaveVersions left entry lines =
    (config : Config) → HasConfig left config → (b : Base)
    → IsBegun config (images_read config entry) b → HasVersions config b (lines config)

-- those of each volume suffice for a copy of each chunk of what lies in its logs
abbrev pub HaveVersionsToClean : (left : Option (List ℕ)) → (entry : Told) → Type 0
HaveVersionsToClean left entry =
    (config : Config) → HasConfig left config → (b : Base)
    → IsBegun config (images_read config entry) b → ¬ LacksVersions (most_of config) b

-- a trace that tells, and has these lines alone, none of which is bad
pub record IsGoodTrace (trace : Option (List ℕ)) (lines : List (Option TraceLine)) : Type 0 where
  pub bytes : List ℕ
  pub told : trace ≡ Some bytes
  pub all : HasLines trace lines []
  pub few : length lines ≤ 2 ^ 32

-- the lines of a seed that are asked for
abbrev pub seed_lines : Generated → Config → List (Option TraceLine)
seed_lines asked config =
    map (λ k. Some (line (targets_of config) asked.seed k)) (range_with_len 0 asked.lines)
