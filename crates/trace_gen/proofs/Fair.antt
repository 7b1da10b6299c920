-- The volumes of a valid configuration as a trace may name them.
use Rattle.std.proofs.Common.{◌≡◌, ℕ, ◌%◌, ◌^◌, ◌<◌, ◌≤◌, [], length, get_or, arith}
use Rattle.std.proofs.lemmas.List.{get_or-map, length-map}
use Rattle.wol_model.specs.Trace.{Target}
use Rattle.wol_config.specs.declared.config.Config.{Config}
use Rattle.wol_config.specs.declared.config.VolumeConf.{VolumeConf}
use Rattle.wol_config.specs.Configs.{IsHost, IsValid}
use Rattle.trace_gen.specs.Generated.{chosen, target_of, targets_of}

pub record IsFair (t : Target) : Type 0 where
  pub host : IsHost t.host
  pub disk : t.disk < 2 ^ 32
  pub some : 1 ≤ t.home
  pub small : t.home ≤ 2 ^ 32

-- a volume for places that have none
abbrev pub no_volume : VolumeConf
no_volume = record { name = []; host = []; disk = 0; home = 1; segments = 0; view = [] }

-- a word chooses one of them
pub in_range : (config : Config) (word : ℕ) → IsValid config → word % length (targets_of config) < length config.volumes.items
in_range config word valid = rw (length-map config.volumes.items target_of) (let h = valid.count.0 in omega arith)

-- the volume at a place
pub target_at : (config : Config) (i : ℕ) (d : Target) → i < length config.volumes.items → get_or (targets_of config) i d ≡ target_of (get_or config.volumes.items i no_volume)
target_at config i d h = get_or-map target_of config.volumes.items i no_volume d h

pub chosen_fair : (config : Config) (word : ℕ) → IsValid config → IsFair (chosen (targets_of config) word)
chosen_fair config word valid =
    let i = word % length (targets_of config) in
    let h = in_range config word valid in
    let v = valid.volumes i no_volume h in
    rw (target_at config i _ h) (record { host = v.host; disk = v.disk; some = v.home.0; small = v.home.1 })
