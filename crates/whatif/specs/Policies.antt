-- The policies: which volumes log for which, and the machine of each.
use Rattle.std.specs.Prelude.{◌≡◌, ◌<◌, ◌≤◌, ℕ, Bool, true, false, not, ◌==◌, ◌&&◌, List, [], map, length, Option, None, Some, slice_get}
use Rattle.std.specs.List.{AllByRecursion, range_with_len, filter}
use Rattle.std.specs.Option.{option_map_or}
use Rattle.std.specs.Str.{bytes_eq}
use Rattle.wol_config.specs.declared.config.Config.{Config}
use Rattle.wol_config.specs.declared.config.VolumeConf.{VolumeConf}
use Rattle.whatif.specs.declared.policy.Policy.{Policy}
use Rattle.whatif.specs.declared.policy.Policy.TheVariants.{Always, SpinDown, Host, All, Views}
use Rattle.whatif.specs.declared.policy.Compared.{Compared}
use Rattle.whatif.specs.Machine.{Reach, Setting, Asked, Machine, first_machine, after_windows, all_wakes, all_sleeps, all_units}
use Rattle.whatif.specs.Waits.{Waited, waits_in}

-- volumes of one host
abbrev pub share_host : Option VolumeConf → Option VolumeConf → Bool
share_host (Some v) (Some w) = bytes_eq v.host w.host
share_host (Some v) None = false
share_host None w = false

-- by its policy a volume is logged for by none, by the others of its host, or by all others; or by
-- those that its view names, which stands below
abbrev pub allows : Policy → List VolumeConf → (volume logger : ℕ) → Bool
allows Always vs volume logger = false
allows SpinDown vs volume logger = false
allows Host vs volume logger = share_host (slice_get vs volume) (slice_get vs logger)
allows All vs volume logger = true
allows Views vs volume logger = false

-- .. in the configuration's order
abbrev pub others_of : Policy → List VolumeConf → (volume : ℕ) → List ℕ
others_of p vs volume =
    filter (λ w. not (volume == w) && allows p vs volume w) (range_with_len 0 (length vs))

abbrev pub view_at : List VolumeConf → (volume : ℕ) → List ℕ
view_at vs volume = option_map_or (λ (v : VolumeConf). v.view) (slice_get vs volume) []

-- its loggers, in the order in which they are asked
abbrev pub loggers_of : Policy → List VolumeConf → (volume : ℕ) → List ℕ
loggers_of Views vs volume = view_at vs volume
loggers_of p vs volume = others_of p vs volume

-- each view names volumes of the configuration, and not too many
abbrev pub HaveViews : List VolumeConf → Type 0
HaveViews vs = (k : ℕ) (v : VolumeConf) → slice_get vs k ≡ Some v
    → AllByRecursion (λ w. w < length vs) v.view × (length v.view ≤ 64)

abbrev pub reach_of : Policy → List VolumeConf → (volume : ℕ) → Reach
reach_of p vs volume = record { own = volume; loggers = loggers_of p vs volume }

-- disks go down by each policy but the first
abbrev pub goes_down : Policy → Bool
goes_down Always = false
goes_down SpinDown = true
goes_down Host = true
goes_down All = true
goes_down Views = true

abbrev pub setting_of : Policy → Config → Setting
setting_of p c = record {
  timeout = c.timeout;
  whole = c.segment_blocks;
  sleeps = goes_down p;
  reaches = map (reach_of p c.volumes.items) (range_with_len 0 (length c.volumes.items));
}

-- the machine of a policy after these windows; the account begins at `from`
unfoldable pub machine_after : Policy → Config → (from : ℕ) → List Asked → Machine
machine_after p c from ws = after_windows (setting_of p c) ws (first_machine (setting_of p c) from)

-- what its requests waited
unfoldable pub waits_by : Policy → Config → (from : ℕ) → List Asked → List Waited
waits_by p c from ws =
    waits_in (setting_of p c) c.wake ws (first_machine (setting_of p c) from)

-- what its disks used when the account ends at `to`
abbrev pub compared : Policy → Config → (from : ℕ) → List Asked → (to : ℕ) → Compared
compared p c from ws to = let ss = (machine_after p c from ws).spindles in
    record { wakes = all_wakes ss; sleeps = all_sleeps ss; units = all_units c.powers ss to }
