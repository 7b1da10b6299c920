-- What the values of a command's arguments say, by what `clap` found.
use Rattle.std.specs.Prelude.{◌≡◌, ◌↔◌, ◌^◌, ◌<◌, ◌≤◌, ℕ, List, Option, Some, IfSome, IsTrue, codes, decimal, option_map, unwrap_or}
use Rattle.clap.specs.Words.{Row, Text, first_of}
use Rattle.wol_model.specs.Trace.{Target}
use Rattle.command_words.specs.Table.{IsHost, Named, mode_text}
use Rattle.command_words.specs.declared.command.Generated.{Generated}
use Rattle.command_words.specs.declared.command.MissingName.{MissingName}
use Rattle.command_words.specs.declared.command.Mode.{Mode}
use Rattle.command_words.specs.declared.command.Options.{Options}
use Rattle.command_words.specs.declared.command.Patience.{Patience}
use Rattle.command_words.specs.declared.command.ServedName.{ServedName}
use Rattle.command_words.specs.declared.command.ViewNames.{ViewNames}
use Rattle.command_words.specs.declared.command.WhatIfOptions.{WhatIfOptions}

-- the argument of this name was given with this text
abbrev pub HasText : List Row → Text → Text → Type 0
HasText rows name text = first_of name rows ≡ Some text

-- the values of `solo` are this volume
pub record HasVolume (rows : List Row) (target : Target) : Type 0 where
  pub host : HasText rows (codes "HOST") target.host
  pub name : IsHost target.host
  pub disk : HasText rows (codes "DISK") (decimal target.disk)
  pub small : target.disk < 2 ^ 32
  pub blocks : HasText rows (codes "BLOCKS") (decimal target.home)
  pub some : 1 ≤ target.home
  pub most : target.home ≤ 2 ^ 32

-- they are none
abbrev pub NoVolume : List Row → Type 0
NoVolume rows = (target : Target) → ¬ HasVolume rows target

-- the values SEED and LINES are the first so many lines of this seed
pub record HasTrace (rows : List Row) (asked : Generated) : Type 0 where
  pub seed : HasText rows (codes "SEED") (decimal asked.seed)
  pub seeds : asked.seed < 2 ^ 63
  pub lines : HasText rows (codes "LINES") (decimal asked.lines)
  pub most : asked.lines < 2 ^ 31

-- they are none
abbrev pub NoTrace : List Row → Type 0
NoTrace rows = (asked : Generated) → ¬ HasTrace rows asked

-- the names, without where they lie in memory
abbrev pub named_by : ViewNames → Named
named_by names = record { volume = names.volume.now; logger = names.logger.now }

-- the values NAME and LOGGER are these names
pub record HasNames (rows : List Row) (named : Named) : Type 0 where
  pub volume : HasText rows (codes "NAME") named.volume
  pub logger : HasText rows (codes "LOGGER") named.logger

-- they are none
abbrev pub NoNames : List Row → Type 0
NoNames rows = (named : Named) → ¬ HasNames rows named

-- the name, without where it lies in memory
abbrev pub served_by : ServedName → Text
served_by served = served.volume.now

-- .. also of a volume whose image is to be made
abbrev pub missing_by : MissingName → Text
missing_by missing = missing.volume.now

-- the value NAME is this name
abbrev pub HasServed : List Row → Text → Type 0
HasServed rows name = HasText rows (codes "NAME") name

-- it is none
abbrev pub NoServed : List Row → Type 0
NoServed rows = (name : Text) → ¬ HasServed rows name

-- so many seconds are to be waited: ten, where the option isn't given
pub record HasWait (rows : List Row) (seconds : ℕ) : Type 0 where
  pub given : unwrap_or (first_of (codes "wait") rows) (codes "10") ≡ decimal seconds
  pub most : seconds ≤ 3600

-- they are none
abbrev pub NoWait : List Row → Type 0
NoWait rows = (patience : Patience) → ¬ HasWait rows patience.seconds

-- this timeout is given, in milliseconds, or none is
pub record HasTimeout (rows : List Row) (timeout : Option ℕ) : Type 0 where
  pub given : first_of (codes "timeout") rows ≡ option_map decimal timeout
  pub range : IfSome timeout (λ ms. (1 ≤ ms) × (ms ≤ 86400000))

-- what is given is none
abbrev pub NoTimeout : List Row → Type 0
NoTimeout rows = (timeout : Option ℕ) → ¬ HasTimeout rows timeout

-- the values of the options of `whatif` are these
pub record HasWhatIf (rows : List Row) (options : WhatIfOptions) : Type 0 where
  pub long : IsTrue options.long ↔ HasText rows (codes "long") (codes "true")
  pub volumes : IsTrue options.volumes ↔ HasText rows (codes "volumes") (codes "true")
  pub timeout : HasTimeout rows options.timeout_ms

-- they are none
abbrev pub NoWhatIf : List Row → Type 0
NoWhatIf rows = (options : WhatIfOptions) → ¬ HasWhatIf rows options

-- so many workers are asked for: one, where the option isn't given
pub record HasWorkers (rows : List Row) (workers : ℕ) : Type 0 where
  pub given : unwrap_or (first_of (codes "workers") rows) (codes "1") ≡ decimal workers
  pub some : 1 ≤ workers
  pub most : workers ≤ 64

-- this mode is asked for: `between`, where the option isn't given
abbrev pub HasMode : List Row → Mode → Type 0
HasMode rows mode = unwrap_or (first_of (codes "reclaim") rows) (codes "between") ≡ mode_text mode

-- the values of the options are these
pub record HasOptions (rows : List Row) (options : Options) : Type 0 where
  pub workers : HasWorkers rows options.workers
  pub reclaim : HasMode rows options.reclaim
  pub each : IsTrue options.each ↔ HasText rows (codes "each") (codes "true")

-- they are none
abbrev pub NoOptions : List Row → Type 0
NoOptions rows = (options : Options) → ¬ HasOptions rows options
