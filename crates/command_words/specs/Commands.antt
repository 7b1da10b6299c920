-- The command that words ask for: `clap` takes the words, and what it finds are the values of a
-- command.
use Rattle.std.specs.Prelude.{◌≡◌, ⊤, List, [], Some, codes}
use Rattle.clap.specs.Words.{Row, Text, fault_of, subcommand_of}
use Rattle.solo.specs.Volume.{target_of}
use Rattle.command_words.specs.Application.{the_app}
use Rattle.command_words.specs.Values.{HasNames, HasOptions, HasServed, HasTrace, HasVolume, HasWait, HasWhatIf, NoServed, missing_by, named_by, served_by}
use Rattle.command_words.specs.declared.command.Command.{Command}
use Rattle.command_words.specs.declared.command.Command.TheVariants.{Solo, Format, FormatMissing, Replay, Check, Dump, Gen, Soak, WhatIf, ViewAdd, ViewRemove, Clean, Nbd, Serve}

-- the name of a command
abbrev pub name_of : Command → Text
name_of (Solo volume) = codes "solo"
name_of Format = codes "format"
name_of (FormatMissing missing) = codes "format"
name_of (Replay options) = codes "replay"
name_of Check = codes "check"
name_of Dump = codes "dump"
name_of (Gen asked) = codes "gen"
name_of (Soak asked options) = codes "soak"
name_of (WhatIf options) = codes "whatif"
name_of (ViewAdd names) = codes "view-add"
name_of (ViewRemove names) = codes "view-remove"
name_of Clean = codes "clean"
name_of (Nbd name) = codes "nbd"
name_of (Serve name patience) = codes "serve"

-- the values are those of the command
abbrev pub HasValues : List Row → Command → Type 0
HasValues rows (Solo volume) = HasVolume rows (target_of volume)
HasValues rows Format = NoServed rows
HasValues rows (FormatMissing missing) = HasServed rows (missing_by missing)
HasValues rows (Replay options) = HasOptions rows options
HasValues rows Check = ⊤
HasValues rows Dump = ⊤
HasValues rows (Gen asked) = HasTrace rows asked
HasValues rows (Soak asked options) = HasTrace rows asked × HasOptions rows options
HasValues rows (WhatIf options) = HasWhatIf rows options
HasValues rows (ViewAdd names) = HasNames rows (named_by names)
HasValues rows (ViewRemove names) = HasNames rows (named_by names)
HasValues rows Clean = ⊤
HasValues rows (Nbd name) = HasServed rows (served_by name)
HasValues rows (Serve name patience) =
    HasServed rows (served_by name) × HasWait rows patience.seconds

-- the subcommand of this name with these values is the command
pub record Asks (name : Text) (rows : List Row) (command : Command) : Type 0 where
  pub named : name ≡ name_of command
  pub values : HasValues rows command

-- it is none
abbrev pub AsksNothing : Text → List Row → Type 0
AsksNothing name rows = (command : Command) → ¬ Asks name rows command

-- the words ask for the command: `clap` has no fault to find in them, and makes this subcommand of
-- them
pub record IsCommand (words : List Text) (command : Command) : Type 0 where
  pub taken : fault_of the_app words ≡ []
  pub name : Text
  pub rows : List Row
  pub met : subcommand_of the_app words ≡ Some (name, rows)
  pub asks : Asks name rows command

-- the words ask for no command
abbrev pub NoCommand : List Text → Type 0
NoCommand words = (command : Command) → ¬ IsCommand words command
