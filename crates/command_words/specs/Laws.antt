-- The laws of words: those of the documented table are commands, and words ask for one command at
-- most.
use Rattle.std.specs.Prelude.{◌≡◌, List, codes}
use Rattle.clap.specs.Words.{Text}
use Rattle.solo.specs.Volume.{target_of}
use Rattle.solo.specs.declared.volume.Volume.{Volume}
use Rattle.wol_model.specs.Trace.{Target}
use Rattle.command_words.specs.Commands.{IsCommand}
use Rattle.command_words.specs.Table.{IsAlone, IsGen, IsOfName, IsOfNames, IsReplay, IsServe, IsSoak, IsSolo, IsWhatIf, Named}
use Rattle.command_words.specs.declared.command.Command.{Command}
use Rattle.command_words.specs.declared.command.Command.TheVariants.{Solo, Format, FormatMissing, Replay, Check, Dump, Gen, Soak, WhatIf, ViewAdd, ViewRemove, Clean, Nbd, Serve}
use Rattle.command_words.specs.declared.command.MissingName.{MissingName}
use Rattle.command_words.specs.declared.command.Patience.{Patience}
use Rattle.command_words.specs.declared.command.ServedName.{ServedName}
use Rattle.command_words.specs.declared.command.ViewNames.{ViewNames}
use Rattle.command_words.specs.Values.{missing_by, named_by, served_by}

-- the words are spelled as the table has it for the command, wherever the names in it lie in memory
abbrev pub Spells : List Text → Command → Type 0
Spells words (Solo volume) = IsSolo words (target_of volume)
Spells words Format = IsAlone (codes "format") words
Spells words (FormatMissing missing) = IsOfName (codes "format") words (missing_by missing)
Spells words (Replay options) = IsReplay words options
Spells words Check = IsAlone (codes "check") words
Spells words Dump = IsAlone (codes "dump") words
Spells words (Gen asked) = IsGen words asked
Spells words (Soak asked options) = IsSoak words asked options
Spells words (WhatIf options) = IsWhatIf words options
Spells words (ViewAdd names) = IsOfNames (codes "view-add") words (named_by names)
Spells words (ViewRemove names) = IsOfNames (codes "view-remove") words (named_by names)
Spells words Clean = IsAlone (codes "clean") words
Spells words (Nbd served) = IsOfName (codes "nbd") words (served_by served)
Spells words (Serve served patience) = IsServe words (served_by served) patience

-- each spelling of the table asks for its command
abbrev pub SpelledIsCommand : Type 0
SpelledIsCommand =
    (words : List Text) (command : Command) → Spells words command → IsCommand words command

-- for each volume, each two names and each name there is a value that has them, so that each spelling
-- of the table has its command
pub record EachIsNamed : Type 0 where
  pub volume : (target : Target) → (volume : Volume) × (target_of volume ≡ target)
  pub names : (named : Named) → (names : ViewNames) × (named_by names ≡ named)
  pub served : (name : Text) → (served : ServedName) × (served_by served ≡ name)
  pub missing : (name : Text) → (missing : MissingName) × (missing_by missing ≡ name)

-- two commands are one, wherever the names in them lie in memory
pub data AreSame : Command → Command → Type 0 where
  same : {c : Command} → AreSame c c
  solo : {v w : Volume} → target_of v ≡ target_of w → AreSame (Solo v) (Solo w)
  view_add : {v w : ViewNames} → named_by v ≡ named_by w → AreSame (ViewAdd v) (ViewAdd w)
  view_remove : {v w : ViewNames} → named_by v ≡ named_by w → AreSame (ViewRemove v) (ViewRemove w)
  format_missing : {v w : MissingName} → missing_by v ≡ missing_by w
      → AreSame (FormatMissing v) (FormatMissing w)
  nbd : {v w : ServedName} → served_by v ≡ served_by w → AreSame (Nbd v) (Nbd w)
  serve : {v w : ServedName} {p : Patience} → served_by v ≡ served_by w
      → AreSame (Serve v p) (Serve w p)

-- words ask for no two commands
abbrev pub CommandsAreOne : Type 0
CommandsAreOne =
    (words : List Text) (c d : Command) → IsCommand words c → IsCommand words d → AreSame c d
