-- The words of the table are commands.
use Rattle.std.proofs.Common.{refl}
use Rattle.solo.specs.declared.volume.Volume.{Volume}
use Rattle.command_words.specs.Laws.{EachIsNamed, SpelledIsCommand}
use Rattle.command_words.specs.Values.{missing_by, named_by, served_by}
use Rattle.command_words.specs.declared.command.Command.TheVariants.{Solo, Format, FormatMissing, Replay, Check, Dump, Gen, Soak, WhatIf, ViewAdd, ViewRemove, Clean, Nbd, Serve}
use Rattle.command_words.specs.declared.command.MissingName.{MissingName}
use Rattle.command_words.specs.declared.command.ServedName.{ServedName}
use Rattle.command_words.specs.declared.command.ViewNames.{ViewNames}
use Rattle.command_words.proofs.Taken.{alone, enters, format_is_command, gen_is_command, solo_is_command}
use Rattle.command_words.proofs.TakenNames.{missing_is_command, name_is_command, names_are_command}
use Rattle.command_words.proofs.TakenOptions.{replay_is_command, soak_is_command}
use Rattle.command_words.proofs.TakenServe.{serve_is_command}
use Rattle.command_words.proofs.TakenWhatIf.{what_if_is_command}

pub spelled_is_command : SpelledIsCommand
spelled_is_command words (Solo volume) is = solo_is_command words volume is
spelled_is_command words Format is = format_is_command words is
spelled_is_command words (FormatMissing missing) is = missing_is_command words missing is
spelled_is_command words (Replay options) is = replay_is_command words options is
spelled_is_command words Check is = alone words Check (enters Check) is tt
spelled_is_command words Dump is = alone words Dump (enters Dump) is tt
spelled_is_command words (Gen asked) is = gen_is_command words asked is
spelled_is_command words (Soak asked options) is = soak_is_command words asked options is
spelled_is_command words (WhatIf options) is = what_if_is_command words options is
spelled_is_command words (ViewAdd names) is = names_are_command words (ViewAdd names) (named_by names) (enters (ViewAdd names)) is (λ has. has)
spelled_is_command words (ViewRemove names) is = names_are_command words (ViewRemove names) (named_by names) (enters (ViewRemove names)) is (λ has. has)
spelled_is_command words Clean is = alone words Clean (enters Clean) is tt
spelled_is_command words (Nbd served) is = name_is_command words (Nbd served) (served_by served) (enters (Nbd served)) is (λ has. has)
spelled_is_command words (Serve served patience) is = serve_is_command words served patience is

pub each_is_named : EachIsNamed
each_is_named = record {
  volume = λ target. let volume : Volume = record { host = record { ref_ptr = (0, 0); now = target.host }; disk = target.disk; blocks = target.home } in (volume, refl);
  names = λ named. let names : ViewNames = record { volume = record { ref_ptr = (0, 0); now = named.volume }; logger = record { ref_ptr = (0, 0); now = named.logger } } in (names, refl);
  served = λ name. let served : ServedName = record { volume = record { ref_ptr = (0, 0); now = name } } in (served, refl);
  missing = λ name. let missing : MissingName = record { volume = record { ref_ptr = (0, 0); now = name } } in (missing, refl);
}
