-- The one command that words ask for.
use Rattle.std.proofs.Common.{◌≡◌, false, subst, ◌≤◌, ◌^◌, arith, ℕ, List}
use Rattle.solo.specs.Volume.{IsVolume, target_of}
use Rattle.solo.specs.declared.volume.Volume.{Volume}
use Rattle.command_words.specs.Commands.{IsCommand}
use Rattle.command_words.specs.declared.command.Command.{Command}
use Rattle.command_words.specs.declared.command.Command.TheVariants.{Solo, Format, FormatMissing, Replay, Check, Dump, Gen, Soak, WhatIf, ViewAdd, ViewRemove, Clean, Nbd, Serve}
use Rattle.command_words.specs.declared.command.Generated.{Generated}
use Rattle.command_words.specs.declared.command.MissingName.{MissingName}
use Rattle.command_words.specs.declared.command.Options.{Options}
use Rattle.command_words.specs.declared.command.Patience.{Patience}
use Rattle.command_words.specs.declared.command.WhatIfOptions.{WhatIfOptions}
use Rattle.command_words.specs.declared.command.ServedName.{ServedName}
use Rattle.command_words.specs.declared.command.ViewNames.{ViewNames}
use Rattle.command_words.specs.Values.{missing_by, named_by, served_by}
use Rattle.wol_run.specs.Commands.{IsCount, IsInRange, IsTimeout, runs_trace}
use Rattle.command_words.specs.Laws.{AreSame}
use Rattle.command_words.specs.Laws as law
use Rattle.command_words.proofs.Unique.{commands_are_one}

-- what holds of a command holds of one that names the same volumes
pub record IsAlike (P : Command → Type 0) : Type 0 where
  pub solo : (own other : Volume) → target_of own ≡ target_of other → P (Solo own) → P (Solo other)
  pub add : (own other : ViewNames) → named_by own ≡ named_by other → P (ViewAdd own) → P (ViewAdd other)
  pub remove : (own other : ViewNames) → named_by own ≡ named_by other → P (ViewRemove own) → P (ViewRemove other)
  pub missing : (own other : MissingName) → missing_by own ≡ missing_by other → P (FormatMissing own) → P (FormatMissing other)
  pub nbd : (own other : ServedName) → served_by own ≡ served_by other → P (Nbd own) → P (Nbd other)
  pub serve : (own other : ServedName) (patience : Patience) → served_by own ≡ served_by other → P (Serve own patience) → P (Serve other patience)

-- what holds of the command that was read holds of each that the words ask for
module _ (P : Command → Type 0) (alike : IsAlike P) where
  of_same : (read asked : Command) → AreSame read asked → P read → P asked
  of_same read asked law.same p = p
  of_same read asked (law.solo alike_) p = alike.solo _ _ alike_ p
  of_same read asked (law.view_add alike_) p = alike.add _ _ alike_ p
  of_same read asked (law.view_remove alike_) p = alike.remove _ _ alike_ p
  of_same read asked (law.format_missing alike_) p = alike.missing _ _ alike_ p
  of_same read asked (law.nbd alike_) p = alike.nbd _ _ alike_ p
  of_same read asked (law.serve alike_) p = alike.serve _ _ _ alike_ p

  pub of_asked : (words : List (List ℕ)) (read asked : Command) → IsCommand words read → IsCommand words asked → P read → P asked
  of_asked words read asked is so p = of_same read asked (commands_are_one words read asked is so) p

-- a command uses what one uses that names the same volumes
pub uses_alike : IsAlike (λ c. runs_trace c ≡ false)
uses_alike = record { solo = λ own other same no. no; add = λ own other same no. no; remove = λ own other same no. no; missing = λ own other same no. no; nbd = λ own other same no. no; serve = λ own other patience same no. no }

-- ---- Numbers in range

pub in_range : (words : List (List ℕ)) (command : Command) → IsCommand words command → IsInRange command
in_range words (Solo volume) is = record { some = is.asks.values.some; small = is.asks.values.most }
in_range words Format is = tt
in_range words (FormatMissing missing) is = tt
in_range words (Replay options) is = (is.asks.values.workers.some, is.asks.values.workers.most)
in_range words Check is = tt
in_range words Dump is = tt
in_range words (Gen asked) is = omega (arith, is.asks.values.most)
in_range words (Soak asked options) is = (omega (arith, is.asks.values.0.most), (is.asks.values.1.workers.some, is.asks.values.1.workers.most))
in_range words (WhatIf options) is = is.asks.values.timeout.range
in_range words (ViewAdd names) is = tt
in_range words (ViewRemove names) is = tt
in_range words Clean is = tt
in_range words (Nbd name) is = tt
in_range words (Serve name patience) is = tt

pub range_of_solo : (command : Command) (volume : Volume) → command ≡ Solo volume → IsInRange command → IsVolume (target_of volume)
range_of_solo command volume is h = subst IsInRange is h

pub range_of_gen : (command : Command) (asked : Generated) → command ≡ Gen asked → IsInRange command → asked.lines ≤ 2 ^ 31
range_of_gen command asked is h = subst IsInRange is h

pub range_of_what_if : (command : Command) (options : WhatIfOptions) → command ≡ WhatIf options → IsInRange command → IsTimeout options.timeout_ms
range_of_what_if command options is h = subst IsInRange is h

pub range_of_replay : (command : Command) (options : Options) → command ≡ Replay options → IsInRange command → IsCount options.workers
range_of_replay command options is h = subst IsInRange is h

pub range_of_soak : (command : Command) (asked : Generated) (options : Options) → command ≡ Soak asked options → IsInRange command → (asked.lines ≤ 2 ^ 31) × IsCount options.workers
range_of_soak command asked options is h = subst IsInRange is h
