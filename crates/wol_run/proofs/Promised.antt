-- What a run promises, by what each of its commands gives.
use Rattle.std.proofs.Common.{◌≡◌, ◌⊎◌, inl, inr, ℕ, ◌<◌, Bool, true, List, Option, None, Some, refl, sym, subst, ◌∙◌, true≢false}
use Rattle.std.specs.Prelude.{IfSome, codes}
use Rattle.wol_disk.specs.Disk.{Rose, State}
use Rattle.wol_config.specs.declared.config.Config.{Config}
use Rattle.solo.specs.Volume.{target_of}
use Rattle.solo.specs.declared.volume.Volume.{Volume}
use Rattle.inspection.specs.declared.asked.Asked.{Asked}
use Rattle.inspection.specs.declared.asked.Asked.TheVariants as asked
use Rattle.replay.specs.Account.{KeepsAccount}
use Rattle.replay.specs.Headlined.{KeepsHeadline}
use Rattle.replay.specs.declared.session.Options.{Options as Serving}
use Rattle.command_words.specs.Commands.{IsCommand, NoCommand}
use Rattle.command_words.specs.declared.command.Command.{Command}
use Rattle.command_words.specs.declared.command.Command.TheVariants.{Check, Clean, Dump, Format, FormatMissing, Gen, Nbd, Replay, Serve, Soak, Solo, ViewAdd, ViewRemove, WhatIf}
use Rattle.nbd_serving.specs.declared.serving.Beginning.{Beginning}
use Rattle.nbd_serving.specs.declared.serving.Beginning.TheVariants.{AtOnce, Handshake}
use Rattle.command_words.specs.Values.{served_by}
use Rattle.view_commands.specs.declared.order.Verb.TheVariants.{Add, Remove}
use Rattle.wol_run.specs.Causes.{IsCause, replayed_by}
use Rattle.wol_run.specs.Commands.{uses_config}
use Rattle.wol_run.specs.Causes as row
use Rattle.wol_run.specs.Formatting.{IsNotBegun}
use Rattle.wol_run.specs.Outside.{LeavesUnused, NothingFailed, Outside}
use Rattle.wol_run.specs.Replaying.{GivenLines, lines_of, options_as, trace_of}
use Rattle.wol_run.specs.Run.{ComesToItsEnd, Does, IsAccountOf, IsHeadlineOf, IsLookFor, IsMissingOf, IsReplayOf, IsServingOf, IsUnconfigured, IsViewChangeOf, ReadsInOrder, Run}
use Rattle.wol_run.specs.Settings.{HasConfig, HasNoConfig, IsFaultLine, line_of_fault}
use Rattle.report.specs.Faults.{status_of}
use Rattle.wol_run.specs.Tops.{EndsWith, RunsSolo, TellsNoMemory}
use Rattle.wol_run.proofs.AccountTold.{account_kept}
use Rattle.wol_run.proofs.Asked.{IsAlike, of_asked}
use Rattle.wol_run.proofs.CausesTold.{at_status}
use Rattle.wol_run.proofs.Complete.{no_both}
use Rattle.wol_run.proofs.HeadlineTold.{headline_kept, runs_kept}
use Rattle.wol_run.proofs.Unread.{ends_unread, line_unread, wanted_or_sink}

-- ---- A configuration that is none

-- the status of a command that needs a configuration where there is none
abbrev pub TellsNoConfig : (status : ℕ) → Type 0
TellsNoConfig status = (status ≡ 2) ⊎ (status ≡ 7) ⊎ (status ≡ 8) ⊎ (status ≡ 9)

module _ (left : Option (List ℕ)) (bytes : List ℕ) (told : left ≡ Some bytes) (none : HasNoConfig (Some bytes)) where
  never_had : (config : Config) → HasConfig left config → ⊥
  never_had config has = no_both (Some bytes) (record { bytes = bytes; told = refl; config = config; has = subst (λ (o : Option (List ℕ)). HasConfig o config) told has }) none

  of_unread : (faults faults' : ℕ) (text : List ℕ) (wanted status : ℕ) → IsFaultLine left faults faults' text wanted → status ≡ wanted → TellsNoConfig status
  of_unread faults faults' text wanted status line same = elim (ends_unread left faults faults' text wanted line) [
    | inl (two, had) ↦ inl (same ∙ two)
    | inr (inl (eight, rose)) ↦ inr (inr (inl (same ∙ eight)))
    | inr (inr nine) ↦ inr (inr (inr (same ∙ nine)))
  ]

-- ---- The command that the words ask for

module _ {D : Type 0} (tells : Bool) (state : D → State) (words : List (List ℕ)) (before after : Outside) (status : ℕ) (read : Option Config) (is_read : IfSome read (HasConfig before.config.bytes)) where
  -- what the command does, by its row
  abbrev Did : Command → Type 0
  Did command = Does tells state read before after status command

  solo_alike : (own volume : Volume) → target_of own ≡ target_of volume → Did (Solo own) → Did (Solo volume)
  solo_alike own volume same does = subst (λ t. RunsSolo t before.trace.bytes after.trace.bytes before.bay.told after.bay.told before.bay.faults after.bay.faults before.trace.faults after.trace.faults status before.sink.bytes after.sink.bytes) same does

  does_alike : IsAlike Did
  does_alike = record {
    solo = solo_alike;
    add = λ own other same does. subst (λ n. IsViewChangeOf tells state read before after status (Add, n)) same does;
    remove = λ own other same does. subst (λ n. IsViewChangeOf tells state read before after status (Remove, n)) same does;
    missing = λ own other same does. subst (λ n. IsMissingOf tells state read before after status n) same does;
    nbd = λ own other same does. subst (λ n. IsServingOf tells state read before after status (AtOnce, n)) same does;
    serve = λ own other patience same does. subst (λ n. IsServingOf tells state read before after status (Handshake, n)) same does;
  }

  headline_of : (how : Serving × GivenLines) → IsReplayOf tells state read before after status how → IsHeadlineOf tells state read before after status how
  headline_of (how, start) run = runs_kept tells state how start _ _ _ _ _ _ _ _ _ _ _
      (λ config now. KeepsHeadline tells state (λ bytes. bytes) config how.each start now before.bay after.bay status before.sink.bytes after.sink.bytes)
      (λ config. headline_kept tells state how config start _ _ _ _ _ _ _ _) read run

  account_of : (how : Serving × GivenLines) → IsReplayOf tells state read before after status how → IsAccountOf tells state read before after status how
  account_of (how, start) run = runs_kept tells state how start _ _ _ _ _ _ _ _ _ _ _
      (λ config now. KeepsAccount tells state (λ bytes. bytes) config how.reclaim start now before.bay after.bay status before.sink.bytes after.sink.bytes)
      (λ config. account_kept tells state how config start _ _ _ _ _ _ _ _) read run

  -- what holds of lines that were replayed holds of those of each command that replays
  of_replayed : (P : Serving × GivenLines → Type 0) → ((how : Serving × GivenLines) → IsReplayOf tells state read before after status how → P how)
      → (command : Command) → Did command → IfSome (replayed_by command before.trace.bytes) P
  of_replayed P gives (Solo volume) did = tt
  of_replayed P gives Format did = tt
  of_replayed P gives (FormatMissing missing) did = tt
  of_replayed P gives (Replay options) did = gives _ did
  of_replayed P gives Check did = tt
  of_replayed P gives Dump did = tt
  of_replayed P gives (Gen what) did = tt
  of_replayed P gives (Soak what options) did = gives _ did
  of_replayed P gives (WhatIf options) did = tt
  of_replayed P gives (ViewAdd names) did = tt
  of_replayed P gives (ViewRemove names) did = tt
  of_replayed P gives Clean did = tt
  of_replayed P gives (Nbd name) did = tt
  of_replayed P gives (Serve name patience) did = tt

  -- ---- .. where the configuration is none

  module _ (bytes : List ℕ) (told : before.config.bytes ≡ Some bytes) (none : HasNoConfig (Some bytes)) where
    none_read : (o : Option Config) → IfSome o (HasConfig before.config.bytes) → o ≡ None
    none_read None has = refl
    none_read (Some config) has = absurd (never_had _ bytes told none config has)

    untold : (text : List ℕ) (wanted : ℕ) → IsFaultLine before.config.bytes before.config.faults after.config.faults text wanted → EndsWith text wanted status before.sink.bytes after.sink.bytes → TellsNoConfig status
    untold text wanted line ends = elim (wanted_or_sink text wanted status _ _ ends) [
      | inr seven ↦ inr (inl seven)
      | inl same ↦ of_unread _ bytes told none _ _ text wanted status line same
    ]

    not_begun_unconfigured : IsNotBegun before.config.bytes before.config.faults after.config.faults before.bay after.bay status before.sink.bytes after.sink.bytes → TellsNoConfig status
    not_begun_unconfigured unread = untold unread.text unread.wanted unread.untouched.line_ unread.ends

    replay_unconfigured : (how : Serving × GivenLines) → IsReplayOf tells state None before after status how → TellsNoConfig status
    replay_unconfigured (how, start) unread = untold unread.text unread.wanted unread.untouched.line_ unread.ends

    look_unconfigured : (what : Asked) → IsLookFor tells state None before after status what → TellsNoConfig status
    look_unconfigured what run = untold run.text run.wanted run.allowed.line_ run.ends

    serving_unconfigured : (how : Beginning × List ℕ) → IsServingOf tells state None before after status how → TellsNoConfig status
    serving_unconfigured how (inl unread) = of_unread _ bytes told none _ _ (line_of_fault unread.fault) (status_of unread.fault) status (line_unread unread.fault _ _ _ unread.cause) unread.told
    serving_unconfigured how (inr words_) = elim (wanted_or_sink _ 9 status _ _ words_.ends) [
      | inl nine ↦ inr (inr (inr nine))
      | inr seven ↦ inr (inl seven)
    ]

    unconfigured_none : (command : Command) → uses_config command ≡ true → Does tells state None before after status command → TellsNoConfig status
    unconfigured_none (Solo volume) uses did = absurd (true≢false (sym uses))
    unconfigured_none Format uses did = untold did.text did.wanted did.allowed.line_ did.ends
    unconfigured_none (FormatMissing missing) uses did = not_begun_unconfigured did
    unconfigured_none (Replay options) uses did = replay_unconfigured (options_as options, trace_of before.trace.bytes) did
    unconfigured_none Check uses did = look_unconfigured asked.Check did
    unconfigured_none Dump uses did = look_unconfigured asked.Dump did
    unconfigured_none (Gen what) uses did = untold did.text did.wanted did.allowed did.ends
    unconfigured_none (Soak what options) uses did = replay_unconfigured (options_as options, lines_of what) did
    unconfigured_none (WhatIf options) uses did = untold did.text did.wanted did.line_ did.ends
    unconfigured_none (ViewAdd names) uses did = not_begun_unconfigured did
    unconfigured_none (ViewRemove names) uses did = not_begun_unconfigured did
    unconfigured_none Clean uses did = not_begun_unconfigured did
    unconfigured_none (Nbd name) uses did = serving_unconfigured (AtOnce, served_by name) did
    unconfigured_none (Serve name patience) uses did = serving_unconfigured (Handshake, served_by name) did

  unconfigured_of : (command : Command) → Did command → IsUnconfigured command before → TellsNoConfig status
  unconfigured_of command did (uses, bytes, told, none) =
      let no : read ≡ None = none_read bytes told none read is_read in
      unconfigured_none bytes told none command uses (subst (λ (o : Option Config). Does tells state o before after status command) no did)

  -- ---- The whole

  abbrev Completes : Command → Type 0
  Completes command = ReadsInOrder tells command before → NothingFailed command before after → ComesToItsEnd command status

  completes_alike : IsAlike Completes
  completes_alike = record {
    solo = λ own other same completes order calm. completes order (record { config = calm.config; trace = calm.trace; bay = calm.bay; sink = calm.sink });
    add = λ own other same completes order calm. completes order (record { config = calm.config; trace = calm.trace; bay = calm.bay; sink = calm.sink });
    remove = λ own other same completes order calm. completes order (record { config = calm.config; trace = calm.trace; bay = calm.bay; sink = calm.sink });
    missing = λ own other same completes order calm. completes order (record { config = calm.config; trace = calm.trace; bay = calm.bay; sink = calm.sink });
    nbd = λ own other same completes order calm. completes order (record { config = calm.config; trace = calm.trace; bay = calm.bay; sink = calm.sink });
    serve = λ own other patience same completes order calm. completes order (record { config = calm.config; trace = calm.trace; bay = calm.bay; sink = calm.sink });
  }

  pub promise : ((command : Command) → IsCommand words command → Did command)
      → (NoCommand words → EndsWith (codes "fault 1 words\n") 1 status before.sink.bytes after.sink.bytes ⊎ TellsNoMemory status before.sink.bytes after.sink.bytes)
      → IsCause tells state read words before after status → (before.sink.faults < after.sink.faults → status ≡ 7) → LeavesUnused words before after → ((command : Command) → IsCommand words command → Completes command)
      → Run tells state words before after status
  promise does refused cause sink unused complete = record {
    read = read;
    is_read = is_read;
    headline = λ command is. of_replayed (IsHeadlineOf tells state read before after status) headline_of command (does command is);
    account = λ command is. of_replayed (IsAccountOf tells state read before after status) account_of command (does command is);
    does = does;
    refused = refused;
    cause = cause;
    sink = sink;
    config = λ command is. unconfigured_of command (does command is);
    unused = unused;
    complete = complete;
  }

  -- the words are a command, which was read
  pub of_command : (own : Command) → IsCommand words own → Did own → IsCause tells state read words before after status → (before.sink.faults < after.sink.faults → status ≡ 7) → LeavesUnused words before after
      → (ReadsInOrder tells own before → NothingFailed own before after → ComesToItsEnd own status) → Run tells state words before after status
  of_command own is does cause sink unused complete = promise
      (λ command so. of_asked Did does_alike words own command is so does)
      (λ none. absurd (none own is)) cause sink unused
      (λ command so. of_asked Completes completes_alike words own command is so complete)

  -- they are none
  pub of_none : NoCommand words → EndsWith (codes "fault 1 words\n") 1 status before.sink.bytes after.sink.bytes → (status ≡ 7 → Rose before.sink.faults after.sink.faults)
      → (before.sink.faults < after.sink.faults → status ≡ 7) → LeavesUnused words before after → Run tells state words before after status
  of_none none ends rose sink unused = promise (λ command is. absurd (none command is)) (λ _. inl ends)
      (elim (wanted_or_sink _ 1 status _ _ ends) [
        | inl one ↦ at_status tells state read words before after 1 status one (row.no_command none)
        | inr seven ↦ at_status tells state read words before after 7 status seven (row.sink_failed (rose seven))
      ]) sink unused (λ command is. absurd (none command is))

  -- there was no memory to read them
  pub of_unread_words : ((command : Command) → Did command) → TellsNoMemory status before.sink.bytes after.sink.bytes → (status ≡ 7 → Rose before.sink.faults after.sink.faults)
      → (before.sink.faults < after.sink.faults → status ≡ 7) → LeavesUnused words before after → Run tells state words before after status
  of_unread_words does ends rose sink unused = promise (λ command is. does command) (λ _. inr ends)
      (elim (wanted_or_sink _ 9 status _ _ ends) [
        | inl nine ↦ at_status tells state read words before after 9 status nine row.no_memory
        | inr seven ↦ at_status tells state read words before after 7 status seven (row.sink_failed (rose seven))
      ]) sink unused
      (λ command is order calm. elim (wanted_or_sink _ 9 status _ _ ends) [
        | inl nine ↦ inl (inr nine)
        | inr seven ↦ absurd (calm.sink (rose seven))
      ])
