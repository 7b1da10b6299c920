-- What a run promises, command by command.
use Rattle.std.proofs.Common.{◌≡◌, ◌⊎◌, inl, inr, ℕ, ◌<◌, Bool, true, false, List, Option, None, Err, Ok, refl, sym, ◌∙◌, true≢false}
use Rattle.std.specs.Io.KnownBytes.{IsAtEnd}
use Rattle.wol_disk.specs.Disk.{Rose, State}
use Rattle.solo.proofs.Imaging.{not_made}
use Rattle.solo.specs.Images.{RunsInBay}
use Rattle.solo.specs.Volume.{target_of}
use Rattle.solo.specs.declared.fault.Fault.{Fault}
use Rattle.solo.specs.declared.fault.Fault.TheVariants as solo_fault
use Rattle.solo.specs.declared.volume.Volume.{Volume}
use Rattle.wol_bay.specs.declared.fault.BayFault.TheVariants as bay_fault
use Rattle.report.specs.declared.fault.Fault.TheVariants as fault
use Rattle.inspection.specs.declared.asked.Asked.TheVariants as asked
use Rattle.command_words.specs.Commands.{IsCommand}
use Rattle.command_words.specs.declared.command.Command.{Command}
use Rattle.command_words.specs.declared.command.Command.TheVariants.{Check, Clean, Dump, Format, FormatMissing, Gen, Nbd, Replay, Serve, Soak, Solo, ViewAdd, ViewRemove, WhatIf}
use Rattle.command_words.specs.declared.command.Generated.{Generated}
use Rattle.command_words.specs.declared.command.MissingName.{MissingName}
use Rattle.command_words.specs.declared.command.Options.{Options}
use Rattle.command_words.specs.declared.command.Patience.{Patience}
use Rattle.command_words.specs.declared.command.ServedName.{ServedName}
use Rattle.nbd_serving.specs.declared.serving.Beginning.TheVariants.{AtOnce, Handshake}
use Rattle.command_words.specs.declared.command.ViewNames.{ViewNames}
use Rattle.command_words.specs.declared.command.WhatIfOptions.{WhatIfOptions}
use Rattle.command_words.specs.Values.{missing_by, named_by, served_by}
use Rattle.view_commands.specs.declared.order.Verb.TheVariants.{Add, Remove}
use Rattle.wol_run.specs.Causes.{AskFor}
use Rattle.wol_run.specs.Causes as row
use Rattle.wol_run.specs.Commands.{runs_trace, uses_bay, uses_config}
use Rattle.wol_run.specs.Completing.{HasSoundImages, HaveVersions, HaveVersionsToClean, IsGoodTrace, IsUnhindered, seed_lines}
use Rattle.wol_run.specs.Outside.{LeavesUnused, NothingFailed, Outside, Stream}
use Rattle.wol_run.specs.Replaying.{lines_of, options_as, trace_of}
use Rattle.wol_run.specs.Run.{Does, IsCleaningOf, IsComparisonOf, IsFormat, IsListingOf, IsLookFor, IsMissingOf, IsReplayOf, IsServingOf, IsViewChangeOf, Run}
use Rattle.wol_run.specs.Serving.{EndsAtClient}
use Rattle.wol_run.specs.Settings.{IsConfigured, OfRead}
use Rattle.wol_run.specs.Tops.{AreCalm, HasCause, IsDoneOrMemory, TellsFault, TellsNoMemory, TellsStatus}
use Rattle.wol_run.proofs.Asked.{of_asked, uses_alike}
use Rattle.wol_run.proofs.CausesTold.{clean_cause, comparison_cause, format_cause, gen_cause, look_cause, missing_cause, replay_cause, serving_cause, view_cause}
use Rattle.wol_run.proofs.Compared.{uncompared}
use Rattle.wol_run.proofs.Complete.{complete_format, complete_gen, complete_missing}
use Rattle.wol_run.proofs.Endings.{told_done, told_fault}
use Rattle.wol_run.proofs.FormatEndings.{told_untouched}
use Rattle.wol_run.proofs.GenEndings.{told_unread}
use Rattle.wol_run.proofs.LookEndings.{look_untouched}
use Rattle.wol_run.proofs.Promised.{of_command, of_unread_words}
use Rattle.wol_run.proofs.ReplayEndings.{at_end, replay_bad_line, replay_more_lines, soak_not_ten, soak_not_three, unreplayed}
use Rattle.wol_run.proofs.SoloTold.{solo_cause, solo_complete}
use Rattle.wol_run.proofs.Unread.{not_begun}

module _ {D : Type 0} (tells : Bool) (state : D → State) (words : List (List ℕ)) (before after : Outside) (status : ℕ)
    (seven : status ≡ 7 → Rose before.sink.faults after.sink.faults) (later : before.sink.faults < after.sink.faults → status ≡ 7) where
  -- nothing stands in the way of a command on the volumes
  abbrev Free : Type 0
  Free = IsUnhindered tells before.config.bytes before.config.faults after.config.faults before.bay after.bay before.sink.faults after.sink.faults

  abbrev free : (command : Command) → uses_config command ≡ true → uses_bay command ≡ true → IsConfigured before.config.bytes → HasSoundImages tells before.config.bytes before.bay → NothingFailed command before after → Free
  free command config bay configured images calm = record { images = images; configured = configured; source = calm.config config; bay = calm.bay bay; sink = calm.sink }

  used : {b : Bool} → b ≡ true → b ≡ false → ⊥
  used is none = true≢false (sym is ∙ none)

  pub gen_promise : (what : Generated) → IsCommand words (Gen what) → OfRead before.config.bytes (λ read. IsListingOf read before after status what) → after.trace ≡ before.trace → after.bay ≡ before.bay → Run tells state words before after status
  gen_promise what is run trace bay = of_command tells state words before after status run.read run.has (Gen what) is run.is (gen_cause tells state run.read words before after status seven what is run.is) later
      (record { config = λ none. absurd (used refl (none (Gen what) is)); trace = λ none. trace; bay = λ none. bay })
      (λ order calm. inl (complete_gen what run.read _ _ _ status _ _ order (calm.config refl) (λ is_7. calm.sink (seven is_7)) run.is))

  pub format_promise : IsCommand words Format → OfRead before.config.bytes (λ read. IsFormat read before after status) → after.trace ≡ before.trace → Run tells state words before after status
  format_promise is run trace = of_command tells state words before after status run.read run.has Format is run.is (format_cause tells state run.read words before after status seven is run.is) later
      (record { config = λ none. absurd (used refl (none Format is)); trace = λ none. trace; bay = λ none. absurd (used refl (none Format is)) })
      (λ order calm. inl (complete_format run.read _ _ _ _ _ status _ _ order (calm.config refl) (calm.bay refl) (λ is_7. calm.sink (seven is_7)) run.is))

  pub missing_promise : (missing : MissingName) → IsCommand words (FormatMissing missing) → OfRead before.config.bytes (λ read. IsMissingOf tells state read before after status (missing_by missing)) → after.trace ≡ before.trace → Run tells state words before after status
  missing_promise missing is run trace = of_command tells state words before after status run.read run.has (FormatMissing missing) is run.is (missing_cause tells state run.read words before after status seven missing is run.read refl run.is) later
      (record { config = λ none. absurd (used refl (none (FormatMissing missing) is)); trace = λ none. trace; bay = λ none. absurd (used refl (none (FormatMissing missing) is)) })
      (λ order calm. elim (complete_missing tells state (missing_by missing) _ _ _ _ _ status _ _ order (calm.config refl) (calm.bay refl) (λ is_7. calm.sink (seven is_7)) run.read run.is) [
        | inl done ↦ inl done
        | inr refused ↦ inr (inr (inr (refl, refused)))
      ])

  -- the volumes were looked at, and where nothing stood in the way the look came to its end
  module _ (complete : Free → IsDoneOrMemory status) (trace : after.trace ≡ before.trace) where
    pub check_promise : IsCommand words Check → OfRead before.config.bytes (λ read. IsLookFor tells state read before after status asked.Check) → Run tells state words before after status
    check_promise is run = of_command tells state words before after status run.read run.has Check is run.is (look_cause tells state run.read words before after status seven Check is refl refl refl asked.Check run.is) later
        (record { config = λ none. absurd (used refl (none Check is)); trace = λ none. trace; bay = λ none. absurd (used refl (none Check is)) })
        (λ order calm. inl (complete (free Check refl refl order.0 order.1 calm)))

    pub dump_promise : IsCommand words Dump → OfRead before.config.bytes (λ read. IsLookFor tells state read before after status asked.Dump) → Run tells state words before after status
    dump_promise is run = of_command tells state words before after status run.read run.has Dump is run.is (look_cause tells state run.read words before after status seven Dump is refl refl refl asked.Dump run.is) later
        (record { config = λ none. absurd (used refl (none Dump is)); trace = λ none. trace; bay = λ none. absurd (used refl (none Dump is)) })
        (λ order calm. inl (complete (free Dump refl refl order.0 order.1 calm)))

  pub replay_promise : (options : Options) → IsCommand words (Replay options) → OfRead before.config.bytes (λ read. IsReplayOf tells state read before after status (options_as options, trace_of before.trace.bytes))
      → (status ≡ 8 → Rose before.config.faults after.config.faults ⊎ Rose before.trace.faults after.trace.faults)
      → ((lines : _) (all : Free) → HaveVersions before.config.bytes all.images.entry (λ c. lines) → IsGoodTrace before.trace.bytes lines → ¬ Rose before.trace.faults after.trace.faults → IsDoneOrMemory status)
      → Run tells state words before after status
  replay_promise options is run source complete = of_command tells state words before after status run.read run.has (Replay options) is run.is
      (replay_cause tells state run.read words before after status seven (Replay options) is refl refl (options_as options) (trace_of before.trace.bytes) refl source
      (λ three. (for_trace, replay_bad_line tells state (options_as options) run.read _ _ _ _ _ _ _ _ status _ _ before.trace.bytes run.is three))
      (λ ten. (for_trace, replay_more_lines tells state (options_as options) run.read _ _ _ _ _ _ _ _ status _ _ before.trace.bytes run.is ten))
      (λ now lines config rest all uses. at_end before.trace.bytes after.trace.bytes now lines config rest all) run.read refl run.is) later
      (record { config = λ none. absurd (used refl (none (Replay options) is)); trace = λ none. absurd (used refl (none (Replay options) is)); bay = λ none. absurd (used refl (none (Replay options) is)) })
      (λ order calm. inl (complete order.2 (free (Replay options) refl refl order.0 order.1 calm) order.4 order.3 (calm.trace refl)))
    where
      for_trace : AskFor words runs_trace
      for_trace = record { command = Replay options; is = is; does = refl }

  pub soak_promise : (what : Generated) (options : Options) → IsCommand words (Soak what options) → OfRead before.config.bytes (λ read. IsReplayOf tells state read before after status (options_as options, lines_of what))
      → (status ≡ 8 → Rose before.config.faults after.config.faults)
      → ((all : Free) → HaveVersions before.config.bytes all.images.entry (seed_lines what) → IsDoneOrMemory status)
      → after.trace ≡ before.trace → Run tells state words before after status
  soak_promise what options is run source complete trace = of_command tells state words before after status run.read run.has (Soak what options) is run.is
      (replay_cause tells state run.read words before after status seven (Soak what options) is refl refl (options_as options) (lines_of what) refl (λ eight. inl (source eight))
      (λ three. absurd (soak_not_three tells state (options_as options) run.read _ _ _ _ _ _ _ _ status _ _ what run.is three))
      (λ ten. absurd (soak_not_ten tells state (options_as options) run.read _ _ _ _ _ _ _ _ status _ _ what run.is ten))
      (λ now lines config rest all asks. absurd (used asks.does (of_asked (λ c. runs_trace c ≡ false) uses_alike words (Soak what options) asks.command is asks.is refl))) run.read refl run.is) later
      (record { config = λ none. absurd (used refl (none (Soak what options) is)); trace = λ none. trace; bay = λ none. absurd (used refl (none (Soak what options) is)) })
      (λ order calm. inl (complete (free (Soak what options) refl refl order.0 order.1 calm) order.2))

  pub comparison_promise : (options : WhatIfOptions) → IsCommand words (WhatIf options) → OfRead before.config.bytes (λ read. IsComparisonOf options read before after status) → (status ≡ 8 → Rose before.config.faults after.config.faults ⊎ Rose before.trace.faults after.trace.faults)
      → ((lines : _) → IsGoodTrace before.trace.bytes lines → IsConfigured before.config.bytes → ¬ Rose before.config.faults after.config.faults → ¬ Rose before.trace.faults after.trace.faults → ¬ Rose before.sink.faults after.sink.faults
      → IsDoneOrMemory status) → after.bay ≡ before.bay → Run tells state words before after status
  comparison_promise options is run source complete bay = of_command tells state words before after status run.read run.has (WhatIf options) is run.is (comparison_cause tells state run.read words before after status seven options is source run.read run.is) later
      (record { config = λ none. absurd (used refl (none (WhatIf options) is)); trace = λ none. absurd (used refl (none (WhatIf options) is)); bay = λ none. bay })
      (λ order calm. inl (complete order.1 order.2 order.0 (calm.config refl) (calm.trace refl) calm.sink))

  -- a view was to be changed
  module _ (complete : Free → IsDoneOrMemory status ⊎ (status ≡ 15)) (trace : after.trace ≡ before.trace) where
    view_ends : {b : Bool} {A : Type 0} → b ≡ true → IsDoneOrMemory status ⊎ (status ≡ 15) → IsDoneOrMemory status ⊎ ((b ≡ true) × (status ≡ 15)) ⊎ A
    view_ends changes (inl done) = inl done
    view_ends changes (inr refused) = inr (inl (changes, refused))

    pub view_add_promise : (names : ViewNames) → IsCommand words (ViewAdd names) → OfRead before.config.bytes (λ read. IsViewChangeOf tells state read before after status (Add, named_by names)) → Run tells state words before after status
    view_add_promise names is run = of_command tells state words before after status run.read run.has (ViewAdd names) is run.is
        (view_cause tells state run.read words before after status seven (ViewAdd names) is refl refl Add (named_by names) refl (record { command = ViewAdd names; is = is; does = refl }) refl run.read refl run.is) later
        (record { config = λ none. absurd (used refl (none (ViewAdd names) is)); trace = λ none. trace; bay = λ none. absurd (used refl (none (ViewAdd names) is)) })
        (λ order calm. view_ends refl (complete (free (ViewAdd names) refl refl order.0 order.1 calm)))

    pub view_remove_promise : (names : ViewNames) → IsCommand words (ViewRemove names) → OfRead before.config.bytes (λ read. IsViewChangeOf tells state read before after status (Remove, named_by names)) → Run tells state words before after status
    view_remove_promise names is run = of_command tells state words before after status run.read run.has (ViewRemove names) is run.is
        (view_cause tells state run.read words before after status seven (ViewRemove names) is refl refl Remove (named_by names) refl (record { command = ViewRemove names; is = is; does = refl }) refl run.read refl run.is) later
        (record { config = λ none. absurd (used refl (none (ViewRemove names) is)); trace = λ none. trace; bay = λ none. absurd (used refl (none (ViewRemove names) is)) })
        (λ order calm. view_ends refl (complete (free (ViewRemove names) refl refl order.0 order.1 calm)))

  pub clean_promise : IsCommand words Clean → OfRead before.config.bytes (λ read. IsCleaningOf tells state read before after status)
      → ((all : Free) → HaveVersionsToClean before.config.bytes all.images.entry → IsDoneOrMemory status)
      → after.trace ≡ before.trace → Run tells state words before after status
  clean_promise is run complete trace = of_command tells state words before after status run.read run.has Clean is run.is (clean_cause tells state run.read words before after status seven Clean is refl refl is run.read refl run.is) later
      (record { config = λ none. absurd (used refl (none Clean is)); trace = λ none. trace; bay = λ none. absurd (used refl (none Clean is)) })
      (λ order calm. inl (complete (free Clean refl refl order.0 order.1 calm) order.2))

  -- a volume was to be served
  module _ (complete : Free → ¬ Rose before.trace.faults after.trace.faults → EndsAtClient status) where
    at_client : {A B : Type 0} {b : Bool} → b ≡ true → EndsAtClient status → IsDoneOrMemory status ⊎ A ⊎ ((b ≡ true) × ((status ≡ 14) ⊎ (status ≡ 15))) ⊎ B
    at_client serves (inl done) = inl done
    at_client serves (inr other) = inr (inr (inl (serves, other)))

    pub nbd_promise : (name : ServedName) → IsCommand words (Nbd name) → OfRead before.config.bytes (λ read. IsServingOf tells state read before after status (AtOnce, served_by name)) → Run tells state words before after status
    nbd_promise name is run = of_command tells state words before after status run.read run.has (Nbd name) is run.is
        (serving_cause tells state run.read words before after status seven (Nbd name) is refl refl AtOnce (served_by name) refl refl run.read refl run.is) later
        (record { config = λ none. absurd (used refl (none (Nbd name) is)); trace = λ none. absurd (used refl (none (Nbd name) is)); bay = λ none. absurd (used refl (none (Nbd name) is)) })
        (λ order calm. at_client refl (complete (free (Nbd name) refl refl order.0 order.1 calm) (calm.trace refl)))

    pub serve_promise : (name : ServedName) (patience : Patience) → IsCommand words (Serve name patience) → OfRead before.config.bytes (λ read. IsServingOf tells state read before after status (Handshake, served_by name)) → Run tells state words before after status
    serve_promise name patience is run = of_command tells state words before after status run.read run.has (Serve name patience) is run.is
        (serving_cause tells state run.read words before after status seven (Serve name patience) is refl refl Handshake (served_by name) refl refl run.read refl run.is) later
        (record { config = λ none. absurd (used refl (none (Serve name patience) is)); trace = λ none. absurd (used refl (none (Serve name patience) is)); bay = λ none. absurd (used refl (none (Serve name patience) is)) })
        (λ order calm. at_client refl (complete (free (Serve name patience) refl refl order.0 order.1 calm) (calm.trace refl)))

  -- the lines of one volume were run on an image of its own
  module _ (own : Volume) (is : IsCommand words (Solo own)) (config : after.config ≡ before.config) where
    unused : LeavesUnused words before after
    unused = record { config = λ none. config; trace = λ none. absurd (used refl (none (Solo own) is)); bay = λ none. absurd (used refl (none (Solo own) is)) }

    pub solo_fault_promise : (T : Type 0) (e : Fault) (mid : Option (List ℕ)) → TellsStatus e status → TellsFault e status mid after.sink.bytes
        → HasCause e before.bay.told after.bay.told before.bay.faults after.bay.faults before.trace.faults after.trace.faults
        → RunsInBay {T = T} (target_of own) before.trace.bytes after.trace.bytes before.bay.told after.bay.told (Err e) before.sink.bytes mid → Run tells state words before after status
    solo_fault_promise T e mid told tells_ cause run = of_command tells state words before after status None tt (Solo own) is
        (told_fault (target_of own) _ _ _ _ _ _ _ _ status _ mid _ T e cause tells_ run)
        (solo_cause tells state words before after own is T status mid seven e told cause run) later unused
        (λ order calm. inl (solo_complete T (target_of own) _ _ _ _ _ mid _ _ _ _ status (calm.bay refl) (calm.trace refl) (λ is_7. calm.sink (seven is_7)) order e told cause run))

-- they were run to their end
pub solo_done_promise : {D : Type 0} (tells : Bool) (state : D → State) (words : List (List ℕ)) (before after : Outside) → (before.sink.faults < after.sink.faults → ⊥) → (own : Volume) → IsCommand words (Solo own) → after.config ≡ before.config
    → IsAtEnd after.trace.bytes → AreCalm before.bay.faults after.bay.faults before.trace.faults after.trace.faults → {T : Type 0} (x : T) → RunsInBay (target_of own) before.trace.bytes after.trace.bytes before.bay.told after.bay.told (Ok x) before.sink.bytes after.sink.bytes → Run tells state words before after 0
solo_done_promise tells state words before after calm own is config end still x run = of_command tells state words before after 0 None tt (Solo own) is
    (told_done x (target_of own) _ _ _ _ _ _ _ _ _ _ still run) (row.done (Solo own) is (λ uses. end)) (λ less. absurd (calm less))
    (record { config = λ none. config; trace = λ none. absurd (true≢false (none (Solo own) is)); bay = λ none. absurd (true≢false (none (Solo own) is)) })
    (λ order calm_. inl (inl refl))

-- there was no memory to read the words, and the sink alone was used
module _ {D : Type 0} (tells : Bool) (state : D → State) (words : List (List ℕ)) (before : Outside) (sink : Stream) (status : ℕ) (ends : TellsNoMemory status before.sink.bytes sink.bytes) where
  abbrev after : Outside
  after = record before { sink = sink }

  does_none : (command : Command) → Does tells state None before after status command
  does_none (Solo volume) = told_fault (target_of volume) before.trace.bytes before.trace.bytes before.bay.told before.bay.told before.bay.faults before.bay.faults before.trace.faults before.trace.faults status _ _ _ (Unit {0}) solo_fault.NoMemory (refl, refl) ends
      (not_made (Unit {0}) bay_fault.NoMemory (target_of volume) before.trace.bytes before.bay.told before.bay.told before.sink.bytes refl)
  does_none Format = told_untouched _ _ _ _ _ status _ _ fault.Memory tt refl (inr ends)
  does_none (FormatMissing missing) = not_begun _ _ _ _ _ status _ _ fault.Memory tt refl (inr ends)
  does_none (Replay options) = unreplayed _ _ _ _ _ _ _ _ _ fault.Memory tt refl (inr ends)
  does_none Check = look_untouched _ _ asked.Check _ _ _ _ _ status _ _ fault.Memory tt refl (inr ends)
  does_none Dump = look_untouched _ _ asked.Dump _ _ _ _ _ status _ _ fault.Memory tt refl (inr ends)
  does_none (Gen what) = told_unread what _ _ _ status _ _ fault.Memory tt (inr ends)
  does_none (Soak what options) = unreplayed _ _ _ _ _ _ _ _ _ fault.Memory tt tt (inr ends)
  does_none (WhatIf options) = uncompared _ _ _ _ _ _ _ _ fault.Memory tt refl (inr ends)
  does_none (ViewAdd names) = not_begun _ _ _ _ _ status _ _ fault.Memory tt refl (inr ends)
  does_none (ViewRemove names) = not_begun _ _ _ _ _ status _ _ fault.Memory tt refl (inr ends)
  does_none Clean = not_begun _ _ _ _ _ status _ _ fault.Memory tt refl (inr ends)
  does_none (Nbd name) = inr (record { bay = refl; source = (refl, refl); ends = ends })
  does_none (Serve name patience) = inr (record { bay = refl; source = (refl, refl); ends = ends })

  pub memory_promise : (status ≡ 7 → Rose before.sink.faults sink.faults) → (before.sink.faults < sink.faults → status ≡ 7) → Run tells state words before after status
  memory_promise seven later = of_unread_words tells state words before after status None tt does_none ends seven later (record { config = λ none. refl; trace = λ none. refl; bay = λ none. refl })
