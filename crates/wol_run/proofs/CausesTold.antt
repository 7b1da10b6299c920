-- Why each command ended with its status.
use Rattle.std.proofs.Common.{◌≡◌, ◌≢◌, ◌⊎◌, inl, inr, ℕ, zero, suc, ◌<◌, Bool, true, false, List, [], ◌∷◌, Option, None, Some, Result, Ok, Err, refl, sym, ap, subst, ◌∙◌, true≢false, arith}
use Rattle.rack.specs.Closes.{is_kept_home, part_named}
use Rattle.std.specs.Prelude.{IfErr, IfSome, IsTrue, is_some, not, slice_get}
use Rattle.std.specs.Io.KnownBytes.{IsAtEnd}
use Rattle.std.proofs.lemmas.Option.{same_Some}
use Rattle.wol_disk.specs.Disk.{Rose, State}
use Rattle.wol_bay.specs.Bay.{Told}
use Rattle.wol_model.specs.Trace.{TraceLine}
use Rattle.wol_promise.proofs.Lists.{all_map}
use Rattle.wol_config.specs.Documents.{names_of, number_named}
use Rattle.wol_config.specs.declared.config.Config.{Config}
use Rattle.wol_config.specs.declared.config.VolumeConf.{VolumeConf}
use Rattle.report.specs.Faults.{fault_text, status_of}
use Rattle.report.specs.Troubles.{trouble_status}
use Rattle.report.specs.declared.fault.Fault.{Fault}
use Rattle.report.specs.declared.fault.Fault.TheVariants as fault
use Rattle.report.specs.declared.trouble.Trouble.{Trouble}
use Rattle.report.specs.declared.trouble.Trouble.TheVariants as trouble
use Rattle.rack.specs.Troubles.{trouble_of, trouble_of_part}
use Rattle.manager.specs.declared.part.Part.{Part}
use Rattle.manager.specs.declared.part.Part.TheVariants as part
use Rattle.trace_gen.specs.Generated.{targets_of}
use Rattle.volume_images.specs.Left.{IsTold}
use Rattle.msr_trace.specs.declared.format.TraceFault.{TraceFault}
use Rattle.msr_trace.specs.declared.format.TraceFault.TheVariants as trace
use Rattle.inspection.specs.Lines.{Telling, first_of, first_trouble}
use Rattle.inspection.specs.declared.asked.Asked.{Asked}
use Rattle.replay.specs.Ended.{EndsFor, HasRefusedWrite, whole, no_line, refused, memory, sink_failed}
use Rattle.comparison.specs.Compares.{EndsBehind}
use Rattle.comparison.specs.Compares as behind
use Rattle.replay.specs.Givens.{HasGivenAll, Refuses}
use Rattle.replay.specs.NotOpened.{IsFirstClosed, LeavesAsOpened}
use Rattle.rack.specs.Missing.{HasSegmentOf, NamesInView, RefusesMissing}
use Rattle.rack.specs.declared.missing.MissingFault.{MissingFault}
use Rattle.rack.specs.declared.missing.MissingFault.TheVariants.{Refused}
use Rattle.rack.specs.Opens.{RefusesVolume, WasAccepted, WereThere}
use Rattle.rack.specs.Owners.{WasOpened}
use Rattle.rack.specs.Rests.{IsImageOut, image_here}
use Rattle.rack_parts.specs.declared.rack.ImageRest.{ImageRest}
use Rattle.rack_parts.specs.declared.volume_fault.VolumeFault.{VolumeFault}
use Rattle.replay.specs.Replays.{Replayed, Replays, closed, no_memory, ran}
use Rattle.replay.specs.Served.{ServedWindow}
use Rattle.replay.specs.Stops.{fault_of_trace}
use Rattle.replay.specs.declared.session.Options.{Options as Serving}
use Rattle.replay.specs.declared.stop.Stop.{Stop}
use Rattle.replay.specs.declared.stop.Stop.TheVariants as stop
use Rattle.view_change.specs.declared.answers.Change.{Change}
use Rattle.view_commands.specs.Orders.{AreNamed, change_of}
use Rattle.view_commands.specs.Runs.{ChangesOpen, ChangesView, FailsFor, FailsWith}
use Rattle.view_commands.specs.Runs as changed
use Rattle.view_commands.specs.Views.{ChangesViewOf}
use Rattle.view_commands.specs.declared.order.Stop.{Stop as ViewStop}
use Rattle.view_commands.specs.declared.order.Stop.TheVariants as view_stop
use Rattle.view_commands.specs.declared.order.Verb.{Verb}
use Rattle.view_commands.specs.declared.order.ViewRefusal.{ViewRefusal}
use Rattle.log_cleaner.specs.declared.answer.CleanFault.{CleanFault}
use Rattle.log_cleaner.specs.declared.answer.CleanFault.TheVariants.{DiskFault, VersionsSpent, NoMemory}
use Rattle.cleaning.specs.Lines.{fault_of}
use Rattle.cleaning.specs.Runs.{CleansBay, CleansVolume, EndsFor as EndsCleaning}
use Rattle.cleaning.specs.Runs as cleaned
use Rattle.nbd_session.specs.declared.session.Ended.{Ended}
use Rattle.nbd_session.specs.declared.session.Ended.TheVariants as nbd_ended
use Rattle.nbd_session.specs.declared.session.NbdFault.{NbdFault}
use Rattle.nbd_session.specs.declared.session.NbdFault.TheVariants as nbd_fault
use Rattle.nbd_session.specs.Sessions.{CountsFaults}
use Rattle.nbd_session.specs.declared.ending.Shaken.{Shaken}
use Rattle.nbd_session.specs.declared.ending.Shaken.TheVariants.{Agreed, Unagreed as NotAgreed}
use Rattle.nbd_session.specs.declared.ending.Unagreed.{Unagreed}
use Rattle.nbd_session.specs.declared.ending.Unagreed.TheVariants as unagreed
use Rattle.nbd_serving.proofs.Begun.{counts_behind, faults_begun}
use Rattle.nbd_serving.specs.Racks.{Begins}
use Rattle.nbd_serving.specs.declared.serving.Beginning.{Beginning}
use Rattle.nbd_serving.specs.Runs.{ServesNamed, ServesOpen}
use Rattle.nbd_serving.specs.Runs as nbd_case
use Rattle.nbd_serving.specs.Wires.{Wire, answer_of, status_of as status_of_answer, unagreed_status, wire}
use Rattle.nbd_serving.specs.declared.stop.Stop.{Stop as NbdStop}
use Rattle.command_words.specs.Commands.{IsCommand}
use Rattle.command_words.specs.Table.{Named}
use Rattle.command_words.specs.declared.command.Command.{Command}
use Rattle.command_words.specs.declared.command.Command.TheVariants.{Clean, Format, FormatMissing, Gen, WhatIf}
use Rattle.command_words.specs.Values.{missing_by}
use Rattle.command_words.specs.declared.command.Generated.{Generated}
use Rattle.command_words.specs.declared.command.MissingName.{MissingName}
use Rattle.command_words.specs.declared.command.WhatIfOptions.{WhatIfOptions}
use Rattle.wol_run.specs.Adding.{IsNamed, IsUnknown, answer_status, missing_status}
use Rattle.wol_run.specs.Causes.{AskFor, AsksMissing, HasRefusal, IsCause, IsClosedFor, MayNotMake, replayed_by}
use Rattle.wol_run.specs.Causes as row
use Rattle.wol_run.specs.Cleaning.{IsCleaning}
use Rattle.wol_run.specs.Commands.{changes_view, runs_trace, uses_bay, uses_config}
use Rattle.inspection.specs.Runs.{Looked}
use Rattle.rack.specs.BayRuns.{BayLeft}
use Rattle.wol_run.specs.Inspecting.{IsLook, LooksFor, status_of_first}
use Rattle.wol_run.specs.Outside.{Outside}
use Rattle.wol_run.specs.Comparing.{IsComparison, details_of, with_timeout}
use Rattle.wol_run.specs.Replaying.{EndsReplay, GivenLines, HasLeft, IsReplay, trace_of}
use Rattle.wol_run.specs.Run.{IsCleaningOf, IsComparisonOf, IsFormat, IsListingOf, IsLookFor, IsMissingOf, IsReplayOf, IsServingOf, IsViewChangeOf}
use Rattle.wol_run.specs.Serving.{HasBadBytes, served_as}
use Rattle.wol_run.specs.Settings.{IsFaultLine, line_of_fault}
use Rattle.wol_run.specs.Tops.{EndsWith, HasBadLine, HasMoreLines, TellsNoMemory}
use Rattle.wol_run.specs.Viewing.{EndsChange, IsViewChange, RefusesChange, view_change_by}
use Rattle.wol_run.proofs.Added.{MissingEnd, missing_end}
use Rattle.wol_run.proofs.Added as end
use Rattle.wol_run.proofs.Asked.{of_asked, uses_alike}
use Rattle.wol_run.proofs.FormatEndings.{ends_format}
use Rattle.wol_run.proofs.GenEndings.{ends_gen}
use Rattle.wol_run.proofs.HeadlineTold.{on_told}
use Rattle.wol_run.proofs.ReplayEndings.{at_end, bad_of, more_of, of_call}
use Rattle.wol_run.proofs.Spent.{spent_of}
use Rattle.wol_run.proofs.Served.{bad_behind, bad_handshake, bad_magic, cut_request, fault_of_any}
use Rattle.wol_run.proofs.Unread.{ends_unread, line_unread, wanted_or_sink}
use Rattle.wol_run.proofs.WindowFaults.{ends_window}

-- what is so of the bay at entry by what is told of it at entry and at exit
at_entry : (P : Told → Told → Type 0) (Q : Told → Type 0) (old new : Option Told) → ((entry left : Told) → P entry left → Q entry) → IsTold P old new → IfSome old Q
at_entry P Q None new on told = tt
at_entry P Q (Some entry) None on told = absurd told
at_entry P Q (Some entry) (Some left) on told = on entry left told

-- ---- The first volume that isn't in order

-- a volume, and those before it, none of which is in disorder
abbrev IsFirst : List Telling → Trouble → Type 0
IsFirst told o = (k : ℕ) × (t : Telling) × (slice_get told k ≡ Some t) × (t.trouble ≡ Some o)
    × ((j : ℕ) → j < k → (u : Telling) × (slice_get told j ≡ Some u) × (u.trouble ≡ None))

-- none of those before it is in disorder where the one in front of them isn't either
earlier_too : (t : Telling) (ts : List Telling) (k : ℕ) → t.trouble ≡ None → ((j : ℕ) → j < k → (u : Telling) × (slice_get ts j ≡ Some u) × (u.trouble ≡ None)) → (j : ℕ) → j < suc k
    → (u : Telling) × (slice_get (t ∷ ts) j ≡ Some u) × (u.trouble ≡ None)
earlier_too t ts k none before zero less = (t, refl, none)
earlier_too t ts k none before (suc j) less = before j (omega (arith, less))

first_at : (told : List Telling) (o : Trouble) → first_trouble told ≡ Some o → IsFirst told o
first_at [] o is = absurd (let no : None ≡ Some o = is in cc)
first_at (t ∷ ts) o is = by t.trouble refl is (first_at ts o)
  where
    by : (p : Option Trouble) → t.trouble ≡ p → first_of p (first_trouble ts) ≡ Some o → (first_trouble ts ≡ Some o → IsFirst ts o) → IsFirst (t ∷ ts) o
    by None none rest later =
        let (k, u, here, same, before) = later rest in
        (suc k, u, here, same, earlier_too t ts k none before)
    by (Some u) same first later = (zero, t, refl, same ∙ first, λ j less. absurd (omega (arith, less)))

-- ---- All commands

module _ {D : Type 0} (tells : Bool) (state : D → State) (read : Option Config) (words : List (List ℕ)) (before after : Outside) where
  abbrev pub Cause : (status : ℕ) → Type 0
  Cause status = IsCause tells state read words before after status

  pub at_status : (k status : ℕ) → status ≡ k → Cause k → Cause status
  at_status k status is cause = subst Cause (sym is) cause

  -- the command that was read is done; it uses no trace
  done_without : (own : Command) → IsCommand words own → runs_trace own ≡ false → Cause 0
  done_without own is none = row.done own is (λ asks. absurd (true≢false (sym asks.does ∙ of_asked (λ c. runs_trace c ≡ false) uses_alike words own asks.command is asks.is none)))

  part_cause : AskFor words uses_bay → (p : Part) → Rose before.bay.faults after.bay.faults → Cause (trouble_status (trouble_of_part p))
  part_cause bay (part.Home volume) rose = row.part_failed bay rose
  part_cause bay (part.Segment volume index) rose = row.part_failed bay rose

  -- what a volume's trouble comes of
  trouble_cause : AskFor words uses_config → AskFor words uses_bay → (t : Trouble) → IsClosedFor tells state read before after (trouble_status t)
      → (trouble_status t ≡ 4 → Rose before.bay.faults after.bay.faults) → Cause (trouble_status t)
  trouble_cause config bay trouble.Absent is rose = row.no_image config is
  trouble_cause config bay (trouble.Length bytes) is rose = row.image config is
  trouble_cause config bay trouble.LabelDiffers is rose = row.image config is
  trouble_cause config bay (trouble.Damaged volume block) is rose = row.image config is
  trouble_cause config bay (trouble.Twins v first w second) is rose = row.image config is
  trouble_cause config bay (trouble.OutsideView logger segment) is rose = row.image config is
  trouble_cause config bay (trouble.LoggerMissing id) is rose = row.no_logger config is
  trouble_cause config bay trouble.Bay is rose = row.part_failed bay (rose refl)
  trouble_cause config bay trouble.Label is rose = row.part_failed bay (rose refl)
  trouble_cause config bay trouble.Home is rose = row.part_failed bay (rose refl)
  trouble_cause config bay (trouble.Segment logger index) is rose = row.part_failed bay (rose refl)

  module _ (status : ℕ) (sink : status ≡ 7 → Rose before.sink.faults after.sink.faults) where
    of_sink : status ≡ 7 → Cause status
    of_sink seven = at_status 7 status seven (row.sink_failed (sink seven))

    -- a last text was written, or the sink failed
    ended_cause : (text : List ℕ) (wanted : ℕ) (mid : Option (List ℕ)) → EndsWith text wanted status mid after.sink.bytes → (status ≡ wanted → Cause status) → Cause status
    ended_cause text wanted mid ends cause = elim (wanted_or_sink text wanted status mid after.sink.bytes ends) [
      | inl same ↦ cause same
      | inr seven ↦ of_sink seven
    ]

    -- there was no memory
    memory_cause : status ≡ 9 → Cause status
    memory_cause nine = at_status 9 status nine row.no_memory

    -- the configuration wasn't had
    unread_cause : AskFor words uses_config → (text : List ℕ) (wanted : ℕ) → IsFaultLine before.config.bytes before.config.faults after.config.faults text wanted → status ≡ wanted → Cause status
    unread_cause asks text wanted line same = elim (ends_unread _ _ _ text wanted line) [
      | inl (two, none) ↦ at_status 2 status (same ∙ two) (row.no_config asks none)
      | inr (inl (eight, rose)) ↦ at_status 8 status (same ∙ eight) (row.source_failed (inl rose))
      | inr (inr nine) ↦ at_status 9 status (same ∙ nine) row.no_memory
    ]

    -- the status is that of the fault, or the sink or memory failed
    told_cause : (names : List (List ℕ)) (f : Fault) (mid : Option (List ℕ)) → EndsWith (fault_text names f) (status_of f) status mid after.sink.bytes ⊎ TellsNoMemory status mid after.sink.bytes
        → (status ≡ status_of f → Cause status) → Cause status
    told_cause names f mid (inl ends) cause = ended_cause _ (status_of f) mid ends cause
    told_cause names f mid (inr ends) cause = ended_cause _ 9 mid ends memory_cause

    -- ---- Policies that were compared

    module _ (options : WhatIfOptions) (is : IsCommand words (WhatIf options)) (source : status ≡ 8 → Rose before.config.faults after.config.faults ⊎ Rose before.trace.faults after.trace.faults) where
      for_lines : AskFor words runs_trace
      for_lines = record { command = WhatIf options; is = is; does = refl }

      no_further : (now : GivenLines) (run : List (Option TraceLine)) (refusal : TraceFault) → refusal ≢ trace.NoMemory → Refuses (λ bytes. bytes) refusal (trace_of before.trace.bytes) now run
          → status ≡ status_of (fault_of_trace refusal) → Cause status
      no_further now run trace.Source other refuses same = at_status 8 status same (row.source_failed (source same))
      no_further now run (trace.Bad number why) other refuses same = at_status 3 status same (row.bad_line for_lines (bad_of before.trace.bytes now run (trace.Bad number why) refl refuses))
      no_further now run trace.Spent other refuses same = at_status 10 status same (row.more_lines for_lines (more_of before.trace.bytes now run trace.Spent refl refuses))
      no_further now run trace.NoMemory other refuses same = absurd (other refl)

      module _ (config : Config) (run : IsComparison (details_of options) config (trace_of before.trace.bytes) after.trace.bytes before.sink.faults after.sink.faults status before.sink.bytes after.sink.bytes) where
        of_behind : (ls : List (Option TraceLine)) (x : Result (Unit {0}) Stop) → EndsBehind (λ bytes. bytes) (details_of options) config (trace_of before.trace.bytes) run.now before.sink.faults run.over.sink_then before.sink.bytes run.over.printed_then ls x
            → EndsReplay config x status run.over.printed_then after.sink.bytes → Cause status
        of_behind ls x (behind.whole done all calm more) ends = at_status 0 status ends.0 (row.done (WhatIf options) is (λ asks. at_end before.trace.bytes after.trace.bytes run.now ls config run.rest all))
        of_behind ls x (behind.sink_failed all rose front) ends = of_sink ends.0
        of_behind ls x (behind.no_line refusal other refuses calm kept) ends = told_cause _ (fault_of_trace refusal) run.over.printed_then ends (no_further run.now ls refusal other refuses)
        of_behind ls x (behind.memory calm kept) ends = told_cause _ fault.Memory run.over.printed_then ends memory_cause

      pub comparison_cause : (o : Option Config) → IsComparisonOf options o before after status → Cause status
      comparison_cause (Some config) run = of_behind (with_timeout options.timeout_ms config) run run.compares.run run.over.result run.compares.ends run.over.ends
      comparison_cause None unread = ended_cause unread.text unread.wanted _ unread.ends (unread_cause (record { command = WhatIf options; is = is; does = refl }) unread.text unread.wanted unread.line_)

    pub gen_cause : (what : Generated) → IsCommand words (Gen what) → IsListingOf read before after status what → Cause status
    gen_cause what is run = elim (ends_gen what read _ _ _ status _ _ run) [
      | inl none ↦ at_status 0 status none (done_without (Gen what) is refl)
      | inr (inl (two, none)) ↦ at_status 2 status two (row.no_config (record { command = Gen what; is = is; does = refl }) none)
      | inr (inr (inl seven)) ↦ of_sink seven
      | inr (inr (inr (inl (eight, rose)))) ↦ at_status 8 status eight (row.source_failed (inl rose))
      | inr (inr (inr (inr nine))) ↦ at_status 9 status nine row.no_memory
    ]

    pub format_cause : IsCommand words Format → IsFormat read before after status → Cause status
    format_cause is run = elim (ends_format read _ _ _ _ _ status _ _ run) [
      | inl none ↦ at_status 0 status none (done_without Format is refl)
      | inr (inl (two, none)) ↦ at_status 2 status two (row.no_config (record { command = Format; is = is; does = refl }) none)
      | inr (inr (inl (four, rose))) ↦ at_status 4 status four (row.part_failed (record { command = Format; is = is; does = refl }) rose)
      | inr (inr (inr (inl seven))) ↦ of_sink seven
      | inr (inr (inr (inr (inl (eight, rose))))) ↦ at_status 8 status eight (row.source_failed (inl rose))
      | inr (inr (inr (inr (inr nine)))) ↦ at_status 9 status nine row.no_memory
    ]

    -- ---- One missing image

    module _ (missing : MissingName) (is : IsCommand words (FormatMissing missing)) where
      to_config : AskFor words uses_config
      to_config = record { command = FormatMissing missing; is = is; does = refl }

      to_bay : AskFor words uses_bay
      to_bay = record { command = FormatMissing missing; is = is; does = refl }

      module _ (config : Config) (has : read ≡ Some config) where
        asks_missing : {IsSo : Config → Option ℕ → Type 0} → IsSo config (number_named (names_of config.volumes.items) (missing_by missing)) → AsksMissing read words IsSo
        asks_missing so = record { config = config; is_read = has; missing = missing; is = is; so = so }

        unknown_cause : number_named (names_of config.volumes.items) (missing_by missing) ≡ None → Cause 15
        unknown_cause none = row.not_made (asks_missing (subst (MayNotMake tells before after config) (sym none) tt))

        module _ (run : IsNamed tells state (missing_by missing) config before.bay after.bay status before.sink.bytes after.sink.bytes) where
          named_so : {IsSo : Config → Option ℕ → Type 0} → IsSo config (Some run.id) → AsksMissing read words IsSo
          named_so {IsSo} so = asks_missing (subst (IsSo config) (sym run.named) so)

          it_is : (v : VolumeConf) (o : Option Told) → IfSome o (λ t. WasAccepted config t run.id v) → IfSome o (λ t. ((run.id ≡ run.id) × WasAccepted config t run.id v) ⊎ ((run.id ≢ run.id) × NamesInView config t run.id run.id v) ⊎ ((run.id ≢ run.id) × (index : ℕ) × HasSegmentOf config t run.id run.id v index))
          it_is v None has_ = tt
          it_is v (Some t) has_ = inl (refl, has_)

          it_has : (k : ℕ) (v : VolumeConf) (index : ℕ) → k ≢ run.id → (o : Option Told) → IfSome o (λ t. HasSegmentOf config t run.id k v index) → IfSome o (λ t. ((k ≡ run.id) × WasAccepted config t run.id v) ⊎ ((k ≢ run.id) × NamesInView config t run.id k v) ⊎ ((k ≢ run.id) × (i : ℕ) × HasSegmentOf config t run.id k v i))
          it_has k v index other None has_ = tt
          it_has k v index other (Some t) has_ = inr (inr (other, index, has_))

          it_names : (k : ℕ) (v : VolumeConf) → k ≢ run.id → (o : Option Told) → IfSome o (λ t. NamesInView config t run.id k v) → IfSome o (λ t. ((k ≡ run.id) × WasAccepted config t run.id v) ⊎ ((k ≢ run.id) × NamesInView config t run.id k v) ⊎ ((k ≢ run.id) × (i : ℕ) × HasSegmentOf config t run.id k v i))
          it_names k v other None has_ = tt
          it_names k v other (Some t) has_ = inr (inl (other, has_))

          -- an image that couldn't be read
          unread_image : (k : ℕ) (g : VolumeFault) → RefusesMissing tells state config run.id before.bay after.bay (Refused k g) → (trouble_status (trouble_of g) ≡ 5) ⊎ (trouble_status (trouble_of g) ≡ 12) → Cause (trouble_status (trouble_of g))
          unread_image k g why (inl five) = at_status 5 _ five (row.not_sound (named_so (k, why.1, g, why.2, why.0, why.3, five)))
          unread_image k g why (inr twelve) = at_status 12 _ twelve (row.not_there (named_so (k, why.1, g, why.2, why.0, why.3, twelve)))

          of_missing : (f : MissingFault) → RefusesMissing tells state config run.id before.bay after.bay f → (n : ℕ) → MissingEnd before.bay after.bay f n → Cause n
          of_missing f why n (end.failed rose) = row.part_failed to_bay rose
          of_missing f why n end.memory = row.no_memory
          of_missing f why n (end.there same) =
              let so = subst (RefusesMissing tells state config run.id before.bay after.bay) same why in
              row.not_made (named_so (run.id, so.0, so.1, λ telling. it_is so.0 before.bay.told (so.2 telling)))
          of_missing f why n (end.in_view k same) =
              let so = subst (RefusesMissing tells state config run.id before.bay after.bay) same why in
              row.not_made (named_so (k, so.1, so.2, λ telling. it_names k so.1 so.0 before.bay.told (so.3 telling)))
          of_missing f why n (end.segment k index same) =
              let so = subst (RefusesMissing tells state config run.id before.bay after.bay) same why in
              row.not_made (named_so (k, so.1, so.2, λ telling. it_has k so.1 index so.0 before.bay.told (so.3 telling)))
          of_missing f why n (end.image k g same other) = unread_image k g (subst (RefusesMissing tells state config run.id before.bay after.bay) same why) other

          of_answer : (r : Result (Unit {0}) MissingFault) → IfErr r (RefusesMissing tells state config run.id before.bay after.bay) → status ≡ answer_status r → Cause status
          of_answer (Ok done) why same = at_status 0 status same (done_without (FormatMissing missing) is refl)
          of_answer (Err f) why same = at_status (missing_status f) status same (of_missing f why (missing_status f) (missing_end tells state config run.id before.bay after.bay f why))

          named_cause : Cause status
          named_cause = elim run.ends [
            | inl ends ↦ ended_cause _ (answer_status run.result) before.sink.bytes ends (of_answer run.result run.refused)
            | inr ends ↦ ended_cause _ 9 before.sink.bytes ends memory_cause
          ]

        told_unknown : IsUnknown (missing_by missing) config before.bay after.bay status before.sink.bytes after.sink.bytes → Cause status
        told_unknown run = elim run.ends [
          | inl ends ↦ ended_cause _ 15 before.sink.bytes ends (λ same. at_status 15 status same (unknown_cause run.unknown))
          | inr ends ↦ ended_cause _ 9 before.sink.bytes ends memory_cause
        ]

      pub missing_cause : (o : Option Config) → read ≡ o → IsMissingOf tells state o before after status (missing_by missing) → Cause status
      missing_cause (Some config) has (inl run) = told_unknown config has run
      missing_cause (Some config) has (inr run) = named_cause config has run
      missing_cause None has unread = ended_cause unread.text unread.wanted _ unread.ends (unread_cause to_config unread.text unread.wanted unread.untouched.line_)

    module _ (command : Command) (is : IsCommand words command) (config_ : uses_config command ≡ true) (bay_ : uses_bay command ≡ true) where
      for_config : AskFor words uses_config
      for_config = record { command = command; is = is; does = config_ }

      for_bay : AskFor words uses_bay
      for_bay = record { command = command; is = is; does = bay_ }

      -- a volume that was refused, and those before it were opened
      refused_cause : (config : Config) → read ≡ Some config → (k : ℕ) (conf : VolumeConf) (out : List (Option (ImageRest D))) (f : VolumeFault) → slice_get config.volumes.items k ≡ Some conf
          → ((j : ℕ) (v : VolumeConf) → slice_get config.volumes.items j ≡ Some v → image_here out j ≡ None → (e : VolumeFault) × RefusesVolume tells state config out before.bay after.bay j v e)
          → (IsTrue tells → IfSome before.bay.told (λ t. WereThere config out t)) → RefusesVolume tells state config out before.bay after.bay k conf f
          → ((j : ℕ) → j < k → IsTrue tells → IfSome before.bay.told (λ images. WasOpened config (is_kept_home out) images j)) → (trouble_status (trouble_of f) ≡ 4 → Rose before.bay.faults after.bay.faults) → Cause (trouble_status (trouble_of f))
      refused_cause config has k conf out f conf_is missing there refuses first =
          trouble_cause for_config for_bay (trouble_of f) (record { config = config; is_read = has; volume = k; conf = conf; conf_is = conf_is; out = out; missing = missing; there = there; fault = f; refused = refuses; status_is = refl; first = first })

      -- the first volume that isn't open, and why it isn't
      closed_cause : (config : Config) → read ≡ Some config → (k : ℕ) (f : VolumeFault) → IsFirstClosed tells state config before.bay after.bay k f → Cause (trouble_status (trouble_of f))
      closed_cause config has k f first =
          refused_cause config has k first.conf first.out f first.conf_is missing first.there first.refused before_ (λ four. first.cause (of_call f _ first.names four))
        where
          missing : (j : ℕ) (v : VolumeConf) → slice_get config.volumes.items j ≡ Some v → image_here first.out j ≡ None → (e : VolumeFault) × RefusesVolume tells state config first.out before.bay after.bay j v e
          missing j v conf none = elim (first.each j v conf) [
            | inl left ↦ absurd (let no : true ≡ false = sym left.0 ∙ ap is_some none in cc no)
            | inr (e, why) ↦ (e, why.refused)
          ]

          before_ : (j : ℕ) → j < k → IsTrue tells → IfSome before.bay.told (λ images. WasOpened config (is_kept_home first.out) images j)
          before_ j less telling =
              at_entry (LeavesAsOpened config first.out j) (λ images. WasOpened config (is_kept_home first.out) images j) before.bay.told after.bay.told (λ images left is. is.was) ((first.before j less).1 telling)

      -- ---- Volumes that were looked at

      none_in : {A : Type 0} (j : ℕ) (x : A) → slice_get [] j ≡ Some x → ⊥
      none_in j x is = absurd (let no : None ≡ Some x = is in cc)

      -- where any volume was told, each image that was handed out was there
      all_there : (config : Config) (what : Asked) (told : List Telling) (are : Looked tells state config what before.bay after.bay told) → are.refused ≡ is_kept_home are.out → IsTrue tells → IfSome before.bay.told (λ t. WereThere config are.out t)
      all_there config what told are same telling = at_entry (BayLeft config are.refused are.histories) (λ t. WereThere config are.out t) before.bay.told after.bay.told
          (λ entry exit left k v at out. left.accepted_ k v at (ap (λ (f : ℕ → Bool). f k) same ∙ ap not out)) (are.run.left telling)

      -- a volume that was told in order was opened
      was_opened : (config : Config) (what : Asked) (told : List Telling) (are : Looked tells state config what before.bay after.bay told) → are.refused ≡ is_kept_home are.out → (j : ℕ) (u : Telling) → slice_get told j ≡ Some u → u.trouble ≡ None
          → IsTrue tells → IfSome before.bay.told (λ images. WasOpened config (is_kept_home are.out) images j)
      was_opened config what told are same j u here none telling = elim (are.each j u here) [
        | inl refusal ↦ absurd (let no : None ≡ Some (trouble_of refusal.fault) = sym none ∙ refusal.trouble in cc)
        | inr (inl order) ↦
            at_entry (BayLeft config are.refused are.histories) (λ images. WasOpened config (is_kept_home are.out) images j) before.bay.told after.bay.told (λ entry exit left.
            let was = left.begun j order.history order.opened in
            subst (λ (f : ℕ → Bool). WasOpened config f entry j) same (record {
              base = order.history.base;
              owner = (are.run.runs j order.history order.opened).owner;
              begun = was.begun;
              loggers = was.loggers;
            })) (are.run.left telling)
        | inr (inr part) ↦ absurd (let no : None ≡ Some _ = sym none ∙ part.trouble in cc)
      ]

      look_trouble : (config : Config) → read ≡ Some config → (what : Asked) (told : List Telling) → Looked tells state config what before.bay after.bay told
          → (o : Trouble) → IsFirst told o → Cause (trouble_status o)
      look_trouble config has what told are o (k, t, here, is_o, earlier) = elim (are.each k t here) [
        | inl refusal ↦
            let same : trouble_of refusal.fault ≡ o = same_Some (trouble_of refusal.fault) o (sym refusal.trouble ∙ is_o) in
            let same_out = are.are_out (λ empty. none_in k t (rw empty at here)) in
            let missing : (j : ℕ) (v : VolumeConf) → slice_get config.volumes.items j ≡ Some v → image_here are.out j ≡ None → (e : VolumeFault) × RefusesVolume tells state config are.out before.bay after.bay j v e = λ j v conf none. are.missing (λ empty. none_in k t (rw empty at here)) j v conf (ap (λ (f : ℕ → Bool). f j) same_out ∙ ap (λ (x : Option (ImageRest D)). not (is_some x)) none) in
            subst (λ (x : Trouble). Cause (trouble_status x)) same
            (refused_cause config has k refusal.conf are.out refusal.fault refusal.is_conf missing (all_there config what told are same_out) refusal.refuses (λ j less. (let (u, there, none) = earlier j less in was_opened config what told are same_out j u there none)) refusal.rose)
        | inr (inl order) ↦ absurd (let no : None ≡ Some o = sym order.trouble ∙ is_o in cc)
        | inr (inr part) ↦ subst (λ (x : Trouble). Cause (trouble_status x)) (same_Some (trouble_of_part (part_named k part.name)) o (sym part.trouble ∙ is_o)) (part_cause for_bay (part_named k part.name) ((are.run.runs k part.history part.opened).cause part.broken))
      ]

      pub look_cause : runs_trace command ≡ false → (what : Asked) → IsLookFor tells state read before after status what → Cause status
      look_cause none what run = ended_cause run.text run.wanted _ run.ends (λ same. by read refl run.allowed same)
        where
          of_look : (config : Config) → read ≡ Some config → (look : IsLook tells state what config before.bay after.bay run.text run.wanted) (first : Option Trouble) → first_trouble look.looked.told ≡ first
              → status ≡ status_of_first (first_trouble look.looked.told) → Cause status
          of_look config has look None is_first at = at_status 0 status (at ∙ ap status_of_first is_first) (done_without command is none)
          of_look config has look (Some o) is_first at = at_status (trouble_status o) status (at ∙ ap status_of_first is_first) (look_trouble config has what look.looked.told look.looked.are o (first_at look.looked.told o is_first))

          by : (o : Option Config) → read ≡ o → LooksFor tells state what o before.config.bytes before.config.faults after.config.faults before.bay after.bay run.text run.wanted → status ≡ run.wanted → Cause status
          by (Some config) has (inl look) same = of_look config has look (first_trouble look.looked.told) refl (same ∙ look.done)
          by (Some config) has (inr cut) same = memory_cause (same ∙ cut.memory)
          by None has untouched same = unread_cause for_config run.text run.wanted untouched.line_ same

      -- ---- A view that was to be changed

      module _ (verb : Verb) (named : Named) (changes : view_change_by command ≡ Some (verb, named)) (again : AskFor words changes_view) (none : runs_trace command ≡ false) where
        module _ (config : Config) (has : read ≡ Some config) (run : IsViewChange tells state verb named config before.bay after.bay before.sink.faults after.sink.faults status before.sink.bytes after.sink.bytes) where
          abbrev EndsSo : Result (Unit {0}) ViewStop → Type 0
          EndsSo r = EndsChange config run.order r status run.printed_then after.sink.bytes

          refused_for : (refusal : ViewRefusal) → RefusesChange tells config run.order before.bay after.bay refusal → HasRefusal tells read words before after
          refused_for refusal why = record { config = config; is_read = has; command = command; is = is; verb = verb; named = named; changes = changes; order = run.order; is_order = run.is_order; refusal = refusal; cause = why }

          -- a refusal was told, or the sink or memory failed
          of_refusal : (refusal : ViewRefusal) → RefusesChange tells config run.order before.bay after.bay refusal → EndsSo (Err (view_stop.Refused refusal)) → Cause status
          of_refusal refusal why (inl ends) = ended_cause _ 15 run.printed_then ends (λ same. at_status 15 status same (row.view_refused (refused_for refusal why)))
          of_refusal refusal why (inr ends) = ended_cause _ 9 run.printed_then ends memory_cause

          of_failure : (volume : ℕ) (t : Trouble) → FailsWith tells config volume before.bay after.bay t → Cause (trouble_status t)
          of_failure volume t (changed.part part base owner begun faulty rose) = part_cause for_bay (part_named volume part) rose
          of_failure volume t (changed.bay rose) = row.part_failed for_bay rose
          of_failure volume t (changed.label rose) = row.part_failed for_bay rose
          of_failure volume t (changed.damaged block damaged) = row.damaged_view again (record { config = config; is_read = has; volume = volume; block = block; damaged = damaged })
          of_failure volume t (changed.untold x other never) = row.image_again again x other never

          of_failed : (volume : ℕ) (f : Fault) → FailsFor tells config volume before.bay after.bay f → status ≡ status_of f → Cause status
          of_failed volume fault.Words fails same = absurd fails
          of_failed volume (fault.Config why) fails same = absurd fails
          of_failed volume (fault.Line number why) fails same = absurd fails
          of_failed volume (fault.Volume number t) fails same = at_status (trouble_status t) status same (of_failure volume t fails.1)
          of_failed volume fault.ConfigSource fails same = absurd fails
          of_failed volume fault.TraceSource fails same = absurd fails
          of_failed volume fault.Memory fails same = at_status 9 status same row.no_memory
          of_failed volume fault.Lines fails same = absurd fails
          of_failed volume (fault.Versions number) fails same = absurd fails

          module _ (volume logger : ℕ) (named_ : AreNamed config run.order volume logger) where
            abbrev change : Change
            change = change_of run.order.verb logger

            refused_open : (refusal : ViewRefusal) (view : List ℕ) → (IsTrue tells → IsTold (ChangesViewOf {T = Unit {0}} config volume change (Err (view_stop.Refused refusal)) view) before.bay.told after.bay.told)
                → RefusesChange tells config run.order before.bay after.bay refusal
            refused_open refusal view views = inr (
              volume,
              logger,
              named_,
              λ telling. on_told _ _ before.bay.told after.bay.told (views telling) (λ old new h. record { ids = h.ids; at_entry = h.at_entry; cause = h.becomes.0 }),
            )

            of_open : (view : List ℕ) (r : Result (Unit {0}) ViewStop) → ChangesOpen tells config volume change view before.bay after.bay r → EndsSo r → Cause status
            of_open view (Ok done) open_ ends = at_status 0 status ends.0 (done_without command is none)
            of_open view (Err view_stop.Sink) open_ ends = of_sink ends.0
            of_open view (Err (view_stop.Refused refusal)) open_ ends = of_refusal refusal (refused_open refusal view open_.views) ends
            of_open view (Err (view_stop.Fault f)) open_ ends = told_cause _ f run.printed_then ends (of_failed volume f (open_.fails f refl))

          of_change : (r : Result (Unit {0}) ViewStop) → ChangesView tells state config run.order before.bay after.bay before.sink.faults run.sink_then before.sink.bytes run.printed_then r → EndsSo r → Cause status
          of_change r (changed.unknown refusal unknown prints same) ends = of_refusal refusal (inl unknown) ends
          of_change r (changed.no_memory volume logger named_ prints leaves) ends = told_cause _ fault.Memory run.printed_then ends memory_cause
          of_change r (changed.closed volume logger k f named_ prints first leaves) ends =
              told_cause _ (fault.Volume k (trouble_of f)) run.printed_then ends (λ same. at_status (trouble_status (trouble_of f)) status same (closed_cause config has k f first))
          of_change r (changed.opened volume logger view x named_ prints open_) ends = of_open volume logger named_ view x open_ ends

        pub view_cause : (o : Option Config) → read ≡ o → IsViewChangeOf tells state o before after status (verb, named) → Cause status
        view_cause (Some config) has run = of_change config has run run.result run.changes run.ends
        view_cause None has unread = ended_cause unread.text unread.wanted _ unread.ends (unread_cause for_config unread.text unread.wanted unread.untouched.line_)

      -- ---- Volumes that were cleaned

      module _ (cleans_ : IsCommand words Clean) where
        module _ (config : Config) (has : read ≡ Some config) (run : IsCleaning tells state config before.bay after.bay before.sink.faults after.sink.faults status before.sink.bytes after.sink.bytes) where
          of_clean_fault : (n : ℕ) (f : CleanFault) → CleansVolume tells state config before.bay after.bay n (Err f) → status ≡ status_of (fault_of n f) → Cause status
          of_clean_fault n (DiskFault p) cleans same = at_status (trouble_status (trouble_of_part p)) status same (part_cause for_bay p (cleans.cause p refl))
          of_clean_fault n VersionsSpent cleans same = at_status 11 status same (row.no_version_to_copy cleans_ (record { config = config; is_read = has; base = cleans.base.volume.began; begun = cleans.begun; lacks = cleans.spent refl }))
          of_clean_fault n NoMemory cleans same = at_status 9 status same row.no_memory

          of_cleaned : (r : Result (Unit {0}) Stop) → EndsCleaning tells state config before.bay after.bay before.sink.faults run.over.sink_then before.sink.bytes run.over.printed_then r → EndsReplay config r status run.over.printed_then after.sink.bytes → Cause status
          of_cleaned r (cleaned.whole told are all calm more) ends = at_status 0 status ends.0 (done_without Clean cleans_ refl)
          of_cleaned r (cleaned.refused told f are less cleans calm more) ends = told_cause _ (fault_of _ f) run.over.printed_then ends (of_clean_fault _ f cleans)
          of_cleaned r (cleaned.no_memory told c are calm more) ends = told_cause _ fault.Memory run.over.printed_then ends memory_cause
          of_cleaned r (cleaned.sink_failed told c are rose front) ends = of_sink ends.0

          of_bay : (r : Result (Unit {0}) Stop) → CleansBay tells state config before.bay after.bay before.sink.faults run.over.sink_then before.sink.bytes run.over.printed_then r → EndsReplay config r status run.over.printed_then after.sink.bytes → Cause status
          of_bay r (cleaned.unopened calm kept) ends = told_cause _ fault.Memory run.over.printed_then ends memory_cause
          of_bay r (cleaned.closed k f calm kept first) ends =
              told_cause _ (fault.Volume k (trouble_of f)) run.over.printed_then ends (λ same. at_status (trouble_status (trouble_of f)) status same (closed_cause config has k f first))
          of_bay r (cleaned.ran x ended arrays fronts) ends = of_cleaned x ended ends

        pub clean_cause : (o : Option Config) → read ≡ o → IsCleaningOf tells state o before after status → Cause status
        clean_cause (Some config) has run = of_bay config has run run.over.result run.cleans run.over.ends
        clean_cause None has unread = ended_cause unread.text unread.wanted _ unread.ends (unread_cause for_config unread.text unread.wanted unread.untouched.line_)

      -- ---- A volume that was served

      module _ (begins : Beginning) (name : List ℕ) (serves_ : served_as command ≡ Some (begins, name)) (none : runs_trace command ≡ false) where
        abbrev from : Wire
        from = wire before.trace.bytes before.trace.faults before.sink.bytes before.sink.faults

        abbrev to : Wire
        to = wire after.trace.bytes after.trace.faults after.sink.bytes after.sink.faults

        bad_client : HasBadBytes begins before.trace.bytes after.trace.bytes → Cause 14
        bad_client bad = row.bad_client (record { command = command; is = is; begins = begins; name = name; serves = serves_; bad = bad })

        of_fault : (f : NbdFault) → CountsFaults {T = Ended} from.source_faults to.source_faults from.sink_faults to.sink_faults (Err f) → status ≡ status_of_answer (answer_of (Err f)) → Cause status
        of_fault nbd_fault.Source counts same = at_status 8 status same (row.source_failed (inr counts.0))
        of_fault nbd_fault.Sink counts same = of_sink same
        of_fault nbd_fault.NoMemory counts same = at_status 9 status same row.no_memory

        module _ (config : Config) (volume : ℕ) where
          of_session : (begun : Wire) (answer : Result Ended NbdFault) → Begins config volume begins from begun (Ok Agreed) → ServesOpen tells config volume before.bay after.bay begun to answer → status ≡ status_of_answer (answer_of answer) → Cause status
          of_session begun (Ok nbd_ended.Disc) begins_ serves same = at_status 0 status same (done_without command is none)
          of_session begun (Ok nbd_ended.End) begins_ serves same = at_status 0 status same (done_without command is none)
          of_session begun (Ok (nbd_ended.BadMagic at)) begins_ serves same = at_status 14 status same (bad_client (bad_behind config volume begins from begun to begins_ (bad_magic serves.session)))
          of_session begun (Ok (nbd_ended.Cut at)) begins_ serves same = at_status 14 status same (bad_client (bad_behind config volume begins from begun to begins_ (cut_request serves.session)))
          of_session begun (Err f) begins_ serves same = of_fault f (counts_behind {T = Ended} config volume begins from begun to (Err f) begins_ serves.faults) same

          of_unagreed : (why : Unagreed) → Begins config volume begins from to (Ok (NotAgreed why)) → status ≡ unagreed_status why → Cause status
          of_unagreed unagreed.Aborted begins_ same = at_status 0 status same (done_without command is none)
          of_unagreed unagreed.End begins_ same = at_status 0 status same (done_without command is none)
          of_unagreed unagreed.Cut begins_ same = at_status 14 status same (bad_client (bad_handshake config volume begins from to unagreed.Cut begins_ refl))
          of_unagreed unagreed.BadFlags begins_ same = at_status 14 status same (bad_client (bad_handshake config volume begins from to unagreed.BadFlags begins_ refl))
          of_unagreed unagreed.BadMagic begins_ same = at_status 14 status same (bad_client (bad_handshake config volume begins from to unagreed.BadMagic begins_ refl))
          of_unagreed unagreed.TooLong begins_ same = at_status 14 status same (bad_client (bad_handshake config volume begins from to unagreed.TooLong begins_ refl))
          of_unagreed unagreed.TooMany begins_ same = at_status 14 status same (bad_client (bad_handshake config volume begins from to unagreed.TooMany begins_ refl))
          of_unagreed unagreed.Unoffered begins_ same = at_status 14 status same (bad_client (bad_handshake config volume begins from to unagreed.Unoffered begins_ refl))

        of_named : (config : Config) → read ≡ Some config → (r : Result Ended NbdStop) → ServesNamed tells state config begins name before.bay after.bay from to r → status ≡ status_of_answer r → Cause status
        of_named config has r (nbd_case.unknown unknown_ bay same_wire) same =
            at_status 15 status same (row.unknown_volume (record { config = config; is_read = has; command = command; is = is; begins = begins; name = name; serves = serves_; unknown = unknown_ }))
        of_named config has r (nbd_case.no_memory volume is_named leaves same_wire) same = at_status 9 status same row.no_memory
        of_named config has r (nbd_case.closed volume k f is_named first leaves same_wire) same = at_status (trouble_status (trouble_of f)) status same (closed_cause config has k f first)
        of_named config has r (nbd_case.unagreed volume why is_named begins_ leaves) same = of_unagreed config volume why begins_ same
        of_named config has r (nbd_case.unbegun volume f is_named begins_ leaves) same = of_fault f (fault_of_any Shaken Ended from.source_faults to.source_faults from.sink_faults to.sink_faults f (faults_begun config volume begins from to f begins_)) same
        of_named config has r (nbd_case.served volume begun answer is_named begins_ serves) same = of_session config volume begun answer begins_ serves same

        pub serving_cause : (o : Option Config) → read ≡ o → IsServingOf tells state o before after status (begins, name) → Cause status
        serving_cause (Some config) has run = of_named config has run.result run.serves run.done
        serving_cause None has (inl unread) = unread_cause for_config (line_of_fault unread.fault) (status_of unread.fault) (line_unread unread.fault _ _ _ unread.cause) unread.told
        serving_cause None has (inr none_) = ended_cause _ 9 _ none_.ends memory_cause

      -- ---- Lines that were replayed

      module _ (how : Serving) (start : GivenLines) (replays : replayed_by command before.trace.bytes ≡ Some (how, start))
          (source : status ≡ 8 → Rose before.config.faults after.config.faults ⊎ Rose before.trace.faults after.trace.faults)
          (line : status ≡ 3 → AskFor words runs_trace × HasBadLine before.trace.bytes) (lines : status ≡ 10 → AskFor words runs_trace × HasMoreLines before.trace.bytes)
          (ended : (now : GivenLines) (run : List (Option TraceLine)) (config : Config) → HasLeft now after.trace.bytes → HasGivenAll (λ bytes. bytes) (targets_of config) start now run → AskFor words runs_trace → IsAtEnd after.trace.bytes) where
        module _ (config : Config) (has : read ≡ Some config) (run : IsReplay tells state how config start after.trace.bytes before.bay after.bay before.sink.faults after.sink.faults status before.sink.bytes after.sink.bytes) where
          abbrev Ends : Result (Unit {0}) Stop → Type 0
          Ends r = EndsReplay config r status run.over.printed_then after.sink.bytes

          of_line : (refusal : TraceFault) → refusal ≢ trace.NoMemory → status ≡ status_of (fault_of_trace refusal) → Cause status
          of_line trace.Source other same = at_status 8 status same (row.source_failed (source same))
          of_line (trace.Bad number why) other same = at_status 3 status same (row.bad_line (line same).0 (line same).1)
          of_line trace.Spent other same = at_status 10 status same (row.more_lines (lines same).0 (lines same).1)
          of_line trace.NoMemory other same = absurd (other refl)

          module _ (r : Result (Unit {0}) Stop) (of : Replays tells (λ bytes. bytes) config how start run.now before.bay after.bay r before.sink.faults run.over.sink_then before.sink.bytes run.over.printed_then) where
            of_versions : (v : ℕ) (s : ServedWindow) → of.last ≡ s ∷ [] → HasRefusedWrite v s → r ≡ Err (stop.Fault (fault.Versions v)) → Cause 11
            of_versions v s only write told =
                let spent = spent_of tells (λ bytes. bytes) config how start run.now before.bay after.bay r before.sink.faults run.over.sink_then before.sink.bytes run.over.printed_then of v s only write told in
                row.no_version for_config
                (record { config = config; is_read = has; command = command; is = is; how = how; start = start; replays = replays; now = run.now; lines = of.run; more = of.more; given = of.given; rest = run.rest; ahead = of.ahead (λ none. let no : s ∷ [] ≡ [] = sym only ∙ none in cc); base = spent.base; begun = spent.begun; logged = spent.logged; few = spent.few; spent = spent.spent })

            of_end : (x : Result (Unit {0}) Stop) → x ≡ r → EndsFor (λ bytes. bytes) config start run.now of.run of.last before.bay.faults after.bay.faults before.sink.faults run.over.sink_then x → Ends x → Cause status
            of_end x same (whole d none all) ends = at_status 0 status ends.0 (row.done command is (ended run.now of.run config run.rest all))
            of_end x same (no_line refusal other empty refuses) ends = told_cause _ (fault_of_trace refusal) run.over.printed_then ends (of_line refusal other)
            of_end x same (refused f s only told rose versions) ends = told_cause _ f run.over.printed_then ends (λ at. elim (ends_window s.batch.requests s.answer f told) [
              | inl (part, four) ↦ at_status 4 status (at ∙ four) (row.part_failed for_bay (rose part))
              | inr (inl lacks) ↦ at_status 9 status (at ∙ ap status_of lacks) row.no_memory
              | inr (inr (v, spent)) ↦ at_status 11 status (at ∙ ap status_of spent) (of_versions v s only (versions v spent) (sym same ∙ ap (λ (y : Fault). Err (stop.Fault y)) spent))
            ])
            of_end x same memory ends = told_cause _ fault.Memory run.over.printed_then ends memory_cause
            of_end x same (sink_failed rose) ends = of_sink ends.0

          of_replayed : (r : Result (Unit {0}) Stop) → Replayed tells state (λ bytes. bytes) config how start run.now before.bay after.bay before.sink.faults run.over.sink_then before.sink.bytes run.over.printed_then r → Ends r → Cause status
          of_replayed r (no_memory asks leaves) ends = told_cause _ fault.Memory run.over.printed_then ends memory_cause
          of_replayed r (closed k f asks first leaves) ends =
              told_cause _ (fault.Volume k (trouble_of f)) run.over.printed_then ends (λ same. at_status (trouble_status (trouble_of f)) status same (closed_cause config has k f first))
          of_replayed r (ran r2 of) ends = of_end r2 of r2 refl of.ends ends

        pub replay_cause : (o : Option Config) → read ≡ o → IsReplayOf tells state o before after status (how, start) → Cause status
        replay_cause (Some config) has run = of_replayed config has run run.over.result run.replayed run.over.ends
        replay_cause None has unread = ended_cause unread.text unread.wanted _ unread.ends (unread_cause for_config unread.text unread.wanted unread.untouched.line_)
