-- What a run of the program promises, by its words, by what was outside before and after, and by
-- its status. Of what doesn't tell its bytes nothing is said.
use Rattle.std.specs.Prelude.{◌≡◌, ◌<◌, ◌⊎◌, ℕ, Bool, true, List, Option, Some, IfSome, codes}
use Rattle.wol_disk.specs.Disk.{State}
use Rattle.solo.specs.Volume.{target_of}
use Rattle.solo.specs.declared.volume.Volume.{Volume}
use Rattle.wol_config.specs.declared.config.Config.{Config}
use Rattle.inspection.specs.declared.asked.Asked.{Asked}
use Rattle.inspection.specs.declared.asked.Asked.TheVariants as asked
use Rattle.replay.specs.Account.{KeepsAccount}
use Rattle.replay.specs.Headlined.{KeepsHeadline}
use Rattle.replay.specs.declared.session.Options.{Options as Serving}
use Rattle.command_words.specs.Commands.{IsCommand, NoCommand}
use Rattle.command_words.specs.declared.command.Command.{Command}
use Rattle.command_words.specs.declared.command.Command.TheVariants.{Check, Clean, Dump, Format, FormatMissing, Gen, Nbd, Replay, Serve, Soak, Solo, ViewAdd, ViewRemove, WhatIf}
use Rattle.command_words.specs.declared.command.Generated.{Generated}
use Rattle.command_words.specs.declared.command.WhatIfOptions.{WhatIfOptions}
use Rattle.command_words.specs.Table.{Named}
use Rattle.command_words.specs.Values.{missing_by, named_by, served_by}
use Rattle.nbd_serving.specs.declared.serving.Beginning.{Beginning}
use Rattle.nbd_serving.specs.declared.serving.Beginning.TheVariants.{AtOnce, Handshake}
use Rattle.view_commands.specs.declared.order.Verb.{Verb}
use Rattle.view_commands.specs.declared.order.Verb.TheVariants.{Add, Remove}
use Rattle.wol_run.specs.Adding.{RunsMissing}
use Rattle.wol_run.specs.Causes.{IsCause, replayed_by}
use Rattle.wol_run.specs.Cleaning.{RunsCleaning}
use Rattle.wol_run.specs.Commands.{changes_view, makes_missing, serves_client, uses_config}
use Rattle.wol_run.specs.Comparing.{RunsWhatIf}
use Rattle.wol_run.specs.Completing.{HasSoundImages, HaveVersions, HaveVersionsToClean, IsGoodTrace, seed_lines}
use Rattle.wol_run.specs.Formatting.{RunsFormat}
use Rattle.wol_run.specs.Generating.{RunsGen}
use Rattle.wol_run.specs.Inspecting.{RunsLook}
use Rattle.wol_run.specs.Outside.{LeavesUnused, NothingFailed, Outside}
use Rattle.wol_run.specs.Replaying.{GivenLines, RunsKept, RunsReplay, lines_of, options_as, trace_of}
use Rattle.wol_run.specs.Serving.{RunsServing}
use Rattle.wol_run.specs.Settings.{HasConfig, HasNoConfig, IsConfigured}
use Rattle.nbd_serving.specs.Wires.{wire}
use Rattle.wol_run.specs.Tops.{EndsWith, IsDoneOrMemory, IsRunnable, RunsSolo, TellsNoMemory}
use Rattle.wol_run.specs.Viewing.{RunsViewChange}

-- ---- What each command does, of what is outside, by the configuration that was read

module _ {D : Type 0} (tells : Bool) (state : D → State) (read : Option Config)
    (before after : Outside) (status : ℕ) where
  -- this is kept of lines that were replayed
  abbrev pub IsKeptOf : (start : GivenLines) → (Config → GivenLines → Type 0) → Type 0
  IsKeptOf start Keeps =
      RunsKept Keeps read start before.config.bytes before.config.faults after.config.faults
      after.trace.bytes before.bay after.bay status before.sink.bytes after.sink.bytes

  -- the headline of lines that were replayed so
  abbrev pub IsHeadlineOf : Serving × GivenLines → Type 0
  IsHeadlineOf (how, start) =
      IsKeptOf start (λ config now. KeepsHeadline tells state (λ bytes. bytes) config how.each start
      now before.bay after.bay status before.sink.bytes after.sink.bytes)

  -- the account of lines that were replayed so
  abbrev pub IsAccountOf : Serving × GivenLines → Type 0
  IsAccountOf (how, start) =
      IsKeptOf start (λ config now. KeepsAccount tells state (λ bytes. bytes) config how.reclaim
      start now before.bay after.bay status before.sink.bytes after.sink.bytes)

  -- lines were replayed so
  abbrev pub IsReplayOf : Serving × GivenLines → Type 0
  IsReplayOf (how, start) =
      RunsReplay tells state how read start before.config.bytes
      before.config.faults after.config.faults after.trace.bytes
      before.bay after.bay before.sink.faults after.sink.faults status
      before.sink.bytes after.sink.bytes

  -- the volumes were looked at
  abbrev pub IsLookFor : Asked → Type 0
  IsLookFor what =
      RunsLook tells state what read before.config.bytes before.config.faults after.config.faults
      before.bay after.bay status before.sink.bytes after.sink.bytes

  -- a view was to be changed so
  abbrev pub IsViewChangeOf : Verb × Named → Type 0
  IsViewChangeOf (verb, named) =
      RunsViewChange tells state verb named read before.config.bytes
      before.config.faults after.config.faults
      before.bay after.bay before.sink.faults after.sink.faults status
      before.sink.bytes after.sink.bytes

  -- the volumes were cleaned
  abbrev pub IsCleaningOf : Type 0
  IsCleaningOf =
      RunsCleaning tells state read before.config.bytes before.config.faults after.config.faults
      before.bay after.bay before.sink.faults after.sink.faults status
      before.sink.bytes after.sink.bytes

  -- the image of the volume of this name, which has none, was to be made
  abbrev pub IsMissingOf : (name : List ℕ) → Type 0
  IsMissingOf name =
      RunsMissing tells state name read before.config.bytes before.config.faults
      after.config.faults before.bay after.bay status before.sink.bytes after.sink.bytes

  -- the volume of this name was served to a client, at once or behind a handshake
  abbrev pub IsServingOf : Beginning × List ℕ → Type 0
  IsServingOf (begins, name) =
      RunsServing tells state begins name read before.config.bytes before.config.faults
      after.config.faults
      before.bay after.bay
      (wire before.trace.bytes before.trace.faults before.sink.bytes before.sink.faults)
      (wire after.trace.bytes after.trace.faults after.sink.bytes after.sink.faults) status

-- the images were made anew
abbrev pub IsFormat : (read : Option Config) → (before after : Outside) → (status : ℕ) → Type 0
IsFormat read before after status =
    RunsFormat read before.config.bytes before.config.faults after.config.faults
    before.bay after.bay status before.sink.bytes after.sink.bytes

-- lines of a seed were printed
abbrev pub IsListingOf : (read : Option Config) → (before after : Outside) → (status : ℕ)
    → Generated → Type 0
IsListingOf read before after status what =
    RunsGen what read before.config.bytes before.config.faults after.config.faults status
    before.sink.bytes after.sink.bytes

-- the lines of one volume were run on an image of its own
abbrev pub IsSoloOf : (before after : Outside) → (status : ℕ) → Volume → Type 0
IsSoloOf before after status volume =
    RunsSolo (target_of volume) before.trace.bytes after.trace.bytes before.bay.told after.bay.told
    before.bay.faults after.bay.faults before.trace.faults after.trace.faults status
    before.sink.bytes after.sink.bytes

-- the policies were compared on the trace
abbrev pub IsComparisonOf : WhatIfOptions → (read : Option Config) → (before after : Outside)
    → (status : ℕ) → Type 0
IsComparisonOf options read before after status =
    RunsWhatIf options read (trace_of before.trace.bytes) before.config.bytes
    before.config.faults after.config.faults after.trace.bytes
    before.sink.faults after.sink.faults status before.sink.bytes after.sink.bytes

module _ {D : Type 0} (tells : Bool) (state : D → State) (read : Option Config)
    (before after : Outside) (status : ℕ) where
  -- what a command does: a row for each
  abbrev pub Does : Command → Type 0
  -- solo: the lines of one volume were run on an image of its own
  Does (Solo volume) = IsSoloOf before after status volume
  -- format: each image is as it was, has no label or is whole; at status 0 all recover to zeros
  Does Format = IsFormat read before after status
  -- format NAME: at status 0 the volume's image, of which there was none, is sound and recovers to
  -- zeros; whatever the status, of another image a crash may leave only what it might have before
  Does (FormatMissing missing) = IsMissingOf tells state read before after status (missing_by missing)
  -- replay, soak: how many requests were answered, what was printed, what the images recover to,
  -- and what the policy and the disks did
  Does (Replay options) =
      IsReplayOf tells state read before after status
      (options_as options, trace_of before.trace.bytes)
  Does (Soak what options) =
      IsReplayOf tells state read before after status (options_as options, lines_of what)
  -- check, dump: a line or more for each volume, by what its image and the others say as they read,
  -- or by its first fault
  Does Check = IsLookFor tells state read before after status asked.Check
  Does Dump = IsLookFor tells state read before after status asked.Dump
  -- gen: the first lines of the seed
  Does (Gen what) = IsListingOf read before after status what
  -- whatif: what each policy would use for the trace, or why no further line came
  Does (WhatIf options) = IsComparisonOf options read before after status
  -- view-add, view-remove: the new view, what the images recover to, or why nothing changed
  Does (ViewAdd names) =
      IsViewChangeOf tells state read before after status (Add, named_by names)
  Does (ViewRemove names) =
      IsViewChangeOf tells state read before after status (Remove, named_by names)
  -- clean: a line for each volume, with what its cleaning came to, or why it was the last; each
  -- image recovers to what it recovered to before
  Does Clean = IsCleaningOf tells state read before after status
  -- nbd: a session of requests and their replies, and what the images recover to after it
  Does (Nbd name) = IsServingOf tells state read before after status (AtOnce, served_by name)
  -- serve: the same behind a handshake on the volume, of which nothing is told before it is open
  Does (Serve name patience) =
      IsServingOf tells state read before after status (Handshake, served_by name)

-- ---- What a run needs

-- the command needs a configuration, and the bytes that are told are none
abbrev pub IsUnconfigured : Command → Outside → Type 0
IsUnconfigured command before =
    (uses_config command ≡ true) × (bytes : List ℕ)
    × (before.config.bytes ≡ Some bytes) × HasNoConfig (Some bytes)

-- what a command reads is in order
abbrev pub ReadsInOrder : (tells : Bool) → Command → Outside → Type 0
ReadsInOrder tells (Solo volume) before = IsRunnable before.trace.bytes
ReadsInOrder tells (Gen what) before = IsConfigured before.config.bytes
ReadsInOrder tells Format before = IsConfigured before.config.bytes
ReadsInOrder tells (FormatMissing missing) before = IsConfigured before.config.bytes
ReadsInOrder tells Check before =
    IsConfigured before.config.bytes × HasSoundImages tells before.config.bytes before.bay
ReadsInOrder tells Dump before =
    IsConfigured before.config.bytes × HasSoundImages tells before.config.bytes before.bay
ReadsInOrder tells (Replay options) before =
    IsConfigured before.config.bytes
    × (images : HasSoundImages tells before.config.bytes before.bay)
    × (lines : List _) × IsGoodTrace before.trace.bytes lines
    × HaveVersions before.config.bytes images.entry (λ config. lines)
ReadsInOrder tells (Soak what options) before =
    IsConfigured before.config.bytes
    × (images : HasSoundImages tells before.config.bytes before.bay)
    × HaveVersions before.config.bytes images.entry (seed_lines what)
ReadsInOrder tells (WhatIf options) before =
    IsConfigured before.config.bytes × (lines : List _) × IsGoodTrace before.trace.bytes lines
ReadsInOrder tells (ViewAdd names) before =
    IsConfigured before.config.bytes × HasSoundImages tells before.config.bytes before.bay
ReadsInOrder tells (ViewRemove names) before =
    IsConfigured before.config.bytes × HasSoundImages tells before.config.bytes before.bay
ReadsInOrder tells Clean before =
    IsConfigured before.config.bytes
    × (images : HasSoundImages tells before.config.bytes before.bay)
    × HaveVersionsToClean before.config.bytes images.entry
ReadsInOrder tells (Nbd name) before =
    IsConfigured before.config.bytes × HasSoundImages tells before.config.bytes before.bay
ReadsInOrder tells (Serve name patience) before =
    IsConfigured before.config.bytes × HasSoundImages tells before.config.bytes before.bay

-- the command is done, or out of memory; or a view can't be changed as the words ask, or a client's
-- bytes or the volume's name are none; or the image of a volume that is to be made is refused, or one
-- that is read before
abbrev pub ComesToItsEnd : Command → (status : ℕ) → Type 0
ComesToItsEnd command status =
    IsDoneOrMemory status ⊎ ((changes_view command ≡ true) × (status ≡ 15))
    ⊎ ((serves_client command ≡ true) × ((status ≡ 14) ⊎ (status ≡ 15)))
    ⊎ ((makes_missing command ≡ true)
    × ((status ≡ 5) ⊎ (status ≡ 12) ⊎ (status ≡ 15)))

-- ---- The whole

pub record Run {D : Type 0} (tells : Bool) (state : D → State) (words : List (List ℕ))
    (before after : Outside) (status : ℕ) : Type 0 where
  -- the configuration that was read, of which all that follows speaks; none where it wasn't had
  pub read : Option Config
  -- it is what its bytes say; where these aren't told, it is some valid one
  pub is_read : IfSome read (HasConfig before.config.bytes)
  -- replay, soak, where disks tell what they hold: each answered read has the mark of every block's
  -- last acknowledged write, and wherever the disks stop, images recover to the acknowledged writes
  -- and at most what was in flight
  pub headline : (command : Command) → IsCommand words command
      → IfSome (replayed_by command before.trace.bytes)
      (IsHeadlineOf tells state read before after status)
  -- replay, soak, where disks tell: writes were placed and records reclaimed by the rules; at
  -- status 0 a summary counts that and the disks' modelled time and energy
  pub account : (command : Command) → IsCommand words command
      → IfSome (replayed_by command before.trace.bytes)
      (IsAccountOf tells state read before after status)
  -- the command does what its row says
  pub does : (command : Command) → IsCommand words command
      → Does tells state read before after status command
  -- where the words are no command, that is told, unless the output or memory failed
  pub refused : NoCommand words
      → EndsWith (codes "fault 1 words\n") 1 status before.sink.bytes after.sink.bytes
      ⊎ TellsNoMemory status before.sink.bytes after.sink.bytes
  -- the status is one of 0 to 12, 14 and 15; each but 9, out of memory, has its cause
  pub cause : IsCause tells state read words before after status
  -- the status is 7 where the output failed (the count of its faults ends at its last value)
  pub sink : before.sink.faults < after.sink.faults → status ≡ 7
  -- a configuration that is needed and isn't valid is told, unless input, output or memory failed
  pub config : (command : Command) → IsCommand words command → IsUnconfigured command before
      → (status ≡ 2) ⊎ (status ≡ 7) ⊎ (status ≡ 8) ⊎ (status ≡ 9)
  -- what the command has no use for is as it was
  pub unused : LeavesUnused words before after
  -- where disks tell, no call failed and what is read is in order, the command is done, unless
  -- memory ran out, or a view's change, a client's bytes or a name is refused
  pub complete : (command : Command) → IsCommand words command → ReadsInOrder tells command before
      → NothingFailed command before after → ComesToItsEnd command status
