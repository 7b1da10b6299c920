-- What replaying a trace on the volumes of the configuration leaves and prints, and its exit
-- status.
use Rattle.std.specs.Prelude.{◌≡◌, ◌≤◌, ℕ, ◌⊎◌, ⊤, Bool, true, List, [], Option, None, Some, Result, Ok, Err}
use Rattle.wol_disk.specs.Disk.{State}
use Rattle.wol_bay.specs.Bay.{BayState}
use Rattle.wol_config.specs.declared.config.Config.{Config}
use Rattle.report.specs.Faults.{fault_text, status_of}
use Rattle.report.specs.Names.{printed_names}
use Rattle.volume_images.specs.Left.{IsTold}
use Rattle.rack.specs.Opens.{KeepsOthers}
use Rattle.replay.specs.Replays.{Replayed}
use Rattle.replay.specs.declared.given.Given.{Given}
use Rattle.replay.specs.declared.given.Given.TheVariants as given
use Rattle.replay.specs.declared.session.Options.{Options as Serving}
use Rattle.replay.specs.declared.stop.Stop.{Stop}
use Rattle.replay.specs.declared.stop.Stop.TheVariants as stop
use Rattle.command_words.specs.declared.command.Generated.{Generated}
use Rattle.command_words.specs.declared.command.Options.{Options}
use Rattle.command_words.specs.declared.command.Mode.{Mode}
use Rattle.command_words.specs.declared.command.Mode.TheVariants as mode
use Rattle.window_desks.specs.declared.request.Reclaim.{Reclaim}
use Rattle.window_desks.specs.declared.request.Reclaim.TheVariants as reclaim
use Rattle.window_desks.specs.declared.request.Sharing.TheVariants.{WherePays}
use Rattle.wol_run.specs.Formatting.{IsUntouched}
use Rattle.wol_run.specs.Tops.{EndsWith, TellsNoMemory}

-- lines of a source that is seen as the bytes that are left of it, or of a seed
abbrev pub GivenLines : Type 0
GivenLines = Given (Option (List ℕ))

-- a trace with these bytes, of which no line was read
abbrev pub trace_of : Option (List ℕ) → GivenLines
trace_of left = given.Trace (record { source = left; held = []; given = 0; live = true })

-- the lines of a seed that are asked for, of which none was given
abbrev pub lines_of : Generated → GivenLines
lines_of asked = given.Generated (record { seed = asked.seed; given = 0 }) asked.lines

-- lines of any source are seen so
abbrev pub seen : {S : Type 0} → (S → Option (List ℕ)) → Given S → GivenLines
seen left (given.Trace r) =
    given.Trace (record { source = left r.source; held = r.held; given = r.given; live = r.live })
seen left (given.Generated g count) = given.Generated g count

-- they come of a source
abbrev pub HasSource : {S : Type 0} → Given S → Type 0
HasSource (given.Trace r) = ⊤
HasSource (given.Generated g count) = ⊥

-- these bytes are left of the source
abbrev pub HasLeft : GivenLines → Option (List ℕ) → Type 0
HasLeft (given.Trace r) left = r.source ≡ left
HasLeft (given.Generated g count) left = ⊤

-- when windows reclaim, as it is asked for
abbrev pub reclaim_of : Mode → Reclaim
reclaim_of mode.Off = reclaim.Off
reclaim_of mode.Between = reclaim.Between
reclaim_of mode.Beside = reclaim.Beside

-- the options of a replay, as they are asked for
abbrev pub options_as : Options → Serving
options_as options = record {
  workers = options.workers;
  sharing = WherePays;
  reclaim = reclaim_of options.reclaim;
  each = options.each;
}

-- Behind what a replay printed nothing more is written at its end and where the sink failed; else
-- the line of its fault, or, where there was no memory for that, the line of want of memory.
abbrev pub EndsReplay : {T : Type 0} → Config → Result T Stop → (status : ℕ)
    → (printed new : Option (List ℕ)) → Type 0
EndsReplay config (Ok done) status printed new = (status ≡ 0) × (new ≡ printed)
EndsReplay config (Err stop.Sink) status printed new = (status ≡ 7) × (new ≡ printed)
EndsReplay config (Err (stop.Fault f)) status printed new =
    EndsWith (fault_text (printed_names config.volumes.items) f) (status_of f) status printed new
    ⊎ TellsNoMemory status printed new

-- a command came to this result with the configuration, behind which it ended so
pub record IsRunOver (config : Config) (sink' status : ℕ) (printed' : Option (List ℕ)) :
    Type 0 where
  pub result : Result (Unit {0}) Stop
  -- the sink's count of faults then, which ends no lower
  pub sink_then : ℕ
  pub later : sink_then ≤ sink'
  pub printed_then : Option (List ℕ)
  pub ends : EndsReplay config result status printed_then printed'

-- these lines were replayed on the volumes of the configuration
pub record IsReplay {D : Type 0} (tells : Bool) (state : D → State) (options : Serving)
    (config : Config) (start : GivenLines) (left_of_trace : Option (List ℕ)) (old new : BayState)
    (sink sink' status : ℕ) (printed printed' : Option (List ℕ)) : Type 0 where
  pub over : IsRunOver config sink' status printed'
  pub now : GivenLines
  pub rest : HasLeft now left_of_trace
  -- images of names that aren't configured are as they were
  pub others : IsTold (KeepsOthers config) old.told new.told
  pub replayed : Replayed tells state (λ bytes. bytes) config options start now old new sink
      over.sink_then printed over.printed_then over.result

-- this is kept of the lines that were given
pub record KeepsReplayed (left_of_trace : Option (List ℕ)) (Keeps : GivenLines → Type 0) :
    Type 0 where
  pub now : GivenLines
  pub rest : HasLeft now left_of_trace
  pub keeps : Keeps now

-- the configuration wasn't had: the text says why, and the bay and the trace are as they were
pub record IsUnreplayed (start : GivenLines) (left left_of_trace : Option (List ℕ))
    (faults faults' : ℕ) (old new : BayState) (status : ℕ)
    (printed printed' : Option (List ℕ)) : Type 0 where
  pub text : List ℕ
  pub wanted : ℕ
  pub untouched : IsUntouched left faults faults' old new text wanted
  pub rest : HasLeft start left_of_trace
  pub ends : EndsWith text wanted status printed printed'

-- a run of `replay` or `soak`, by the configuration that was read (none: it wasn't had), the bytes
-- of its source and their count of faults, the bytes that are left of the trace, the bay, the
-- sink's count of faults, the status, and what the sink took
abbrev pub RunsReplay : {D : Type 0} → (tells : Bool) → (D → State) → (options : Serving)
    → (read : Option Config) → (start : GivenLines) → (left : Option (List ℕ))
    → (faults faults' : ℕ) → (left_of_trace : Option (List ℕ)) → (old new : BayState)
    → (sink sink' status : ℕ) → (printed printed' : Option (List ℕ)) → Type 0
RunsReplay tells state options (Some config) start left faults faults' left_of_trace old new sink
    sink' status printed printed' =
    IsReplay tells state options config start left_of_trace old new sink sink' status printed
    printed'
RunsReplay tells state options None start left faults faults' left_of_trace old new sink sink'
    status printed printed' =
    IsUnreplayed start left left_of_trace faults faults' old new status printed printed'

-- what is kept of such a run, unless the configuration wasn't had
abbrev pub RunsKept : (Keeps : Config → GivenLines → Type 0) → (read : Option Config)
    → (start : GivenLines) → (left : Option (List ℕ)) → (faults faults' : ℕ)
    → (left_of_trace : Option (List ℕ)) → (old new : BayState) → (status : ℕ)
    → (printed printed' : Option (List ℕ)) → Type 0
RunsKept Keeps (Some config) start left faults faults' left_of_trace old new status printed
    printed' =
    KeepsReplayed left_of_trace (Keeps config)
RunsKept Keeps None start left faults faults' left_of_trace old new status printed printed' =
    IsUnreplayed start left left_of_trace faults faults' old new status printed printed'
