-- What a run over open volumes prints: the lines of the answered reads, and the summary with the
-- account of each disk.
use Rattle.std.specs.Prelude.{◌≡◌, ◌≢◌, ◌⊎◌, ◌++◌, ◌-◌, ℕ, Bool, true, false, is_none, count_by, List, [], ◌∷◌, length, map, take, Option, Some, slice_get, slice_index_or, Result, Ok, Err, Contains}
use Rattle.std.specs.Io.KnownBytes.{Appends}
use Rattle.wol_disk.specs.Disk.{Rose}
use Rattle.wol_io.specs.Streams.{AppendsFront}
use Rattle.wol_model.specs.Journal.{Use, Began, Started, AreUses, needs_after, new_spindle, spindle_after}
use Rattle.wol_model.specs.Trace.{TraceLine, ended, read_count, requests, started, timed, write_count, is_skipped}
use Rattle.wol_promise.specs.Outcomes.{Answered}
use Rattle.wol_promise.specs.Run.{joined_lines}
use Rattle.wol_promise.specs.Spindle.{keeper_uses}
use Rattle.run_laws.specs.Answers.{told_lines}
use Rattle.run_laws.specs.Journals.{OthersAccess, answers_by, uses_by}
use Rattle.wol_config.specs.declared.config.Config.{Config}
use Rattle.report.specs.Names.{printed_names}
use Rattle.report.specs.Summaries.{summary_text}
use Rattle.report.specs.declared.fault.Fault.TheVariants.{Memory}
use Rattle.report.specs.declared.totals.Totals.{Totals}
use Rattle.wol_model.specs.declared.journal.Powers.{Powers}
use Rattle.energy.specs.Sums.{amounts_of}
use Rattle.spin_model.specs.Spindles.{SpindleView}
use Rattle.trace_gen.specs.Generated.{targets_of}
use Rattle.replay.specs.Givens.{HasGivenAll}
use Rattle.replay.specs.Histories.{line_of_read}
use Rattle.replay.specs.Prints.{all_amounts, amounts_in}
use Rattle.replay.specs.Served.{AreTotals, ServedWindow}
use Rattle.replay.specs.declared.given.Given.{Given}
use Rattle.replay.specs.declared.stop.Stop.{Stop}
use Rattle.replay.specs.declared.stop.Stop.TheVariants as stop
use Rattle.wol_config.specs.Configs.{most_of}

-- ---- The account

-- What the disk of volume k used is what it used by the journal of some uses, with the configured
-- timeout, from any moment to any other. Among them the keeper's are these, and it was told so whether the disk was awake; all other passes made
-- accesses alone, each of which ended, and are those of volume k and of the volumes whose views
-- name it.
pub record IsAccountBy (config : Config) (views : ℕ → List ℕ) (k : ℕ) (by : List Use)
    (told : List Bool) (s : SpindleView) : Type 0 where
  pub volume : s.volume ≡ k
  pub timeout_is : s.timeout ≡ config.timeout
  pub uses : List (ℕ × Use)
  pub legal : AreUses s.timeout new_spindle uses
  pub amounts : (powers : Powers) (from to : ℕ) → amounts_in powers from to s
      ≡ amounts_of powers from to (spindle_after s.timeout new_spindle uses).journal
  pub keeper : ℕ
  pub kept : uses_by keeper uses ≡ by
  pub others : OthersAccess keeper uses
  pub done : (n : ℕ) → n ≢ keeper → needs_after false (uses_by n uses) ≡ false
  pub users : (n : ℕ) → n ≢ keeper → uses_by n uses ≢ [] → (n ≡ k) ⊎ Contains (views n) k
  pub answers : answers_by s.timeout new_spindle keeper uses ≡ told

-- what the keeper of disk k was told as windows began
abbrev pub column : (k : ℕ) → (awake : List (List Bool)) → List Bool
column k awake = map (λ (a : List Bool). slice_index_or a k false) awake

-- the keeper's uses in windows at these moments: it began the account and each window; without a
-- window it did nothing
abbrev pub window_uses : (start : ℕ) → (moments : List ℕ) → List Use
window_uses start [] = []
window_uses start (m ∷ moments) = keeper_uses start (m ∷ moments)

abbrev pub IsAccount : Config → (views : ℕ → List ℕ) → (k start : ℕ) → (moments : List ℕ)
    → (awake : List (List Bool)) → SpindleView → Type 0
IsAccount config views k start moments awake s =
    IsAccountBy config views k (window_uses start moments) (column k awake) s

-- The disks of a run of these lines in these windows, each with its account from the first moment
-- on.
pub record HaveAccounts (config : Config) (views : ℕ → List ℕ) (lines : List (Option TraceLine))
    (windows : List ServedWindow) (awake : List (List Bool)) : Type 0 where
  pub spindles : List SpindleView
  pub count : length spindles ≡ length config.volumes.items
  pub each : (k : ℕ) (s : SpindleView) → slice_get spindles k ≡ Some s
      → IsAccount config views k (started (timed lines))
      (map (λ (w : ServedWindow). w.batch.moment) windows) awake s

-- .. where a further window, at this moment, was the first if there was none
abbrev pub started_uses : (start moment : ℕ) → (moments : List ℕ) → List Use
started_uses start moment [] = Started moment ∷ []
started_uses start moment (m ∷ moments) = keeper_uses start (m ∷ moments)

-- a keeper's uses before a further window at this moment, behind these windows
abbrev pub uses_before : List (Option TraceLine) → List ServedWindow → (moment : ℕ) → List Use
uses_before lines windows moment =
    started_uses (started (timed lines)) moment (map (λ (w : ServedWindow). w.batch.moment) windows)

-- The disks of a run that memory ended at a further window, without a request of it that was run:
-- at each disk the keeper had started the account alone; or it began the window too, at one moment,
-- and then the managers were told which disks were awake.
pub record HaveShortAccounts (config : Config) (views : ℕ → List ℕ)
    (lines : List (Option TraceLine)) (windows : List ServedWindow) (awake : List (List Bool)) :
    Type 0 where
  pub spindles : List SpindleView
  pub count : length spindles ≡ length config.volumes.items
  pub moment : ℕ
  pub each : ((k : ℕ) (s : SpindleView) → slice_get spindles k ≡ Some s
      → IsAccountBy config views k (uses_before lines windows moment) (column k awake) s)
      ⊎ ((k : ℕ) (s : SpindleView) → slice_get spindles k ≡ Some s
      → IsAccountBy config views k (uses_before lines windows moment ++ Began moment ∷ [])
      (column k awake) s)

-- The summary of these lines and the windows that were served of them: what is counted, and what
-- each disk used from the start of the account to its end.
pub record IsSummary (config : Config) (views : ℕ → List ℕ) (lines : List (Option TraceLine))
    (windows : List ServedWindow) (awake : List (List Bool)) (text : List ℕ) : Type 0 where
  pub totals : Totals
  pub line_count : totals.lines ≡ length lines
  pub blank : totals.blank ≡ count_by is_none lines
  pub skipped : totals.skipped ≡ count_by (is_skipped (targets_of config)) lines
  pub span : totals.span ≡ ended (timed lines) - started (timed lines)
  pub counted : AreTotals windows totals
  -- all requests of the lines were answered
  pub reads : totals.reads ≡ read_count (requests (most_of config) (targets_of config) lines)
  pub writes : totals.writes ≡ write_count (requests (most_of config) (targets_of config) lines)
  pub disks : HaveAccounts config views lines windows awake
  pub text_is : text ≡ summary_text totals (printed_names config.volumes.items)
      (all_amounts config.powers (started (timed lines)) (ended (timed lines)) disks.spindles)

-- the summary of a trace that was run to its end; else nothing, and then the run ended with a fault
pub data IsSummaryOf {S T : Type 0} (left : S → Option (List ℕ)) (config : Config)
    (views : ℕ → List ℕ) (start now : Given S) (lines : List (Option TraceLine))
    (windows : List ServedWindow) (awake : List (List Bool)) : Result T Stop → (text : List ℕ)
    → Type 0 where
  of_all : (result : Result T Stop) (text : List ℕ)
      → HasGivenAll left (targets_of config) start now lines
      → IsSummary config views lines windows awake text
      → IsSummaryOf left config views start now lines windows awake result text
  of_none : (e : Stop) → IsSummaryOf left config views start now lines windows awake (Err e) []

-- ---- Texts

-- the lines that are asked for: those of the answered reads, or none
abbrev pub lines_asked : Config → (each : Bool) → List Answered → List (List ℕ)
lines_asked config true answers = told_lines (line_of_read config) answers
lines_asked config false answers = []

-- What the sink took: at the end of the trace the lines and the summary; at a fault the lines; for
-- want of memory some first lines, each of them whole; where it failed, a front of the lines and
-- the summary.
abbrev pub PrintsRun : {T : Type 0} → Result T Stop → (lines : List (List ℕ)) → (summary : List ℕ)
    → (faults faults' : ℕ) → (printed new : Option (List ℕ)) → Type 0
PrintsRun (Ok _) lines summary faults faults' printed new =
    (faults' ≡ faults) × Appends printed new (joined_lines lines ++ summary)
PrintsRun (Err stop.Sink) lines summary faults faults' printed new =
    Rose faults faults' × AppendsFront printed new (joined_lines lines ++ summary)
PrintsRun (Err (stop.Fault f)) lines summary faults faults' printed new =
    (faults' ≡ faults) × (((f ≢ Memory) × Appends printed new (joined_lines lines))
    ⊎ ((f ≡ Memory) × (k : ℕ) × Appends printed new (joined_lines (take k lines))))
