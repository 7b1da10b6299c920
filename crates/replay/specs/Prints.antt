-- What a run prints: lines, and then a summary.
use Rattle.std.specs.Prelude.{◌≡◌, ◌≤◌, ◌⊎◌, ℕ, Bool, true, false, List, [], ◌∷◌, ◌++◌, length, map, take, Option, Some, Result, MatchResult}
use Rattle.std.specs.Io.KnownBytes.{Appends, Keeps}
use Rattle.wol_disk.specs.Disk.{Rose}
use Rattle.wol_io.specs.Streams.{AppendsFront}
use Rattle.wol_model.specs.declared.journal.Powers.{Powers}
use Rattle.wol_promise.specs.Run.{joined_lines}
use Rattle.energy.specs.Sums.{AreSums, amounts_by}
use Rattle.energy.specs.declared.Amounts.{Amounts}
use Rattle.spin_model.specs.Spindles.{SpindleView, sums_until}
use Rattle.report.specs.Names.{name_at}
use Rattle.report.specs.Summaries.{read_text}
use Rattle.report.specs.declared.fault.Fault.TheVariants.{Memory}
use Rattle.trace_windows.specs.declared.request.Request.{Request}
use Rattle.request_turns.specs.declared.outcome.Outcome.{Outcome}
use Rattle.request_turns.specs.declared.outcome.Outcome.TheVariants.{Read, Wrote, NoRead, NoWrite, NotRun}
use Rattle.replay.specs.declared.stop.Stop.{Stop}
use Rattle.replay.specs.declared.stop.Stop.TheVariants as stop

-- the line of a request of a volume of this name, where it was read
abbrev pub line_of_outcome : (names : List (List ℕ)) → Request → Outcome → List (List ℕ)
line_of_outcome names r (Read mark sources) =
    read_text (Some (name_at names r.volume)) r.line r.lbn r.count mark ∷ []
line_of_outcome names r (Wrote place drained) = []
line_of_outcome names r (NoRead refusal) = []
line_of_outcome names r (NoWrite refusal) = []
line_of_outcome names r NotRun = []

-- the lines of the requests that were read, in order
abbrev pub lines_of_outcomes : (names : List (List ℕ)) → List Request → List Outcome → List (List ℕ)
lines_of_outcomes names [] os = []
lines_of_outcomes names (r ∷ rs) [] = []
lines_of_outcomes names (r ∷ rs) (o ∷ os) =
    line_of_outcome names r o ++ lines_of_outcomes names rs os

-- a text was handed on to a sink, or it stays as it was
abbrev pub HandsOn : (printed new : Option (List ℕ)) → (text left : List ℕ) → Type 0
HandsOn printed new text left =
    ((left ≡ text) × Keeps printed new) ⊎ ((left ≡ []) × Appends printed new text)

-- why lines weren't all printed: the sink failed, and took a front of them; or there was no memory,
-- and it took some first ones, each of them whole
abbrev pub CutsLines : Stop → (lines : List (List ℕ)) → (faults faults' : ℕ)
    → (printed new : Option (List ℕ)) → Type 0
CutsLines stop.Sink lines faults faults' printed new =
    Rose faults faults' × AppendsFront printed new (joined_lines lines)
CutsLines (stop.Fault f) lines faults faults' printed new =
    (f ≡ Memory) × (faults' ≡ faults)
    × ((some : ℕ) × (some ≤ length lines) × Appends printed new (joined_lines (take some lines)))

-- all lines were printed, or not
abbrev pub PrintsLines : {T : Type 0} → Result T Stop → (lines : List (List ℕ))
    → (faults faults' : ℕ) → (printed new : Option (List ℕ)) → Type 0
PrintsLines result lines faults faults' printed new =
    MatchResult result (λ _. (faults' ≡ faults) × Appends printed new (joined_lines lines))
    (λ e. CutsLines e lines faults faults' printed new)

-- the lines that are asked for
abbrev pub asked_lines : (each : Bool) → (names : List (List ℕ)) → List Request → List Outcome
    → List (List ℕ)
asked_lines true names rs os = lines_of_outcomes names rs os
asked_lines false names rs os = []

-- no moment came at a disk after `to`, and its sums are those over a journal from one to the other
pub record HasJournal (from to : ℕ) (s : SpindleView) : Type 0 where
  pub moment : s.moment ≤ to
  pub sums : AreSums from to (sums_until s to)

-- what a disk used from one moment to another, by its sums
abbrev pub amounts_in : Powers → (from to : ℕ) → SpindleView → Amounts
amounts_in powers from to s = amounts_by powers from to (sums_until s to)

-- so of each
abbrev pub all_amounts : Powers → (from to : ℕ) → List SpindleView → List Amounts
all_amounts powers from to ss = map (amounts_in powers from to) ss

-- why a text wasn't printed: the sink failed, and took a front of it; or there was no memory
abbrev pub CutsText : Stop → (text : List ℕ) → (faults faults' : ℕ)
    → (printed new : Option (List ℕ)) → Type 0
CutsText stop.Sink text faults faults' printed new =
    Rose faults faults' × AppendsFront printed new text
CutsText (stop.Fault f) text faults faults' printed new =
    (f ≡ Memory) × (faults' ≡ faults) × Keeps printed new

-- the text was printed, or not
abbrev pub PrintsText : {T : Type 0} → Result T Stop → (text : List ℕ) → (faults faults' : ℕ)
    → (printed new : Option (List ℕ)) → Type 0
PrintsText result text faults faults' printed new =
    MatchResult result (λ _. (faults' ≡ faults) × Appends printed new text)
    (λ e. CutsText e text faults faults' printed new)
