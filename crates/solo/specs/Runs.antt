-- What the run of a trace leaves, by how it ended.
use Rattle.std.specs.Prelude.{◌≡◌, ℕ, ◌+◌, ◌^◌, ◌≤◌, ◌⊎◌, List, [], ◌∷◌, ◌++◌, length, false, Option, None, Result, MatchResult, Err}
use Rattle.std.specs.List.{list_any}
use Rattle.std.specs.Io.KnownBytes.{Appends, Keeps}
use Rattle.wol_disk.specs.Disk.{Block, Values}
use Rattle.wol_io.specs.Streams.{AppendsFront}
use Rattle.wol_model.specs.Trace.{Target, TraceLine}
use Rattle.msr_trace.specs.Lines.{is_feed}
use Rattle.solo.specs.declared.fault.Fault.{Fault}
use Rattle.solo.specs.declared.fault.Fault.TheVariants as fault
use Rattle.solo.specs.declared.tally.Tally.{Tally}
use Rattle.solo.specs.Requests.{HasLines, IsTaken, LineRead, asked_of, requests_at, tally_of}
use Rattle.solo.specs.Texts.{summary_text}
use Rattle.solo.specs.Served.{Answered, LeavesCutOf, LeftBy, content_after}

-- all that these lines ask was answered
abbrev pub AnsweredAll : Target → (lines : List (Option TraceLine)) → (array : Option (List Block))
    → (old new : Option (List ℕ)) → (values : Option (List (Values Block))) → Type 0
AnsweredAll target lines array old new values =
    Answered array (asked_of target lines) old new
    × LeavesCutOf array (asked_of target lines) [] values

-- all lines that were taken were run
abbrev pub StopsBetween : Target → (trace left : Option (List ℕ)) → (array : Option (List Block))
    → (old new : Option (List ℕ)) → (values : Option (List (Values Block))) → Type 0
StopsBetween target trace left array old new values =
    (lines : List (Option TraceLine)) × (held : List ℕ) × IsTaken trace lines held left
    × AnsweredAll target lines array old new values

-- all before the last line that was taken were run, and that one wasn't run to its end
abbrev pub StopsIn : Fault → Target → (trace left : Option (List ℕ)) → (array : Option (List Block))
    → (old new : Option (List ℕ)) → (values : Option (List (Values Block))) → Type 0
StopsIn e target trace left array old new values =
    (lines : List (Option TraceLine)) × (last : Option TraceLine)
    × (held : List ℕ) × IsTaken trace (lines ++ last ∷ []) held left
    × (mid : Option (List ℕ)) × Answered array (asked_of target lines) old mid
    × LeftBy e (content_after (asked_of target lines) array)
    (requests_at target (length lines + 1) last) mid new values

-- How a run ended before the end of its trace. `left` is what is then left of the trace, and no
-- more than 8,192 bytes were read behind the lines that were taken; of a source that failed no
-- whole line is held back. All these lines were run, but for what is left of the last one where a
-- call of the disk or of the sink failed, or memory did.
abbrev pub StopsBy : Fault → Target → (trace left : Option (List ℕ)) → (array : Option (List Block))
    → (old new : Option (List ℕ)) → (values : Option (List (Values Block))) → Type 0
StopsBy (fault.BadLine line why) target trace left array old new values =
    (lines : List (Option TraceLine)) × (more : List LineRead)
    × HasLines trace lines (Err why ∷ more) × (line ≡ length lines + 1)
    × (held : List ℕ) × IsTaken trace lines held left
    × AnsweredAll target lines array old new values
StopsBy fault.Spent target trace left array old new values =
    (lines : List (Option TraceLine)) × (next : LineRead) × (more : List LineRead)
    × HasLines trace lines (next ∷ more) × (length lines ≡ 2 ^ 32)
    × (held : List ℕ) × IsTaken trace lines held left
    × AnsweredAll target lines array old new values
StopsBy fault.Source target trace left array old new values =
    (lines : List (Option TraceLine)) × (held : List ℕ) × (list_any is_feed held ≡ false)
    × IsTaken trace lines held left × AnsweredAll target lines array old new values
StopsBy fault.Disk target trace left array old new values =
    StopsIn fault.Disk target trace left array old new values
StopsBy fault.Sink target trace left array old new values =
    StopsIn fault.Sink target trace left array old new values
StopsBy fault.NoMemory target trace left array old new values =
    StopsBetween target trace left array old new values
    ⊎ StopsIn fault.NoMemory target trace left array old new values
StopsBy fault.Bay target trace left array old new values = ⊥

-- the trace was run to its end, and this is what is counted of it
abbrev pub RunsWhole : Target → (trace : Option (List ℕ)) → (array : Option (List Block)) → Tally
    → (old new : Option (List ℕ)) → (values : Option (List (Values Block))) → Type 0
RunsWhole target trace array tally old new values =
    (lines : List (Option TraceLine)) × HasLines trace lines [] × (length lines ≤ 2 ^ 32)
    × (tally ≡ tally_of target lines) × AnsweredAll target lines array old new values

abbrev pub Runs : Target → (trace left : Option (List ℕ)) → (array : Option (List Block))
    → Result Tally Fault → (old new : Option (List ℕ)) → (values : Option (List (Values Block)))
    → Type 0
Runs target trace left array result old new values =
    MatchResult result (λ tally. RunsWhole target trace array tally old new values)
    (λ e. StopsBy e target trace left array old new values)

-- ---- The run with its image and its last line

-- the trace was run to its end, the lines of its reads were printed, and of the last line the sink
-- took what `took` says
abbrev pub PrintsSo : (took : (mid new : Option (List ℕ)) → (text : List ℕ) → Type 0) → Target
    → (trace : Option (List ℕ)) → (array : Option (List Block)) → (old new : Option (List ℕ))
    → (values : Option (List (Values Block))) → Type 0
PrintsSo took target trace array old new values =
    (tally : Tally) × (mid : Option (List ℕ)) × RunsWhole target trace array tally old mid values
    × took mid new (summary_text tally)

-- the whole last line
abbrev pub Prints : Target → (trace : Option (List ℕ)) → (array : Option (List Block))
    → (old new : Option (List ℕ)) → (values : Option (List (Values Block))) → Type 0
Prints target trace array old new values = PrintsSo Appends target trace array old new values

-- .. or a front of it
abbrev pub PrintsFront : Target → (trace : Option (List ℕ)) → (array : Option (List Block))
    → (old new : Option (List ℕ)) → (values : Option (List (Values Block))) → Type 0
PrintsFront target trace array old new values =
    PrintsSo AppendsFront target trace array old new values

-- .. or nothing of it
abbrev pub PrintsReads : Target → (trace : Option (List ℕ)) → (array : Option (List Block))
    → (old new : Option (List ℕ)) → (values : Option (List (Values Block))) → Type 0
PrintsReads target trace array old new values =
    PrintsSo (λ mid now text. Keeps mid now) target trace array old new values

-- no image was made: nothing of the trace was taken, and nothing was printed
abbrev pub DoesNothing : (trace left : Option (List ℕ)) → (old new : Option (List ℕ))
    → (values : Option (List (Values Block))) → Type 0
DoesNothing trace left old new values = (values ≡ None) × (left ≡ trace) × Keeps old new

-- how a run ended that wasn't done: without an image, in the trace, or at the last line
abbrev pub EndsBy : Fault → Target → (trace left : Option (List ℕ)) → (array : Option (List Block))
    → (old new : Option (List ℕ)) → (values : Option (List (Values Block))) → Type 0
EndsBy fault.Bay target trace left array old new values = DoesNothing trace left old new values
EndsBy fault.Sink target trace left array old new values =
    StopsBy fault.Sink target trace left array old new values
    ⊎ PrintsFront target trace array old new values
EndsBy fault.Disk target trace left array old new values =
    StopsBy fault.Disk target trace left array old new values
EndsBy fault.NoMemory target trace left array old new values =
    DoesNothing trace left old new values
    ⊎ StopsBy fault.NoMemory target trace left array old new values
    ⊎ PrintsReads target trace array old new values
EndsBy (fault.BadLine line why) target trace left array old new values =
    StopsBy (fault.BadLine line why) target trace left array old new values
EndsBy fault.Spent target trace left array old new values =
    StopsBy fault.Spent target trace left array old new values
EndsBy fault.Source target trace left array old new values =
    StopsBy fault.Source target trace left array old new values

abbrev pub Ends : {T : Type 0} → Target → (trace left : Option (List ℕ))
    → (array : Option (List Block)) → Result T Fault → (old new : Option (List ℕ))
    → (values : Option (List (Values Block))) → Type 0
Ends target trace left array result old new values =
    MatchResult result (λ _. Prints target trace array old new values)
    (λ e. EndsBy e target trace left array old new values)
