-- What a trace asks of its volumes, window by window, and what is printed of it.
use Rattle.std.specs.Prelude.{ℕ, Bool, true, false, ◌||◌, if◌then◌else◌, ◌-◌, List, [], ◌∷◌, ◌++◌, length, map, Option, is_none, count_by, codes, decimal}
use Rattle.wol_model.specs.Trace as trace
use Rattle.wol_model.specs.Trace.{TraceLine, Window, ended, is_skipped, started, timed, windows}
use Rattle.wol_config.specs.declared.config.Config.{Config}
use Rattle.trace_gen.specs.Generated.{targets_of}
use Rattle.trace_windows.specs.Batches.{Batched}
use Rattle.trace_windows.specs.Requests.{asked, requests_in}
use Rattle.trace_windows.specs.declared.request.Request.{Request}
use Rattle.whatif.specs.declared.policy.Ask.{Ask}
use Rattle.whatif.specs.Machine.{Asked}
use Rattle.whatif.specs.Lines.{details_text, whatif_text}
use Rattle.whatif.specs.declared.policy.Details.{Details}
use Rattle.report.specs.Words.{line_of}
use Rattle.wol_config.specs.Configs.{most_of}

-- what a request asks of its volume
abbrev pub ask_of : trace.Request → Ask
ask_of r = record { volume = r.volume; kind = r.kind; lbn = r.first; count = r.count }

-- what is asked in a window, as its requests are gathered
abbrev pub asked_of : Batched → Asked
asked_of b = record { moment = b.moment; asks = map (λ (r : Request). ask_of (asked r)) b.requests }

-- what is asked in a window
abbrev pub asked_in : Config → Window → Asked
asked_in config w = record {
  moment = w.moment;
  asks = map ask_of (requests_in (most_of config) (targets_of config) w);
}

-- .. in each window of these lines
abbrev pub asked_by : Config → List (Option TraceLine) → List Asked
asked_by config ls = map (asked_in config) (windows (most_of config) (targets_of config) ls)

-- how many lines there are, how many of them are blank and how many belong to no volume, and the time
-- from the first to the last
unfoldable pub counts_text : (lines blank skipped span : ℕ) → List ℕ
counts_text lines blank skipped span =
    line_of (codes "lines" ∷ decimal lines ∷ codes "blank" ∷ decimal blank
    ∷ codes "skipped" ∷ decimal skipped ∷ []) ++ line_of (codes "span" ∷ decimal span ∷ [])

abbrev pub counts_of : Config → List (Option TraceLine) → List ℕ
counts_of config ls =
    counts_text (length ls) (count_by is_none ls) (count_by (is_skipped (targets_of config)) ls)
    (ended (timed ls) - started (timed ls))

-- whether more is told than a line of each of the four policies
abbrev pub tells_more : Details → Bool
tells_more details = details.long || details.volumes

-- what comes ahead of the policies: with the waits what was read
abbrev pub ahead : (long : Bool) → Config → List (Option TraceLine) → List ℕ
ahead true config ls = counts_of config ls
ahead false config ls = []

-- what is told of a trace: the four lines, or all that is asked for. The account begins with its first
-- line and ends with its last
abbrev pub comparison_of : Details → Config → List (Option TraceLine) → List ℕ
comparison_of details config ls = ahead details.long config ls
    ++ (if tells_more details
    then details_text details config (started (timed ls)) (asked_by config ls) (ended (timed ls))
    else whatif_text config (started (timed ls)) (asked_by config ls) (ended (timed ls)))
