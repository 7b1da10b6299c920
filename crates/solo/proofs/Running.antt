-- The lines of a trace, one after another.
use Rattle.std.proofs.Common.{◌≡◌, inl, inr, ℕ, ◌+◌, ◌≤◌, ◌<◌, ◌^◌, Bool, true, false, List, [], ◌∷◌, ◌++◌, length, map, Option, None, Some, Ok, Err, refl, sym, ap, ◌∙◌, arith, length-append}
use Rattle.std.specs.Prelude.{is_some, cond, ◌==◌}
use Rattle.std.specs.List.{list_any, onto_first, slice_split}
use Rattle.std.proofs.Math.Dec.{eqb-suc-zero}
use Rattle.std.specs.Io.KnownBytes.{IsAtEnd, Keeps, prepend_known}
use Rattle.wol_disk.specs.Disk.{Block, Values}
use Rattle.wol_model.specs.Trace.{Request, Target, TraceLine, volume_of}
use Rattle.msr_trace.specs.Lines.{is_feed, lines_of, read_of, without_empty_last}
use Rattle.msr_trace.specs.Reading.{RefusesLine, TakesLine}
use Rattle.msr_trace.specs.declared.format.BadLine.{BadLine}
use Rattle.msr_trace.specs.declared.format.TraceFault.{TraceFault}
use Rattle.msr_trace.specs.declared.format.TraceFault.TheVariants as reader
use Rattle.solo.specs.Faults.{fault_of}
use Rattle.wol_io.proofs.Appending.{keeps_same}
use Rattle.solo.specs.declared.fault.Fault.{Fault}
use Rattle.solo.specs.declared.fault.Fault.TheVariants as fault
use Rattle.solo.specs.declared.tally.Tally.{Tally}
use Rattle.solo.specs.Requests.{HasLines, HasLinesBefore, IsTaken, LineRead, asked_of, lines_read, requests_at, tally_of, tally_with}
use Rattle.solo.specs.Runs.{AnsweredAll, RunsWhole, StopsBy, StopsIn}
use Rattle.solo.specs.Served.{Answered, IsSettled, LeavesCutOf, LeftBy, content_after, content_of}
use Rattle.solo.proofs.Answering.{answered_both, answered_none}
use Rattle.solo.proofs.Cuts.{answered_cuts}
use Rattle.solo.proofs.Marks.{OnVolume, content_both, content_none}
use Rattle.solo.proofs.LinePieces.{on_line}
use Rattle.solo.proofs.Tallies.{asked_more, no_requests, not_ours, our_requests, ours, tally_more}

-- ---- The lines that were read

one_more : (lines : List (Option TraceLine)) (line : Option TraceLine) (more : List LineRead) → map Ok lines ++ Ok line ∷ more ≡ map Ok (lines ++ line ∷ []) ++ more
one_more [] line more = refl
one_more (l ∷ lines) line more = ap (λ (reads : List LineRead). Ok l ∷ reads) (one_more lines line more)

pub has_more : (trace pend next : Option (List ℕ)) (lines : List (Option TraceLine)) (line : Option TraceLine) → HasLinesBefore trace lines pend → TakesLine pend next (Ok line) → HasLinesBefore trace (lines ++ line ∷ []) next
has_more None pend next lines line has takes = tt
has_more (Some trace) None next lines line has takes = absurd has
has_more (Some trace) (Some bytes) None lines line has takes = absurd takes
has_more (Some trace) (Some bytes) (Some rest) lines line has (text, cut, read) =
    has ∙ ap (λ (texts : List (List ℕ)). map Ok lines ++ map read_of texts) cut ∙ ap (λ (first : LineRead). map Ok lines ++ first ∷ lines_read rest) read ∙ one_more lines line (lines_read rest)

pub has_bad : (trace pend : Option (List ℕ)) (lines : List (Option TraceLine)) (why : BadLine) → HasLinesBefore trace lines pend → RefusesLine pend why → (more : List LineRead) × HasLines trace lines (Err why ∷ more)
has_bad None pend lines why has refuses = ([], tt)
has_bad (Some trace) None lines why has refuses = absurd has
has_bad (Some trace) (Some bytes) lines why has (text, others, cut, read) =
    (map read_of others, has ∙ ap (λ (texts : List (List ℕ)). map Ok lines ++ map read_of texts) cut ∙ ap (λ (first : LineRead). map Ok lines ++ first ∷ map read_of others) read)

pub has_kept : (trace pend next : Option (List ℕ)) (lines : List (Option TraceLine)) → HasLinesBefore trace lines pend → Keeps pend next → HasLinesBefore trace lines next
has_kept None pend next lines has keeps = tt
has_kept (Some trace) None next lines has keeps = absurd has
has_kept (Some trace) (Some bytes) None lines has keeps = absurd keeps
has_kept (Some trace) (Some bytes) (Some rest) lines has keeps = rw keeps has

pub has_all : (trace pend left : Option (List ℕ)) (held : List ℕ) (lines : List (Option TraceLine)) → HasLinesBefore trace lines pend → Keeps pend (prepend_known held left) → held ≡ [] → IsAtEnd left → HasLines trace lines []
unfolding lines_of
has_all None pend left held lines has keeps none end = tt
has_all (Some trace) None left held lines has keeps none end = absurd has
has_all (Some trace) (Some bytes) None held lines has keeps none end = absurd keeps
has_all (Some trace) (Some bytes) (Some left) held lines has keeps none end =
    let whole : bytes ≡ [] = sym keeps ∙ (rw (none, end) refl) in
    rw whole at has

-- bytes that are there are a line
abbrev SomeLine : List (List ℕ) → Type 0
SomeLine texts = (text : List ℕ) × (others : List (List ℕ)) × (texts ≡ text ∷ others)

-- a split has a first part
abbrev FirstPart : List (List ℕ) → Type 0
FirstPart parts = (part : List ℕ) × (others : List (List ℕ)) × (parts ≡ part ∷ others)

first_part : (bytes : List ℕ) → FirstPart (slice_split is_feed bytes)
first_part [] = ([], [], refl)
first_part (b ∷ bytes) = go (is_feed b) (slice_split is_feed bytes) where
  go : (feed : Bool) (parts : List (List ℕ)) → FirstPart (cond feed ([] ∷ parts) (onto_first b parts))
  go true parts = ([], parts, refl)
  go false [] = (b ∷ [], [], refl)
  go false (part ∷ parts) = (b ∷ part, parts, refl)

last_line : (b : ℕ) (part : List ℕ) → SomeLine (without_empty_last ((b ∷ part) ∷ []))
last_line b part = let some : (length (b ∷ part) == 0) ≡ false = eqb-suc-zero (length part) in rw some (b ∷ part, [], refl)

split_line : (b : ℕ) (feed : Bool) (parts : List (List ℕ)) → FirstPart parts → SomeLine (without_empty_last (cond feed ([] ∷ parts) (onto_first b parts)))
split_line b true [] (part, others, is) = absurd (cc is)
split_line b true (part ∷ parts) first = ([], without_empty_last (part ∷ parts), refl)
split_line b false [] (part, others, is) = absurd (cc is)
split_line b false (part ∷ []) first = last_line b part
split_line b false (part ∷ next ∷ parts) first = (b ∷ part, without_empty_last (next ∷ parts), refl)

some_line : (bytes : List ℕ) → 0 < length bytes → SomeLine (lines_of bytes)
unfolding lines_of
some_line [] some = absurd (omega (arith, some))
some_line (b ∷ bytes) some = split_line b (is_feed b) (slice_split is_feed bytes) (first_part bytes)

pub has_next : (trace left : Option (List ℕ)) (held : List ℕ) (lines : List (Option TraceLine)) → HasLinesBefore trace lines (prepend_known held left) → 0 < length held → (next : LineRead) × (more : List LineRead) × HasLines trace lines (next ∷ more)
has_next None left held lines has some = (Ok None, [], tt)
has_next (Some trace) None held lines has some = absurd has
has_next (Some trace) (Some left) held lines has some =
    let (text, others, cut) = some_line (held ++ left) (omega (arith, some, length-append held left)) in
    (read_of text, map read_of others, has ∙ ap (λ (texts : List (List ℕ)). map Ok lines ++ map read_of texts) cut)

-- ---- The requests that were run

on_one : (target : Target) (number : ℕ) (line : Option TraceLine) → OnVolume (requests_at target number line)
on_one target number None = tt
on_one target number (Some line) = go (is_some (volume_of (target ∷ []) line)) refl where
  go : (b : Bool) → is_some (volume_of (target ∷ []) line) ≡ b → OnVolume (requests_at target number (Some line))
  go true is = rw (our_requests target number line (ours target line is)) (on_line number line.kind (Rattle.wol_model.specs.Trace.pieces target.home 128 line))
  go false is = rw (no_requests target number line (not_ours target line is)) tt

-- what was run so far
pub record SoFar (target : Target) (trace : Option (List ℕ)) (array : Option (List Block)) (old : Option (List ℕ)) (given : ℕ) (pend : Option (List ℕ)) (tally : Tally) (values : Option (List (Values Block))) (now : Option (List ℕ)) : Type 0 where
  pub lines : List (Option TraceLine)
  pub has : HasLinesBefore trace lines pend
  pub number : length lines ≡ given
  pub counted : tally ≡ tally_of target lines
  pub settled : IsSettled values
  pub content : content_of values ≡ content_after (asked_of target lines) array
  pub answered : Answered array (asked_of target lines) old now

pub none_asked : (target : Target) → asked_of target [] ≡ []
unfolding Rattle.wol_model.specs.Trace.requests
none_asked target = refl

none_counted : (target : Target) → record { lines = 0; blank = 0; skipped = 0; reads = 0; writes = 0 } ≡ tally_of target []
unfolding tally_of Rattle.wol_model.specs.Trace.requests
none_counted target = refl

pub has_none : (trace : Option (List ℕ)) → HasLinesBefore trace [] trace
has_none None = tt
has_none (Some bytes) = refl

-- no line was taken
pub none_taken : (trace : Option (List ℕ)) → IsTaken trace [] [] trace
none_taken None = (omega arith, tt)
none_taken (Some bytes) = (omega arith, refl)

pub begins : (target : Target) (trace old : Option (List ℕ)) (values : Option (List (Values Block))) → IsSettled values → SoFar target trace (content_of values) old 0 trace (record { lines = 0; blank = 0; skipped = 0; reads = 0; writes = 0 }) values old
begins target trace old values settled = record {
  lines = [];
  has = has_none trace;
  number = refl;
  counted = none_counted target;
  settled = settled;
  content = rw (none_asked target) (sym (content_none (content_of values)));
  answered = rw (none_asked target) (answered_none (content_of values) old old (keeps_same old));
}

module _ (target : Target) (trace : Option (List ℕ)) (array : Option (List Block)) (old : Option (List ℕ)) (given : ℕ) (pend : Option (List ℕ)) (tally : Tally) (values : Option (List (Values Block))) (mid : Option (List ℕ))
    (so_far : SoFar target trace array old given pend tally values mid) where
  all_asked : (line : Option TraceLine) → asked_of target (so_far.lines ++ line ∷ []) ≡ asked_of target so_far.lines ++ requests_at target (given + 1) line
  all_asked line = rw (← so_far.number) (asked_more target so_far.lines line)

  -- a line was run
  pub goes_on : (line : Option TraceLine) (next : Option (List ℕ)) (tally' : Tally) (values' : Option (List (Values Block))) (new : Option (List ℕ)) → TakesLine pend next (Ok line) → tally' ≡ tally_with target (given + 1) line tally → IsSettled values'
      → content_of values' ≡ content_after (requests_at target (given + 1) line) (content_of values) → Answered (content_of values) (requests_at target (given + 1) line) mid new → SoFar target trace array old (given + 1) next tally' values' new
  goes_on line next tally' values' new takes counted settled content answered = record {
    lines = so_far.lines ++ line ∷ [];
    has = has_more trace pend next so_far.lines line so_far.has takes;
    number = omega (arith, length-append so_far.lines (line ∷ []), so_far.number);
    counted = counted ∙ ap (tally_with target (given + 1) line) so_far.counted ∙ (rw (← so_far.number) (tally_more target so_far.lines line));
    settled = settled;
    content = rw (all_asked line) (content ∙ ap (content_after (requests_at target (given + 1) line)) so_far.content ∙ sym (content_both (asked_of target so_far.lines) (requests_at target (given + 1) line) array));
    answered = rw (all_asked line) (answered_both array (asked_of target so_far.lines) (requests_at target (given + 1) line) old mid new (on_one target (given + 1) line) so_far.answered (rw so_far.content at answered));
  }

  -- all was answered
  pub all_answered : AnsweredAll target so_far.lines array old mid values
  all_answered = (so_far.answered, answered_cuts array (asked_of target so_far.lines) values so_far.settled so_far.content)

  -- a line wasn't run to its end
  left_line : (e : Fault) (left : Option (List ℕ)) (values' : Option (List (Values Block))) (new : Option (List ℕ)) → StopsIn e target trace left array old new values' → StopsBy e target trace left array old new values'
  left_line fault.Disk left values' new stops = stops
  left_line fault.NoMemory left values' new stops = inr stops
  left_line fault.Sink left values' new stops = stops
  left_line fault.Bay left values' new (lines, last, held, taken, printed, answered, none) = absurd none
  left_line (fault.BadLine line why) left values' new (lines, last, held, taken, printed, answered, none) = absurd none
  left_line fault.Spent left values' new (lines, last, held, taken, printed, answered, none) = absurd none
  left_line fault.Source left values' new (lines, last, held, taken, printed, answered, none) = absurd none

  pub stops_in_line : (e : Fault) (line : Option TraceLine) (held : List ℕ) (left : Option (List ℕ)) (values' : Option (List (Values Block))) (new : Option (List ℕ)) → length held ≤ 8192 → TakesLine pend (prepend_known held left) (Ok line)
      → LeftBy e (content_of values) (requests_at target (given + 1) line) mid new values' → StopsBy e target trace left array old new values'
  stops_in_line e line held left values' new short takes stops =
      let here : LeftBy e (content_after (asked_of target so_far.lines) array) (requests_at target (length so_far.lines + 1) line) mid new values' = rw so_far.number (rw so_far.content at stops) in
      left_line e left values' new (so_far.lines, line, held, (short, has_more trace pend (prepend_known held left) so_far.lines line so_far.has takes), mid, so_far.answered, here)

  -- the trace is at its end
  pub ends : (held : List ℕ) (left : Option (List ℕ)) → given ≤ 2 ^ 32 → Keeps pend (prepend_known held left) → held ≡ [] → IsAtEnd left → RunsWhole target trace array tally old mid values
  ends held left few keeps none end =
      (so_far.lines, has_all trace pend left held so_far.lines so_far.has keeps none end, omega (arith, few, so_far.number), so_far.counted, all_answered)

  -- the reader of the trace refused
  taken_so_far : (held : List ℕ) (left : Option (List ℕ)) → length held ≤ 8192 → Keeps pend (prepend_known held left) → IsTaken trace so_far.lines held left
  taken_so_far held left short keeps = (short, has_kept trace pend (prepend_known held left) so_far.lines so_far.has keeps)

  pub reader_stops : (e : TraceFault) (held : List ℕ) (left : Option (List ℕ)) → length held ≤ 8192 → Keeps pend (prepend_known held left)
      → ((line : ℕ) (why : BadLine) → e ≡ reader.Bad line why → (line ≡ given + 1) × (line ≤ 2 ^ 32) × RefusesLine pend why)
      → (e ≡ reader.Spent → (given ≡ 2 ^ 32) × (0 < length held)) → (e ≡ reader.Source → list_any is_feed held ≡ false) → StopsBy (fault_of e) target trace left array old mid values
  reader_stops reader.Source held left short keeps bad spent cut = (so_far.lines, held, cut refl, taken_so_far held left short keeps, all_answered)
  reader_stops (reader.Bad line why) held left short keeps bad spent cut =
      let (is, few, refuses) = bad line why refl in
      let (more, has) = has_bad trace pend so_far.lines why so_far.has refuses in
      (so_far.lines, more, has, omega (arith, is, so_far.number), held, taken_so_far held left short keeps, all_answered)
  reader_stops reader.Spent held left short keeps bad spent cut =
      let (all, some) = spent refl in
      let (next, more, has) = has_next trace left held so_far.lines (has_kept trace pend (prepend_known held left) so_far.lines so_far.has keeps) some in
      (so_far.lines, next, more, has, omega (arith, all, so_far.number), held, taken_so_far held left short keeps, all_answered)
  reader_stops reader.NoMemory held left short keeps bad spent cut = inl (so_far.lines, held, taken_so_far held left short keeps, all_answered)

-- there was no memory to begin with
pub none_run : (target : Target) (trace : Option (List ℕ)) (array : Option (List Block)) (old : Option (List ℕ)) (values : Option (List (Values Block))) → LeavesCutOf array [] [] values → StopsBy fault.NoMemory target trace trace array old old values
none_run target trace array old values cuts =
    inl ([], [], none_taken trace, (rw (none_asked target) (answered_none array old old (keeps_same old)), rw (none_asked target) cuts))
