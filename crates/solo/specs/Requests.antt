-- The lines of a trace, and what they ask of the one volume of a run.
use Rattle.std.specs.Prelude.{◌≡◌, ℕ, ◌+◌, List, [], ◌∷◌, ◌++◌, length, map, count_by, Option, None, Some, is_none, Result, Ok, ⊤, ◌≤◌}
use Rattle.std.specs.Io.KnownBytes.{prepend_known}
use Rattle.wol_model.specs.Trace as model
use Rattle.wol_model.specs.Trace.{Target, TraceLine, is_skipped, pieces, read_count, requests, requests_of, write_count}
use Rattle.wol_model.specs.declared.trace.Kind.{Kind}
use Rattle.wol_model.specs.declared.trace.Piece.{Piece}
use Rattle.msr_trace.specs.Lines.{lines_of, read_of}
use Rattle.msr_trace.specs.declared.format.BadLine.{BadLine}
use Rattle.solo.specs.declared.request.Request.{Request}
use Rattle.solo.specs.declared.tally.Tally.{Tally}

-- what a line is read as: a blank line as none, and a bad line as its refusal
abbrev pub LineRead : Type 0
LineRead = Result (Option TraceLine) BadLine

abbrev pub lines_read : List ℕ → List LineRead
lines_read trace = map read_of (lines_of trace)

-- a trace, where it is told, has these lines, none of which is bad, and then more
abbrev pub HasLines : (trace : Option (List ℕ)) → (lines : List (Option TraceLine))
    → (more : List LineRead) → Type 0
HasLines None lines more = ⊤
HasLines (Some trace) lines more = lines_read trace ≡ map Ok lines ++ more

-- .. and these bytes are left of it
abbrev pub HasLinesBefore : (trace : Option (List ℕ)) → (lines : List (Option TraceLine))
    → (left : Option (List ℕ)) → Type 0
HasLinesBefore None lines left = ⊤
HasLinesBefore (Some trace) lines None = ⊥
HasLinesBefore (Some trace) lines (Some left) = HasLines (Some trace) lines (lines_read left)

-- These lines were taken of a trace: `held` was read behind them, and `left` is left of it.
abbrev pub IsTaken : (trace : Option (List ℕ)) → (lines : List (Option TraceLine))
    → (held : List ℕ) → (left : Option (List ℕ)) → Type 0
IsTaken trace lines held left =
    (length held ≤ 8192) × HasLinesBefore trace lines (prepend_known held left)

-- the requests that these lines ask of the volume, in pieces of at most 128 blocks; the volume has
-- number 0
abbrev pub asked_of : Target → List (Option TraceLine) → List model.Request
asked_of target lines = requests 128 (target ∷ []) lines

-- a request of the program as the definitions see it
abbrev pub request_of : Request → model.Request
request_of r = record { line = r.line; volume = 0; kind = r.kind; first = r.first; count = r.count }

-- the requests that a line asks of a volume of `home` blocks to which it belongs
abbrev pub piece_request : (number : ℕ) → Kind → Piece → model.Request
piece_request number kind piece =
    record { line = number; volume = 0; kind = kind; first = piece.lbn; count = piece.count }

abbrev pub line_requests : (home number : ℕ) → TraceLine → List model.Request
line_requests home number line = map (piece_request number line.kind) (pieces home 128 line)

-- the requests of one line
abbrev pub requests_at : Target → (number : ℕ) → Option TraceLine → List model.Request
requests_at target number None = []
requests_at target number (Some line) = requests_of 128 (target ∷ []) number line

-- what is counted of these lines and of all their requests
unfoldable pub tally_of : Target → List (Option TraceLine) → Tally
tally_of target lines = record {
  lines = length lines;
  blank = count_by is_none lines;
  skipped = count_by (is_skipped (target ∷ [])) lines;
  reads = read_count (asked_of target lines);
  writes = write_count (asked_of target lines);
}

-- the same with one more line
unfoldable pub tally_with : Target → (number : ℕ) → Option TraceLine → Tally → Tally
tally_with target number line t = record {
  lines = t.lines + 1;
  blank = t.blank + count_by is_none (line ∷ []);
  skipped = t.skipped + count_by (is_skipped (target ∷ [])) (line ∷ []);
  reads = t.reads + read_count (requests_at target number line);
  writes = t.writes + write_count (requests_at target number line);
}
