-- The requests of one window.
use Rattle.std.specs.Prelude.{◌≡◌, ℕ, ◌+◌, ◌<◌, ◌==◌, Bool, true, false, List, [], ◌++◌, length, if◌then◌else◌}
use Rattle.wol_model.specs.Trace.{Target, Timed, Window, joins}
use Rattle.trace_windows.specs.declared.request.Request.{Request}
use Rattle.trace_windows.specs.Requests.{numbered, requests_in}

-- what contracts see of a batch: the moment of its window, how many lines that has, and their
-- requests
pub record Batched : Type 0 where
  pub moment : ℕ
  pub lines : ℕ
  pub requests : List Request

abbrev pub no_lines : Batched
no_lines = record { moment = 0; lines = 0; requests = [] }

-- a line more, which has these requests; the time of the first line is the moment
abbrev pub with_line : (time : ℕ) → List Request → Batched → Batched
with_line time rs b = record {
  moment = if b.lines == 0 then time
      else b.moment;
  lines = b.lines + 1;
  requests = b.requests ++ rs;
}

-- whether a line of this time with so many requests goes into the window: it does where the window
-- has no line yet, or where it joins
pub record Admits (b : Batched) (time more : ℕ) (yes : Bool) : Type 0 where
  pub first : b.lines ≡ 0 → yes ≡ true
  pub further : 0 < b.lines → (w : Window) (l : Timed) → w.moment ≡ b.moment
      → length w.lines ≡ b.lines → w.pieces ≡ length b.requests → l.time ≡ time
      → joins w l more ≡ yes

-- a line with these requests was put into the open window `old`, or made it whole and opened the
-- next one
abbrev pub IsPut : (time : ℕ) → List Request → (old current whole : Batched) → (closes : Bool)
    → Type 0
IsPut time rs old current whole false = (current ≡ with_line time rs old) × (whole ≡ no_lines)
IsPut time rs old current whole true = (current ≡ with_line time rs no_lines) × (whole ≡ old)

-- the batch is this window; the first of its requests has the number `next`
pub record IsBatchOf (most : ℕ) (targets : List Target) (next : ℕ) (w : Window) (b : Batched) :
    Type 0 where
  pub some : 0 < b.lines
  pub moment : b.moment ≡ w.moment
  pub lines : b.lines ≡ length w.lines
  pub pieces : length b.requests ≡ w.pieces
  pub requests : b.requests ≡ numbered next (requests_in most targets w)
