-- Requests as the program has them, with their numbers in the trace.
use Rattle.std.specs.Prelude.{ℕ, ◌+◌, ◌≤◌, ◌<◌, List, [], ◌∷◌, length}
use Rattle.std.specs.List.{flat_map}
use Rattle.wol_model.specs.Trace as trace
use Rattle.wol_model.specs.Trace.{Target, Timed, Window, home_of, requests_of}
use Rattle.trace_windows.specs.declared.request.Request.{Request}

-- a request as the model has it
abbrev pub asked : Request → trace.Request
asked r = record { line = r.line; volume = r.volume; kind = r.kind; first = r.lbn; count = r.count }

-- a request of the model with its number
abbrev pub with_number : ℕ → trace.Request → Request
with_number n r =
    record { number = n; line = line; volume = volume; kind = kind; lbn = first; count = count }
  where
    open r use {line, volume, kind, first, count}

-- requests of the model with numbers, which count up from `next`
abbrev pub numbered : (next : ℕ) → List trace.Request → List Request
numbered next [] = []
numbered next (r ∷ rs) = with_number next r ∷ numbered (next + 1) rs

-- the requests of a window: those of its lines, in order
abbrev pub requests_in : (most : ℕ) → List Target → Window → List trace.Request
requests_in most targets w =
    flat_map (λ (l : Timed). requests_of most targets l.number l.line) w.lines

-- the requests of windows, in order
abbrev pub requests_in_all : (most : ℕ) → List Target → List Window → List trace.Request
requests_in_all most targets ws = flat_map (requests_in most targets) ws

-- it names one of these volumes, and has 1 to `most` blocks, which lie in it
pub record IsInside (most : ℕ) (targets : List Target) (r : Request) : Type 0 where
  pub volume : r.volume < length targets
  pub some : 0 < r.count
  pub short : r.count ≤ most
  pub within : r.lbn + r.count ≤ home_of targets r.volume
