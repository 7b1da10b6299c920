-- Laws of windows and their requests.
use Rattle.std.specs.Prelude.{◌≡◌, ℕ, ◌≤◌, List, [], ◌∷◌, Option, map}
use Rattle.std.specs.List.{AllByRecursion}
use Rattle.wol_model.specs.Trace as trace
use Rattle.wol_model.specs.Trace.{Target, TraceLine, Window, timed}
use Rattle.trace_windows.specs.Requests.{IsInside, asked, numbered, requests_in, requests_in_all}

-- the requests of the windows are those of the trace
abbrev pub WindowsHaveRequests : Type 0
WindowsHaveRequests = (most : ℕ) (targets : List Target) (ls : List (Option TraceLine))
    → requests_in_all most targets (trace.windows most targets ls) ≡ trace.requests most targets ls

-- a request with its number is the same request
abbrev pub NumbersLeave : Type 0
NumbersLeave = (next : ℕ) (rs : List trace.Request) → map asked (numbered next rs) ≡ rs

-- each request lies in its volume
abbrev pub RequestsLie : Type 0
RequestsLie = (most next : ℕ) (targets : List Target) (w : Window) → 1 ≤ most
    → AllByRecursion (λ (t : Target). 1 ≤ t.home) targets
    → AllByRecursion (IsInside most targets) (numbered next (requests_in most targets w))

-- times of windows in order: none is earlier than the one before, the first no earlier than `from`,
-- and the last no later than `to`
abbrev pub AreInOrder : (from : ℕ) → List Window → (to : ℕ) → Type 0
AreInOrder from [] to = from ≤ to
AreInOrder from (w ∷ ws) to = (from ≤ w.moment) × AreInOrder w.moment ws to

-- the moments of the windows lie in the time of the account, and never fall
abbrev pub MomentsRise : Type 0
MomentsRise = (most : ℕ) (targets : List Target) (ls : List (Option TraceLine))
    → AreInOrder (trace.started (timed ls)) (trace.windows most targets ls) (trace.ended (timed ls))
