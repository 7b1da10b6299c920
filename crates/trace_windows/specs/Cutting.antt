-- What a cutter has cut, and what a further line comes to.
use Rattle.std.specs.Prelude.{◌≡◌, ℕ, Bool, true, false, List, [], ◌∷◌, ◌++◌, Option, None, Some, is_none, length, count_by}
use Rattle.wol_model.specs.Trace as trace
use Rattle.wol_model.specs.Trace.{Target, TraceLine, Window, timed, is_skipped}
use Rattle.trace_windows.specs.declared.tally.Tally.{Tally}
use Rattle.trace_windows.specs.Requests.{requests_in_all}
use Rattle.trace_windows.specs.Batches.{Batched, IsBatchOf, no_lines}

-- what contracts see of a cutter: what was counted, the open window, and the window that the last
-- call made whole
pub record Cutting : Type 0 where
  pub tally : Tally
  pub current : Batched
  pub whole : Batched

-- how many requests come before those of the next window
abbrev pub next_number : (most : ℕ) → List Target → (given : List Window) → ℕ
next_number most targets given = length (requests_in_all most targets given)

-- the windows so far are those that were given and the open one; before the first line that isn't
-- blank there is none
abbrev pub AreWindows : (most : ℕ) → List Target → (ws given : List Window) → (last : Option Window)
    → (current : Batched) → Type 0
AreWindows most targets ws given None current = (ws ≡ []) × (given ≡ []) × (current ≡ no_lines)
AreWindows most targets ws given (Some w) current =
    (ws ≡ given ++ w ∷ []) × IsBatchOf most targets (next_number most targets given) w current

-- a cutter has taken these lines, and given these windows of them as whole
pub record HasCut (most : ℕ) (targets : List Target) (ls : List (Option TraceLine))
    (given : List Window) (c : Cutting) : Type 0 where
  pub last : Option Window
  pub windows : AreWindows most targets (trace.windows most targets ls) given last c.current
  pub lines : c.tally.lines ≡ length ls
  pub blank : c.tally.blank ≡ count_by is_none ls
  pub skipped : c.tally.skipped ≡ count_by (is_skipped targets) ls
  pub requests : c.tally.requests ≡ length (trace.requests most targets ls)
  pub started : c.tally.started ≡ trace.started (timed ls)
  pub ended : c.tally.ended ≡ trace.ended (timed ls)

-- a line was taken, and the window that was open before it is whole, or isn't
abbrev pub Takes : (most : ℕ) → List Target → (ls : List (Option TraceLine)) → (given : List Window)
    → Option TraceLine → (closes : Bool) → Cutting → Type 0
Takes most targets ls given line false c =
    HasCut most targets (ls ++ line ∷ []) given c × (c.whole ≡ no_lines)
Takes most targets ls given line true c =
    (w : Window) × IsBatchOf most targets (next_number most targets given) w c.whole
    × HasCut most targets (ls ++ line ∷ []) (given ++ w ∷ []) c
