-- Each request lies in its volume.
use Rattle.std.proofs.Common.{◌≡◌, ℕ, zero, suc, ◌+◌, ◌≤◌, ◌<◌, List, [], ◌∷◌, ◌++◌, length, map, Option, Some, None, refl, arith}
use Rattle.std.specs.List.{AllByRecursion, flat_map}
use Rattle.std.specs.Prelude.{◌&&◌, ◌==◌}
use Rattle.std.specs.Str.{bytes_eq}
use Rattle.std.proofs.lemmas.List.Quantifiers.{position-Some}
use Rattle.wol_model.specs.Trace as trace
use Rattle.wol_model.specs.Trace.{Target, Timed, TraceLine, Window, home_of, pieces, requests_of, requests_on, volume_of}
use Rattle.wol_model.specs.TraceLaws.{LiesIn}
use Rattle.wol_model.specs.declared.trace.Piece.{Piece}
use Rattle.wol_model.proofs.TraceLaws.{pieces_lie}
use Rattle.trace_windows.specs.Requests.{IsInside, numbered, requests_in}
use Rattle.trace_windows.specs.Laws.{RequestsLie}

module _ (most : ℕ) (targets : List Target) where
  -- a request of the model lies in its volume
  record Inside (r : trace.Request) : Type 0 where
    volume : r.volume < length targets
    some : 0 < r.count
    short : r.count ≤ most
    within : r.first + r.count ≤ home_of targets r.volume

  with_numbers : (n : ℕ) (rs : List trace.Request) → AllByRecursion Inside rs → AllByRecursion (IsInside most targets) (numbered n rs)
  with_numbers n [] all = tt
  with_numbers n (r ∷ rs) all = (record { volume = all.0.volume; some = all.0.some; short = all.0.short; within = all.0.within }, with_numbers (n + 1) rs all.1)

  both : (rs ss : List trace.Request) → AllByRecursion Inside rs → AllByRecursion Inside ss → AllByRecursion Inside (rs ++ ss)
  both [] ss all more = more
  both (r ∷ rs) ss all more = (all.0, both rs ss all.1 more)

  of_pieces : (number v : ℕ) (l : TraceLine) (ps : List Piece) → v < length targets → AllByRecursion (LiesIn (home_of targets v) most) ps
      → AllByRecursion Inside (map (λ (p : Piece). record { line = number; volume = v; kind = l.kind; first = p.lbn; count = p.count }) ps)
  of_pieces number v l [] lt all = tt
  of_pieces number v l (p ∷ ps) lt all = (record { volume = lt; some = all.0.some; short = all.0.short; within = all.0.within }, of_pieces number v l ps lt all.1)

  some_home : (ts : List Target) (v : ℕ) → v < length ts → AllByRecursion (λ (t : Target). 1 ≤ t.home) ts → 1 ≤ home_of ts v
  some_home [] v lt all = absurd (omega arith)
  some_home (t ∷ ts) zero lt all = all.0
  some_home (t ∷ ts) (suc v) lt all = some_home ts v (omega arith) all.1

  of_volume : (number : ℕ) (l : TraceLine) (volume : Option ℕ) → ((v : ℕ) → volume ≡ Some v → v < length targets) → 1 ≤ most → AllByRecursion (λ (t : Target). 1 ≤ t.home) targets
      → AllByRecursion Inside (requests_on most targets number l volume)
  of_volume number l None lt m all = tt
  of_volume number l (Some v) lt m all = of_pieces number v l (pieces (home_of targets v) most l) (lt v refl) (pieces_lie (home_of targets v) most l (some_home targets v (lt v refl) all) m)

  of_lines : (ls : List Timed) → 1 ≤ most → AllByRecursion (λ (t : Target). 1 ≤ t.home) targets → AllByRecursion Inside (flat_map (λ (l : Timed). requests_of most targets l.number l.line) ls)
  of_lines [] m all = tt
  of_lines (l ∷ ls) m all =
      both (requests_of most targets l.number l.line) (flat_map (λ (k : Timed). requests_of most targets k.number k.line) ls)
      (of_volume l.number l.line (volume_of targets l.line) (λ v is. (position-Some (λ (t : Target). bytes_eq t.host l.line.host && t.disk == l.line.disk) targets v (record { host = []; disk = 0; home = 0 }) is).0) m all) (of_lines ls m all)

pub requests_lie : RequestsLie
requests_lie most next targets w m all = with_numbers most targets next (requests_in most targets w) (of_lines most targets w.lines m all)
