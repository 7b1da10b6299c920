-- The moments of windows never fall.
use Rattle.std.proofs.Common.{ℕ, ◌≤◌, max, Bool, true, false, cond, List, [], ◌∷◌, arith}
use Rattle.wol_model.specs.Trace as trace
use Rattle.wol_model.specs.Trace.{Numbered, Target, Timed, Window, joined, joins, numbered_from, opened, pieces_of, timed, timed_from, windows, windows_from}
use Rattle.trace_windows.specs.Laws.{AreInOrder, MomentsRise}

from_in_order : (cost : Timed → ℕ) (from t : ℕ) (w : Window) (ns : List Numbered) → from ≤ w.moment → w.moment ≤ t
    → AreInOrder from (windows_from cost w (timed_from t ns)) (trace.last_time t (timed_from t ns))
from_in_order cost from t w [] start le = (start, le)
from_in_order cost from t w (n ∷ ns) start le =
    let later : ℕ = max t n.line.time in
    let l : Timed = record { time = later; number = n.number; line = n.line } in
    at later l (joins w l (cost l)) (from_in_order cost from later (joined w l (cost l)) ns start (omega arith)) (from_in_order cost w.moment later (opened l (cost l)) ns (omega arith) (omega arith))
  where
    at : (later : ℕ) (l : Timed) (b : Bool) → AreInOrder from (windows_from cost (joined w l (cost l)) (timed_from later ns)) (trace.last_time later (timed_from later ns))
        → AreInOrder w.moment (windows_from cost (opened l (cost l)) (timed_from later ns)) (trace.last_time later (timed_from later ns))
        → AreInOrder from (cond b (windows_from cost (joined w l (cost l)) (timed_from later ns)) (w ∷ windows_from cost (opened l (cost l)) (timed_from later ns))) (trace.last_time later (timed_from later ns))
    at later l true in_it next = in_it
    at later l false in_it next = (start, next)

pub moments_rise : MomentsRise
unfolding windows
moments_rise most targets ls = at (numbered_from 1 ls)
  where
    at : (ns : List Numbered) → AreInOrder (trace.started (timed_from 0 ns)) (trace.windows_by (pieces_of most targets) (timed_from 0 ns)) (trace.last_time 0 (timed_from 0 ns))
    at [] = omega arith
    at (n ∷ ns) =
        let first : Timed = record { time = max 0 n.line.time; number = n.number; line = n.line } in
        from_in_order (pieces_of most targets) first.time first.time (opened first (pieces_of most targets first)) ns (omega arith) (omega arith)
