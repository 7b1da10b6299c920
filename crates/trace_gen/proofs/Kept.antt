-- Times never fall, so that none is raised.
use Rattle.std.proofs.Common.{◌≡◌, ℕ, zero, suc, ◌+◌, ◌≤◌, max, List, map, Some, add-one, arith}
use Rattle.std.specs.List.{All, range_with_len}
use Rattle.std.proofs.lemmas.List.Elements.{All-nil, All-cons}
use Rattle.wol_model.specs.Trace.{Target, Timed, numbered_from, timed_from}
use Rattle.trace_gen.specs.Generated.{line, time_after}
use Rattle.trace_gen.specs.Laws.{TimesAreKept, TimesRise}

pub times_rise : TimesRise
unfolding line time_after
times_rise targets seed n = omega arith

-- after a time that isn't later than the next line's
from : (targets : List Target) (seed count time number n : ℕ) → time ≤ (line targets seed n).time
    → All (λ (t : Timed). t.time ≡ t.line.time) (timed_from time (numbered_from number (map Some (map (line targets seed) (range_with_len n count)))))
from targets seed zero time number n h = All-nil (λ (t : Timed). t.time ≡ t.line.time)
from targets seed (suc count) time number n h =
    let own : max time (line targets seed n).time ≡ (line targets seed n).time = omega (arith, h) in
    let later : (line targets seed n).time ≤ (line targets seed (n + 1)).time = rw add-one (times_rise targets seed n) in
    All-cons (λ (t : Timed). t.time ≡ t.line.time) _ _ own (from targets seed count (max time (line targets seed n).time) (number + 1) (n + 1) (rw own later))

pub times_are_kept : TimesAreKept
times_are_kept targets seed count = from targets seed count 0 1 0 (omega arith)
