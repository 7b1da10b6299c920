-- When lines come.
use Rattle.std.proofs.Common.{◌≡◌, ℕ, zero, suc, ◌+◌, ◌*◌, ◌/◌, ◌%◌, ◌==◌, ◌≤◌, Bool, true, false, if◌then◌else◌, ap, add-one, arith}
use Rattle.trace_gen.specs.Generated.{gap_of, start_time, time_after, words_of}

-- two minutes at most
pub gap_small : (word : ℕ) → gap_of word ≤ 1200000000
gap_small word =
    elim (word % 16 == 0) as (λ (b : Bool). (if b then (1 + word / 16 % 120) * 10000000 else word / 16 % 1000000) ≤ 1200000000) [ true ↦ omega arith | false ↦ omega arith ]

-- each gap comes on top
pub time_more : (seed n : ℕ) → time_after seed (n + 1) ≡ time_after seed n + gap_of (words_of seed n).gap
unfolding time_after
time_more seed n = ap (time_after seed) (add-one n)

pub time_small : (seed n : ℕ) → time_after seed n ≤ start_time + n * 1200000000
unfolding time_after
time_small seed zero = omega arith
time_small seed (suc n) = omega (arith, time_small seed n, gap_small (words_of seed n).gap)
