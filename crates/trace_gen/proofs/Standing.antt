-- A generator that gave some lines gives the next one.
use Rattle.std.proofs.Common.{◌≡◌, ℕ, ◌+◌, ◌*◌, ◌^◌, ◌<◌, List, refl, ap, ◌∙◌, arith}
use Rattle.std.specs.Int.{w64, from_le_bytes, to_le_bytes}
use Rattle.std.proofs.lemmas.Nat.{from_le_bytes-to_le_bytes_8}
use Rattle.wol_model.specs.Trace.{Target, TraceLine}
use Rattle.trace_gen.specs.declared.words.Words.{Words}
use Rattle.trace_gen.specs.Generated.{IsAt, chosen, gap_of, line, line_of, start_time, time_after, word, words_of}
use Rattle.trace_gen.proofs.Times.{time_more}

-- the seed's bytes are the first state
pub begins : (seed state : ℕ) → seed < 2 ^ 64 → state ≡ from_le_bytes w64 (to_le_bytes w64 seed) → IsAt seed 0 state start_time
unfolding time_after
begins seed state fits is =
    let same : state ≡ seed = is ∙ from_le_bytes-to_le_bytes_8 seed fits in
    record { words = λ k. ap (λ (s : ℕ). word s k) same ∙ ap (word seed) (omega arith); time = refl }

-- the words that are drawn now are those of the line
pub words_now : (seed given state last : ℕ) → IsAt seed given state last → words_of state 0 ≡ words_of seed given
words_now seed given state last at =
    let a : word state 0 ≡ word seed (5 * given) = at.words 0 ∙ ap (word seed) (omega arith) in
    let b = at.words 1 in
    let c = at.words 2 in
    let d = at.words 3 in
    let e = at.words 4 in
    cc

-- the line of these words
pub next_line : (targets : List Target) (seed given state last gap : ℕ) (words : Words) (target : Target) (l : TraceLine) → IsAt seed given state last
    → words ≡ words_of state 0 → gap ≡ gap_of words.gap → target ≡ chosen targets words.volume → l ≡ line_of target (last + gap) words
    → l ≡ line targets seed given
unfolding line time_after
next_line targets seed given state last gap words target l at drawn waits there is =
    let line_at : (time : ℕ) → Words → TraceLine = λ time w. line_of (chosen targets w.volume) (time + gap_of w.gap) w in
    let now : words ≡ words_of seed given = drawn ∙ words_now seed given state last at in
    let made : l ≡ line_at last words = rw (is, waits, there) refl in
    made ∙ ap (line_at last) now ∙ ap (λ (time : ℕ). line_at time (words_of seed given)) at.time

-- the generator after it
pub moves_on : (seed given state last later gap : ℕ) (words : Words) → IsAt seed given state last
    → words ≡ words_of state 0 → gap ≡ gap_of words.gap → ((k : ℕ) → word later k ≡ word state (5 + k))
    → IsAt seed (given + 1) later (last + gap)
moves_on seed given state last later gap words at drawn waits behind = record {
  words = λ k. behind k ∙ at.words (5 + k) ∙ ap (word seed) (omega arith);
  time =
      let same : gap ≡ gap_of (words_of seed given).gap = waits ∙ ap (λ (w : Words). gap_of w.gap) (drawn ∙ words_now seed given state last at) in
      rw (at.time, same, time_more) refl;
}
