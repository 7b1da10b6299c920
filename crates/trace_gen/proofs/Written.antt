-- A generated line can be written and read again.
use Rattle.std.proofs.Common.{◌≡◌, ℕ, suc, ◌+◌, ◌-◌, ◌*◌, ◌/◌, ◌%◌, ◌^◌, ◌<◌, ◌≤◌, ◌==◌, Bool, true, false, List, [], ◌∷◌, ◌++◌, length, decimal, refl, sym, ap, inl, inr, arith, length-append}
use Rattle.std.specs.List.{list_all, list_any}
use Rattle.std.proofs.lemmas.Bool.{and_parts, cases_Bool, eqb-true}
use Rattle.std.proofs.lemmas.Fmt.{length-decimal-le}
use Rattle.wol_model.specs.declared.trace.Kind.{Kind}
use Rattle.wol_model.specs.declared.trace.Kind.TheVariants as kind
use Rattle.wol_model.specs.Trace.{Target, blocks_touched}
use Rattle.msr_trace.specs.Spelling.{IsWritable, is_reserved, kind_text}
use Rattle.wol_config.specs.Keys.{is_host_byte}
use Rattle.trace_gen.specs.declared.words.Words.{Words}
use Rattle.trace_gen.specs.Generated.{chosen, kind_of, line, line_of, targets_of, time_after, words_of}
use Rattle.trace_gen.specs.Laws.{AsksBlocks, LinesAreWritable, LinesAskBlocks}
use Rattle.trace_gen.proofs.Fair.{IsFair, chosen_fair}
use Rattle.trace_gen.proofs.Times.{time_small}

-- a host's byte is none that fails the other test
pub none_among : (p q : ℕ → Bool) → ((b : ℕ) → p b ≡ true → q b ≡ false) → (bytes : List ℕ) → list_all p bytes ≡ true → list_any q bytes ≡ false
none_among p q free [] h = refl
none_among p q free (b ∷ bytes) h = let both = and_parts (p b) (list_all p bytes) h in rw (free b both.0) (none_among p q free bytes both.1)

host_byte_free : (b : ℕ) → is_host_byte b ≡ true → is_reserved b ≡ false
host_byte_free b h = elim (cases_Bool (b == 44)) [
  | inl comma ↦ absurd (cc (rw (eqb-true b 44 comma) at h))
  | inr c ↦ elim (cases_Bool (b == 34)) [
    | inl quote ↦ absurd (cc (rw (eqb-true b 34 quote) at h))
    | inr q ↦ elim (cases_Bool (b == 13)) [
      | inl ret ↦ absurd (cc (rw (eqb-true b 13 ret) at h))
      | inr r ↦ rw (c, q, r) refl
    ]
  ]
]

kind_short : (k : Kind) → length (kind_text k) ≤ 5
kind_short kind.Read = omega arith
kind_short kind.Write = omega arith

number_short : (n : ℕ) → n < 2 ^ 64 → length (decimal n) ≤ 20
number_short n h = length-decimal-le 20 n (omega arith) (omega (arith, h)) h

joined : (a b c d e f g : List ℕ) → length a ≤ 20 → length b ≤ 64 → length c ≤ 20 → length d ≤ 5 → length e ≤ 20 → length f ≤ 20 → length g ≤ 20
    → length (a ++ 44 ∷ (b ++ 44 ∷ (c ++ 44 ∷ (d ++ 44 ∷ (e ++ 44 ∷ (f ++ 44 ∷ g)))))) ≤ 4096
joined a b c d e f g ha hb hc hd he hf hg = simp length-append (omega arith)

writable : (target : Target) (time : ℕ) (words : Words) → IsFair target → time < 2 ^ 64 → IsWritable (line_of target time words)
writable target time words fair early =
    let some = fair.some in
    let small = fair.small in
    let first : words.offset % target.home < target.home = omega arith in
    let offset : words.offset % target.home * 512 < 2 ^ 41 = omega (arith, first, small) in
    let size : (1 + words.size % 16) * 512 ≤ 8192 = omega arith in
    record {
      host = none_among is_host_byte is_reserved host_byte_free target.host fair.host.2;
      time = early;
      disk = fair.disk;
      response = omega arith;
      fits = record { size = omega (arith, size); end = omega (arith, offset, size) };
      short = joined (decimal time) target.host (decimal target.disk) (kind_text (kind_of words.kind)) _ _ _
          (number_short time early) fair.host.1 (number_short target.disk (omega (arith, fair.disk))) (kind_short (kind_of words.kind))
          (number_short (words.offset % target.home * 512) (omega (arith, offset))) (number_short ((1 + words.size % 16) * 512) (omega (arith, size))) (number_short 1000 (omega arith));
    }

pub lines_are_writable : LinesAreWritable
unfolding line
lines_are_writable config seed n valid few =
    let words : Words = words_of seed n in
    let early : time_after seed (suc n) < 2 ^ 64 = omega (arith, time_small seed (suc n), few) in
    writable (chosen (targets_of config) words.volume) (time_after seed (suc n)) words (chosen_fair config words.volume valid) early

-- as many blocks as the size has
touched : (first count : ℕ) → (first * 512 + count * 512 + 511) / 512 - first * 512 / 512 ≡ count
touched first count = omega arith

asks : (target : Target) (time : ℕ) (words : Words) → IsFair target → AsksBlocks target.home (line_of target time words)
asks target time words fair =
    let some = fair.some in
    let count : blocks_touched (line_of target time words) ≡ 1 + words.size % 16 = touched (words.offset % target.home) (1 + words.size % 16) in
    record {
      starts = omega arith;
      within = omega arith;
      whole = ap (λ (n : ℕ). n * 512) (sym count);
      some = omega (arith, count);
      few = omega (arith, count);
    }

pub lines_ask_blocks : LinesAskBlocks
unfolding line
lines_ask_blocks config seed n valid =
    let words : Words = words_of seed n in
    asks (chosen (targets_of config) words.volume) (time_after seed (suc n)) words (chosen_fair config words.volume valid)
