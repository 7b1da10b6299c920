-- What is written of a trace is read as the trace.
use Rattle.std.proofs.Common.{◌≡◌, ℕ, zero, suc, ◌+◌, ◌^◌, ◌<◌, ◌≤◌, ◌==◌, true, false, List, [], ◌∷◌, ◌++◌, decimal, map, Some, Ok, refl, ap, ◌∙◌, inl, inr, arith, append_assoc}
use Rattle.std.specs.List.{AllByRecursion, list_any, range_with_len, slice_split}
use Rattle.std.specs.Str.Parse.{AllDigits}
use Rattle.std.proofs.lemmas.Bool.{cases_Bool, eqb-true}
use Rattle.std.proofs.lemmas.Fmt.{decimal_is_IsNumeral}
use Rattle.wol_model.specs.declared.trace.Kind.{Kind}
use Rattle.wol_model.specs.declared.trace.Kind.TheVariants as kind
use Rattle.wol_model.specs.Trace.{TraceLine}
use Rattle.msr_trace.specs.Lines.{is_feed, lines_of, read_of, without_empty_last}
use Rattle.msr_trace.specs.Spelling.{IsWritable, kind_text, line_text}
use Rattle.msr_trace.proofs.Parts.{cut_at, none_both}
use Rattle.msr_trace.proofs.Spelled.{written_is_read}
use Rattle.wol_config.specs.declared.config.Config.{Config}
use Rattle.wol_config.specs.Configs.{IsValid}
use Rattle.wol_config.specs.Keys.{is_host_byte}
use Rattle.trace_gen.specs.Generated.{chosen, line, targets_of, text_of, words_of}
use Rattle.trace_gen.specs.Laws.{TextIsRead}
use Rattle.trace_gen.proofs.Fair.{chosen_fair}
use Rattle.trace_gen.proofs.Written.{lines_are_writable, none_among}

-- ---- No line feed stands in a line

digits_free : (bytes : List ℕ) → AllDigits 10 bytes → list_any is_feed bytes ≡ false
digits_free [] h = refl
digits_free (b ∷ bytes) h = elim (cases_Bool (b == 10)) [
  | inl feed ↦ absurd (let digit = rw (eqb-true b 10 feed) at h.0 in omega (arith, digit))
  | inr other ↦ rw other (digits_free bytes h.1)
]

number_free : (n : ℕ) → n < 2 ^ 64 → list_any is_feed (decimal n) ≡ false
number_free n h = digits_free (decimal n) (decimal_is_IsNumeral n h).0.1

host_byte_free : (b : ℕ) → is_host_byte b ≡ true → is_feed b ≡ false
host_byte_free b h = elim (cases_Bool (b == 10)) [
  | inl feed ↦ absurd (cc (rw (eqb-true b 10 feed) at h))
  | inr other ↦ other
]

kind_free : (k : Kind) → list_any is_feed (kind_text k) ≡ false
kind_free kind.Read = refl
kind_free kind.Write = refl

then_comma : (field rest : List ℕ) → list_any is_feed field ≡ false → list_any is_feed rest ≡ false → list_any is_feed (field ++ 44 ∷ rest) ≡ false
then_comma field rest h k = none_both is_feed field (44 ∷ rest) h k

text_free : (l : TraceLine) → IsWritable l → list_any is_feed l.host ≡ false → list_any is_feed (line_text l) ≡ false
text_free l w host =
    then_comma (decimal l.time) _ (number_free l.time w.time)
    (then_comma l.host _ host
    (then_comma (decimal l.disk) _ (number_free l.disk (omega (arith, w.disk)))
    (then_comma (kind_text l.kind) _ (kind_free l.kind)
    (then_comma (decimal l.offset) _ (number_free l.offset (omega (arith, w.fits.end)))
    (then_comma (decimal l.size) _ (number_free l.size (omega (arith, w.fits.size)))
    (number_free l.response w.response))))))

-- ---- Lines that can be read

record IsClean (l : TraceLine) : Type 0 where
  pub writable : IsWritable l
  pub free : list_any is_feed (line_text l) ≡ false

split : (ls : List TraceLine) → AllByRecursion IsClean ls → slice_split is_feed (text_of ls) ≡ map line_text ls ++ [] ∷ []
split [] h = refl
split (l ∷ ls) h =
    let first = cut_at is_feed (line_text l) 10 (text_of ls) h.0.free refl in
    ap (slice_split is_feed) (append_assoc (line_text l) (10 ∷ []) (text_of ls)) ∙ first ∙ ap (λ (parts : List (List ℕ)). line_text l ∷ parts) (split ls h.1)

without_last : (parts : List (List ℕ)) → without_empty_last (parts ++ [] ∷ []) ≡ parts
without_last [] = refl
without_last (part ∷ []) = refl
without_last (part ∷ next ∷ parts) = ap (λ (rest : List (List ℕ)). part ∷ rest) (without_last (next ∷ parts))

all_read : (ls : List TraceLine) → AllByRecursion IsClean ls → map read_of (map line_text ls) ≡ map (λ l. Ok (Some l)) ls
all_read [] h = refl
all_read (l ∷ ls) h = rw (written_is_read l h.0.writable, all_read ls h.1) refl

-- ---- The generated lines

clean : (config : Config) (seed n : ℕ) → IsValid config → n < 2 ^ 31 → IsClean (line (targets_of config) seed n)
unfolding line
clean config seed n valid few =
    let writable : IsWritable (line (targets_of config) seed n) = lines_are_writable config seed n valid few in
    let word = (words_of seed n).volume in
    let host = (chosen_fair config word valid).host.2 in
    record { writable = writable; free = text_free _ writable (none_among is_host_byte is_feed host_byte_free (chosen (targets_of config) word).host host) }

all_clean : (config : Config) (seed n count : ℕ) → IsValid config → n + count ≤ 2 ^ 31 → AllByRecursion IsClean (map (line (targets_of config) seed) (range_with_len n count))
all_clean config seed n zero valid few = tt
all_clean config seed n (suc count) valid few = (clean config seed n valid (omega (arith, few)), all_clean config seed (n + 1) count valid (omega (arith, few)))

pub text_is_read : TextIsRead
unfolding lines_of
text_is_read config seed count valid few =
    let ls = map (line (targets_of config) seed) (range_with_len 0 count) in
    let all = all_clean config seed 0 count valid (omega (arith, few)) in
    let cut : lines_of (text_of ls) ≡ map line_text ls = ap without_empty_last (split ls all) ∙ without_last (map line_text ls) in
    ap (map read_of) cut ∙ all_read ls all
