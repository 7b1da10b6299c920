-- One line more, for those who give lines one by one.
use Rattle.std.proofs.Common.{◌≡◌, ℕ, ◌+◌, List, [], ◌∷◌, ◌++◌, sym, ap, ◌∙◌, zero-add, append-nil, length}
use Rattle.std.proofs.lemmas.Grind.{flat_map-append}
use Rattle.std.proofs.lemmas.List.FromFn.{length-map-range_with_len, map-range_with_len_more}
use Rattle.wol_model.specs.Trace.{Target, TraceLine}
use Rattle.msr_trace.specs.Spelling.{line_text}
use Rattle.trace_gen.specs.Generated.{line, lines, text_of}

pub lines_more : (targets : List Target) (seed n : ℕ) → lines targets seed (n + 1) ≡ lines targets seed n ++ line targets seed n ∷ []
lines_more targets seed n = map-range_with_len_more (line targets seed) 0 n n (zero-add n)

pub length-lines : (targets : List Target) (seed n : ℕ) → length (lines targets seed n) ≡ n
length-lines targets seed n = length-map-range_with_len (line targets seed) 0 n

-- one line's text more
pub text_more : (ls : List TraceLine) (l : TraceLine) → text_of (ls ++ l ∷ []) ≡ text_of ls ++ (line_text l ++ 10 ∷ [])
text_more ls l = flat_map-append (λ (m : TraceLine). line_text m ++ 10 ∷ []) ls (l ∷ []) ∙ ap (λ (t : List ℕ). text_of ls ++ t) (append-nil (line_text l ++ 10 ∷ []))

-- the next line is written behind the first n
pub written_more : (targets : List Target) (seed n : ℕ) (old new : List ℕ) (l : TraceLine) → old ≡ text_of (lines targets seed n) → l ≡ line targets seed n
    → new ≡ old ++ (line_text l ++ 10 ∷ []) → new ≡ text_of (lines targets seed (n + 1))
written_more targets seed n old new l before is h =
    h ∙ rw (before, is) (sym (text_more (lines targets seed n) (line targets seed n))) ∙ ap text_of (sym (lines_more targets seed n))
