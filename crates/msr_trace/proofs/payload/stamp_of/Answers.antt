use Rattle.std.proofs.Common.{◌≡◌, ◌∙◌, ◌++◌, ◌<◌, ◌+◌, ◌*◌, ◌/◌, ◌%◌, ◌^◌, ℕ, List, [], ◌∷◌, arith, refl, get_or}
use Rattle.std.specs.Int.{w64, to_le_bytes}
use Rattle.std.specs.Simd.Lanes.{digits_l, number_l}
use Rattle.std.proofs.lemmas.Simd.{get_or_narrower}
use Rattle.msr_trace.proofs.payload.stamp_of.Goals as goal

both : (a b : ℕ) (xs ys : List ℕ) → a ≡ b → xs ≡ ys → a ∷ xs ≡ b ∷ ys
both a b xs ys p q = λ i. p i ∷ q i

-- two numbers in one vector, as bytes
in_bytes : (a b : ℕ) → a < 2 ^ 64 → b < 2 ^ 64 → digits_l 256 16 (number_l (2 ^ 64) (a ∷ b ∷ [])) ≡ to_le_bytes w64 a ++ to_le_bytes w64 b
in_bytes a b small small-2 =
    both _ _ _ _ (low 0 (omega arith) ∙ one a) (both _ _ _ _ (low 1 (omega arith)) (both _ _ _ _ (low 2 (omega arith)) (both _ _ _ _ (low 3 (omega arith))
    (both _ _ _ _ (low 4 (omega arith)) (both _ _ _ _ (low 5 (omega arith)) (both _ _ _ _ (low 6 (omega arith)) (both _ _ _ _ (low 7 (omega arith))
    (both _ _ _ _ (high 0 (omega arith) ∙ one b) (both _ _ _ _ (high 1 (omega arith)) (both _ _ _ _ (high 2 (omega arith)) (both _ _ _ _ (high 3 (omega arith))
    (both _ _ _ _ (high 4 (omega arith)) (both _ _ _ _ (high 5 (omega arith)) (both _ _ _ _ (high 6 (omega arith)) (both _ _ _ _ (high 7 (omega arith)) refl)))))))))))))))
  where
    low : (i : ℕ) → i < 8 → get_or (digits_l 256 16 (number_l (2 ^ 64) (a ∷ b ∷ []))) (8 * 0 + i) 0 ≡ a / 256 ^ i % 256
    low i less = get_or_narrower (2 ^ 64) 8 256 16 (a ∷ b ∷ []) 0 i refl (small, (small-2, tt)) less (omega arith)

    high : (i : ℕ) → i < 8 → get_or (digits_l 256 16 (number_l (2 ^ 64) (a ∷ b ∷ []))) (8 * 1 + i) 0 ≡ b / 256 ^ i % 256
    high i less = get_or_narrower (2 ^ 64) 8 256 16 (a ∷ b ∷ []) 1 i refl (small, (small-2, tt)) less (omega arith)

    one : (n : ℕ) → n / 256 ^ 0 % 256 ≡ n % 256
    one n = let e : n / 1 ≡ n = omega arith in λ i. e i % 256

pub returns : goal.returns
returns c = in_bytes c.args.line c.args.lbn (omega arith) (omega arith)
