-- A block that is filled with one stamp after another.
use Rattle.std.proofs.Common.{◌≡◌, ℕ, ◌+◌, ◌≤◌, zero, suc, List, ◌++◌, refl, ap, ◌∙◌, arith, sym, append_assoc, length, take}
use Rattle.std.specs.List.{flat_map, range_with_len}
use Rattle.std.proofs.lemmas.Slice.{take-put_mid}
use borrow.Rule.Slice.PartMut.{put_mid}

same_copies : (s : List ℕ) (a b n : ℕ) → flat_map (λ k. s) (range_with_len a n) ≡ flat_map (λ k. s) (range_with_len b n)
same_copies s a b zero = refl
same_copies s a b (suc n) = ap (λ (xs : List ℕ). s ++ xs) (same_copies s (a + 1) (b + 1) n)

-- n more of them
pub stamps_more : (s : List ℕ) (a b m n : ℕ) → flat_map (λ k. s) (range_with_len a (m + n)) ≡ flat_map (λ k. s) (range_with_len a m) ++ flat_map (λ k. s) (range_with_len b n)
stamps_more s a b zero n = let e : 0 + n ≡ n = omega arith in rw e (same_copies s a b n)
stamps_more s a b (suc m) n =
    let e : suc m + n ≡ suc (m + n) = omega arith in
    rw (e, append_assoc) (ap (λ (xs : List ℕ). s ++ xs) (stamps_more s (a + 1) b m n))

-- a part of a block is filled, behind m of them
pub put_more : (s : List ℕ) (a k m n e t : ℕ) (xs ys : List ℕ) → e ≡ a + length ys → a ≤ length xs → take a xs ≡ flat_map (λ k. s) (range_with_len 0 m)
    → ys ≡ flat_map (λ k. s) (range_with_len 0 n) → t ≡ m + n → take e (put_mid a k xs ys) ≡ flat_map (λ k. s) (range_with_len 0 t)
put_more s a k m n e t xs ys end within filled more all = take-put_mid a k xs ys e end within ∙ rw (filled, more, all) (sym (stamps_more s 0 0 m n))
