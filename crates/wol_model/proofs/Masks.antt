-- Masks as sets of blocks.
use Rattle.std.proofs.Common.{◌≡◌, ⊎_elim, ◌<◌, ◌≤◌, ◌-◌, ◌^◌, ◌/◌, ◌%◌, ℕ, min, max, not, ◌&&◌, ◌||◌, sym, ap, ◌∙◌, arith, eqb, bit_and}
use Rattle.std.specs.Int.{bit_at, bit_not, w128}
use Rattle.std.proofs.lemmas.Nat.Bits.{bit_at_and, bit_at_or, bit_at_not, bit_at-lt}
use Rattle.std.proofs.lemmas.Bool.Decides.{nat_tests}
use Rattle.std.proofs.lemmas.Bool.{cases_lt}
use Rattle.std.proofs.Math.Nat.{div-eq_of_lt, pow-le-pow_right}
use Rattle.wol_model.specs.IndexLaws.{MaskOr, MaskAnd, MaskWithout}

greater : (x y : ℕ) → x < 2 → y < 2 → eqb (max x y) 1 ≡ (eqb x 1 || eqb y 1)
greater x y a b = grind (arith, nat_tests)

lesser : (x y : ℕ) → x < 2 → y < 2 → eqb (min x y) 1 ≡ (eqb x 1 && eqb y 1)
lesser x y a b = grind (arith, nat_tests)

pub mask_or : MaskOr
mask_or m n i = ap (λ (k : ℕ). eqb k 1) (bit_at_or m n i) ∙ greater (bit_at m i) (bit_at n i) (bit_at-lt m i) (bit_at-lt n i)

pub mask_and : MaskAnd
mask_and m n i = ap (λ (k : ℕ). eqb k 1) (bit_at_and m n i) ∙ lesser (bit_at m i) (bit_at n i) (bit_at-lt m i) (bit_at-lt n i)

without : (x y : ℕ) → x < 2 → y < 2 → eqb (min x (1 - y)) 1 ≡ (eqb x 1 && not (eqb y 1))
without x y a b = grind (arith, nat_tests)

none_high : (m i : ℕ) → m < 2 ^ 128 → 128 ≤ i → bit_at m i ≡ 0
none_high m i fits high =
    let room : 2 ^ 128 ≤ 2 ^ i = pow-le-pow_right (omega arith) high in
    let none : m / 2 ^ i ≡ 0 = div-eq_of_lt (omega arith) in
    ap (λ (k : ℕ). k % 2) none

least : (x : ℕ) → min 0 x ≡ 0
least x = omega arith

one_bit : (m n i : ℕ) → m < 2 ^ 128 → n < 2 ^ 128 → eqb (bit_at (bit_and m (bit_not w128 n)) i) 1 ≡ (eqb (bit_at m i) 1 && not (eqb (bit_at n i) 1))
one_bit m n i m_fits n_fits = ap (λ (k : ℕ). eqb k 1) (bit_at_and m (bit_not w128 n) i) ∙ ⊎_elim
    (λ low. ap (λ (k : ℕ). eqb (min (bit_at m i) k) 1) (bit_at_not w128 n i n_fits low) ∙ without (bit_at m i) (bit_at n i) (bit_at-lt m i) (bit_at-lt n i))
    (λ high. ap (λ (k : ℕ). eqb (min k (bit_at (bit_not w128 n) i)) 1) (none_high m i m_fits high) ∙ ap (λ (k : ℕ). eqb k 1) (least (bit_at (bit_not w128 n) i)) ∙ ap (λ (k : ℕ). eqb k 1 && not (eqb (bit_at n i) 1)) (sym (none_high m i m_fits high)))
    (cases_lt i 128)

pub mask_without : MaskWithout
mask_without = one_bit
