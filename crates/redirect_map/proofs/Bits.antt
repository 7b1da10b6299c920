-- Bits of masks.
use Rattle.std.proofs.Common.{◌≡◌, ◌<◌, ℕ, Bool, true, false, ◌&&◌, ◌||◌, refl, sym, ap, ◌∙◌, arith, eqb, bit_and, bit_or}
use Rattle.std.specs.Int.{bit_at}
use Rattle.std.proofs.lemmas.Nat.Bits.{bit_at-zero, bit_at_or, bit_at_and, bit_at-lt}
use Rattle.std.proofs.lemmas.Bool.{or_left, or_right}
use Rattle.std.proofs.lemmas.Bool.Decides.{nat_tests}
use Rattle.wol_model.specs.Log.{has_bit}
use Rattle.redirect_map.specs.Marks.{IsWithin, AreApart}

has_bit-zero : (i : ℕ) → has_bit 0 i ≡ false
has_bit-zero i = ap (λ (k : ℕ). eqb k 1) (bit_at-zero i)

either : (x y : ℕ) → x < 2 → y < 2 → eqb (Prim.Native.Nat.max x y) 1 ≡ (eqb x 1 || eqb y 1)
either x y a b = grind (arith, nat_tests)

has_bit-or : (m n i : ℕ) → has_bit (bit_or m n) i ≡ (has_bit m i || has_bit n i)
has_bit-or m n i = ap (λ (k : ℕ). eqb k 1) (bit_at_or m n i) ∙ either (bit_at m i) (bit_at n i) (bit_at-lt m i) (bit_at-lt n i)

lesser : (x y : ℕ) → x < 2 → y < 2 → eqb (Prim.Native.Nat.min x y) 1 ≡ (eqb x 1 && eqb y 1)
lesser x y a b = grind (arith, nat_tests)

has_bit-and : (m n i : ℕ) → has_bit (bit_and m n) i ≡ (has_bit m i && has_bit n i)
has_bit-and m n i = ap (λ (k : ℕ). eqb k 1) (bit_at_and m n i) ∙ lesser (bit_at m i) (bit_at n i) (bit_at-lt m i) (bit_at-lt n i)

pub within_left : (a b : ℕ) → IsWithin a (bit_or a b)
within_left a b i on = has_bit-or a b i ∙ or_left (has_bit a i) (has_bit b i) on

pub within_right : (a b : ℕ) → IsWithin b (bit_or a b)
within_right a b i on = has_bit-or a b i ∙ or_right (has_bit a i) (has_bit b i) on

pub apart_zero : (m : ℕ) → AreApart 0 m
apart_zero m i = ap (λ (t : Bool). t && has_bit m i) (has_bit-zero i)

-- what lies within a mask that has no bit of another one
pub apart_within : (a b wanted : ℕ) → IsWithin a b → bit_and b wanted ≡ 0 → AreApart a wanted
apart_within a b wanted within none i = at (has_bit a i) refl
  where
    at : (t : Bool) → has_bit a i ≡ t → (t && has_bit wanted i) ≡ false
    at false off = refl
    at true on =
        ap (λ (t : Bool). t && has_bit wanted i) (sym (within i on)) ∙ sym (has_bit-and b wanted i) ∙ ap (λ (m : ℕ). has_bit m i) none ∙ has_bit-zero i
