-- Bits of masks that are moved.
use Rattle.std.proofs.Common.{◌≡◌, ◌⊎◌, inl, inr, ⊎_elim, ◌<◌, ◌≤◌, ◌+◌, ◌-◌, ◌*◌, ◌/◌, ◌%◌, ◌^◌, ℕ, Bool, true, false, not, ◌&&◌, ◌||◌, refl, sym, ap, ◌∙◌, arith, eqb, leb, ltb, bit_and, bit_or}
use mir.Val.{bits}
use Rattle.std.specs.Int.{Width, bit_at, bit_not, w128, trailing_zeros}
use Rattle.std.proofs.Math.Bool.{or-false, or-true}
use Rattle.std.proofs.lemmas.Nat.{pow-add, pow_pos}
use Rattle.std.proofs.lemmas.Nat.Bits.{bit_at_set_same, bit_at_set_other, bit_at_above, bit_at-zero, bit_at_cat_low, bit_at_cat_high, bit_at_or, bit_at_and, bit_at-lt, bit_at_not, bit_at-trailing_zeros, and_pow, same_from_bits}
use Rattle.std.proofs.lemmas.Bool.{cases_lt, cases_eq, lt-ltb, le-ltb, le-leb, lt-leb, eq-eqb, ne_eqb}
use Rattle.std.proofs.lemmas.Bool.Decides.{nat_tests}
use Rattle.std.proofs.Math.Nat.{div-div-eq-div-mul, div-add-mod, mod-lt}
use Rattle.wol_model.specs.Log.{has_bit}
use Rattle.block_cells.specs.Masks.{in_mask}

pub has_bit-zero : (i : ℕ) → has_bit 0 i ≡ false
has_bit-zero i = ap (λ (k : ℕ). eqb k 1) (bit_at-zero i)

pub has_bit-above : (m w i : ℕ) → m < 2 ^ w → w ≤ i → has_bit m i ≡ false
has_bit-above m w i fits high = ap (λ (k : ℕ). eqb k 1) (bit_at_above m w i fits high)

has_bit-shr : (m d i : ℕ) → has_bit (m / 2 ^ d) i ≡ has_bit m (d + i)
has_bit-shr m d i = ap (λ (k : ℕ). eqb (k % 2) 1) (div-div-eq-div-mul m (2 ^ d) (2 ^ i) ∙ ap (λ (k : ℕ). m / k) (sym (pow-add 2 d i)))

-- the low bits of a number are those of its rest
bit_at-mod : (n w i : ℕ) → i < w → bit_at (n % 2 ^ w) i ≡ bit_at n i
bit_at-mod n w i low =
    let whole : n / 2 ^ w * 2 ^ w + n % 2 ^ w ≡ n = omega (arith, div-add-mod n (2 ^ w)) in
    sym (bit_at_cat_low (n / 2 ^ w) w (n % 2 ^ w) i low) ∙ ap (λ (k : ℕ). bit_at k i) whole

has_bit-shl_low : (m d i : ℕ) → i < 128 → i < d → has_bit (m * 2 ^ d % 2 ^ 128) i ≡ false
has_bit-shl_low m d i low less =
    let e : m * 2 ^ d ≡ m * 2 ^ d + 0 = omega arith in
    ap (λ (k : ℕ). eqb k 1) (bit_at-mod (m * 2 ^ d) 128 i low ∙ ap (λ (k : ℕ). bit_at k i) e ∙ bit_at_cat_low m d 0 i less ∙ bit_at-zero i)

has_bit-shl_high : (m d i : ℕ) → i < 128 → d ≤ i → has_bit (m * 2 ^ d % 2 ^ 128) i ≡ has_bit m (i - d)
has_bit-shl_high m d i low more =
    let e : m * 2 ^ d ≡ m * 2 ^ d + 0 = omega arith in
    ap (λ (k : ℕ). eqb k 1) (bit_at-mod (m * 2 ^ d) 128 i low ∙ ap (λ (k : ℕ). bit_at k i) e ∙ bit_at_cat_high m d 0 i (pow_pos d) more)

-- a mask of 128 bits is moved down
pub moved_down : (m from to i : ℕ) → m < 2 ^ 128 → from ≤ to → has_bit (m / 2 ^ (to - from)) i ≡ (ltb i 128 && in_mask from m (to + i))
moved_down m from to i fits order = has_bit-shr m (to - from) i ∙ ⊎_elim low high (cases_lt i 128)
  where
    there : leb from (to + i) ≡ true
    there = le-leb from (to + i) (omega arith)

    place : to - from + i ≡ to + i - from
    place = omega arith

    low : i < 128 → has_bit m (to - from + i) ≡ (ltb i 128 && (leb from (to + i) && has_bit m (to + i - from)))
    low less = rw (lt-ltb i 128 less, there) (ap (has_bit m) place)

    high : 128 ≤ i → has_bit m (to - from + i) ≡ (ltb i 128 && (leb from (to + i) && has_bit m (to + i - from)))
    high more = rw (le-ltb i 128 more) (has_bit-above m 128 (to - from + i) fits (omega arith))

-- so far down that nothing is left
pub moved_out : (m from to i : ℕ) → m < 2 ^ 128 → from ≤ to → 128 ≤ to - from → has_bit 0 i ≡ (ltb i 128 && in_mask from m (to + i))
moved_out m from to i fits order far =
    let none : has_bit m (to + i - from) ≡ false = has_bit-above m 128 (to + i - from) fits (omega arith) in
    has_bit-zero i ∙ sym (rw none (both (ltb i 128) (leb from (to + i))))
  where
    both : (a b : Bool) → (a && (b && false)) ≡ false
    both true true = refl
    both true false = refl
    both false b = refl

-- a mask is moved up
pub moved_up : (m from to i : ℕ) → to < from → has_bit (m * 2 ^ (from - to) % 2 ^ 128) i ≡ (ltb i 128 && in_mask from m (to + i))
moved_up m from to i order = ⊎_elim low high (cases_lt i 128)
  where
    inside : i < 128 → (i < from - to) ⊎ (from - to ≤ i) → has_bit (m * 2 ^ (from - to) % 2 ^ 128) i ≡ (leb from (to + i) && has_bit m (to + i - from))
    inside less (inl before) = has_bit-shl_low m (from - to) i less before ∙ sym (ap (λ (b : Bool). b && has_bit m (to + i - from)) (lt-leb from (to + i) (omega arith)))
    inside less (inr behind) =
        let e : i - (from - to) ≡ to + i - from = omega arith in
        has_bit-shl_high m (from - to) i less behind ∙ ap (has_bit m) e ∙ sym (ap (λ (b : Bool). b && has_bit m (to + i - from)) (le-leb from (to + i) (omega arith)))

    low : i < 128 → has_bit (m * 2 ^ (from - to) % 2 ^ 128) i ≡ (ltb i 128 && (leb from (to + i) && has_bit m (to + i - from)))
    low less = rw (lt-ltb i 128 less) (inside less (cases_lt i (from - to)))

    high : 128 ≤ i → has_bit (m * 2 ^ (from - to) % 2 ^ 128) i ≡ (ltb i 128 && (leb from (to + i) && has_bit m (to + i - from)))
    high more = rw (le-ltb i 128 more) (has_bit-above (m * 2 ^ (from - to) % 2 ^ 128) 128 i (mod-lt (m * 2 ^ (from - to)) (pow_pos 128)) more)

-- the lowest bit is the test `& 1`
pub lowest : (m : ℕ) → eqb (bit_and m 1) 1 ≡ has_bit m 0
lowest m = ap (λ (k : ℕ). eqb k 1) (and_pow m 0 ∙ times_one (bit_at m 0))
  where
    times_one : (n : ℕ) → n * 1 ≡ n
    times_one n = omega arith

either : (x y : ℕ) → x < 2 → y < 2 → eqb (Prim.Native.Nat.max x y) 1 ≡ (eqb x 1 || eqb y 1)
either x y a b = grind (arith, nat_tests)

pub has_bit-or : (m n i : ℕ) → has_bit (bit_or m n) i ≡ (has_bit m i || has_bit n i)
has_bit-or m n i = ap (λ (k : ℕ). eqb k 1) (bit_at_or m n i) ∙ either (bit_at m i) (bit_at n i) (bit_at-lt m i) (bit_at-lt n i)

lesser : (x y : ℕ) → x < 2 → y < 2 → eqb (Prim.Native.Nat.min x y) 1 ≡ (eqb x 1 && eqb y 1)
lesser x y a b = grind (arith, nat_tests)

pub has_bit-and : (m n i : ℕ) → has_bit (bit_and m n) i ≡ (has_bit m i && has_bit n i)
has_bit-and m n i = ap (λ (k : ℕ). eqb k 1) (bit_at_and m n i) ∙ lesser (bit_at m i) (bit_at n i) (bit_at-lt m i) (bit_at-lt n i)

other : (x : ℕ) → x < 2 → eqb (1 - x) 1 ≡ not (eqb x 1)
other x a = grind (arith, nat_tests)

-- the bits of `m & !n`
pub has_bit-without : (m n i : ℕ) → m < 2 ^ 128 → n < 2 ^ 128 → has_bit (bit_and m (bit_not w128 n)) i ≡ (has_bit m i && not (has_bit n i))
has_bit-without m n i m_fits n_fits = has_bit-and m (bit_not w128 n) i ∙ ⊎_elim low high (cases_lt i 128)
  where
    low : i < 128 → (has_bit m i && has_bit (bit_not w128 n) i) ≡ (has_bit m i && not (has_bit n i))
    low less = ap (λ (b : Bool). has_bit m i && b) (ap (λ (k : ℕ). eqb k 1) (bit_at_not w128 n i n_fits less) ∙ other (bit_at n i) (bit_at-lt n i))

    high : 128 ≤ i → (has_bit m i && has_bit (bit_not w128 n) i) ≡ (has_bit m i && not (has_bit n i))
    high more = rw (has_bit-above m 128 i m_fits more) refl

no_bit : (x : ℕ) → x < 2 → eqb x 1 ≡ false → x ≡ 0
no_bit x a e = grind (arith, nat_tests)

-- a mask without bits from n on is below 2 ^ n
pub small_from_bits : (m n : ℕ) → ((i : ℕ) → n ≤ i → has_bit m i ≡ false) → m < 2 ^ n
small_from_bits m n none =
    let rest : m % 2 ^ n < 2 ^ n = mod-lt m (pow_pos n) in
    let same : m ≡ m % 2 ^ n = same_from_bits m (m % 2 ^ n) (λ i. ⊎_elim (λ less. sym (bit_at-mod m n i less))
    (λ more. no_bit (bit_at m i) (bit_at-lt m i) (none i more) ∙ sym (bit_at_above (m % 2 ^ n) n i rest more)) (cases_lt i n)) in
    omega arith

-- and another one has a bit
pub some_bit : (m : ℕ) → 0 < m → m < 2 ^ 128 → (i : ℕ) × (has_bit m i ≡ true)
some_bit m some fits = (trailing_zeros w128 m, eq-eqb (bit_at m (trailing_zeros w128 m)) 1 (bit_at-trailing_zeros w128 m some fits).1)

-- one bit, and a mask with it
pub has_bit-set : (w : Width) (m k i : ℕ) → k < bits w → has_bit (bit_or m (1 * 2 ^ k % 2 ^ bits w)) i ≡ (has_bit m i || eqb i k)
has_bit-set w m k i within = ⊎_elim
    (λ here. rw (eq-eqb i k here) (ap (λ (n : ℕ). eqb (bit_at (bit_or m (1 * 2 ^ k % 2 ^ bits w)) n) 1) here ∙ eq-eqb (bit_at (bit_or m (1 * 2 ^ k % 2 ^ bits w)) k) 1 (bit_at_set_same w m k within) ∙ sym (or-true (has_bit m i))))
    (λ apart. rw (ne_eqb i k apart) (ap (λ (n : ℕ). eqb n 1) (bit_at_set_other w m k within i apart) ∙ sym (or-false (has_bit m i))))
    (cases_eq i k)

pub has_bit-pow : (k i : ℕ) → k < 128 → has_bit (1 * 2 ^ k % 2 ^ 128) i ≡ eqb i k
has_bit-pow k i within = ap (λ (n : ℕ). has_bit n i) (sym (nothing (1 * 2 ^ k % 2 ^ 128))) ∙ has_bit-set w128 0 k i within ∙ ap (λ (t : Bool). t || eqb i k) (has_bit-zero i)
  where
    nothing : (n : ℕ) → bit_or 0 n ≡ n
    nothing n = same_from_bits (bit_or 0 n) n (λ j. bit_at_or 0 n j ∙ ap (λ (t : ℕ). Prim.Native.Nat.max t (bit_at n j)) (bit_at-zero j) ∙ upper (bit_at n j))
      where
        upper : (t : ℕ) → Prim.Native.Nat.max 0 t ≡ t
        upper t = grind arith
