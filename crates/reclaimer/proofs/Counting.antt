-- How many bits a mask has.
use Rattle.std.proofs.Common.{◌≡◌, ◌<◌, ◌≤◌, ◌+◌, ◌-◌, ◌/◌, ◌%◌, ◌^◌, ℕ, zero, suc, Bool, false, cond, refl, sym, ap, ◌∙◌, arith, eqb}
use Rattle.std.specs.List.{count_by, range_with_len}
use Rattle.std.specs.Int.RustNames.{count_ones}
use Rattle.std.proofs.lemmas.Nat.{ones-le, ones_cat, shr_split, shr-shr, zero_from_ones}
use Rattle.std.proofs.Math.Nat.{pow-suc}
use Rattle.wol_model.specs.Log.{has_bit}
use Rattle.wol_model.proofs.Counts.{counted}
use Rattle.block_cells.specs.Masks.{IsMask}

-- ---- counts over ranges

-- the same numbers, from another one on
pub count_moved : (p q : ℕ → Bool) (a b n : ℕ) → ((i : ℕ) → i < n → p (a + i) ≡ q (b + i)) → count_by p (range_with_len a n) ≡ count_by q (range_with_len b n)
count_moved p q a b zero same = refl
count_moved p q a b (suc n) same =
    let here : p a ≡ q b = let e : a + 0 ≡ a = omega arith in let f : b + 0 ≡ b = omega arith in sym (ap p e) ∙ same 0 (omega arith) ∙ ap q f in
    let rest = count_moved p q (a + 1) (b + 1) n (λ i lt. let e : a + 1 + i ≡ a + suc i = omega arith in let f : b + 1 + i ≡ b + suc i = omega arith in ap p e ∙ same (suc i) (omega arith) ∙ ap q (sym f)) in
    let one = ap (λ (t : Bool). cond {A = ℕ} t 1 0) here in
    let l = counted p a (range_with_len (a + 1) n) in let r = counted q b (range_with_len (b + 1) n) in
    omega (arith, one, rest, l, r)

-- none passes
pub count_nothing : (p : ℕ → Bool) (a n : ℕ) → ((i : ℕ) → i < n → p (a + i) ≡ false) → count_by p (range_with_len a n) ≡ 0
count_nothing p a zero none = refl
count_nothing p a (suc n) none =
    let here : p a ≡ false = let e : a + 0 ≡ a = omega arith in sym (ap p e) ∙ none 0 (omega arith) in
    let rest = count_nothing p (a + 1) n (λ i lt. let e : a + 1 + i ≡ a + suc i = omega arith in ap p e ∙ none (suc i) (omega arith)) in
    let one = ap (λ (t : Bool). cond {A = ℕ} t 1 0) here in
    let l = counted p a (range_with_len (a + 1) n) in
    omega (arith, one, rest, l)

-- those behind don't pass
pub count_front : (p : ℕ → Bool) (a n k : ℕ) → ((i : ℕ) → n ≤ i → p (a + i) ≡ false) → count_by p (range_with_len a (n + k)) ≡ count_by p (range_with_len a n)
count_front p a zero k none = let e : 0 + k ≡ k = omega arith in ap (λ (l : ℕ). count_by p (range_with_len a l)) e ∙ count_nothing p a k (λ i lt. none i (omega arith))
count_front p a (suc n) k none =
    let e : suc n + k ≡ suc (n + k) = omega arith in
    let rest = count_front p (a + 1) n k (λ i le. let e : a + 1 + i ≡ a + suc i = omega arith in ap p e ∙ none (suc i) (omega arith)) in
    let l = counted p a (range_with_len (a + 1) (n + k)) in let r = counted p a (range_with_len (a + 1) n) in
    ap (λ (m : ℕ). count_by p (range_with_len a m)) e ∙ (omega (arith, rest, l, r))

-- ---- bits

low_bit : (x : ℕ) → x < 2 → count_ones x ≡ cond (eqb x 1) 1 0
unfolding count_ones
low_bit zero lt = refl
low_bit (suc zero) lt = refl
low_bit (suc (suc x)) lt = absurd (omega arith)

-- a mask of w bits has as many ones as there are bits set below w
pub bits_counted : (w m : ℕ) → m < 2 ^ w → count_ones m ≡ count_by (has_bit m) (range_with_len 0 w)
bits_counted zero m fits = let e = ones-le 0 m fits in omega (arith, e)
bits_counted (suc w) m fits =
    let parts = shr_split m 1 in
    let double = pow-suc 2 w in
    let less : m % 2 < 2 = omega arith in
    let half : m / 2 < 2 ^ w = omega (arith, parts, double) in
    let ones = ones_cat 1 (m / 2) (m % 2) less in
    let whole : count_ones m ≡ count_ones (m / 2) + count_ones (m % 2) = ap count_ones (sym parts) ∙ ones in
    let low = low_bit (m % 2) less in
    let none : m / 2 ^ 0 ≡ m = omega arith in
    let first : cond {A = ℕ} (has_bit m 0) 1 0 ≡ cond (eqb (m % 2) 1) 1 0 = ap (λ (x : ℕ). cond {A = ℕ} (eqb (x % 2) 1) 1 0) none in
    let rest = bits_counted w (m / 2) half in
    let moved = count_moved (has_bit m) (has_bit (m / 2)) 1 0 w (λ i lt. let e : 0 + i ≡ i = omega arith in ap (λ (x : ℕ). eqb (x % 2) 1) (sym (shr-shr m 1 i)) ∙ ap (λ (j : ℕ). eqb (m / 2 / 2 ^ j % 2) 1) (sym e)) in
    let all = counted (has_bit m) 0 (range_with_len 1 w) in
    omega (arith, whole, low, first, rest, moved, all)

-- the blocks of a mask, as those of a set that begins at `first`
pub blocks_counted : (mask first n : ℕ) (set : ℕ → Bool) → mask < 2 ^ 128 → n ≤ 128 → IsMask first set mask → ((b : ℕ) → first + n ≤ b → set b ≡ false) → count_ones mask ≡ count_by set (range_with_len first n)
blocks_counted mask first n set fits few is none =
    let e : n + (128 - n) ≡ 128 = omega arith in
    bits_counted 128 mask fits
    ∙ ap (λ (k : ℕ). count_by (has_bit mask) (range_with_len 0 k)) (sym e)
    ∙ count_front (has_bit mask) 0 n (128 - n) (λ i le. let z : 0 + i ≡ i = omega arith in ap (has_bit mask) z ∙ is i ∙ none (first + i) (omega arith))
    ∙ count_moved (has_bit mask) set 0 first n (λ i lt. let z : 0 + i ≡ i = omega arith in ap (has_bit mask) z ∙ is i)

-- a mask without a block is zero
pub no_blocks : (mask first : ℕ) (set : ℕ → Bool) → mask < 2 ^ 128 → IsMask first set mask → ((b : ℕ) → set b ≡ false) → mask ≡ 0
no_blocks mask first set fits is none = zero_from_ones mask (bits_counted 128 mask fits ∙ count_nothing (has_bit mask) 0 128 (λ i lt. let z : 0 + i ≡ i = omega arith in ap (has_bit mask) z ∙ is i ∙ none (first + i)))
