-- Loops over the blocks of a mask, block by block.
use Rattle.std.proofs.Common.{◌≡◌, ⊎_elim, ◌<◌, ◌≤◌, ◌+◌, ◌-◌, ◌^◌, ℕ, Bool, true, false, cond, ◌&&◌, ◌||◌, refl, sym, ap, ◌∙◌, arith, ltb, eqb, leb}
use Rattle.std.proofs.Math.Bool.{and-false, and-true, or-false}
use Rattle.std.proofs.lemmas.Bool.{cases_lt, cases_eq, ne_eqb, eq-eqb, lt-ltb, le-ltb, lt-leb, leb-true, false≢true, and_parts}
use Rattle.wol_model.specs.Log.{has_bit}
use Rattle.block_cells.specs.Masks.{in_mask}
use Rattle.block_cells.proofs.Bits.{has_bit-above}
use Rattle.block_cells.proofs.Marks.{in_mask-bit}

-- the blocks of a mask below a further block
pub next_block : (first keep i b : ℕ) → ((in_mask first keep b && ltb b (first + i)) || (has_bit keep i && eqb b (first + i))) ≡ (in_mask first keep b && ltb b (first + (i + 1)))
next_block first keep i b = ⊎_elim
    (λ here. let below : b < first + (i + 1) = omega arith in
    let not_below : first + i ≤ b = omega arith in
    rw (le-ltb b (first + i) not_below, lt-ltb b (first + (i + 1)) below, eq-eqb b (first + i) here, and-false (in_mask first keep b), and-true (has_bit keep i), and-true (in_mask first keep b))
    (sym (ap (in_mask first keep) here ∙ in_mask-bit first keep i)))
    (λ apart. rw (ne_eqb b (first + i) apart, and-false (has_bit keep i), or-false (in_mask first keep b && ltb b (first + i))) (ap (λ (t : Bool). in_mask first keep b && t) (⊎_elim
    (λ less. let below : b < first + (i + 1) = omega arith in lt-ltb b (first + i) less ∙ sym (lt-ltb b (first + (i + 1)) below))
    (λ more. let above : first + (i + 1) ≤ b = omega arith in le-ltb b (first + i) more ∙ sym (le-ltb b (first + (i + 1)) above))
    (cases_lt b (first + i)))))
    (cases_eq b (first + i))

-- none at first
pub no_block : (first keep b : ℕ) → (in_mask first keep b && ltb b (first + 0)) ≡ false
no_block first keep b = ⊎_elim
    (λ less. let below : b < first = omega arith in ap (λ (t : Bool). (t && has_bit keep (b - first)) && ltb b (first + 0)) (lt-leb first b below))
    (λ more. ap (λ (t : Bool). in_mask first keep b && t) (le-ltb b (first + 0) more) ∙ and-false (in_mask first keep b))
    (cases_lt b (first + 0))

pub mask_within : (first keep count b : ℕ) → keep < 2 ^ count → in_mask first keep b ≡ true → b < first + count
mask_within first keep count b fits on =
    let parts = and_parts (leb first b) (has_bit keep (b - first)) on in
    let from : first ≤ b = leb-true first b parts.0 in
    ⊎_elim (λ less. less) (λ more. let past : count ≤ b - first = omega arith in absurd (false≢true (sym (has_bit-above keep count (b - first) fits past) ∙ parts.1))) (cases_lt b (first + count))

-- and all at last
pub all_blocks : (first keep count i b : ℕ) → keep < 2 ^ count → count ≤ i → (in_mask first keep b && ltb b (first + i)) ≡ in_mask first keep b
all_blocks first keep count i b fits done = at (in_mask first keep b) refl
  where
    at : (t : Bool) → in_mask first keep b ≡ t → (t && ltb b (first + i)) ≡ t
    at true on = let within : b < first + count = mask_within first keep count b fits on in let below : b < first + i = omega arith in lt-ltb b (first + i) below
    at false off = refl

-- what is known of a block changes once
pub changed_once : {X : Type 0} (f : X → X) (old mid new : X) (s t u : Bool) → mid ≡ cond s (f old) old → new ≡ cond t (f mid) mid → (s || t) ≡ u → (s && t) ≡ false → new ≡ cond u (f old) old
changed_once f old mid new true true u first second either both = absurd (false≢true (sym both))
changed_once f old mid new true false u first second either both = second ∙ first ∙ ap (λ (w : Bool). cond w (f old) old) either
changed_once f old mid new false true u first second either both = second ∙ ap f first ∙ ap (λ (w : Bool). cond w (f old) old) either
changed_once f old mid new false false u first second either both = second ∙ first ∙ ap (λ (w : Bool). cond w (f old) old) either

-- a further block wasn't there before
pub not_before : (first keep i b : ℕ) → ((in_mask first keep b && ltb b (first + i)) && (has_bit keep i && eqb b (first + i))) ≡ false
not_before first keep i b = ⊎_elim
    (λ here. let more : first + i ≤ b = omega arith in rw (le-ltb b (first + i) more, and-false (in_mask first keep b)) refl)
    (λ apart. rw (ne_eqb b (first + i) apart, and-false (has_bit keep i)) (and-false (in_mask first keep b && ltb b (first + i))))
    (cases_eq b (first + i))

or_none : (a b : Bool) → (a || (b && false)) ≡ a
or_none true b = refl
or_none false true = refl
or_none false false = refl

-- one bit more of those that pass
pub more_bits : (f : ℕ → Bool) (i j : ℕ) (on : Bool) → on ≡ f i → ((ltb j i && f j) || (on && eqb j i)) ≡ (ltb j (i + 1) && f j)
more_bits f i j on is = ⊎_elim
    (λ (less : j < i). rw (lt-ltb j i less, lt-ltb j (i + 1) (omega arith), ne_eqb j i (λ same. absurd (omega arith))) (or_none (f j) on))
    (λ (from : i ≤ j). ⊎_elim
    (λ (here : j ≡ i). rw (le-ltb j i from, lt-ltb j (i + 1) (omega arith), eq-eqb j i here) (and-true on ∙ is ∙ ap f (sym here)))
    (λ (other : j ≡ i → ⊥). rw (le-ltb j i from, le-ltb j (i + 1) (omega arith), ne_eqb j i other) (and-false on))
    (cases_eq j i))
    (cases_lt j i)

-- a further block is as it was
pub not_yet : {X : Type 0} (first keep i : ℕ) (f : X → X) (old now : X) → now ≡ cond (in_mask first keep (first + i) && ltb (first + i) (first + i)) (f old) old → now ≡ old
not_yet first keep i f old now is = is
    ∙ ap (λ (t : Bool). cond (in_mask first keep (first + i) && t) (f old) old) (le-ltb (first + i) (first + i) (omega arith))
    ∙ ap (λ (t : Bool). cond t (f old) old) (and-false (in_mask first keep (first + i)))
