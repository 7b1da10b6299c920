-- Whether a mask has a block of a range.
use Rattle.std.proofs.Common.{◌≡◌, ⊎_elim, ◌<◌, ◌≤◌, ◌+◌, ◌-◌, ◌^◌, ℕ, zero, suc, Bool, true, false, not, ◌&&◌, refl, sym, ap, ◌∙◌, subst, arith, eqb, leb, ltb, min}
use Rattle.std.specs.Int.{bit_at, trailing_zeros, w128}
use Rattle.std.specs.List.{list_any, range_with_len}
use Rattle.std.proofs.lemmas.Nat.Bits.{bit_at-trailing_zeros}
use Rattle.std.proofs.lemmas.Bool.{cases_lt, lt-ltb, le-ltb, leb-true, and_parts, false_from_ne_true, or_right, or_left, or_from}
use Rattle.std.proofs.lemmas.Bool.{eq-eqb, false≢true}
use Rattle.wol_model.specs.Log.{has_bit}
use Rattle.block_cells.specs.Masks.{in_mask}
use Rattle.block_cells.proofs.Bits.{has_bit-above, has_bit-zero}

pub any_in_range : (p : ℕ → Bool) (a n k : ℕ) → a ≤ k → k < a + n → p k ≡ true → list_any p (range_with_len a n) ≡ true
any_in_range p a zero k from to here = absurd (omega arith)
any_in_range p a (suc n) k from to here = ⊎_elim
    (λ later. or_right (p a) (list_any p (range_with_len (a + 1) n)) (any_in_range p (a + 1) n k (omega arith) (omega arith) here))
    (λ at. let e : k ≡ a = omega arith in or_left (p a) (list_any p (range_with_len (a + 1) n)) (subst (λ (j : ℕ). p j ≡ true) e here))
    (cases_lt a k)

pub none_in_range : (p : ℕ → Bool) (a n : ℕ) → ((k : ℕ) → a ≤ k → k < a + n → p k ≡ false) → list_any p (range_with_len a n) ≡ false
none_in_range p a zero none = refl
none_in_range p a (suc n) none = or_from (p a) (list_any p (range_with_len (a + 1) n)) (none a (omega arith) (omega arith)) (none_in_range p (a + 1) n (λ k from to. none k (omega arith) (omega arith)))

-- kept is the mask from the first block on that is in both
pub record IsBehind (first keep lbn before kept : ℕ) : Type 0 where
  pub gap : before ≡ first - lbn
  pub fits : keep < 2 ^ 128
  pub bits : (i : ℕ) → has_bit kept i ≡ (ltb i 128 && in_mask first keep (lbn + before + i))

-- a block of the mask in the range, as a bit of `kept`
bit_of : (first keep lbn before kept b : ℕ) → IsBehind first keep lbn before kept → lbn ≤ b → in_mask first keep b ≡ true
    → (lbn + before ≤ b) × (has_bit kept (b - (lbn + before)) ≡ true)
bit_of first keep lbn before kept b behind from there =
    let parts = and_parts (leb first b) (has_bit keep (b - first)) there in
    let reached : first ≤ b = leb-true first b parts.0 in
    let gap : before ≡ first - lbn = behind.gap in
    let past : lbn + before ≤ b = omega arith in
    let low : b - first < 128 = ⊎_elim (λ less. less) (λ more. absurd (false≢true (sym (has_bit-above keep 128 (b - first) behind.fits more) ∙ parts.1))) (cases_lt (b - first) 128) in
    let bit : b - (lbn + before) < 128 = omega arith in
    let e : lbn + before + (b - (lbn + before)) ≡ b = omega arith in
    (past, behind.bits (b - (lbn + before)) ∙ (rw (lt-ltb (b - (lbn + before)) 128 bit, e) there))

pub meets_none : (first keep lbn count before kept : ℕ) → IsBehind first keep lbn before kept → kept ≡ 0 → not (eqb kept 0) ≡ list_any (in_mask first keep) (range_with_len lbn count)
meets_none first keep lbn count before kept behind none = ap not (eq-eqb kept 0 none) ∙ sym (none_in_range (in_mask first keep) lbn count
    (λ b from to. false_from_ne_true (in_mask first keep b) (λ there. false≢true (sym (has_bit-zero (b - (lbn + before))) ∙ ap (λ (k : ℕ). has_bit k (b - (lbn + before))) (sym none) ∙ (bit_of first keep lbn before kept b behind from there).1))))

-- the same, where `lowest` is the lowest bit of kept
meets_at : (first keep lbn count before kept sum wide lowest : ℕ) → IsBehind first keep lbn before kept → (lowest < 128) × (bit_at kept lowest ≡ 1) × ((i : ℕ) → i < lowest → bit_at kept i ≡ 0)
    → count < 2 ^ 32 → sum ≡ min (before + lowest) (2 ^ 64 - 1) → wide ≡ count → ltb sum wide ≡ list_any (in_mask first keep) (range_with_len lbn count)
meets_at first keep lbn count before kept sum wide lowest behind facts short sum_is wide_is = ⊎_elim hit miss (cases_lt (before + lowest) count)
  where
    hit : before + lowest < count → ltb sum wide ≡ list_any (in_mask first keep) (range_with_len lbn count)
    hit less =
        let on : has_bit kept lowest ≡ true = eq-eqb (bit_at kept lowest) 1 facts.1 in
        let there = and_parts (ltb lowest 128) (in_mask first keep (lbn + before + lowest)) (sym (behind.bits lowest) ∙ on) in
        lt-ltb sum wide (omega arith) ∙ sym (any_in_range (in_mask first keep) lbn count (lbn + before + lowest) (omega arith) (omega arith) there.1)

    off : (i : ℕ) → i < lowest → has_bit kept i ≡ false
    off i less = ap (λ (k : ℕ). eqb k 1) (facts.2 i less)

    miss : count ≤ before + lowest → ltb sum wide ≡ list_any (in_mask first keep) (range_with_len lbn count)
    miss more = le-ltb sum wide (omega arith) ∙ sym (none_in_range (in_mask first keep) lbn count
        (λ b from to. false_from_ne_true (in_mask first keep b) (λ there.
        let found = bit_of first keep lbn before kept b behind from there in
        let past : lbn + before ≤ b = found.0 in
        false≢true (sym (off (b - (lbn + before)) (omega arith)) ∙ found.1))))

pub meets_some : (first keep lbn count before kept sum wide : ℕ) → IsBehind first keep lbn before kept → (kept ≡ 0 → ⊥) → kept < 2 ^ 128 → count < 2 ^ 32
    → sum ≡ min (before + trailing_zeros w128 kept) (2 ^ 64 - 1) → wide ≡ count → ltb sum wide ≡ list_any (in_mask first keep) (range_with_len lbn count)
meets_some first keep lbn count before kept sum wide behind some fits short sum_is wide_is =
    meets_at first keep lbn count before kept sum wide (trailing_zeros w128 kept) behind (bit_at-trailing_zeros w128 kept (omega arith) fits) short sum_is wide_is
