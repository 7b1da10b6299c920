-- Blocks that entries keep, as a mask.
use Rattle.std.proofs.Common.{◌-◌, length-drop, get_or-drop, ◌≡◌, ◌<◌, ◌≤◌, ◌+◌, ℕ, Bool, true, false, ◌&&◌, ◌||◌, List, take, drop, length, refl, sym, ap, ◌∙◌, subst, arith, get_or, ltb, bit_or}
use Rattle.std.proofs.lemmas.List.Folds.{list_any_more}
use Rattle.wol_model.specs.Log.{has_bit}
use Rattle.block_cells.proofs.Bits.{has_bit-or}
use Rattle.redirect_map.specs.declared.entry.Entry.{Entry}
use Rattle.redirect_map.specs.Kept.{keeps, one_keeps, IsKept}

both : (t a b : Bool) → ((t && a) || (t && b)) ≡ (t && (a || b))
both true a b = refl
both false a b = refl

-- one entry more
pub kept_more : (lbn kept more k : ℕ) (xs : List Entry) (d : Entry) → k < length xs → IsKept lbn (take k xs) kept → ((i : ℕ) → has_bit more i ≡ (ltb i 128 && keeps (get_or xs k d) (lbn + i)))
    → IsKept lbn (take (k + 1) xs) (bit_or kept more)
kept_more lbn kept more k xs d within before here i =
    has_bit-or kept more i ∙ (λ j. before i j || here i j) ∙ both (ltb i 128) (one_keeps (take k xs) (lbn + i)) (keeps (get_or xs k d) (lbn + i))
    ∙ sym (ap (λ (b : Bool). ltb i 128 && b) (list_any_more (λ e. keeps e (lbn + i)) xs k d within))

-- the same from a place of the list on
pub kept_further : (lbn kept more from k : ℕ) (xs : List Entry) (e : Entry) → from ≤ k → k < length xs → e ≡ get_or xs k e → IsKept lbn (take (k - from) (drop from xs)) kept → ((i : ℕ) → has_bit more i ≡ (ltb i 128 && keeps e (lbn + i)))
    → IsKept lbn (take (k + 1 - from) (drop from xs)) (bit_or kept more)
kept_further lbn kept more from k xs e order within is before here =
    let next : k - from + 1 ≡ k + 1 - from = omega arith in
    let place : from + (k - from) ≡ k = omega arith in
    let low : k - from < length (drop from xs) = omega (arith, length-drop from xs) in
    let same : get_or (drop from xs) (k - from) e ≡ e = get_or-drop from xs (k - from) e ∙ ap (λ (n : ℕ). get_or xs n e) place ∙ sym is in
    subst (λ (n : ℕ). IsKept lbn (take n (drop from xs)) (bit_or kept more)) next
    (kept_more lbn kept more (k - from) (drop from xs) e low before (λ i. here i ∙ ap (λ (d : Entry). ltb i 128 && keeps d (lbn + i)) (sym same)))
