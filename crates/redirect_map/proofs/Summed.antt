-- The tree of masks.
use Rattle.std.proofs.Common.{◌≡◌, ⊎_elim, ◌<◌, ◌≤◌, ◌+◌, ◌*◌, ◌/◌, ◌^◌, ◌%◌, ℕ, zero, suc, List, length, set, get_or, sym, ap, ◌∙◌, subst, arith, bit_and, bit_or}
use Rattle.std.proofs.lemmas.Bool.{cases_eq}
use Rattle.std.proofs.lemmas.List.{get_or-set_same, get_or-set_other, get_or_default, length-set}
use Rattle.std.proofs.lemmas.Nat.{shr-shr, shr_le, pow_pos, div_below, le-div}
use Rattle.std.proofs.Math.Nat.{div-mul-le_self, pow-le-pow_right, mod-eq_of_lt, lt-div-mul-add}
use Rattle.redirect_map.specs.Marks.{IsWithin, AreApart, IsSummed, IsSummedBut}
use Rattle.redirect_map.proofs.Bits.{within_left, within_right, apart_within}

-- two places of a list of masks
both_within : (a b c d : ℕ) → a ≡ c → b ≡ d → IsWithin c d → IsWithin a b
both_within a b c d p q within = subst (λ (x : ℕ). IsWithin x b) (sym p) (subst (λ (y : ℕ). IsWithin c y) (sym q) within)

-- a leaf gets another mask
pub set_leaf : (nodes : List ℕ) (k m : ℕ) → length nodes ≡ 2 * (length nodes / 2) → length nodes / 2 ≤ k → k < length nodes → IsSummed nodes → IsSummedBut k (set nodes k m)
set_leaf nodes k m even half within summed n less apart =
    both_within (get_or (set nodes k m) n 0) (get_or (set nodes k m) (n / 2) 0) (get_or nodes n 0) (get_or nodes (n / 2) 0) (get_or-set_other nodes k n m 0 other) (get_or-set_other nodes k (n / 2) m 0 below) (summed n inside)
  where
    inside : n < length nodes
    inside = subst (λ (l : ℕ). n < l) (length-set nodes k m) less

    other : n ≡ k → ⊥
    other same = let none : k ≡ 0 = apart (ap (λ (x : ℕ). x / 2) same) in absurd (omega arith)

    below : n / 2 ≡ k → ⊥
    below same = absurd (omega (arith, inside))

-- the node above one becomes that of the two below it
pub raised : (nodes : List ℕ) (node : ℕ) → length nodes ≡ 2 * (length nodes / 2) → node < length nodes → 0 < node → IsSummedBut node nodes
    → IsSummedBut (node / 2) (set nodes (node / 2) (bit_or (get_or nodes (2 * (node / 2)) 0) (get_or nodes (2 * (node / 2) + 1) 0)))
raised nodes node even within some summed n less apart = ⊎_elim here other (cases_eq (n / 2) (node / 2))
  where
    x : ℕ
    x = bit_or (get_or nodes (2 * (node / 2)) 0) (get_or nodes (2 * (node / 2) + 1) 0)

    inside : n < length nodes
    inside = subst (λ (l : ℕ). n < l) (length-set nodes (node / 2) (bit_or (get_or nodes (2 * (node / 2)) 0) (get_or nodes (2 * (node / 2) + 1) 0))) less

    new : ℕ → ℕ
    new k = get_or (set nodes (node / 2) (bit_or (get_or nodes (2 * (node / 2)) 0) (get_or nodes (2 * (node / 2) + 1) 0))) k 0

    kept : (k : ℕ) → (k ≡ node / 2 → ⊥) → new k ≡ get_or nodes k 0
    kept k apart = get_or-set_other nodes (node / 2) k (bit_or (get_or nodes (2 * (node / 2)) 0) (get_or nodes (2 * (node / 2) + 1) 0)) 0 apart

    changed : new (node / 2) ≡ bit_or (get_or nodes (2 * (node / 2)) 0) (get_or nodes (2 * (node / 2) + 1) 0)
    changed = get_or-set_same nodes (node / 2) (bit_or (get_or nodes (2 * (node / 2)) 0) (get_or nodes (2 * (node / 2) + 1) 0)) 0 (omega arith)

    child : n / 2 ≡ node / 2 → IsWithin (get_or nodes n 0) (bit_or (get_or nodes (2 * (node / 2)) 0) (get_or nodes (2 * (node / 2) + 1) 0))
    child same = ⊎_elim
        (λ left. subst (λ (k : ℕ). IsWithin (get_or nodes k 0) (bit_or (get_or nodes (2 * (node / 2)) 0) (get_or nodes (2 * (node / 2) + 1) 0))) (sym left) (within_left (get_or nodes (2 * (node / 2)) 0) (get_or nodes (2 * (node / 2) + 1) 0)))
        (λ not_left. let right : n ≡ 2 * (node / 2) + 1 = omega arith in
        subst (λ (k : ℕ). IsWithin (get_or nodes k 0) (bit_or (get_or nodes (2 * (node / 2)) 0) (get_or nodes (2 * (node / 2) + 1) 0))) (sym right) (within_right (get_or nodes (2 * (node / 2)) 0) (get_or nodes (2 * (node / 2) + 1) 0)))
        (cases_eq n (2 * (node / 2)))

    here : n / 2 ≡ node / 2 → IsWithin (new n) (new (n / 2))
    here same = ⊎_elim
        (λ top. let up : n / 2 ≡ n = same ∙ sym top in subst (λ (k : ℕ). IsWithin (new n) (new k)) (sym up) (λ i on. on))
        (λ low. both_within (new n) (new (n / 2)) (get_or nodes n 0) (bit_or (get_or nodes (2 * (node / 2)) 0) (get_or nodes (2 * (node / 2) + 1) 0)) (kept n low) (ap new same ∙ changed) (child same))
        (cases_eq n (node / 2))

    other : (n / 2 ≡ node / 2 → ⊥) → IsWithin (new n) (new (n / 2))
    other off =
        let low : n ≡ node / 2 → ⊥ = λ same. let up : n / 2 ≡ node / 2 / 2 = ap (λ (k : ℕ). k / 2) same in let none : node / 2 ≡ 0 = apart up in off (up ∙ ap (λ (k : ℕ). k / 2) none ∙ sym none) in
        both_within (new n) (new (n / 2)) (get_or nodes n 0) (get_or nodes (n / 2) 0) (kept n low) (kept (n / 2) off) (summed n inside (λ same. absurd (off same)))

-- at the top
pub all_summed : (nodes : List ℕ) (node : ℕ) → node ≡ 0 → IsSummedBut node nodes → IsSummed nodes
all_summed nodes node top summed n within = summed n within (λ same. top)

-- a node has the bits of each node below it
pub above : (nodes : List ℕ) (n h : ℕ) → IsSummed nodes → n < length nodes → IsWithin (get_or nodes n 0) (get_or nodes (n / 2 ^ h) 0)
above nodes n zero summed within = let e : n / 2 ^ 0 ≡ n = omega arith in subst (λ (k : ℕ). IsWithin (get_or nodes n 0) (get_or nodes k 0)) (sym e) (λ i on. on)
above nodes n (suc h) summed within =
    let low : n / 2 ^ h ≤ n = shr_le n h in
    let up : n / 2 ^ h / 2 ≡ n / 2 ^ (h + 1) = shr-shr n h 1 in
    let next : h + 1 ≡ suc h = omega arith in
    let e : n / 2 ^ h / 2 ≡ n / 2 ^ suc h = up ∙ ap (λ (k : ℕ). n / 2 ^ k) next in
    subst (λ (k : ℕ). IsWithin (get_or nodes n 0) (get_or nodes k 0)) e (λ i on. summed (n / 2 ^ h) (omega arith) i (above nodes n h summed within i on))

-- the root has the bits of all nodes
pub below_root : (nodes : List ℕ) (most n : ℕ) → IsSummed nodes → n ≤ most → 1 ≤ n → n < length nodes → IsWithin (get_or nodes n 0) (get_or nodes 1 0)
below_root nodes zero n summed less from within = absurd (omega arith)
below_root nodes (suc most) n summed less from within = ⊎_elim
    (λ top. subst (λ (k : ℕ). IsWithin (get_or nodes n 0) (get_or nodes k 0)) top (λ i on. on))
    (λ low. λ i on. below_root nodes most (n / 2) summed (omega arith) (omega arith) (omega arith) i (summed n within i on))
    (cases_eq n 1)

-- no leaf below a node has a bit that the node hasn't
pub skipped : (nodes : List ℕ) (leaf h wanted n : ℕ) → IsSummed nodes → bit_and (get_or nodes (leaf / 2 ^ h) 0) wanted ≡ 0 → leaf ≤ n → n < (leaf / 2 ^ h + 1) * 2 ^ h → n < length nodes
    → AreApart (get_or nodes n 0) wanted
skipped nodes leaf h wanted n summed none from before within =
    let less : n / 2 ^ h < leaf / 2 ^ h + 1 = div_below n (2 ^ h) (leaf / 2 ^ h + 1) (pow_pos h) before in
    let start : leaf / 2 ^ h * 2 ^ h ≤ leaf = div-mul-le_self leaf (2 ^ h) in
    let more : leaf / 2 ^ h ≤ n / 2 ^ h = le-div (leaf / 2 ^ h) n (2 ^ h) (pow_pos h) (omega arith) in
    let same : n / 2 ^ h ≡ leaf / 2 ^ h = omega arith in
    apart_within (get_or nodes n 0) (get_or nodes (leaf / 2 ^ h) 0) wanted (subst (λ (k : ℕ). IsWithin (get_or nodes n 0) (get_or nodes k 0)) same (above nodes n h summed within)) none

-- where the search goes on
pub whole : (leaf h : ℕ) → h ≤ 60 → leaf < 2 ^ 63 → (leaf / 2 ^ h + 1) * 2 ^ h % 2 ^ 64 ≡ (leaf / 2 ^ h + 1) * 2 ^ h
whole leaf h low fits =
    let start : leaf / 2 ^ h * 2 ^ h ≤ leaf = div-mul-le_self leaf (2 ^ h) in
    let wide : 2 ^ h ≤ 2 ^ 60 = pow-le-pow_right (omega arith) low in
    let sum : (leaf / 2 ^ h + 1) * 2 ^ h ≡ leaf / 2 ^ h * 2 ^ h + 2 ^ h = times_more (leaf / 2 ^ h) (2 ^ h) in
    mod-eq_of_lt (omega arith)
  where
    times_more : (a b : ℕ) → (a + 1) * b ≡ a * b + b
    times_more a b = grind arith

pub further : (leaf h : ℕ) → leaf < (leaf / 2 ^ h + 1) * 2 ^ h
further leaf h =
    let more : leaf < leaf / 2 ^ h * 2 ^ h + 2 ^ h = lt-div-mul-add (pow_pos h) in
    let sum : (leaf / 2 ^ h + 1) * 2 ^ h ≡ leaf / 2 ^ h * 2 ^ h + 2 ^ h = times_more (leaf / 2 ^ h) (2 ^ h) in
    omega arith
  where
    times_more : (a b : ℕ) → (a + 1) * b ≡ a * b + b
    times_more a b = grind arith

-- the same with what was read of the nodes below
pub raised_read : (nodes : List ℕ) (node x y : ℕ) → length nodes ≡ 2 * (length nodes / 2) → node < length nodes → 0 < node → IsSummedBut node nodes
    → x ≡ get_or nodes (2 * (node / 2)) x → y ≡ get_or nodes (2 * (node / 2) + 1) y → IsSummedBut (node / 2) (set nodes (node / 2) (bit_or x y))
raised_read nodes node x y even within some summed px py =
    let left : get_or nodes (2 * (node / 2)) 0 ≡ x = get_or_default nodes (2 * (node / 2)) 0 x (omega arith) ∙ sym px in
    let right : get_or nodes (2 * (node / 2) + 1) 0 ≡ y = get_or_default nodes (2 * (node / 2) + 1) 0 y (omega arith) ∙ sym py in
    subst (λ (v : ℕ). IsSummedBut (node / 2) (set nodes (node / 2) v)) (λ i. bit_or (left i) (right i)) (raised nodes node even within some summed)

-- where the node above one has the bits of both already, all is summed
pub as_it_was : (nodes : List ℕ) (node x y z : ℕ) → length nodes ≡ 2 * (length nodes / 2) → node < length nodes → 0 < node → IsSummedBut node nodes
    → x ≡ get_or nodes (2 * (node / 2)) x → y ≡ get_or nodes (2 * (node / 2) + 1) y → z ≡ get_or nodes (node / 2) z → z ≡ bit_or x y → IsSummed nodes
as_it_was nodes node x y z even within some summed px py pz same n inside = ⊎_elim here (λ off. summed n inside (λ s. absurd (off s))) (cases_eq (n / 2) (node / 2))
  where
    left : get_or nodes (2 * (node / 2)) 0 ≡ x
    left = get_or_default nodes (2 * (node / 2)) 0 x (omega arith) ∙ sym px

    right : get_or nodes (2 * (node / 2) + 1) 0 ≡ y
    right = get_or_default nodes (2 * (node / 2) + 1) 0 y (omega arith) ∙ sym py

    top : get_or nodes (node / 2) 0 ≡ bit_or x y
    top = get_or_default nodes (node / 2) 0 z (omega arith) ∙ sym pz ∙ same

    child : n / 2 ≡ node / 2 → IsWithin (get_or nodes n 0) (bit_or x y)
    child up = ⊎_elim
        (λ here. both_within (get_or nodes n 0) (bit_or x y) x (bit_or x y) (ap (λ (k : ℕ). get_or nodes k 0) here ∙ left) (λ i. bit_or x y) (within_left x y))
        (λ not_here. let next : n ≡ 2 * (node / 2) + 1 = omega arith in both_within (get_or nodes n 0) (bit_or x y) y (bit_or x y) (ap (λ (k : ℕ). get_or nodes k 0) next ∙ right) (λ i. bit_or x y) (within_right x y))
        (cases_eq n (2 * (node / 2)))

    here : n / 2 ≡ node / 2 → IsWithin (get_or nodes n 0) (get_or nodes (n / 2) 0)
    here up = both_within (get_or nodes n 0) (get_or nodes (n / 2) 0) (get_or nodes n 0) (bit_or x y) (λ i. get_or nodes n 0) (ap (λ (k : ℕ). get_or nodes k 0) up ∙ top) (child up)
