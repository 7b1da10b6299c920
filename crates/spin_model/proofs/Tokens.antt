-- Lists of the passes that have a token.
use Rattle.std.proofs.Common.{◌≡◌, ◌<◌, ◌≤◌, ℕ, zero, suc, ◌+◌, eqb, Bool, true, false, not, ◌||◌, cond, List, [], ◌∷◌, length, refl, sym, ap, ◌∙◌, arith, ⊎_elim}
use Rattle.std.specs.List.{filter, list_any}
use Rattle.std.specs.Prelude.{⊤}
use Rattle.std.proofs.lemmas.Bool.Decides.{eqb_tells}

-- whether the pass is in the list
abbrev pub is_in : ℕ → List ℕ → Bool
is_in n ps = list_any (λ p. eqb p n) ps

-- the list without it
abbrev pub others : ℕ → List ℕ → List ℕ
others n ps = filter (λ p. not (eqb p n)) ps

-- no pass is in the list twice
abbrev pub AreApart : List ℕ → Type 0
AreApart [] = ⊤
AreApart (p ∷ ps) = (is_in p ps ≡ false) × AreApart ps

-- each is below n
abbrev pub AreBelow : ℕ → List ℕ → Type 0
AreBelow n [] = ⊤
AreBelow n (p ∷ ps) = (p < n) × AreBelow n ps

or_false : (a b : Bool) → a || b ≡ false → (a ≡ false) × (b ≡ false)
or_false a b h = grind arith

-- where the first is n itself, and where it isn't
module _ (n p : ℕ) (ps : List ℕ) where
  others_here : eqb p n ≡ true → others n (p ∷ ps) ≡ others n ps
  others_here e = ap (λ (b : Bool). cond (not b) (p ∷ others n ps) (others n ps)) e

  others_there : eqb p n ≡ false → others n (p ∷ ps) ≡ p ∷ others n ps
  others_there e = ap (λ (b : Bool). cond (not b) (p ∷ others n ps) (others n ps)) e

pub is_in-others_same : (n : ℕ) (ps : List ℕ) → is_in n (others n ps) ≡ false
is_in-others_same n [] = refl
is_in-others_same n (p ∷ ps) = let h = is_in-others_same n ps in
    ⊎_elim (λ t. ap (is_in n) (others_here n p ps t.0) ∙ h) (λ f. ap (is_in n) (others_there n p ps f.0) ∙ (ap (λ (b : Bool). b || is_in n (others n ps)) f.0 ∙ h)) (eqb_tells p n)

pub is_in-others_other : (m n : ℕ) (ps : List ℕ) → eqb n m ≡ false → is_in m (others n ps) ≡ is_in m ps
is_in-others_other m n [] e = refl
is_in-others_other m n (p ∷ ps) e = let h = is_in-others_other m n ps e in
    ⊎_elim (λ t. ap (is_in m) (others_here n p ps t.0) ∙ (h ∙ sym (ap (λ (b : Bool). b || is_in m ps) (ap (λ (k : ℕ). eqb k m) t.1 ∙ e)))) (λ f. ap (is_in m) (others_there n p ps f.0) ∙ ap (λ (b : Bool). eqb p m || b) h) (eqb_tells p n)

-- who wasn't in the list isn't in what is left of it
pub not_in_others : (m n : ℕ) (ps : List ℕ) → is_in m ps ≡ false → is_in m (others n ps) ≡ false
not_in_others m n ps out = ⊎_elim (λ t. ap (λ (k : ℕ). is_in k (others n ps)) (sym t.1) ∙ is_in-others_same n ps) (λ f. is_in-others_other m n ps f.0 ∙ out) (eqb_tells n m)

pub apart-others : (n : ℕ) (ps : List ℕ) → AreApart ps → AreApart (others n ps)
apart-others n [] a = a
apart-others n (p ∷ ps) a = ⊎_elim (λ t. at (others_here n p ps t.0) (apart-others n ps a.1)) (λ f. at (others_there n p ps f.0) (not_in_others p n ps a.0, apart-others n ps a.1)) (eqb_tells p n)
  where
    at : {xs ys : List ℕ} → xs ≡ ys → AreApart ys → AreApart xs
    at e h = rw e h

pub others_absent : (n : ℕ) (ps : List ℕ) → is_in n ps ≡ false → others n ps ≡ ps
others_absent n [] out = refl
others_absent n (p ∷ ps) out = let h = or_false (eqb p n) (is_in n ps) out in others_there n p ps h.0 ∙ ap (λ (qs : List ℕ). p ∷ qs) (others_absent n ps h.1)

-- one token less
pub length-others : (n : ℕ) (ps : List ℕ) → AreApart ps → is_in n ps ≡ true → length (others n ps) + 1 ≡ length ps
length-others n [] a in_it = cc
length-others n (p ∷ ps) a in_it = ⊎_elim (λ t. here t.0 t.1) (λ f. there f.0 (length-others n ps a.1 (sym (ap (λ (b : Bool). b || is_in n ps) f.0) ∙ in_it))) (eqb_tells p n)
  where
    here : eqb p n ≡ true → p ≡ n → length (others n (p ∷ ps)) + 1 ≡ length (p ∷ ps)
    here t e = let o = ap length (others_here n p ps t) in let s = ap length (others_absent n ps (ap (λ (k : ℕ). is_in k ps) (sym e) ∙ a.0)) in omega arith

    there : eqb p n ≡ false → length (others n ps) + 1 ≡ length ps → length (others n (p ∷ ps)) + 1 ≡ length (p ∷ ps)
    there f h = let o = ap length (others_there n p ps f) in omega arith

-- some token is out
pub some_in : (n : ℕ) (ps : List ℕ) → is_in n ps ≡ true → 0 < length ps
some_in n [] in_it = cc
some_in n (p ∷ ps) in_it = omega arith

below-others : (n : ℕ) (ps : List ℕ) → AreBelow (suc n) ps → AreBelow n (others n ps)
below-others n [] b = b
below-others n (p ∷ ps) b = ⊎_elim (λ t. at (others_here n p ps t.0) (below-others n ps b.1)) (λ f. at (others_there n p ps f.0) (let less = b.0 in let other = f.1 in omega arith, below-others n ps b.1)) (eqb_tells p n)
  where
    at : {xs ys : List ℕ} → xs ≡ ys → AreBelow n ys → AreBelow n xs
    at e h = rw e h

pub below-others_kept : (k n : ℕ) (ps : List ℕ) → AreBelow k ps → AreBelow k (others n ps)
below-others_kept k n [] b = b
below-others_kept k n (p ∷ ps) b = by (not (eqb p n)) (below-others_kept k n ps b.1)
  where
    by : (keep : Bool) → AreBelow k (others n ps) → AreBelow k (cond keep (p ∷ others n ps) (others n ps))
    by true rest = (b.0, rest)
    by false rest = rest

-- passes below n with no two equal are at most n
pub length-le_apart : (n : ℕ) (ps : List ℕ) → AreApart ps → AreBelow n ps → length ps ≤ n
length-le_apart zero [] a b = omega arith
length-le_apart zero (p ∷ ps) a b = absurd (let less = b.0 in omega arith)
length-le_apart (suc n) ps a b = let h = length-le_apart n (others n ps) (apart-others n ps a) (below-others n ps b) in by_in (is_in n ps) refl h
  where
    by_in : (t : Bool) → is_in n ps ≡ t → length (others n ps) ≤ n → length ps ≤ suc n
    by_in true e h = let l = length-others n ps a e in omega arith
    by_in false e h = let l = ap length (others_absent n ps e) in omega arith
