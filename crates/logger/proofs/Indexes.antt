-- Indexes of segments: no two are the same, so there are no more of them than the bound below which they lie.
use Rattle.std.proofs.Common.{◌≡◌, ◌≢◌, ⊎_elim, ◌<◌, ◌≤◌, ℕ, zero, suc, List, [], ◌∷◌, ◌++◌, map, length, remove, slice_get, Some, refl, sym, ap, subst, ◌∙◌, arith}
use Rattle.std.specs.List.{AllByRecursion}
use Rattle.std.proofs.lemmas.Bool.Decides.{eqb_tells}
use Rattle.std.proofs.lemmas.Option.{none-some, same_Some}
use Rattle.wol_model.specs.Blocks.{AreApart}
use Rattle.logger.proofs.Held.{all_push}

-- none of them is v
abbrev Lacks : (v : ℕ) → List ℕ → Type 0
Lacks v xs = AllByRecursion (λ w. v ≢ w) xs

-- numbers without n, of which no more than one is left out
record Without (n : ℕ) (xs : List ℕ) : Type 0 where
  pub ys : List ℕ
  pub apart : AreApart ys
  pub below : AllByRecursion (λ x. x < n) ys
  pub size : length xs ≤ suc (length ys)
  pub lacks : (v : ℕ) → Lacks v xs → Lacks v ys

below_all : (n : ℕ) (xs : List ℕ) → Lacks n xs → AllByRecursion (λ x. x < suc n) xs → AllByRecursion (λ x. x < n) xs
below_all n [] lacks all = tt
below_all n (x ∷ xs) lacks all = ((let lt = all.0 in let ne = lacks.0 in omega arith), below_all n xs lacks.1 all.1)

-- the first of them is n, or isn't
without_here : (n x : ℕ) (xs : List ℕ) → AreApart (x ∷ xs) → AllByRecursion (λ y. y < suc n) (x ∷ xs) → x ≡ n → Without n (x ∷ xs)
without_here n x xs apart all is = record {
  ys = xs;
  apart = apart.1;
  below = below_all n xs (subst (λ v. Lacks v xs) is apart.0) all.1;
  size = omega arith;
  lacks = λ v h. h.1;
}

without_there : (n x : ℕ) (xs : List ℕ) → AreApart (x ∷ xs) → AllByRecursion (λ y. y < suc n) (x ∷ xs) → Without n xs → x ≢ n → Without n (x ∷ xs)
without_there n x xs apart all rest other = record {
  ys = x ∷ rest.ys;
  apart = (rest.lacks x apart.0, rest.apart);
  below = ((let lt = all.0 in omega arith), rest.below);
  size = (let few = rest.size in omega arith);
  lacks = λ v h. (h.0, rest.lacks v h.1);
}

without : (n : ℕ) (xs : List ℕ) → AreApart xs → AllByRecursion (λ x. x < suc n) xs → Without n xs
without n [] apart all = record { ys = []; apart = tt; below = tt; size = omega arith; lacks = λ v h. h }
without n (x ∷ xs) apart all = ⊎_elim (λ e. without_here n x xs apart all e.1) (λ e. without_there n x xs apart all (without n xs apart.1 all.1) e.1) (eqb_tells x n)

pub few : (n : ℕ) (xs : List ℕ) → AreApart xs → AllByRecursion (λ x. x < n) xs → length xs ≤ n
few n [] apart all = omega arith
few zero (x ∷ xs) apart all = absurd (let lt = all.0 in omega arith)
few (suc n) (x ∷ xs) apart all = let w = without n (x ∷ xs) apart all in let le = few n w.ys w.apart w.below in let size = w.size in omega arith

-- ---- one more, one gone

pub apart_push : (vs : List ℕ) (n : ℕ) → AreApart vs → Lacks n vs → AreApart (vs ++ n ∷ [])
apart_push [] n apart lacks = (tt, tt)
apart_push (v ∷ vs) n apart lacks = (all_push (λ w. v ≢ w) vs n apart.0 (λ is. lacks.0 (sym is)), apart_push vs n apart.1 lacks.1)

-- before those that come last
pub apart_insert : (vs ws : List ℕ) (n : ℕ) → AreApart (vs ++ ws) → Lacks n (vs ++ ws) → AreApart (vs ++ n ∷ [] ++ ws)
apart_insert [] ws n apart lacks = (lacks, apart)
apart_insert (v ∷ vs) ws n apart lacks = (lacks_insert vs ws n v apart.0 (λ is. lacks.0 (sym is)), apart_insert vs ws n apart.1 lacks.1)
  where
    lacks_insert : (vs ws : List ℕ) (n v : ℕ) → Lacks v (vs ++ ws) → v ≢ n → Lacks v (vs ++ n ∷ [] ++ ws)
    lacks_insert [] ws n v lacks ne = (ne, lacks)
    lacks_insert (u ∷ vs) ws n v lacks ne = (lacks.0, lacks_insert vs ws n v lacks.1 ne)

lacks_left : (vs ws : List ℕ) (v : ℕ) → Lacks v (vs ++ ws) → Lacks v vs
lacks_left [] ws v lacks = tt
lacks_left (u ∷ vs) ws v lacks = (lacks.0, lacks_left vs ws v lacks.1)

module _ {X : Type 0} (f : X → ℕ) where
  lacks_remove : (xs : List X) (ws : List ℕ) (k v : ℕ) → Lacks v (map f xs ++ ws) → Lacks v (map f (remove xs k) ++ ws)
  lacks_remove [] ws zero v lacks = lacks
  lacks_remove [] ws (suc k) v lacks = lacks
  lacks_remove (x ∷ xs) ws zero v lacks = lacks.1
  lacks_remove (x ∷ xs) ws (suc k) v lacks = (lacks.0, lacks_remove xs ws k v lacks.1)

  pub apart_remove : (xs : List X) (ws : List ℕ) (k : ℕ) → AreApart (map f xs ++ ws) → AreApart (map f (remove xs k) ++ ws)
  apart_remove [] ws zero apart = apart
  apart_remove [] ws (suc k) apart = apart
  apart_remove (x ∷ xs) ws zero apart = apart.1
  apart_remove (x ∷ xs) ws (suc k) apart = (lacks_remove xs ws k (f x) apart.0, apart_remove xs ws k apart.1)

  lacks_of : (xs : List X) (ws : List ℕ) (k : ℕ) (x : X) (v : ℕ) → Lacks v (map f xs ++ ws) → slice_get xs k ≡ Some x → v ≢ f x
  lacks_of [] ws k x v lacks is = absurd (none-some x is)
  lacks_of (y ∷ ys) ws zero x v lacks is = λ same. lacks.0 (same ∙ ap f (sym (same_Some y x is)))
  lacks_of (y ∷ ys) ws (suc k) x v lacks is = lacks_of ys ws k x v lacks.1 is

  -- the index of the one that goes is not among those that stay
  pub lacks_removed : (xs : List X) (ws : List ℕ) (k : ℕ) (x : X) → AreApart (map f xs ++ ws) → slice_get xs k ≡ Some x → AllByRecursion (λ y. f y ≢ f x) (remove xs k) × Lacks (f x) ws
  lacks_removed [] ws k x apart is = absurd (none-some x is)
  lacks_removed (y ∷ ys) ws zero x apart is = let e = ap f (same_Some y x is) in (rest ys apart.0 e, last ys ws apart.0 e)
    where
      rest : (zs : List X) → Lacks (f y) (map f zs ++ ws) → f y ≡ f x → AllByRecursion (λ z. f z ≢ f x) zs
      rest [] lacks e = tt
      rest (z ∷ zs) lacks e = ((λ same. lacks.0 (e ∙ sym same)), rest zs lacks.1 e)

      last : (zs : List X) (ws : List ℕ) → Lacks (f y) (map f zs ++ ws) → f y ≡ f x → Lacks (f x) ws
      last [] ws lacks e = subst (λ v. Lacks v ws) e lacks
      last (z ∷ zs) ws lacks e = last zs ws lacks.1 e
  lacks_removed (y ∷ ys) ws (suc k) x apart is =
      let rest = lacks_removed ys ws k x apart.1 is in (((λ same. lacks_of ys ws k x (f y) apart.0 is same), rest.0), rest.1)

  -- no two places have one index
  pub same_place : (xs : List X) (ws : List ℕ) (j k : ℕ) (x y : X) → AreApart (map f xs ++ ws) → slice_get xs j ≡ Some x → slice_get xs k ≡ Some y → f x ≡ f y → j ≡ k
  same_place [] ws j k x y apart a b e = absurd (none-some x a)
  same_place (z ∷ zs) ws zero zero x y apart a b e = refl
  same_place (z ∷ zs) ws zero (suc k) x y apart a b e = absurd (lacks_of zs ws k y (f z) apart.0 b (ap f (same_Some z x a) ∙ e))
  same_place (z ∷ zs) ws (suc j) zero x y apart a b e = absurd (lacks_of zs ws j x (f z) apart.0 a (ap f (same_Some z y b) ∙ sym e))
  same_place (z ∷ zs) ws (suc j) (suc k) x y apart a b e = ap suc (same_place zs ws j k x y apart.1 a b e)
