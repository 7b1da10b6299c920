-- Lists of which one element is replaced, and one that grows.
use Rattle.std.proofs.Common.{◌≡◌, ◌+◌, ◌<◌, ℕ, List, [], ◌∷◌, ◌++◌, length, slice_index_or, inl, inr, sym, subst, arith}
use Rattle.std.specs.Prelude.{slice_set}
use Rattle.std.proofs.lemmas.Bool.{cases_eq}
use Rattle.std.proofs.lemmas.List.{get_or-set_same, get_or-set_other, get_or_append_left, length-set}
use Rattle.std.proofs.Math.Seq.{get_or-append_seam}

module _ {A B : Type 0} (R : A → B → B → Type 0) (xs : List A) (a : A) (ps qs : List B) (q : B) (k : ℕ) (long : length xs ≡ k) (room : k < length qs)
    (before : (j : ℕ) (x : A) (d : B) → j < k → R (slice_index_or xs j x) (slice_index_or ps j d) (slice_index_or qs j d)) (here : (d : B) → R a (slice_index_or ps k d) q) where
  pub each_more : (j : ℕ) (x : A) (d : B) → j < k + 1 → R (slice_index_or (xs ++ a ∷ []) j x) (slice_index_or ps j d) (slice_index_or (slice_set qs k q) j d)
  each_more j x d lt = elim (cases_eq j k) [
    | inl same ↦
        let last : slice_index_or (xs ++ a ∷ []) k x ≡ a = subst (λ (i : ℕ). slice_index_or (xs ++ a ∷ []) i x ≡ a) long (get_or-append_seam xs a [] x) in
        subst (λ (i : ℕ). R (slice_index_or (xs ++ a ∷ []) i x) (slice_index_or ps i d) (slice_index_or (slice_set qs k q) i d)) (sym same)
        (subst (λ (y : A). R y (slice_index_or ps k d) (slice_index_or (slice_set qs k q) k d)) (sym last) (subst (λ (z : B). R a (slice_index_or ps k d) z) (sym (get_or-set_same qs k q d room)) (here d)))
    | inr other ↦
        let less : j < k = omega (arith, lt, other) in
        subst (λ (y : A). R y (slice_index_or ps j d) (slice_index_or (slice_set qs k q) j d)) (sym (get_or_append_left xs (a ∷ []) x j (omega (arith, less, long))))
        (subst (λ (z : B). R (slice_index_or xs j x) (slice_index_or ps j d) z) (sym (get_or-set_other qs k j q d other)) (before j x d less))
  ]

module _ {B : Type 0} (P : ℕ → B → Type 0) (qs : List B) (q : B) (k : ℕ) (before : (j : ℕ) (d : B) → j < length qs → P j (slice_index_or qs j d)) (here : P k q) where
  pub each_set : (j : ℕ) (d : B) → j < length (slice_set qs k q) → P j (slice_index_or (slice_set qs k q) j d)
  each_set j d lt = let within : j < length qs = (let same : length (slice_set qs k q) ≡ length qs = length-set qs k q in omega (arith, lt, same)) in elim (cases_eq j k) [
    | inl same ↦ subst (λ (i : ℕ). P i (slice_index_or (slice_set qs k q) i d)) (sym same) (subst (λ (z : B). P k z) (sym (get_or-set_same qs k q d (omega (arith, within, same)))) here)
    | inr other ↦ subst (λ (z : B). P j z) (sym (get_or-set_other qs k j q d other)) (before j d within)
  ]

module _ {B : Type 0} (R : B → B → Type 0) (is ps : List B) (q : B) (k : ℕ) (before : (j : ℕ) (d : B) → j < length ps → R (slice_index_or is j d) (slice_index_or ps j d)) (here : (d : B) → R (slice_index_or is k d) q) where
  pub each_pair : (j : ℕ) (d : B) → j < length ps → R (slice_index_or is j d) (slice_index_or (slice_set ps k q) j d)
  each_pair j d within = elim (cases_eq j k) [
    | inl same ↦ subst (λ (i : ℕ). R (slice_index_or is i d) (slice_index_or (slice_set ps k q) i d)) (sym same) (subst (R (slice_index_or is k d)) (sym (get_or-set_same ps k q d (omega (arith, within, same)))) (here d))
    | inr other ↦ subst (R (slice_index_or is j d)) (sym (get_or-set_other ps k j q d other)) (before j d within)
  ]

module _ {B : Type 0} (R : B → B → Type 0) (is ps : List B) (q : B) (k : ℕ) (room : k < length ps) (before : (j : ℕ) (d : B) → j < k → R (slice_index_or is j d) (slice_index_or ps j d)) (here : (d : B) → R (slice_index_or is k d) q) where
  pub each_next : (j : ℕ) (d : B) → j < k + 1 → R (slice_index_or is j d) (slice_index_or (slice_set ps k q) j d)
  each_next j d lt = elim (cases_eq j k) [
    | inl same ↦ subst (λ (i : ℕ). R (slice_index_or is i d) (slice_index_or (slice_set ps k q) i d)) (sym same) (subst (R (slice_index_or is k d)) (sym (get_or-set_same ps k q d room)) (here d))
    | inr other ↦ subst (R (slice_index_or is j d)) (sym (get_or-set_other ps k j q d other)) (before j d (omega (arith, lt, other)))
  ]
