-- The parts between the bytes that pass a test.
use Rattle.std.proofs.Common.{◌≡◌, ℕ, ◌||◌, Bool, true, false, List, [], ◌∷◌, ◌++◌, inl, inr, refl, sym, ◌∙◌}
use Rattle.std.specs.List.{AllByRecursion, list_any, slice_split, onto_first}
use Rattle.std.proofs.lemmas.Bool.{cases_Bool}

-- the first part ends at the first byte that passes
pub cut_at : (p : ℕ → Bool) (front : List ℕ) (c : ℕ) (rest : List ℕ) → list_any p front ≡ false → p c ≡ true → slice_split p (front ++ c ∷ rest) ≡ front ∷ slice_split p rest
cut_at p [] c rest h k = rw k refl
cut_at p (x ∷ front) c rest h k = elim (cases_Bool (p x)) [
  | inl found ↦ absurd (cc (rw found at h))
  | inr other ↦ let cut = cut_at p front c rest (rw other at h) k in rw (other, cut) refl
]

-- where none passes there is one part
pub one_part : (p : ℕ → Bool) (front : List ℕ) → list_any p front ≡ false → slice_split p front ≡ front ∷ []
one_part p [] h = refl
one_part p (x ∷ front) h = elim (cases_Bool (p x)) [
  | inl found ↦ absurd (cc (rw found at h))
  | inr other ↦ let k = one_part p front (rw other at h) in rw (other, k) refl
]

abbrev pub None_in : (ℕ → Bool) → List ℕ → Type 0
None_in p part = list_any p part ≡ false

onto : (p : ℕ → Bool) (x : ℕ) (parts : List (List ℕ)) → p x ≡ false → AllByRecursion (None_in p) parts → AllByRecursion (None_in p) (onto_first x parts)
onto p x [] h k = (rw h refl, tt)
onto p x (part ∷ parts) h k = (rw h k.0, k.1)

-- no byte of a part passes
pub parts_free : (p : ℕ → Bool) (xs : List ℕ) → AllByRecursion (None_in p) (slice_split p xs)
parts_free p [] = (refl, tt)
parts_free p (x ∷ xs) = elim (cases_Bool (p x)) [
  | inl found ↦ rw found (refl, parts_free p xs)
  | inr other ↦ rw other (onto p x (slice_split p xs) other (parts_free p xs))
]

-- none among both
pub any_append : (p : ℕ → Bool) (xs ys : List ℕ) → list_any p (xs ++ ys) ≡ (list_any p xs || list_any p ys)
any_append p [] ys = refl
any_append p (x ∷ xs) ys = elim (cases_Bool (p x)) [
  | inl found ↦ rw found refl
  | inr other ↦ rw other (any_append p xs ys)
]

pub both_none : (a b : Bool) → (a || b) ≡ false → (a ≡ false) × (b ≡ false)
both_none false false h = (refl, refl)
both_none true b h = absurd (cc h)
both_none false true h = absurd (cc h)

pub none_both : (p : ℕ → Bool) (xs ys : List ℕ) → list_any p xs ≡ false → list_any p ys ≡ false → list_any p (xs ++ ys) ≡ false
none_both p xs ys h k = any_append p xs ys ∙ rw (h, k) refl

pub none_parts : (p : ℕ → Bool) (xs ys : List ℕ) → list_any p (xs ++ ys) ≡ false → (list_any p xs ≡ false) × (list_any p ys ≡ false)
none_parts p xs ys h = both_none (list_any p xs) (list_any p ys) (sym (any_append p xs ys) ∙ h)

-- none passes a weaker test
pub none_left : (p q : ℕ → Bool) (xs : List ℕ) → list_any (λ b. p b || q b) xs ≡ false → list_any p xs ≡ false
none_left p q [] h = refl
none_left p q (x ∷ xs) h =
    let here = both_none (p x || q x) (list_any (λ b. p b || q b) xs) h in
    let p_here = both_none (p x) (q x) here.0 in
    rw p_here.0 (none_left p q xs here.1)

pub none_right : (p q : ℕ → Bool) (xs : List ℕ) → list_any (λ b. p b || q b) xs ≡ false → list_any q xs ≡ false
none_right p q [] h = refl
none_right p q (x ∷ xs) h =
    let here = both_none (p x || q x) (list_any (λ b. p b || q b) xs) h in
    let p_here = both_none (p x) (q x) here.0 in
    rw p_here.1 (none_right p q xs here.1)

pub none_either : (p q : ℕ → Bool) (xs : List ℕ) → list_any p xs ≡ false → list_any q xs ≡ false → list_any (λ b. p b || q b) xs ≡ false
none_either p q [] h k = refl
none_either p q (x ∷ xs) h k =
    let a = both_none (p x) (list_any p xs) h in
    let b = both_none (q x) (list_any q xs) k in
    rw (a.0, b.0) (none_either p q xs a.1 b.1)
