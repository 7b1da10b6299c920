-- A carriage return at the end of a line.
use Rattle.std.proofs.Common.{◌≡◌, ℕ, ◌+◌, ◌-◌, ◌<◌, ◌==◌, false, zero, suc, List, [], ◌∷◌, ◌++◌, length, take, drop, get_or, inl, inr, ◌⊎◌, refl, sym, ◌∙◌, arith, length-append}
use Rattle.std.specs.List.{list_any}
use Rattle.std.proofs.lemmas.Bool.{cases_Bool, eqb-true}
use Rattle.std.proofs.lemmas.List.{take_at, get_or_at, take-append-drop, drop_more, drop_all}
use Rattle.msr_trace.specs.Lines.{is_mark, without_return}

-- no mark stands at any place
mark_at : (xs : List ℕ) (i : ℕ) → list_any is_mark xs ≡ false → (get_or xs i 0 == 13) ≡ false
mark_at [] i h = refl
mark_at (x ∷ xs) zero h = elim (cases_Bool (x == 13)) [
  | inr other ↦ other
  | inl found ↦ let e = eqb-true x 13 found in absurd (cc (rw e at h))
]
mark_at (x ∷ xs) (suc i) h = elim (cases_Bool (is_mark x)) [
  | inl found ↦ absurd (cc (rw found at h))
  | inr other ↦ mark_at xs i (rw other at h)
]

-- with no mark there is none to drop
pub without_none : (body : List ℕ) → list_any is_mark body ≡ false → without_return body ≡ body
without_none body h = rw (mark_at body (length body - 1) h) refl

-- the one at the end is dropped
pub without_last : (body : List ℕ) → without_return (body ++ 13 ∷ []) ≡ body
without_last body =
    let count : length (body ++ 13 ∷ []) - 1 ≡ length body = omega (arith, length-append body (13 ∷ [])) in
    rw (count, get_or_at body 13 [] 0 (length body) refl, take_at body (13 ∷ []) (length body) refl) refl

last_of : (ys : List ℕ) → 0 < length ys → get_or ys (length ys - 1) 0 ≡ 13 → ys ≡ take (length ys - 1) ys ++ 13 ∷ []
last_of ys some is =
    let rest : drop (length ys - 1) ys ≡ 13 ∷ [] = drop_more ys (length ys - 1) 0 (omega (arith, some)) ∙ rw (is, drop_all (length ys - 1 + 1) ys (omega (arith, some))) refl in
    sym (take-append-drop (length ys - 1) ys) ∙ rw rest refl

-- a line is what is left, or that and a carriage return
pub with_return : (text : List ℕ) → (text ≡ without_return text) ⊎ (text ≡ without_return text ++ 13 ∷ [])
with_return [] = inl refl
with_return (x ∷ xs) = elim (cases_Bool (get_or (x ∷ xs) (length (x ∷ xs) - 1) 0 == 13)) [
  | inr other ↦ rw other (inl refl)
  | inl found ↦ let last = last_of (x ∷ xs) (omega arith) (eqb-true (get_or (x ∷ xs) (length (x ∷ xs) - 1) 0) 13 found) in rw found (inr last)
]
