-- What stands at the places of a list, and slices of lists that lie side by side.
use Rattle.rack.proofs.ClosingBasics.{◌≡◌, ◌⊎◌, inl, inr, ⊎_elim, ℕ, zero, suc, ◌+◌, ◌-◌, ◌<◌, ◌≤◌, false, List, [], ◌∷◌, ◌++◌, length, get_or, Option, None, Some, refl, sym, ap, ◌∙◌, subst}
use Rattle.rack.proofs.ClosingBasics.{arith, take, drop, IsSome, is_some, slice_range, cases_lt, get_or_append_left, get_or_push, get_or_past, length_push, drop-drop, take_all}
use Rattle.rack.proofs.ClosingBasics.{none-some}
use Rattle.rack.proofs.ClosingTerms.{Block, Values, IsImage}
pub use Rattle.rack_parts.proofs.Members.{element_at as some_at}

-- ---- One more at the end of a list

module _ {A : Type 0} (xs : List (Option A)) (y : Option A) (n : ℕ) (count : length xs ≡ n) where
  pub at_less : (k : ℕ) → k < n → get_or (xs ++ y ∷ []) k None ≡ get_or xs k None
  at_less k lt = get_or_append_left xs (y ∷ []) None k (omega (arith, lt, count))

  pub at_new : get_or (xs ++ y ∷ []) n None ≡ y
  at_new = get_or_push xs y None n count

  -- what is there now was there, or is the new one
  pub push_cases : (k : ℕ) (x : A) → get_or (xs ++ y ∷ []) k None ≡ Some x → ((k < n) × (get_or xs k None ≡ Some x)) ⊎ ((k ≡ n) × (y ≡ Some x))
  push_cases k x at =
      ⊎_elim
      (λ (less : k < n). inl (less, sym (at_less k less) ∙ at))
      (λ (more : n ≤ k).
      ⊎_elim
      (λ (here : k < n + 1).
      let e : k ≡ n = omega (arith, more, here) in
      inr (e, sym at_new ∙ sym (ap (λ (j : ℕ). get_or (xs ++ y ∷ []) j None) e) ∙ at))
      (λ (past : n + 1 ≤ k). absurd (none-some x (sym (get_or_past (xs ++ y ∷ []) k None (omega (arith, past, count, length_push xs y))) ∙ at)))
      (cases_lt k (n + 1)))
      (cases_lt k n)

-- what is there stays there
pub still_there : {A : Type 0} (xs : List (Option A)) (y : Option A) (k : ℕ) → IsSome (get_or xs k None) → IsSome (get_or (xs ++ y ∷ []) k None)
still_there xs y k there =
    ⊎_elim
    (λ (less : k < length xs). ap is_some (at_less xs y (length xs) refl k less) ∙ there)
    (λ (past : length xs ≤ k). let none : is_some (get_or xs k None) ≡ false = ap is_some (get_or_past xs k None past) in absurd (cc (there, none)))
    (cases_lt k (length xs))

-- ---- Slices side by side

image_both : (vs ws : List (Values Block)) (c d : List Block) → IsImage vs c → IsImage ws d → IsImage (vs ++ ws) (c ++ d)
image_both [] ws [] d i j = j
image_both [] ws (x ∷ c) d i j = absurd i
image_both (v ∷ vs) ws [] d i j = absurd i
image_both (v ∷ vs) ws (x ∷ c) d i j = (i.0, image_both vs ws c d i.1 j)

take_join : {A : Type 0} (m k : ℕ) (ys : List A) → take m ys ++ take k (drop m ys) ≡ take (m + k) ys
take_join zero k ys = ap (λ (n : ℕ). take n ys) (let e : k ≡ 0 + k = omega arith in e)
take_join (suc m) k [] = take_all k [] (omega arith) ∙ sym (take_all (suc m + k) [] (omega arith))
take_join (suc m) k (y ∷ ys) = let e : suc (m + k) ≡ suc m + k = omega arith in ap (λ l. y ∷ l) (take_join m k ys) ∙ ap (λ (n : ℕ). take n (y ∷ ys)) e

pub slice_join : {A : Type 0} (xs : List A) (a b c : ℕ) → a ≤ b → b ≤ c → slice_range xs a b ++ slice_range xs b c ≡ slice_range xs a c
slice_join xs a b c le le' =
    let at : a + (b - a) ≡ b = omega (arith, le) in
    let long : b - a + (c - b) ≡ c - a = omega (arith, le, le') in
    ap (λ l. take (b - a) (drop a xs) ++ take (c - b) l) (sym (drop-drop (b - a) a xs ∙ ap (λ (n : ℕ). drop n xs) at)) ∙ take_join (b - a) (c - b) (drop a xs) ∙ ap (λ (n : ℕ). take n (drop a xs)) long

-- the whole from its parts
pub both_slices : (bs : List (Values Block)) (a b c : ℕ) (x y : List Block) → a ≤ b → b ≤ c → IsImage (slice_range bs a b) x → IsImage (slice_range bs b c) y → IsImage (slice_range bs a c) (x ++ y)
both_slices bs a b c x y le le' i j = subst (λ (vs : List (Values Block)). IsImage vs (x ++ y)) (slice_join bs a b c le le') (image_both (slice_range bs a b) (slice_range bs b c) x y i j)
