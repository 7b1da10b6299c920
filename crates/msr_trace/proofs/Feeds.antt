-- Where the first line feed stands.
use Rattle.std.proofs.Common.{◌≡◌, ℕ, ◌+◌, ◌≤◌, Bool, true, false, nat_lt, zero, suc, List, [], ◌∷◌, ◌++◌, length, get_or, take, drop, Option, None, Some, inl, inr, refl, sym, ◌∙◌, arith}
use Rattle.std.specs.Prelude.{position, Result, Ok, Err, OnErr}
use Rattle.std.specs.List.{list_any, position_or_len}
use Rattle.std.proofs.lemmas.List.{take_all, take_at}
use Rattle.std.proofs.lemmas.List.Sums.{position_or_len_is}
use Rattle.memchr.specs.Find.{IsFirstByte}
use Rattle.std.proofs.lemmas.Bool.{cases_Bool, le-ltb, lt-ltb, ltb-false}

pub position_within : (p : ℕ → Bool) (xs : List ℕ) → position_or_len p xs ≤ length xs
position_within p [] = omega arith
position_within p (x ∷ xs) = elim (cases_Bool (p x)) [
  | inl found ↦ rw found (omega arith)
  | inr other ↦ let h = position_within p xs in rw other (omega (arith, h))
]

fails : (b : Bool) → ¬ (b ≡ true) → b ≡ false
fails true h = absurd (h refl)
fails false h = refl

-- a search tells the position
pub sought_position : (p : ℕ → Bool) (xs : List ℕ) (found : Option ℕ) → IsFirstByte p xs found → found ≡ position p xs
sought_position p xs None h =
    let all : position_or_len p xs ≡ length xs = position_or_len_is p xs (length xs) 0 (omega arith) (λ k l. fails (p (get_or xs k 0)) (h k (omega arith) l)) (λ l. absurd (omega (arith, l))) in
    rw (all, le-ltb (length xs) (length xs) (omega arith)) refl
sought_position p xs (Some at) h =
    let here : position_or_len p xs ≡ at = position_or_len_is p xs at 0 (omega (arith, h.0.high)) (λ k l. fails (p (get_or xs k 0)) (h.0.before k (omega arith) l)) (λ l. h.1) in
    rw (here, lt-ltb at (length xs) h.0.high) refl

-- where one was found
pub position_some : (p : ℕ → Bool) (xs : List ℕ) (at : ℕ) → Some at ≡ position p xs → at ≡ position_or_len p xs
position_some p xs at h = elim (cases_Bool (nat_lt (position_or_len p xs) (length xs))) [
  | inl found ↦ let k = rw found at h in cc k
  | inr other ↦ let k = rw other at h in absurd (cc k)
]

-- where none was found
pub position_none : (p : ℕ → Bool) (xs : List ℕ) → None ≡ position p xs → length xs ≡ position_or_len p xs
position_none p xs h = elim (cases_Bool (nat_lt (position_or_len p xs) (length xs))) [
  | inl found ↦ let k = rw found at h in absurd (cc k)
  | inr other ↦ omega (arith, position_within p xs, ltb-false (position_or_len p xs) (length xs) other)
]

-- none stands among the first n
pub position_from : (p : ℕ → Bool) (n : ℕ) (xs : List ℕ) → n ≤ length xs → list_any p (take n xs) ≡ false → n + position_or_len p (drop n xs) ≡ position_or_len p xs
position_from p zero xs h k = omega arith
position_from p (suc n) [] h k = absurd (omega (arith, h))
position_from p (suc n) (x ∷ xs) h k = elim (cases_Bool (p x)) [
  | inl found ↦ absurd (cc (rw found at k))
  | inr other ↦ let e = position_from p n xs (omega (arith, h)) (rw other at k) in rw other (omega (arith, e))
]

-- none stands before the first
pub none_before : (p : ℕ → Bool) (n : ℕ) (xs : List ℕ) → n ≤ position_or_len p xs → list_any p (take n xs) ≡ false
none_before p zero xs h = refl
none_before p (suc n) [] h = refl
none_before p (suc n) (x ∷ xs) h = elim (cases_Bool (p x)) [
  | inl found ↦ let k = rw found at h in absurd (omega (arith, k))
  | inr other ↦ let k = rw other at h in rw other (none_before p n xs (omega (arith, k)))
]

-- none stands where the first is behind the end
pub none_at_all : (p : ℕ → Bool) (xs : List ℕ) → length xs ≡ position_or_len p xs → list_any p xs ≡ false
none_at_all p xs h = let e = none_before p (length xs) xs (omega (arith, h)) in rw (take_all (length xs) xs (omega arith)) at e

-- none stands among bytes that others follow now
pub none_in_front : (p : ℕ → Bool) (xs ys : List ℕ) (n : ℕ) → n ≡ length xs → n ≡ position_or_len p xs → list_any p (take n (xs ++ ys)) ≡ false
none_in_front p xs ys n e first = rw (take_at xs ys n (sym e)) (none_at_all p xs (sym e ∙ first))

-- a fact that holds at each answer
pub on_err : {T E : Type 0} (r : Result T E) (P : Type 0) → P → OnErr r P
on_err (Ok x) P h = tt
on_err (Err e) P h = h
