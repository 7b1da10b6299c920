-- Lists of which one element stands behind a front.
use Rattle.std.proofs.Common.{◌≡◌, ◌<◌, ℕ, zero, suc, List, [], ◌∷◌, ◌++◌, length, take, drop, remove, Some, refl, ap, subst, arith}
use Rattle.std.specs.Prelude.{slice_get, slice_set}
use Rattle.std.specs.List.{AllByRecursion, AllZip}
use Rattle.std.proofs.lemmas.Option.{same_Some, none-some}

module _ {X : Type 0} where
  -- the front up to the element at k, and the rest from it on
  pub front_at : (xs : List X) (k : ℕ) (x : X) → slice_get xs k ≡ Some x → take (suc k) xs ≡ take k xs ++ x ∷ []
  front_at [] k x is = absurd (none-some x is)
  front_at (y ∷ ys) zero x is = λ i. same_Some y x is i ∷ []
  front_at (y ∷ ys) (suc k) x is = ap (λ (l : List X). y ∷ l) (front_at ys k x is)

  pub back_at : (xs : List X) (k : ℕ) (x : X) → slice_get xs k ≡ Some x → drop k xs ≡ x ∷ drop (suc k) xs
  back_at [] k x is = absurd (none-some x is)
  back_at (y ∷ ys) zero x is = λ i. same_Some y x is i ∷ ys
  back_at (y ∷ ys) (suc k) x is = back_at ys k x is

  pub around : (xs : List X) (k : ℕ) (x : X) → slice_get xs k ≡ Some x → xs ≡ take k xs ++ x ∷ drop (suc k) xs
  around [] k x is = absurd (none-some x is)
  around (y ∷ ys) zero x is = λ i. same_Some y x is i ∷ ys
  around (y ∷ ys) (suc k) x is = ap (λ (l : List X). y ∷ l) (around ys k x is)

  pub none_behind : (xs : List X) → drop (length xs) xs ≡ []
  none_behind [] = refl
  none_behind (x ∷ xs) = none_behind xs

  pub get_middle : (xs ys : List X) (k : ℕ) (x : X) → length xs ≡ k → slice_get (xs ++ x ∷ ys) k ≡ Some x
  get_middle [] ys zero x n = refl
  get_middle [] ys (suc k) x n = absurd (omega (arith, n))
  get_middle (y ∷ xs) ys zero x n = absurd (omega (arith, n))
  get_middle (y ∷ xs) ys (suc k) x n = get_middle xs ys k x (omega (arith, n))

  pub set_middle : (xs ys : List X) (k : ℕ) (x y : X) → length xs ≡ k → slice_set (xs ++ x ∷ ys) k y ≡ xs ++ y ∷ ys
  set_middle [] ys zero x y n = refl
  set_middle [] ys (suc k) x y n = absurd (omega (arith, n))
  set_middle (z ∷ xs) ys zero x y n = absurd (omega (arith, n))
  set_middle (z ∷ xs) ys (suc k) x y n = ap (λ (l : List X). z ∷ l) (set_middle xs ys k x y (omega (arith, n)))

  pub remove_middle : (xs ys : List X) (k : ℕ) (x : X) → length xs ≡ k → remove (xs ++ x ∷ ys) k ≡ xs ++ ys
  remove_middle [] ys zero x n = refl
  remove_middle [] ys (suc k) x n = absurd (omega (arith, n))
  remove_middle (z ∷ xs) ys zero x n = absurd (omega (arith, n))
  remove_middle (z ∷ xs) ys (suc k) x n = ap (λ (l : List X). z ∷ l) (remove_middle xs ys k x (omega (arith, n)))

  pub all_take : (P : X → Type 0) (k : ℕ) (xs : List X) → AllByRecursion P xs → AllByRecursion P (take k xs)
  all_take P zero xs all = tt
  all_take P (suc k) [] all = tt
  all_take P (suc k) (x ∷ xs) all = (all.0, all_take P k xs all.1)

module _ {X Y : Type 0} (R : X → Y → Type 0) where
  pub zip_join : (xs vs : List X) (ys ws : List Y) → AllZip R xs ys → AllZip R vs ws → AllZip R (xs ++ vs) (ys ++ ws)
  zip_join [] vs [] ws a b = b
  zip_join [] vs (y ∷ ys) ws a b = absurd a
  zip_join (x ∷ xs) vs [] ws a b = absurd a
  zip_join (x ∷ xs) vs (y ∷ ys) ws a b = (a.0, zip_join xs vs ys ws a.1 b)

  pub zip_long : (xs : List X) (ys : List Y) → AllZip R xs ys → length ys ≡ length xs
  zip_long [] [] a = refl
  zip_long [] (y ∷ ys) a = absurd a
  zip_long (x ∷ xs) [] a = absurd a
  zip_long (x ∷ xs) (y ∷ ys) a = ap suc (zip_long xs ys a.1)

  -- the pair at a place
  pub zip_at : (xs : List X) (ys : List Y) (k : ℕ) → AllZip R xs ys → k < length xs → (x : X) × (y : Y) × (slice_get xs k ≡ Some x) × (slice_get ys k ≡ Some y) × R x y
  zip_at [] [] k a lt = absurd (omega arith)
  zip_at [] (y ∷ ys) k a lt = absurd a
  zip_at (x ∷ xs) [] k a lt = absurd a
  zip_at (x ∷ xs) (y ∷ ys) zero a lt = (x, y, refl, refl, a.0)
  zip_at (x ∷ xs) (y ∷ ys) (suc k) a lt = zip_at xs ys k a.1 (omega arith)

  -- the second one at a place is another
  pub zip_other : (xs : List X) (ys : List Y) (k : ℕ) (y z : Y) → slice_get ys k ≡ Some y → ((x : X) → R x y → R x z) → AllZip R xs ys → AllZip R xs (slice_set ys k z)
  zip_other [] [] k y z is so a = a
  zip_other [] (w ∷ ys) k y z is so a = absurd a
  zip_other (x ∷ xs) [] k y z is so a = absurd a
  zip_other (x ∷ xs) (w ∷ ys) zero y z is so a = (so x (subst (R x) (same_Some w y is) a.0), a.1)
  zip_other (x ∷ xs) (w ∷ ys) (suc k) y z is so a = (a.0, zip_other xs ys k y z is so a.1)
