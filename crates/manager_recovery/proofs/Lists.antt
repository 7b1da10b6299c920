-- Fronts of lists and facts of all their elements.
use Rattle.std.proofs.Common.{◌≡◌, ◌+◌, ◌<◌, ◌≤◌, ℕ, zero, suc, List, [], ◌∷◌, ◌++◌, length, take, drop, map, Option, None, Some, refl, sym, ap, subst, ◌∙◌, arith}
use Rattle.std.specs.Prelude.{slice_get, slice_set}
use Rattle.std.specs.List.{AllByRecursion, AllZip}
use Rattle.std.proofs.lemmas.Option.{same_Some, none-some}

module _ {X : Type 0} where
  pub take_snoc : (xs : List X) (k : ℕ) (x : X) → slice_get xs k ≡ Some x → take (k + 1) xs ≡ take k xs ++ x ∷ []
  take_snoc [] k x is = absurd (none-some x is)
  take_snoc (y ∷ ys) zero x is = λ i. same_Some y x is i ∷ []
  take_snoc (y ∷ ys) (suc k) x is =
      let e : suc k + 1 ≡ suc (k + 1) = omega arith in
      (λ i. take (e i) (y ∷ ys)) ∙ ap (λ (l : List X). y ∷ l) (take_snoc ys k x is)

  pub drop_here : (xs : List X) (k : ℕ) (x : X) → slice_get xs k ≡ Some x → drop k xs ≡ x ∷ drop (k + 1) xs
  drop_here [] k x is = absurd (none-some x is)
  drop_here (y ∷ ys) zero x is = λ i. same_Some y x is i ∷ ys
  drop_here (y ∷ ys) (suc k) x is =
      let e : suc (k + 1) ≡ suc k + 1 = omega arith in
      drop_here ys k x is ∙ (λ i. x ∷ drop (e i) (y ∷ ys))

  pub all_take : (P : X → Type 0) (k : ℕ) (xs : List X) → AllByRecursion P xs → AllByRecursion P (take k xs)
  all_take P zero xs all = tt
  all_take P (suc k) [] all = tt
  all_take P (suc k) (x ∷ xs) all = (all.0, all_take P k xs all.1)

  pub all_push : (P : X → Type 0) (xs : List X) (x : X) → AllByRecursion P xs → P x → AllByRecursion P (xs ++ x ∷ [])
  all_push P [] x all here = (here, tt)
  all_push P (y ∷ ys) x all here = (all.0, all_push P ys x all.1 here)

  pub all_get : (P : X → Type 0) (xs : List X) (k : ℕ) (x : X) → slice_get xs k ≡ Some x → AllByRecursion P xs → P x
  all_get P [] k x is all = absurd (none-some x is)
  all_get P (y ∷ ys) zero x is all = subst P (same_Some y x is) all.0
  all_get P (y ∷ ys) (suc k) x is all = all_get P ys k x is all.1

  pub all_map : (P Q : X → Type 0) → ((x : X) → P x → Q x) → (xs : List X) → AllByRecursion P xs → AllByRecursion Q xs
  all_map P Q f [] all = tt
  all_map P Q f (x ∷ xs) all = (f x all.0, all_map P Q f xs all.1)

  pub all_set : (P : X → Type 0) (xs : List X) (k : ℕ) (x : X) → AllByRecursion P xs → P x → AllByRecursion P (slice_set xs k x)
  all_set P [] k x all here = tt
  all_set P (y ∷ ys) zero x all here = (here, all.1)
  all_set P (y ∷ ys) (suc k) x all here = (all.0, all_set P ys k x all.1 here)

module _ {X Y : Type 0} where
  pub zip_get : (R : X → Y → Type 0) (xs : List X) (ys : List Y) (k : ℕ) (x : X) (y : Y) → slice_get xs k ≡ Some x → slice_get ys k ≡ Some y → AllZip R xs ys → R x y
  zip_get R [] [] k x y is has zip = absurd (none-some x is)
  zip_get R [] (b ∷ ys) k x y is has zip = absurd zip
  zip_get R (a ∷ xs) [] k x y is has zip = absurd zip
  zip_get R (a ∷ xs) (b ∷ ys) zero x y is has zip = subst (λ (c : X). R c y) (same_Some a x is) (subst (R a) (same_Some b y has) zip.0)
  zip_get R (a ∷ xs) (b ∷ ys) (suc k) x y is has zip = zip_get R xs ys k x y is has zip.1

  pub zip_length : (R : X → Y → Type 0) (xs : List X) (ys : List Y) → AllZip R xs ys → length ys ≡ length xs
  zip_length R [] [] zip = refl
  zip_length R [] (b ∷ ys) zip = absurd zip
  zip_length R (a ∷ xs) [] zip = absurd zip
  zip_length R (a ∷ xs) (b ∷ ys) zip = ap suc (zip_length R xs ys zip.1)

  pub zip_map : (R S : X → Y → Type 0) → ((x : X) (y : Y) → R x y → S x y) → (xs : List X) (ys : List Y) → AllZip R xs ys → AllZip S xs ys
  zip_map R S f [] [] zip = tt
  zip_map R S f [] (b ∷ ys) zip = absurd zip
  zip_map R S f (a ∷ xs) [] zip = absurd zip
  zip_map R S f (a ∷ xs) (b ∷ ys) zip = (f a b zip.0, zip_map R S f xs ys zip.1)

  -- what holds of each first one, and by that of the pair
  pub zip_with : (R S : X → Y → Type 0) (P : X → Type 0) → ((x : X) (y : Y) → P x → R x y → S x y) → (xs : List X) (ys : List Y) → AllByRecursion P xs → AllZip R xs ys → AllZip S xs ys
  zip_with R S P f [] [] all zip = tt
  zip_with R S P f [] (b ∷ ys) all zip = absurd zip
  zip_with R S P f (a ∷ xs) [] all zip = absurd zip
  zip_with R S P f (a ∷ xs) (b ∷ ys) all zip = (f a b all.0 zip.0, zip_with R S P f xs ys all.1 zip.1)

  pub zip_seconds : (R : X → Y → Type 0) (Q : Y → Type 0) → ((x : X) (y : Y) → R x y → Q y) → (xs : List X) (ys : List Y) → AllZip R xs ys → AllByRecursion Q ys
  zip_seconds R Q f [] [] zip = tt
  zip_seconds R Q f [] (b ∷ ys) zip = absurd zip
  zip_seconds R Q f (a ∷ xs) [] zip = absurd zip
  zip_seconds R Q f (a ∷ xs) (b ∷ ys) zip = (f a b zip.0, zip_seconds R Q f xs ys zip.1)

  pub zip_set : (R : X → Y → Type 0) (xs : List X) (ys : List Y) (k : ℕ) (x : X) (y : Y) → slice_get xs k ≡ Some x → R x y → AllZip R xs ys → AllZip R xs (slice_set ys k y)
  zip_set R [] [] k x y is here zip = tt
  zip_set R [] (b ∷ ys) k x y is here zip = absurd zip
  zip_set R (a ∷ xs) [] k x y is here zip = absurd zip
  zip_set R (a ∷ xs) (b ∷ ys) zero x y is here zip = (subst (λ (c : X). R c y) (sym (same_Some a x is)) here, zip.1)
  zip_set R (a ∷ xs) (b ∷ ys) (suc k) x y is here zip = (zip.0, zip_set R xs ys k x y is here zip.1)

  pub zip_push : (R : X → Y → Type 0) (xs : List X) (ys : List Y) (x : X) (y : Y) → AllZip R xs ys → R x y → AllZip R (xs ++ x ∷ []) (ys ++ y ∷ [])
  zip_push R [] [] x y zip here = (here, tt)
  zip_push R [] (b ∷ ys) x y zip here = absurd zip
  zip_push R (a ∷ xs) [] x y zip here = absurd zip
  zip_push R (a ∷ xs) (b ∷ ys) x y zip here = (zip.0, zip_push R xs ys x y zip.1 here)

pub zip_self : {X : Type 0} (R : X → X → Type 0) → ((x : X) → R x x) → (xs : List X) → AllZip R xs xs
zip_self R r [] = tt
zip_self R r (x ∷ xs) = (r x, zip_self R r xs)

module _ {X : Type 0} where
  pub all_from_places : (P : X → Type 0) (xs : List X) → ((k : ℕ) (x : X) → slice_get xs k ≡ Some x → P x) → AllByRecursion P xs
  all_from_places P [] f = tt
  all_from_places P (x ∷ xs) f = (f zero x refl, all_from_places P xs (λ k y is. f (suc k) y is))

  -- an element of a front is one of the list, at the same place
  pub get_take : (xs : List X) (k j : ℕ) (x : X) → slice_get (take k xs) j ≡ Some x → (j < k) × (slice_get xs j ≡ Some x)
  get_take xs zero j x is = absurd (none-some x is)
  get_take [] (suc k) j x is = absurd (none-some x is)
  get_take (y ∷ ys) (suc k) zero x is = (omega arith, is)
  get_take (y ∷ ys) (suc k) (suc j) x is = let w = get_take ys k j x is in (omega (arith, w.0), w.1)

  pub take_get : (xs : List X) (k j : ℕ) (x : X) → j < k → slice_get xs j ≡ Some x → slice_get (take k xs) j ≡ Some x
  take_get xs zero j x lt is = absurd (omega arith)
  take_get [] (suc k) j x lt is = absurd (none-some x is)
  take_get (y ∷ ys) (suc k) zero x lt is = is
  take_get (y ∷ ys) (suc k) (suc j) x lt is = take_get ys k j x (omega arith) is

  pub there_is : (xs : List X) (k : ℕ) → k < length xs → (x : X) × (slice_get xs k ≡ Some x)
  there_is [] k lt = absurd (omega arith)
  there_is (y ∷ ys) zero lt = (y, refl)
  there_is (y ∷ ys) (suc k) lt = there_is ys k (omega arith)

  pub within : (xs : List X) (k : ℕ) (x : X) → slice_get xs k ≡ Some x → k < length xs
  within [] k x is = absurd (none-some x is)
  within (y ∷ ys) zero x is = omega arith
  within (y ∷ ys) (suc k) x is = let w = within ys k x is in omega (arith, w)

module _ {X : Type 0} where
  pub take_all : (xs : List X) (n : ℕ) → length xs ≤ n → take n xs ≡ xs
  take_all [] zero le = refl
  take_all [] (suc n) le = refl
  take_all (x ∷ xs) zero le = absurd (omega arith)
  take_all (x ∷ xs) (suc n) le = λ i. x ∷ take_all xs n (omega arith) i

  first_of : List X → Option X
  first_of [] = None
  first_of (x ∷ xs) = Some x

  rest_of : List X → List X
  rest_of [] = []
  rest_of (x ∷ xs) = xs

  get_drop : (xs : List X) (k : ℕ) → slice_get xs k ≡ first_of (drop k xs)
  unfolding first_of
  get_drop [] zero = refl
  get_drop [] (suc k) = refl
  get_drop (x ∷ xs) zero = refl
  get_drop (x ∷ xs) (suc k) = get_drop xs k

  rest_drop : (xs : List X) (k : ℕ) → drop (k + 1) xs ≡ rest_of (drop k xs)
  unfolding rest_of
  rest_drop [] zero = refl
  rest_drop [] (suc k) =
      let e : suc k + 1 ≡ suc (k + 1) = omega arith in
      (λ i. drop {A = X} (e i) [])
  rest_drop (x ∷ xs) zero = refl
  rest_drop (x ∷ xs) (suc k) =
      let e : suc k + 1 ≡ suc (k + 1) = omega arith in
      (λ i. drop (e i) (x ∷ xs)) ∙ rest_drop xs k

  -- what stands at k stands there in each list that is the same from k on
  pub drop_get : (xs ys : List X) (k : ℕ) (x : X) → slice_get xs k ≡ Some x → drop k xs ≡ drop k ys → slice_get ys k ≡ Some x
  drop_get xs ys k x is same = get_drop ys k ∙ ap first_of (sym same) ∙ sym (get_drop xs k) ∙ is

  pub drop_set : (xs : List X) (k : ℕ) (x : X) → drop (k + 1) (slice_set xs k x) ≡ drop (k + 1) xs
  drop_set [] zero x = refl
  drop_set [] (suc k) x = refl
  drop_set (y ∷ ys) zero x = refl
  drop_set (y ∷ ys) (suc k) x =
      let e : suc k + 1 ≡ suc (k + 1) = omega arith in
      (λ i. drop (e i) (y ∷ slice_set ys k x)) ∙ drop_set ys k x ∙ (λ i. drop (sym e i) (y ∷ ys))

  pub drop_more : (xs ys : List X) (k : ℕ) → drop k xs ≡ drop k ys → drop (k + 1) xs ≡ drop (k + 1) ys
  drop_more xs ys k same = rest_drop xs k ∙ ap rest_of same ∙ sym (rest_drop ys k)

  pub take_set : (xs : List X) (k : ℕ) (x y : X) → slice_get xs k ≡ Some y → take (k + 1) (slice_set xs k x) ≡ take k xs ++ x ∷ []
  take_set [] k x y is = absurd (none-some y is)
  take_set (z ∷ zs) zero x y is = refl
  take_set (z ∷ zs) (suc k) x y is =
      let e : suc k + 1 ≡ suc (k + 1) = omega arith in
      (λ i. take (e i) (z ∷ slice_set zs k x)) ∙ ap (λ (l : List X). z ∷ l) (take_set zs k x y is)

  pub set_get : (xs : List X) (k : ℕ) (x y : X) → slice_get xs k ≡ Some y → slice_get (slice_set xs k x) k ≡ Some x
  set_get [] k x y is = absurd (none-some y is)
  set_get (z ∷ zs) zero x y is = refl
  set_get (z ∷ zs) (suc k) x y is = set_get zs k x y is

  pub map_set : {Y : Type 0} (f : X → Y) (xs : List X) (k : ℕ) (x y : X) → slice_get xs k ≡ Some y → f x ≡ f y → map f (slice_set xs k x) ≡ map f xs
  map_set f [] k x y is same = refl
  map_set f (z ∷ zs) zero x y is same = λ i. (same ∙ ap f (sym (same_Some z y is))) i ∷ map f zs
  map_set f (z ∷ zs) (suc k) x y is same = λ i. f z ∷ map_set f zs k x y is same i

module _ {X Y : Type 0} where
  -- the second one of a pair changes
  pub zip_change : (R : X → Y → Type 0) (xs : List X) (ys : List Y) (k : ℕ) (y z : Y) → slice_get ys k ≡ Some y → ((x : X) → R x y → R x z) → AllZip R xs ys → AllZip R xs (slice_set ys k z)
  zip_change R [] [] k y z is f zip = tt
  zip_change R [] (b ∷ ys) k y z is f zip = absurd zip
  zip_change R (a ∷ xs) [] k y z is f zip = absurd zip
  zip_change R (a ∷ xs) (b ∷ ys) zero y z is f zip = (f a (subst (R a) (same_Some b y is) zip.0), zip.1)
  zip_change R (a ∷ xs) (b ∷ ys) (suc k) y z is f zip = (zip.0, zip_change R xs ys k y z is f zip.1)
