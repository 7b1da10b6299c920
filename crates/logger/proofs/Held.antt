-- Lists of held segments, one of which changes, goes or comes, and their indexes.
use Rattle.std.proofs.Common.{◌≡◌, ◌<◌, ℕ, zero, suc, List, [], ◌∷◌, ◌++◌, map, length, get_or, set, insert, remove, slice_get, Some, refl, sym, ap, subst, ◌∙◌, arith}
use Rattle.std.specs.List.{AllByRecursion}
use Rattle.std.proofs.lemmas.Option.{none-some, same_Some}

module _ {X : Type 0} where
  pub all_get : (P : X → Type 0) (xs : List X) (k : ℕ) (x : X) → AllByRecursion P xs → slice_get xs k ≡ Some x → P x
  all_get P [] k x all is = absurd (none-some x is)
  all_get P (y ∷ ys) zero x all is = subst P (same_Some y x is) all.0
  all_get P (y ∷ ys) (suc k) x all is = all_get P ys k x all.1 is

  pub all_set : (P : X → Type 0) (xs : List X) (k : ℕ) (x : X) → AllByRecursion P xs → P x → AllByRecursion P (set xs k x)
  all_set P [] k x all here = tt
  all_set P (y ∷ ys) zero x all here = (here, all.1)
  all_set P (y ∷ ys) (suc k) x all here = (all.0, all_set P ys k x all.1 here)

  pub all_push : (P : X → Type 0) (xs : List X) (x : X) → AllByRecursion P xs → P x → AllByRecursion P (xs ++ x ∷ [])
  all_push P [] x all here = (here, tt)
  all_push P (y ∷ ys) x all here = (all.0, all_push P ys x all.1 here)

  pub all_map : (P Q : X → Type 0) → ((x : X) → P x → Q x) → (xs : List X) → AllByRecursion P xs → AllByRecursion Q xs
  all_map P Q f [] all = tt
  all_map P Q f (x ∷ xs) all = (f x all.0, all_map P Q f xs all.1)

  pub all_remove : (P : X → Type 0) (xs : List X) (k : ℕ) → AllByRecursion P xs → AllByRecursion P (remove xs k)
  all_remove P [] zero all = tt
  all_remove P [] (suc k) all = tt
  all_remove P (y ∷ ys) zero all = all.1
  all_remove P (y ∷ ys) (suc k) all = (all.0, all_remove P ys k all.1)

  -- the element that was read is the one at its place
  pub there_get : (xs : List X) (k : ℕ) (x : X) → k < length xs → x ≡ get_or xs k x → slice_get xs k ≡ Some x
  there_get [] k x lt is = absurd (omega arith)
  there_get (y ∷ ys) zero x lt is = ap Some (sym is)
  there_get (y ∷ ys) (suc k) x lt is = there_get ys k x (omega arith) is

  pub within : (xs : List X) (k : ℕ) (x : X) → slice_get xs k ≡ Some x → k < length xs
  within [] k x is = absurd (none-some x is)
  within (y ∷ ys) zero x is = omega arith
  within (y ∷ ys) (suc k) x is = let lt = within ys k x is in omega arith

  -- an element that was taken out and put back is one that was changed
  pub insert-remove : (xs : List X) (k : ℕ) (x y : X) → slice_get xs k ≡ Some x → insert (remove xs k) k y ≡ set xs k y
  insert-remove [] k x y is = absurd (none-some x is)
  insert-remove (z ∷ zs) zero x y is = refl
  insert-remove (z ∷ zs) (suc k) x y is = λ i. z ∷ insert-remove zs k x y is i

  pub map-set : {Y : Type 0} (f : X → Y) (xs : List X) (k : ℕ) (o n : X) → slice_get xs k ≡ Some o → f n ≡ f o → map f (set xs k n) ≡ map f xs
  map-set f [] k o n is same = refl
  map-set f (y ∷ ys) zero o n is same = λ i. (same ∙ ap f (sym (same_Some y o is))) i ∷ map f ys
  map-set f (y ∷ ys) (suc k) o n is same = λ i. f y ∷ map-set f ys k o n is same i

  pub map-push : {Y : Type 0} (f : X → Y) (xs : List X) (x : X) → map f (xs ++ x ∷ []) ≡ map f xs ++ f x ∷ []
  map-push f [] x = refl
  map-push f (y ∷ ys) x = λ i. f y ∷ map-push f ys x i

  pub length-map : {Y : Type 0} (f : X → Y) (xs : List X) → length (map f xs) ≡ length xs
  length-map f [] = refl
  length-map f (y ∷ ys) = ap suc (length-map f ys)

  pub get-set : (xs : List X) (k : ℕ) (x y : X) → slice_get xs k ≡ Some x → slice_get (set xs k y) k ≡ Some y
  get-set [] k x y is = absurd (none-some x is)
  get-set (z ∷ zs) zero x y is = refl
  get-set (z ∷ zs) (suc k) x y is = get-set zs k x y is

  pub remove-set : (xs : List X) (k : ℕ) (y : X) → remove (set xs k y) k ≡ remove xs k
  remove-set [] k y = refl
  remove-set (z ∷ zs) zero y = refl
  remove-set (z ∷ zs) (suc k) y = λ i. z ∷ remove-set zs k y i

  pub set-set : (xs : List X) (k : ℕ) (x y : X) → set (set xs k x) k y ≡ set xs k y
  set-set [] k x y = refl
  set-set (z ∷ zs) zero x y = refl
  set-set (z ∷ zs) (suc k) x y = λ i. z ∷ set-set zs k x y i

  pub all_both : (P Q : X → Type 0) (xs : List X) → AllByRecursion P xs → AllByRecursion Q xs → AllByRecursion (λ x. P x × Q x) xs
  all_both P Q [] ps qs = tt
  all_both P Q (x ∷ xs) ps qs = ((ps.0, qs.0), all_both P Q xs ps.1 qs.1)
