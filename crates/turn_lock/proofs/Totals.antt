-- Sums over lists that are read by `get_elem?`.
use Rattle.std.proofs.Common.{◌≡◌, ℕ, zero, suc, ◌+◌, ◌≤◌, ◌<◌, length, get_or, ◌≢◌, ◌⊎◌, inl, inr, ⊎_elim, List, [], ◌∷◌, ◌++◌, set, refl, sym, ap, arith}
use mathlib.Core.Option.{some, some-injective, some-ne-none}
use lib.ListN.{get_elem?}
use Rattle.turn_lock.specs.Views.{total}

module _ {A : Type 0} (f : A → ℕ) where
  -- one element changes
  pub total_set : (l : List A) (i : ℕ) (a b : A) → get_elem? l i ≡ some a → total f (set l i b) + f a ≡ total f l + f b
  total_set [] i a b e = absurd (some-ne-none a (sym e))
  total_set (x ∷ xs) zero a b e = let h : f x ≡ f a = ap f (some-injective x a e) in omega arith
  total_set (x ∷ xs) (suc i) a b e = let h = total_set xs i a b e in omega arith

  -- one element has no more than all
  pub total_one : (l : List A) (i : ℕ) (a : A) → get_elem? l i ≡ some a → f a ≤ total f l
  total_one [] i a e = absurd (some-ne-none a (sym e))
  total_one (x ∷ xs) zero a e = let h : f x ≡ f a = ap f (some-injective x a e) in omega arith
  total_one (x ∷ xs) (suc i) a e = let h = total_one xs i a e in omega arith

  -- nor have two
  pub total_two : (l : List A) (i j : ℕ) (a b : A) → i ≢ j → get_elem? l i ≡ some a → get_elem? l j ≡ some b → f a + f b ≤ total f l
  total_two [] i j a b n e d = absurd (some-ne-none a (sym e))
  total_two (x ∷ xs) zero zero a b n e d = absurd (n refl)
  total_two (x ∷ xs) zero (suc j) a b n e d = let h : f x ≡ f a = ap f (some-injective x a e) in let k = total_one xs j b d in omega arith
  total_two (x ∷ xs) (suc i) zero a b n e d = let h : f x ≡ f b = ap f (some-injective x b d) in let k = total_one xs i a e in omega arith
  total_two (x ∷ xs) (suc i) (suc j) a b n e d = let h = total_two xs i j a b (λ p. n (ap suc p)) e d in omega arith

  pub total-append : (l m : List A) → total f (l ++ m) ≡ total f l + total f m
  total-append [] m = omega arith
  total-append (x ∷ xs) m = let h = total-append xs m in omega arith

-- where each f is at most g, so is the sum
pub total_le : {A : Type 0} (f g : A → ℕ) (l : List A) → ((i : ℕ) (a : A) → get_elem? l i ≡ some a → f a ≤ g a) → total f l ≤ total g l
total_le f g [] h = omega arith
total_le f g (x ∷ xs) h = let p = h zero x refl in let q = total_le f g xs (λ i. h (suc i)) in omega arith

-- what was set at a place of the list is found there
pub at_set_here : {A : Type 0} (l : List A) (i : ℕ) (a b : A) → get_elem? l i ≡ some a → get_elem? (set l i b) i ≡ some b
at_set_here [] i a b e = absurd (some-ne-none a (sym e))
at_set_here (x ∷ xs) zero a b e = refl
at_set_here (x ∷ xs) (suc i) a b e = at_set_here xs i a b e

-- each place counts for nothing, or Q holds
pub total_or : {A : Type 0} (f : A → ℕ) (l : List A) (Q : Type 0) → ((i : ℕ) (a : A) → get_elem? l i ≡ some a → (f a ≡ 0) ⊎ Q) → (total f l ≡ 0) ⊎ Q
total_or f [] Q h = inl refl
total_or f (x ∷ xs) Q h = ⊎_elim (λ (p : f x ≡ 0). ⊎_elim (λ (q : total f xs ≡ 0). inl (omega arith)) (λ q. inr q) (total_or f xs Q (λ i. h (suc i)))) (λ q. inr q) (h zero x refl)

-- one more element
pub each_more : {A : Type 0} (P : ℕ → A → Type 0) (xs : List A) (x : A) → ((k : ℕ) (d : A) → k < length xs → P k (get_or xs k d)) → P (length xs) x → (k : ℕ) (d : A) → k < length (xs ++ x ∷ []) → P k (get_or (xs ++ x ∷ []) k d)
each_more P [] x h p zero d l = p
each_more P [] x h p (suc k) d l = absurd (omega arith)
each_more P (y ∷ ys) x h p zero d l = h zero d (omega arith)
each_more P (y ∷ ys) x h p (suc k) d l = each_more (λ i. P (suc i)) ys x (λ i c lt. h (suc i) c (omega arith)) p k d (omega arith)
