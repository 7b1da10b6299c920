-- Lists: members behind a filter, and flags.
use Rattle.std.proofs.Common.{◌≡◌, ⊎_elim, ◌<◌, ◌≤◌, ◌+◌, ℕ, zero, suc, Bool, true, false, ◌||◌, List, [], ◌∷◌, ◌++◌, map, length, take, refl, ap, subst, ◌∙◌, arith}
use Rattle.std.specs.Prelude.{Contains, filter}
use Rattle.std.specs.List.{list_any, range_with_len, AllByRecursion}
use Rattle.std.proofs.lemmas.Bool.{cases_lt}
use Rattle.wol_promise.proofs.Lists.{all_map, member_behind}
use Rattle.wol_promise.proofs.Wholes.{all_filtered}

-- what holds of each holds of each that passes
pub all_filter : {X : Type 0} (P : X → Type 0) (p : X → Bool) (xs : List X) → AllByRecursion P xs → AllByRecursion P (filter p xs)
all_filter P p xs all = all_map (λ x. (p x ≡ true) × P x) P (λ x both. both.1) (filter p xs) (all_filtered P p xs all)

-- each is a member
pub each_is_member : {X : Type 0} (P : X → Type 0) (xs : List X) → ((x : X) → Contains xs x → P x) → AllByRecursion P xs
each_is_member P [] f = tt
each_is_member P (x ∷ xs) f = (f x (0, omega arith, refl), each_is_member P xs (λ y has. f y (member_behind x xs y has)))

-- what two hold of each, both hold
pub all_both : {X : Type 0} (P Q R : X → Type 0) → ((x : X) → P x → Q x → R x) → (xs : List X) → AllByRecursion P xs → AllByRecursion Q xs → AllByRecursion R xs
all_both P Q R f [] ps qs = tt
all_both P Q R f (x ∷ xs) ps qs = (f x ps.0 qs.0, all_both P Q R f xs ps.1 qs.1)

pub all_unmapped : {X Y : Type 0} (P : Y → Type 0) (f : X → Y) (xs : List X) → AllByRecursion P (map f xs) → AllByRecursion (λ x. P (f x)) xs
all_unmapped P f [] all = tt
all_unmapped P f (x ∷ xs) all = (all.0, all_unmapped P f xs all.1)

or_false : (a b : Bool) → (a || b) ≡ false → (a ≡ false) × (b ≡ false)
or_false true b is = absurd (let no : true ≡ false = is in cc)
or_false false b is = (refl, is)

-- no element of a range passes
pub none_in : (p : ℕ → Bool) (a n b : ℕ) → list_any p (range_with_len a n) ≡ false → a ≤ b → b < a + n → p b ≡ false
none_in p a zero b none low high = absurd (omega (arith, low, high))
none_in p a (suc n) b none low high =
    let parts = or_false (p a) (list_any p (range_with_len (a + 1) n)) none in
    ⊎_elim (λ (less : a < b). none_in p (a + 1) n b parts.1 (omega (arith, less)) (omega (arith, high))) (λ (more : b ≤ a). let same : a ≡ b = omega (arith, low, more) in subst (λ (k : ℕ). p k ≡ false) same parts.0) (cases_lt a b)

-- one of a range passes
pub record SomeIn (p : ℕ → Bool) (a n : ℕ) : Type 0 where
  pub item : ℕ
  pub low : a ≤ item
  pub high : item < a + n
  pub passes : p item ≡ true

pub some_in : (p : ℕ → Bool) (a n : ℕ) → list_any p (range_with_len a n) ≡ true → SomeIn p a n
some_in p a zero some = absurd (let no : false ≡ true = some in cc)
some_in p a (suc n) some = at (p a) refl some (some_in p (a + 1) n)
  where
    at : (t : Bool) → p a ≡ t → (t || list_any p (range_with_len (a + 1) n)) ≡ true → (list_any p (range_with_len (a + 1) n) ≡ true → SomeIn p (a + 1) n) → SomeIn p a (suc n)
    at true is any rest = record { item = a; low = omega arith; high = omega arith; passes = is }
    at false is any rest = let s = rest any in record { item = s.item; low = (let l = s.low in omega (arith, l)); high = (let h = s.high in omega (arith, h)); passes = s.passes }

pub take_joined : {X : Type 0} (xs ys : List X) (k : ℕ) → take (length xs + k) (xs ++ ys) ≡ xs ++ take k ys
take_joined [] ys k = let e : 0 + k ≡ k = omega arith in ap (λ (n : ℕ). take n ys) e
take_joined (x ∷ xs) ys k = let e : length (x ∷ xs) + k ≡ suc (length xs + k) = omega arith in ap (λ (n : ℕ). take n (x ∷ (xs ++ ys))) e ∙ ap (λ (l : List _). x ∷ l) (take_joined xs ys k)
