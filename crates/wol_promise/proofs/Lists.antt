-- Lists: one element more, one changed, and members.
use Rattle.std.proofs.Common.{◌≡◌, ◌≢◌, ◌⊎◌, inl, inr, ⊎_elim, ◌<◌, ◌≤◌, ◌+◌, ℕ, zero, suc, List, [], ◌∷◌, ◌++◌, map, length, take, Some, refl, ap, subst, ◌∙◌, arith}
use Rattle.std.specs.Prelude.{Contains, slice_get}
use Rattle.std.specs.List.{AllByRecursion, range_with_len}
use Rattle.std.proofs.lemmas.Option.{same_Some, none-some}
use Rattle.wol_model.specs.Blocks.{AreApart}
use Rattle.wol_model.specs.Index.{AreRising}

-- ---- each element

pub all_push : {X : Type 0} (P : X → Type 0) (xs : List X) (x : X) → AllByRecursion P xs → P x → AllByRecursion P (xs ++ x ∷ [])
all_push P [] x all p = (p, tt)
all_push P (y ∷ xs) x all p = (all.0, all_push P xs x all.1 p)

pub all_map : {X : Type 0} (P Q : X → Type 0) → ((x : X) → P x → Q x) → (xs : List X) → AllByRecursion P xs → AllByRecursion Q xs
all_map P Q f [] all = tt
all_map P Q f (x ∷ xs) all = (f x all.0, all_map P Q f xs all.1)

-- the list with one element changed
pub all_swap : {X : Type 0} (P Q : X → Type 0) → ((x : X) → P x → Q x) → (front : List X) (x y : X) (back : List X) → (P x → Q y) → AllByRecursion P (front ++ x ∷ back) → AllByRecursion Q (front ++ y ∷ back)
all_swap P Q f [] x y back at all = (at all.0, all_map P Q f back all.1)
all_swap P Q f (z ∷ front) x y back at all = (f z all.0, all_swap P Q f front x y back at all.1)

-- with one element more
pub all_insert : {X : Type 0} (P : X → Type 0) (front : List X) (x : X) (back : List X) → P x → AllByRecursion P (front ++ back) → AllByRecursion P (front ++ x ∷ back)
all_insert P [] x back here all = (here, all)
all_insert P (y ∷ front) x back here all = (all.0, all_insert P front x back here all.1)

pub all_parts : {X : Type 0} (P : X → Type 0) (front : List X) (x : X) (back : List X) → AllByRecursion P (front ++ x ∷ back) → AllByRecursion P front × AllByRecursion P back
all_parts P [] x back all = (tt, all.1)
all_parts P (y ∷ front) x back all = let rest = all_parts P front x back all.1 in ((all.0, rest.0), rest.1)

pub all_mid : {X : Type 0} (P : X → Type 0) (front : List X) (x : X) (back : List X) → AllByRecursion P (front ++ x ∷ back) → P x
all_mid P [] x back all = all.0
all_mid P (y ∷ front) x back all = all_mid P front x back all.1

pub all_mapped : {X Y : Type 0} (P : Y → Type 0) (f : X → Y) (xs : List X) → AllByRecursion (λ x. P (f x)) xs → AllByRecursion P (map f xs)
all_mapped P f [] all = tt
all_mapped P f (x ∷ xs) all = (all.0, all_mapped P f xs all.1)

pub all_joined : {X : Type 0} (P : X → Type 0) (xs ys : List X) → AllByRecursion P xs → AllByRecursion P ys → AllByRecursion P (xs ++ ys)
all_joined P [] ys a b = b
all_joined P (x ∷ xs) ys a b = (a.0, all_joined P xs ys a.1 b)

pub all_front : {X : Type 0} (P : X → Type 0) (xs ys : List X) → AllByRecursion P (xs ++ ys) → AllByRecursion P xs
all_front P [] ys all = tt
all_front P (x ∷ xs) ys all = (all.0, all_front P xs ys all.1)

pub all_back : {X : Type 0} (P : X → Type 0) (xs ys : List X) → AllByRecursion P (xs ++ ys) → AllByRecursion P ys
all_back P [] ys all = all
all_back P (x ∷ xs) ys all = all_back P xs ys all.1

-- ---- numbers

pub apart_push : (vs : List ℕ) (n : ℕ) → AreApart vs → AllByRecursion (λ v. v < n) vs → AreApart (vs ++ n ∷ [])
apart_push [] n apart below = (tt, tt)
apart_push (v ∷ vs) n apart below = (all_push (λ w. v ≢ w) vs n apart.0 (let lt : v < n = below.0 in omega arith), apart_push vs n apart.1 below.1)

pub rising_push : (vs : List ℕ) (n : ℕ) → AreRising vs → AllByRecursion (λ v. v < n) vs → AreRising (vs ++ n ∷ [])
rising_push [] n rising below = (tt, tt)
rising_push (v ∷ vs) n rising below = (all_push (λ w. v < w) vs n rising.0 below.0, rising_push vs n rising.1 below.1)

pub range_push : (a n : ℕ) → range_with_len a (suc n) ≡ range_with_len a n ++ (a + n) ∷ []
range_push a zero = let e : a ≡ a + 0 = omega arith in λ i. e i ∷ []
range_push a (suc n) = let e : a + 1 + n ≡ a + suc n = omega arith in (λ i. a ∷ range_push (a + 1) n i) ∙ (λ i. a ∷ (range_with_len (a + 1) n ++ e i ∷ []))

pub length_push : {X : Type 0} (xs : List X) (x : X) → length (xs ++ x ∷ []) ≡ suc (length xs)
length_push [] x = refl
length_push (y ∷ xs) x = ap suc (length_push xs x)

-- ---- members

pub all_member : {X : Type 0} (P : X → Type 0) (xs : List X) (x : X) → AllByRecursion P xs → Contains xs x → P x
all_member P [] x all has = absurd (let lt = has.1 in omega arith)
all_member P (y ∷ ys) x all (zero, lt, is) = subst P is all.0
all_member P (y ∷ ys) x all (suc k, lt, is) = all_member P ys x all.1 (k, omega arith, is)

pub member_map : {X Y : Type 0} (f : X → Y) (xs : List X) (x : X) → Contains xs x → Contains (map f xs) (f x)
member_map f [] x has = absurd (let lt = has.1 in omega arith)
member_map f (y ∷ ys) x (zero, lt, is) = (zero, omega arith, ap f is)
member_map f (y ∷ ys) x (suc k, lt, is) = let rest = member_map f ys x (k, omega arith, is) in (suc rest.0, (let l = rest.1 in omega arith), rest.2)

pub member_front : {X : Type 0} (y : X) (ys : List X) (x : X) → Contains (y ∷ ys) x → (y ≡ x) ⊎ Contains ys x
member_front y ys x (zero, lt, is) = inl is
member_front y ys x (suc k, lt, is) = inr (k, omega arith, is)

pub member_behind : {X : Type 0} (y : X) (ys : List X) (x : X) → Contains ys x → Contains (y ∷ ys) x
member_behind y ys x has = (suc has.0, (let lt = has.1 in omega arith), has.2)

member_here : {X : Type 0} (y : X) (ys : List X) → Contains (y ∷ ys) y
member_here y ys = (0, omega arith, refl)

-- a member of a list of which one element is changed
pub member_swap : {X : Type 0} (front : List X) (s t : X) (back : List X) (x : X) → Contains (front ++ s ∷ back) x → Contains (front ++ t ∷ back) x ⊎ (s ≡ x)
member_swap [] s t back x has = ⊎_elim (λ same. inr same) (λ in_back. inl (member_behind t back x in_back)) (member_front s back x has)
member_swap (y ∷ front) s t back x has = ⊎_elim
    (λ same. inl (subst (λ z. Contains (y ∷ (front ++ t ∷ back)) z) same (member_here y (front ++ t ∷ back))))
    (λ rest. ⊎_elim (λ there. inl (member_behind y (front ++ t ∷ back) x there)) (λ same. inr same) (member_swap front s t back x rest))
    (member_front y (front ++ s ∷ back) x has)

pub member_mid : {X : Type 0} (front : List X) (t : X) (back : List X) → Contains (front ++ t ∷ back) t
member_mid [] t back = member_here t back
member_mid (y ∷ front) t back = member_behind y (front ++ t ∷ back) t (member_mid front t back)

pub member_insert : {X : Type 0} (front : List X) (x : X) (back : List X) (y : X) → Contains (front ++ back) y → Contains (front ++ x ∷ back) y
member_insert [] x back y has = member_behind x back y has
member_insert (z ∷ front) x back y (zero, lt, is) = (zero, omega arith, is)
member_insert (z ∷ front) x back y (suc k, lt, is) = member_behind z (front ++ x ∷ back) y (member_insert front x back y (k, omega arith, is))

-- ---- places

-- the element at a place of a list with one more
pub get_push : {X : Type 0} (xs : List X) (x y : X) (k : ℕ) → slice_get (xs ++ x ∷ []) k ≡ Some y → ((k < length xs) × (slice_get xs k ≡ Some y)) ⊎ ((k ≡ length xs) × (x ≡ y))
get_push [] x y zero is = inr (refl, same_Some x y is)
get_push [] x y (suc k) is = absurd (none-some y is)
get_push (z ∷ xs) x y zero is = inl (omega arith, is)
get_push (z ∷ xs) x y (suc k) is = ⊎_elim (λ old. inl ((let lt = old.0 in omega arith), old.1)) (λ new. inr ((let e = new.0 in omega arith), new.1)) (get_push xs x y k is)

pub get_left : {X : Type 0} (xs ys : List X) (y : X) (k : ℕ) → slice_get xs k ≡ Some y → slice_get (xs ++ ys) k ≡ Some y
get_left [] ys y k is = absurd (none-some y is)
get_left (x ∷ xs) ys y zero is = is
get_left (x ∷ xs) ys y (suc k) is = get_left xs ys y k is

pub get_last : {X : Type 0} (xs : List X) (x : X) → slice_get (xs ++ x ∷ []) (length xs) ≡ Some x
get_last [] x = refl
get_last (y ∷ xs) x = get_last xs x

pub take_left : {X : Type 0} (xs ys : List X) (k : ℕ) → k ≤ length xs → take k (xs ++ ys) ≡ take k xs
take_left xs ys zero le = refl
take_left [] ys (suc k) le = absurd (omega arith)
take_left (x ∷ xs) ys (suc k) le = λ i. x ∷ take_left xs ys k (omega arith) i

pub within_of : {X : Type 0} (xs : List X) (y : X) (k : ℕ) → slice_get xs k ≡ Some y → k < length xs
within_of [] y k is = absurd (none-some y is)
within_of (x ∷ xs) y zero is = omega arith
within_of (x ∷ xs) y (suc k) is = let lt = within_of xs y k is in omega arith

pub member_of : {X : Type 0} (xs : List X) (y : X) (k : ℕ) → slice_get xs k ≡ Some y → Contains xs y
member_of [] y k is = absurd (none-some y is)
member_of (x ∷ xs) y zero is = (0, omega arith, same_Some x y is)
member_of (x ∷ xs) y (suc k) is = member_behind x xs y (member_of xs y k is)
