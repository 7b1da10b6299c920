-- Elements of lists by their places, and lists side by side.
use Rattle.std.proofs.Common.{◌≡◌, ℕ, zero, suc, sym, subst, ◌∙◌, List, [], ◌∷◌, map, Some, refl, ap, ◌⊎◌, inl, inr, ⊎_elim, arith, length, ◌<◌, ◌≤◌, ◌++◌, take, drop, remove}
use Rattle.std.specs.Prelude.{slice_get, slice_set, Contains, replicate}
use Rattle.std.specs.List.{AllByRecursion, AllZip, refill}
use Rattle.std.proofs.lemmas.Option.{same_Some, none-some}
use Rattle.std.proofs.Math.ListN.{length-set}
use Rattle.std.proofs.lemmas.List.{append-nil}
use Rattle.wol_promise.proofs.Lists.{member_behind, member_front}

-- ---- Elements by their places

pub all_at : {X : Type 0} (P : X → Type 0) (xs : List X) (k : ℕ) (x : X) → slice_get xs k ≡ Some x → AllByRecursion P xs → P x
all_at P [] k x is all = absurd (none-some x is)
all_at P (y ∷ xs) zero x is all = subst P (same_Some y x is) all.0
all_at P (y ∷ xs) (suc k) x is all = all_at P xs k x is all.1

pub all_set : {X : Type 0} (P : X → Type 0) (xs : List X) (k : ℕ) (x : X) → AllByRecursion P xs → P x → AllByRecursion P (slice_set xs k x)
all_set P [] k x all here = tt
all_set P (y ∷ xs) zero x all here = (here, all.1)
all_set P (y ∷ xs) (suc k) x all here = (all.0, all_set P xs k x all.1 here)

pub get_set : {X : Type 0} (xs : List X) (k : ℕ) (x y : X) → slice_get xs k ≡ Some x → slice_get (slice_set xs k y) k ≡ Some y
get_set [] k x y is = absurd (none-some x is)
get_set (z ∷ xs) zero x y is = refl
get_set (z ∷ xs) (suc k) x y is = get_set xs k x y is

pub get_other : {X : Type 0} (xs : List X) (k j : ℕ) (y : X) → (j ≡ k → ⊥) → slice_get (slice_set xs k y) j ≡ slice_get xs j
get_other [] k j y other = refl
get_other (z ∷ xs) zero zero y other = absurd (other refl)
get_other (z ∷ xs) zero (suc j) y other = refl
get_other (z ∷ xs) (suc k) zero y other = refl
get_other (z ∷ xs) (suc k) (suc j) y other = get_other xs k j y (λ e. other (ap suc e))

-- what is the same of the old and the new one is so of both lists
pub map_set : {X Y : Type 0} (f : X → Y) (xs : List X) (k : ℕ) (x y : X) → slice_get xs k ≡ Some x → f y ≡ f x → map f (slice_set xs k y) ≡ map f xs
map_set f [] k x y is same = refl
map_set f (z ∷ xs) zero x y is same = λ i. (same ∙ sym (ap f (same_Some z x is))) i ∷ map f xs
map_set f (z ∷ xs) (suc k) x y is same = λ i. f z ∷ map_set f xs k x y is same i

pub get_of : {X : Type 0} (xs : List X) (x : X) → Contains xs x → (k : ℕ) × (slice_get xs k ≡ Some x)
get_of [] x (k, lt, is) = absurd (omega arith)
get_of (y ∷ xs) x (zero, lt, is) = (0, ap Some is)
get_of (y ∷ xs) x (suc k, lt, is) = let rest = get_of xs x (k, omega arith, is) in (suc rest.0, rest.1)

-- a member of a list of which the element at one place is another
pub member_set : {X : Type 0} (xs : List X) (i : ℕ) (x y z : X) → slice_get xs i ≡ Some x → Contains xs z → Contains (slice_set xs i y) z ⊎ (x ≡ z)
member_set [] i x y z at has = absurd (none-some x at)
member_set (v ∷ xs) zero x y z at (zero, lt, is) = inr (sym (same_Some v x at) ∙ is)
member_set (v ∷ xs) zero x y z at (suc k, lt, is) = inl (suc k, omega arith, is)
member_set (v ∷ xs) (suc i) x y z at (zero, lt, is) = inl (0, omega arith, is)
member_set (v ∷ xs) (suc i) x y z at (suc k, lt, is) = ⊎_elim (λ has. inl (suc has.0, (let l = has.1 in omega arith), has.2)) (λ same. inr same) (member_set xs i x y z at (k, omega arith, is))

pub same_or_not : (j k : ℕ) → (j ≡ k) ⊎ (j ≡ k → ⊥)
same_or_not zero zero = inl refl
same_or_not zero (suc k) = inr (λ e. omega arith)
same_or_not (suc j) zero = inr (λ e. omega arith)
same_or_not (suc j) (suc k) = ⊎_elim (λ e. inl (ap suc e)) (λ no. inr (λ e. no (omega arith))) (same_or_not j k)

-- ---- zipped lists

pub zip_self : {X : Type 0} (R : X → X → Type 0) → ((x : X) → R x x) → (xs : List X) → AllZip R xs xs
zip_self R self [] = tt
zip_self R self (x ∷ xs) = (self x, zip_self R self xs)

pub zip_then : {X : Type 0} (R : X → X → Type 0) → ((x y z : X) → R x y → R y z → R x z) → (xs ys zs : List X) → AllZip R xs ys → AllZip R ys zs → AllZip R xs zs
zip_then R trans [] [] zs a b = b
zip_then R trans [] (y ∷ ys) zs a b = absurd a
zip_then R trans (x ∷ xs) [] zs a b = absurd a
zip_then R trans (x ∷ xs) (y ∷ ys) [] a b = absurd b
zip_then R trans (x ∷ xs) (y ∷ ys) (z ∷ zs) a b = (trans x y z a.0 b.0, zip_then R trans xs ys zs a.1 b.1)

-- one element changed
pub zip_set : {X : Type 0} (R : X → X → Type 0) → ((x : X) → R x x) → (xs : List X) (k : ℕ) (x y : X) → slice_get xs k ≡ Some x → R x y → AllZip R xs (slice_set xs k y)
zip_set R self [] k x y is r = absurd (none-some x is)
zip_set {X} R self (z ∷ xs) zero x y is r = (subst (λ (w : X). R w y) (sym (same_Some z x is)) r, zip_self R self xs)
zip_set R self (z ∷ xs) (suc k) x y is r = (self z, zip_set R self xs k x y is r)

-- the element at the same place
pub zip_get : {X Y : Type 0} (R : X → Y → Type 0) (xs : List X) (ys : List Y) (k : ℕ) (x : X) → AllZip R xs ys → slice_get xs k ≡ Some x → (y : Y) × (slice_get ys k ≡ Some y) × R x y
zip_get R [] ys k x zip is = absurd (none-some x is)
zip_get R (z ∷ xs) [] k x zip is = absurd zip
zip_get {X} {Y} R (z ∷ xs) (y ∷ ys) zero x zip is = (y, refl, subst (λ (w : X). R w y) (same_Some z x is) zip.0)
zip_get R (z ∷ xs) (y ∷ ys) (suc k) x zip is = zip_get R xs ys k x zip.1 is

pub zip_at : {X Y : Type 0} (R : X → Y → Type 0) (xs : List X) (ys : List Y) (k : ℕ) (x : X) (y : Y) → AllZip R xs ys → slice_get xs k ≡ Some x → slice_get ys k ≡ Some y → R x y
zip_at R xs ys k x y zip was is = let there = zip_get R xs ys k x zip was in subst (R x) (same_Some there.0 y (sym there.1 ∙ is)) there.2

pub zip_back : {X Y : Type 0} (R : X → Y → Type 0) (xs : List X) (ys : List Y) (k : ℕ) (y : Y) → AllZip R xs ys → slice_get ys k ≡ Some y → (x : X) × (slice_get xs k ≡ Some x) × R x y
zip_back R xs [] k y zip is = absurd (none-some y is)
zip_back R [] (z ∷ ys) k y zip is = absurd zip
zip_back {X} {Y} R (x ∷ xs) (z ∷ ys) zero y zip is = (x, refl, subst (λ (w : Y). R x w) (same_Some z y is) zip.0)
zip_back R (x ∷ xs) (z ∷ ys) (suc k) y zip is = zip_back R xs ys k y zip.1 is

pub zip_length : {X Y : Type 0} (R : X → Y → Type 0) (xs : List X) (ys : List Y) → AllZip R xs ys → length ys ≡ length xs
zip_length R [] [] zip = refl
zip_length R [] (y ∷ ys) zip = absurd zip
zip_length R (x ∷ xs) [] zip = absurd zip
zip_length R (x ∷ xs) (y ∷ ys) zip = ap suc (zip_length R xs ys zip.1)

pub get_copies : {A : Type 0} (v : A) (n k : ℕ) (x : A) → slice_get (replicate n v) k ≡ Some x → x ≡ v
get_copies v zero k x is = absurd (none-some x is)
get_copies v (suc n) zero x is = sym (same_Some v x is)
get_copies v (suc n) (suc k) x is = get_copies v n k x is

pub length_copies : {A : Type 0} (v : A) (n : ℕ) → length (replicate n v) ≡ n
length_copies v zero = refl
length_copies v (suc n) = ap suc (length_copies v n)

pub get_inside : {X : Type 0} (xs : List X) (k : ℕ) → k < length xs → (x : X) × (slice_get xs k ≡ Some x)
get_inside [] k lt = absurd (omega arith)
get_inside (x ∷ xs) zero lt = (x, refl)
get_inside (x ∷ xs) (suc k) lt = get_inside xs k (omega arith)

-- what holds of the elements at each place
pub zip_of : {X Y : Type 0} (R : X → Y → Type 0) (xs : List X) (ys : List Y) → length ys ≡ length xs → ((k : ℕ) (x : X) (y : Y) → slice_get xs k ≡ Some x → slice_get ys k ≡ Some y → R x y) → AllZip R xs ys
zip_of R [] [] long each = tt
zip_of R [] (y ∷ ys) long each = absurd (let no : suc (length ys) ≡ 0 = long in omega arith)
zip_of R (x ∷ xs) [] long each = absurd (let no : 0 ≡ suc (length xs) = long in omega arith)
zip_of R (x ∷ xs) (y ∷ ys) long each = (each 0 x y refl refl, zip_of R xs ys (let e : suc (length ys) ≡ suc (length xs) = long in omega arith) (λ k a b is_a is_b. each (suc k) a b is_a is_b))

pub same_maps : {X Y : Type 0} (f : X → Y) (xs ys : List X) → AllZip (λ x y. f y ≡ f x) xs ys → map f ys ≡ map f xs
same_maps f [] [] all = refl
same_maps f [] (y ∷ ys) all = absurd all
same_maps f (x ∷ xs) [] all = absurd all
same_maps f (x ∷ xs) (y ∷ ys) all = λ i. all.0 i ∷ same_maps f xs ys all.1 i

pub take-replicate : {A : Type 0} (v : A) (k n : ℕ) → k ≤ n → take k (replicate n v) ≡ replicate k v
take-replicate v zero n few = refl
take-replicate v (suc k) zero few = absurd (omega arith)
take-replicate v (suc k) (suc n) few = λ i. v ∷ take-replicate v k n (omega arith) i

take_all : {X : Type 0} (xs : List X) → take (length xs) xs ≡ xs
take_all [] = refl
take_all (x ∷ xs) = λ i. x ∷ take_all xs i

drop_all : {X : Type 0} (xs : List X) → drop (length xs) xs ≡ []
drop_all [] = refl
drop_all (x ∷ xs) = drop_all xs

-- one element was set through a slice of the whole
pub refill_set : {X : Type 0} (xs lent : List X) (k : ℕ) (x : X) → lent ≡ xs → refill (length xs) xs (slice_set lent k x) ≡ slice_set xs k x
refill_set {X} xs lent k x same =
    let long : length (slice_set lent k x) ≡ length xs = length-set lent k x ∙ ap length same in
    ap (λ (n : ℕ). take (length xs) (slice_set lent k x ++ drop n xs)) long
    ∙ ap (λ (l : List X). take (length xs) (slice_set lent k x ++ l)) (drop_all xs)
    ∙ ap (take (length xs)) (append-nil (slice_set lent k x))
    ∙ ap (λ (n : ℕ). take n (slice_set lent k x)) (sym long)
    ∙ take_all (slice_set lent k x)
    ∙ ap (λ (l : List X). slice_set l k x) same

pub zip_all : {X Y : Type 0} (R : X → Y → Type 0) (P : X → Type 0) (Q : Y → Type 0) → ((x : X) (y : Y) → R x y → P x → Q y) → (xs : List X) (ys : List Y) → AllZip R xs ys → AllByRecursion P xs → AllByRecursion Q ys
zip_all R P Q so [] [] zip all = tt
zip_all R P Q so [] (y ∷ ys) zip all = absurd zip
zip_all R P Q so (x ∷ xs) [] zip all = tt
zip_all R P Q so (x ∷ xs) (y ∷ ys) zip all = (so x y zip.0 all.0, zip_all R P Q so xs ys zip.1 all.1)

pub zip_each : {X Y : Type 0} (R : X → Y → Type 0) (Q : Y → Type 0) → ((x : X) (y : Y) → R x y → Q y) → (xs : List X) (ys : List Y) → AllZip R xs ys → AllByRecursion Q ys
zip_each R Q so [] [] zip = tt
zip_each R Q so [] (y ∷ ys) zip = absurd zip
zip_each R Q so (x ∷ xs) [] zip = absurd zip
zip_each R Q so (x ∷ xs) (y ∷ ys) zip = (so x y zip.0, zip_each R Q so xs ys zip.1)

-- the element that came of a member
pub record Became {X Y : Type 0} (R : X → Y → Type 0) (ys : List Y) (x : X) : Type 0 where
  pub item : Y
  pub among : Contains ys item
  pub from : R x item

pub became : {X Y : Type 0} (R : X → Y → Type 0) (xs : List X) (ys : List Y) (x : X) → AllZip R xs ys → Contains xs x → Became R ys x
became R [] ys x zip has = absurd (let lt = has.1 in omega arith)
became R (z ∷ xs) [] x zip has = absurd zip
became {X} {Y} R (z ∷ xs) (y ∷ ys) x zip (zero, lt, is) = record { item = y; among = (0, omega arith, refl); from = subst (λ (w : X). R w y) is zip.0 }
became R (z ∷ xs) (y ∷ ys) x zip (suc k, lt, is) = let rest = became R xs ys x zip.1 (k, omega arith, is) in record { item = rest.item; among = member_behind y ys rest.item rest.among; from = rest.from }

pub get_removed : {X : Type 0} (xs : List X) (k j : ℕ) (x : X) → slice_get (remove xs k) j ≡ Some x → (i : ℕ) × (slice_get xs i ≡ Some x)
get_removed [] zero j x is = absurd (none-some x is)
get_removed [] (suc k) j x is = absurd (none-some x is)
get_removed (y ∷ ys) zero j x is = (suc j, is)
get_removed (y ∷ ys) (suc k) zero x is = (0, is)
get_removed (y ∷ ys) (suc k) (suc j) x is = let rest = get_removed ys k j x is in (suc rest.0, rest.1)

pub all_removed : {X : Type 0} (P : X → Type 0) (xs : List X) (i : ℕ) → AllByRecursion P xs → AllByRecursion P (remove xs i)
all_removed P [] zero all = tt
all_removed P [] (suc i) all = tt
all_removed P (x ∷ xs) zero all = all.1
all_removed P (x ∷ xs) (suc i) all = (all.0, all_removed P xs i all.1)

-- each element stays but the one at this place
pub member_removed : {X : Type 0} (xs : List X) (i : ℕ) (o z : X) → slice_get xs i ≡ Some o → Contains xs z → Contains (remove xs i) z ⊎ (o ≡ z)
member_removed [] i o z at has = absurd (none-some o at)
member_removed (x ∷ xs) zero o z at has = ⊎_elim (λ same. inr (sym (same_Some x o at) ∙ same)) (λ there. inl there) (member_front x xs z has)
member_removed (x ∷ xs) (suc i) o z at has = ⊎_elim
    (λ same. inl (0, omega arith, same))
    (λ there. ⊎_elim (λ rest. inl (member_behind x (remove xs i) z rest)) (λ same. inr same) (member_removed xs i o z at there))
    (member_front x xs z has)

pub all_both : {X : Type 0} (P Q R : X → Type 0) → ((x : X) → P x → Q x → R x) → (xs : List X) → AllByRecursion P xs → AllByRecursion Q xs → AllByRecursion R xs
all_both P Q R f [] ps qs = tt
all_both P Q R f (x ∷ xs) ps qs = (f x ps.0 qs.0, all_both P Q R f xs ps.1 qs.1)
