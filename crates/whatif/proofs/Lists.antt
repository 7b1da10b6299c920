-- Lists that are gone through and changed at a place.
use Rattle.std.proofs.Common.{◌≡◌, ◌<◌, ◌≤◌, ◌+◌, ℕ, zero, suc, Bool, true, false, cond, List, [], ◌∷◌, ◌++◌, map, length, get_or, take, drop, None, Some, refl, sym, ap, subst, ◌∙◌, arith}
use Rattle.std.specs.Prelude.{slice_get, slice_set, position, nat_lt, not}
use Rattle.std.specs.List.{AllByRecursion, AllZip, filter, find, prefix_len}
use Rattle.std.proofs.lemmas.Option.{none-some, same_Some}
use Rattle.std.proofs.lemmas.Bool.{lt-ltb, false≢true}
use Rattle.std.proofs.lemmas.Bool.Decides.{nat_tests}

pub all_at : {X : Type 0} (P : X → Type 0) (xs : List X) (k : ℕ) (x : X) → AllByRecursion P xs → slice_get xs k ≡ Some x → P x
all_at P [] k x all is = absurd (none-some x is)
all_at P (y ∷ xs) zero x all is = subst P (same_Some y x is) all.0
all_at P (y ∷ xs) (suc k) x all is = all_at P xs k x all.1 is

pub all_set : {X : Type 0} (P : X → Type 0) (xs : List X) (k : ℕ) (y : X) → AllByRecursion P xs → P y → AllByRecursion P (slice_set xs k y)
all_set P [] k y all here = tt
all_set P (x ∷ xs) zero y all here = (here, all.1)
all_set P (x ∷ xs) (suc k) y all here = (all.0, all_set P xs k y all.1 here)

pub all_filter : {X : Type 0} (P : X → Type 0) (test : X → Bool) (xs : List X) → AllByRecursion P xs → AllByRecursion P (filter test xs)
all_filter P test [] all = tt
all_filter {X} P test (x ∷ xs) all = at (test x) (all_filter P test xs all.1)
  where
    at : (t : Bool) → AllByRecursion P (filter test xs) → AllByRecursion P (cond t (x ∷ filter test xs) (filter test xs))
    at true rest = (all.0, rest)
    at false rest = rest

pub map_set : {X Y : Type 0} (f : X → Y) (xs : List X) (k : ℕ) (y : X) → map f (slice_set xs k y) ≡ slice_set (map f xs) k (f y)
map_set f [] k y = refl
map_set f (x ∷ xs) zero y = refl
map_set f (x ∷ xs) (suc k) y = λ i. f x ∷ map_set f xs k y i

pub get_map : {X Y : Type 0} (f : X → Y) (xs : List X) (k : ℕ) (x : X) → slice_get xs k ≡ Some x → slice_get (map f xs) k ≡ Some (f x)
get_map f [] k x is = absurd (none-some x is)
get_map f (y ∷ xs) zero x is = ap (λ z. Some (f z)) (same_Some y x is)
get_map f (y ∷ xs) (suc k) x is = get_map f xs k x is

-- the same element is put back
pub set_same : {X : Type 0} (xs : List X) (k : ℕ) (x : X) → slice_get xs k ≡ Some x → slice_set xs k x ≡ xs
set_same [] k x is = refl
set_same (y ∷ xs) zero x is = λ i. sym (same_Some y x is) i ∷ xs
set_same (y ∷ xs) (suc k) x is = λ i. y ∷ set_same xs k x is i

-- ---- positions

abbrev pub NonePass : {X : Type 0} → (X → Bool) → List X → Type 0
NonePass p xs = AllByRecursion (λ x. p x ≡ false) xs

prefix_all : {X : Type 0} (p : X → Bool) (xs : List X) → NonePass p xs → prefix_len (λ x. not (p x)) xs ≡ length xs
prefix_all p [] none = refl
prefix_all p (x ∷ xs) none = (λ i. cond (not (none.0 i)) (1 + prefix_len (λ y. not (p y)) xs) 0) ∙ (let rest = prefix_all p xs none.1 in omega (arith, rest))

pub none_passes : {X : Type 0} (p : X → Bool) (xs : List X) → NonePass p xs → position p xs ≡ None
none_passes p xs none = (λ i. cond (nat_lt (prefix_all p xs none i) (length xs)) (Some (prefix_all p xs none i)) None) ∙ ap (λ (t : Bool). cond t (Some (length xs)) None) (not_less (length xs))
  where
    not_less : (n : ℕ) → nat_lt n n ≡ false
    not_less n = grind (arith, nat_tests)

none_some_if : {X : Type 0} (t : Bool) (x : X) → cond t (Some x) None ≡ None → t ≡ false
none_some_if true x is = absurd (none-some x (sym is))
none_some_if false x is = refl

-- where it is none, no element passes
pub passes_none : {X : Type 0} (p : X → Bool) (xs : List X) → position p xs ≡ None → NonePass p xs
passes_none p [] is = tt
passes_none {X} p (x ∷ xs) is = at (p x) refl (none_some_if (nat_lt (prefix_len (λ y. not (p y)) (x ∷ xs)) (length (x ∷ xs))) (prefix_len (λ y. not (p y)) (x ∷ xs)) is) (passes_none p xs)
  where
    at : (t : Bool) → p x ≡ t → nat_lt (prefix_len (λ y. not (p y)) (x ∷ xs)) (length (x ∷ xs)) ≡ false → (position p xs ≡ None → NonePass p xs) → NonePass p (x ∷ xs)
    at true passes past rest = absurd (let zero_ : prefix_len (λ y. not (p y)) (x ∷ xs) ≡ 0 = (λ i. cond (not (passes i)) (1 + prefix_len (λ y. not (p y)) xs) 0) in
        false≢true (sym past ∙ (λ i. nat_lt (zero_ i) (length (x ∷ xs))) ∙ lt-ltb 0 (length (x ∷ xs)) (omega arith)))
    at false fails past rest =
        let more : prefix_len (λ y. not (p y)) (x ∷ xs) ≡ 1 + prefix_len (λ y. not (p y)) xs = (λ i. cond (not (fails i)) (1 + prefix_len (λ y. not (p y)) xs) 0) in
        let over : nat_lt (prefix_len (λ y. not (p y)) xs) (length xs) ≡ false = less_one (prefix_len (λ y. not (p y)) xs) (length xs) (ap (λ (n : ℕ). nat_lt n (length (x ∷ xs))) (sym more) ∙ past) in
        (fails, rest (λ i. cond (over i) (Some (prefix_len (λ y. not (p y)) xs)) None))
      where
        less_one : (n m : ℕ) → nat_lt (1 + n) (suc m) ≡ false → nat_lt n m ≡ false
        less_one n m is = grind (arith, nat_tests)

pub all_imply : {X : Type 0} (P Q : X → Type 0) → ((x : X) → P x → Q x) → (xs : List X) → AllByRecursion P xs → AllByRecursion Q xs
all_imply P Q so [] all = tt
all_imply P Q so (x ∷ xs) all = (so x all.0, all_imply P Q so xs all.1)

-- nothing is found where nothing passes
pub found_none : {X : Type 0} (p : X → Bool) (xs : List X) → find p xs ≡ None → NonePass p xs
found_none p [] is = tt
found_none {X} p (x ∷ xs) is = at (p x) refl is (found_none p xs)
  where
    at : (t : Bool) → p x ≡ t → cond t (Some x) (find p xs) ≡ None → (find p xs ≡ None → NonePass p xs) → NonePass p (x ∷ xs)
    at true passes is rest = absurd (none-some x (sym is))
    at false fails is rest = (fails, rest is)

pub none_found : {X : Type 0} (p : X → Bool) (xs : List X) → NonePass p xs → find p xs ≡ None
none_found p [] none = refl
none_found p (x ∷ xs) none = (λ i. cond (none.0 i) (Some x) (find p xs)) ∙ none_found p xs none.1

pub none_mapped : {X Y : Type 0} (p : Y → Bool) (f : X → Y) (xs : List X) → NonePass (λ x. p (f x)) xs → NonePass p (map f xs)
none_mapped p f [] none = tt
none_mapped p f (x ∷ xs) none = (none.0, none_mapped p f xs none.1)

pub none_unmapped : {X Y : Type 0} (p : Y → Bool) (f : X → Y) (xs : List X) → NonePass p (map f xs) → NonePass (λ x. p (f x)) xs
none_unmapped p f [] none = tt
none_unmapped p f (x ∷ xs) none = (none.0, none_unmapped p f xs none.1)

-- ---- places

-- the element that is read at a place
pub got_at : {X : Type 0} (xs : List X) (k : ℕ) (x : X) → k < length xs → x ≡ get_or xs k x → slice_get xs k ≡ Some x
got_at [] k x lt is = absurd (omega arith)
got_at (y ∷ xs) zero x lt is = ap (λ z. Some z) (sym is)
got_at (y ∷ xs) (suc k) x lt is = got_at xs k x (omega arith) is

pub got_or : {X : Type 0} (xs : List X) (k : ℕ) (d : X) → k < length xs → slice_get xs k ≡ Some (get_or xs k d)
got_or [] k d lt = absurd (omega arith)
got_or (y ∷ xs) zero d lt = refl
got_or (y ∷ xs) (suc k) d lt = got_or xs k d (omega arith)

pub same_default : {X : Type 0} (xs : List X) (k : ℕ) (d e : X) → k < length xs → get_or xs k d ≡ get_or xs k e
same_default [] k d e lt = absurd (omega arith)
same_default (y ∷ xs) zero d e lt = refl
same_default (y ∷ xs) (suc k) d e lt = same_default xs k d e (omega arith)

-- one more is counted
pub one_more : (k : ℕ) → suc k ≡ k + 1
one_more k = omega arith

-- values of a first list come in place of those of a second one, place by place
pub flags_step : {X Y : Type 0} (f : X → Y) (xs : List X) (ys : List Y) (k : ℕ) (x : X) (y : Y) → length ys ≡ length xs → slice_get xs k ≡ Some x → y ≡ f x
    → slice_set (map f (take k xs) ++ drop k ys) k y ≡ map f (take (suc k) xs) ++ drop (suc k) ys
flags_step f [] ys k x y long at same = absurd (none-some x at)
flags_step f (z ∷ xs) [] k x y long at same = absurd (omega arith)
flags_step f (z ∷ xs) (w ∷ ys) zero x y long at same = λ i. (same ∙ ap f (sym (same_Some z x at))) i ∷ ys
flags_step f (z ∷ xs) (w ∷ ys) (suc k) x y long at same = λ i. f z ∷ flags_step f xs ys k x y (omega arith) at same i

pub flags_all : {X Y : Type 0} (f : X → Y) (xs : List X) (ys : List Y) (k : ℕ) → length ys ≡ length xs → length xs ≤ k → map f (take k xs) ++ drop k ys ≡ map f xs
flags_all f [] [] zero long le = refl
flags_all f [] [] (suc k) long le = refl
flags_all f [] (w ∷ ys) k long le = absurd (omega arith)
flags_all f (z ∷ xs) [] k long le = absurd (omega arith)
flags_all f (z ∷ xs) (w ∷ ys) zero long le = absurd (omega arith)
flags_all f (z ∷ xs) (w ∷ ys) (suc k) long le = λ i. f z ∷ flags_all f xs ys k (omega arith) (omega arith) i

pub zip_length : {X Y : Type 0} (R : X → Y → Type 0) (xs : List X) (ys : List Y) → AllZip R xs ys → length ys ≡ length xs
zip_length R [] [] all = refl
zip_length R [] (y ∷ ys) all = absurd all
zip_length R (x ∷ xs) [] all = absurd all
zip_length R (x ∷ xs) (y ∷ ys) all = ap suc (zip_length R xs ys all.1)
