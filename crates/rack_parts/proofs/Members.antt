-- Members of lists, and lists side by side.
use Rattle.rack_parts.proofs.Basics.{◌≡◌, ◌<◌, ◌≤◌, ◌+◌, ◌⊎◌, inl, inr, ⊎_elim, ℕ, zero, suc, List, [], ◌∷◌, ◌++◌, length, get_or, map, Option, Some, None, is_some, refl, sym, ap}
use Rattle.rack_parts.proofs.Basics.{◌∙◌, subst, arith, ◌-◌, reverse, Contains, All, IsSome, slice_get, AllByRecursion, cases_eq, cases_lt, slice_get-get_or, get_or_at}
use Rattle.rack_parts.proofs.Basics.{get_or_append_left, get_or_past, get_or_push, none-some, get_or-map, length-map, length_push, length-append, append-nil, append_assoc}
use Rattle.rack_parts.proofs.Basics.{map-append, reverse-append, length-reverse, get_or-reverse, All-contains, Contains-push, Contains-get_or}

-- ---- Members of lists, and options that are empty

pub no_value : {A : Type 0} (o : Option A) → (IsSome o → ⊥) → o ≡ None
no_value None never = refl
no_value (Some x) never = absurd (never refl)

pub a_value : {A : Type 0} (o : Option A) → IsSome o → (x : A) × (o ≡ Some x)
a_value None s = absurd (cc s)
a_value (Some x) s = (x, refl)

pub is_there : {A : Type 0} (o : Option A) (x : A) → o ≡ Some x → IsSome o
is_there o x e = ap is_some e

module _ {X : Type 0} where
  pub first_in : (x y : X) (xs : List X) → x ≡ y → Contains (x ∷ xs) y
  first_in x y xs e = (0, omega arith, e)

  pub later_in : (x y : X) (xs : List X) → Contains xs y → Contains (x ∷ xs) y
  later_in x y xs has = (suc has.0, omega (arith, has.1), has.2)

  pub in_cases : (x y : X) (xs : List X) → Contains (x ∷ xs) y → (x ≡ y) ⊎ Contains xs y
  in_cases x y xs has = go has.0 has.1 has.2
    where
      go : (n : ℕ) → n < length (x ∷ xs) → get_or (x ∷ xs) n y ≡ y → (x ≡ y) ⊎ Contains xs y
      go zero within at = inl at
      go (suc n) within at = inr (n, omega (arith, within), at)

  pub none_in : (y : X) → Contains [] y → ⊥
  none_in y has = absurd (omega (arith, has.1))

  pub no_members : (xs : List X) → ((y : X) → Contains xs y → ⊥) → xs ≡ []
  no_members [] never = refl
  no_members (x ∷ xs) never = absurd (never x (first_in x x xs refl))

  pub all_last : (P : X → Type 0) (xs : List X) (x : X) → All P (xs ++ x ∷ []) → P x
  all_last P xs x all = All-contains P (xs ++ x ∷ []) x all (Contains-push xs x)

  pub all_front : (P : X → Type 0) (xs : List X) (x : X) → All P (xs ++ x ∷ []) → All P xs
  all_front P xs x all k d within =
      subst P (get_or_append_left xs (x ∷ []) d k within) (all k d (let n = length_push xs x in omega (arith, n, within)))

  pub all_member : (P : X → Type 0) (xs : List X) → ((x : X) → Contains xs x → P x) → All P xs
  all_member P xs each k d within = each (get_or xs k d) (Contains-get_or xs k d within)

  pub of_recursion : (P : X → Type 0) (xs : List X) (x : X) → AllByRecursion P xs → Contains xs x → P x
  of_recursion P [] x all has = absurd (none_in x has)
  of_recursion P (y ∷ xs) x all has = ⊎_elim (λ e. subst P e all.0) (λ more. of_recursion P xs x all.1 more) (in_cases y x xs has)

module _ {X Y : Type 0} (f : X → Y) where
  pub in_map : (xs : List X) (x : X) → Contains xs x → Contains (map f xs) (f x)
  in_map xs x has = (has.0, rw length-map has.1, get_or-map f xs has.0 x (f x) has.1 ∙ ap f has.2)

  pub of_map : (xs : List X) (y : Y) → Contains (map f xs) y → (x : X) × Contains xs x × (f x ≡ y)
  of_map [] y has = absurd (none_in y has)
  of_map (x ∷ xs) y has = ⊎_elim (λ e. (x, first_in x x xs refl, e)) (λ more. let rest = of_map xs y more in (rest.0, later_in x rest.0 xs rest.1, rest.2)) (in_cases (f x) y (map f xs) has)

  -- what holds of what each is mapped to
  pub all_of_map : (P : Y → Type 0) (xs : List X) → All P (map f xs) → All (λ x. P (f x)) xs
  all_of_map P xs all = all_member (λ x. P (f x)) xs (λ x has. All-contains P (map f xs) (f x) all (in_map xs x has))

-- whether a number is among these
pub is_member : (xs : List ℕ) (k : ℕ) → Contains xs k ⊎ (Contains xs k → ⊥)
is_member [] k = inr (none_in k)
is_member (x ∷ xs) k = ⊎_elim
    (λ e. inl (first_in x k xs e))
    (λ differs. ⊎_elim (λ more. inl (later_in x k xs more)) (λ none. inr (λ has. ⊎_elim differs none (in_cases x k xs has))) (is_member xs k))
    (cases_eq x k)

pub map_map : {X Y Z : Type 0} (f : X → Y) (g : Y → Z) (xs : List X) → map g (map f xs) ≡ map (λ (x : X). g (f x)) xs
map_map f g [] = refl
map_map {X} {Y} {Z} f g (x ∷ xs) = ap (λ (l : List Z). g (f x) ∷ l) (map_map f g xs)

-- the element at a place of a list
pub element_at : {X : Type 0} (xs : List X) (k : ℕ) → k < length xs → (x : X) × (slice_get xs k ≡ Some x)
element_at [] k within = absurd (omega (arith, within))
element_at (x ∷ xs) zero within = (x, refl)
element_at (x ∷ xs) (suc k) within = element_at xs k (omega (arith, within))

pub get_left : {X : Type 0} (xs ys : List X) (k : ℕ) (x : X) → slice_get xs k ≡ Some x → slice_get (xs ++ ys) k ≡ Some x
get_left [] ys k x is = absurd (cc is)
get_left (y ∷ xs) ys zero x is = is
get_left (y ∷ xs) ys (suc k) x is = get_left xs ys k x is

pub segment_in_image : {D : Type 0} (q : Rattle.rack_parts.specs.declared.rack.Rest.Rest D) (k : ℕ) (m : Rattle.rack_parts.specs.declared.rack.ImageRest.ImageRest D)
    → Rattle.rack_parts.specs.Rests.image_here q.images.items k ≡ Some m → (i : ℕ) → Rattle.rack_parts.specs.Parts.segment_in q k i ≡ Rattle.rack_parts.specs.Rests.segment_here m i
segment_in_image q k m is i = rw is

-- an image that is out is one of the list
pub here_within : {R : Type 0} (xs : List (Option R)) (k : ℕ) (r : R) → get_or xs k None ≡ Some r → k < length xs
here_within xs k r is = ⊎_elim (λ less. less) (λ past. absurd (none-some r (sym (get_or_past xs k None past) ∙ is))) (cases_lt k (length xs))

pub some_within : {R : Type 0} (xs : List (Option R)) (k : ℕ) → IsSome (get_or xs k None) → k < length xs
some_within xs k some = let v = a_value (get_or xs k None) some in here_within xs k v.0 v.1

-- the elements in front of the last, and the last
pub get_last : {X : Type 0} (xs : List X) (x : X) (j : ℕ) → length xs ≡ j → slice_get (xs ++ x ∷ []) j ≡ Some x
get_last xs x j size = slice_get-get_or (xs ++ x ∷ []) j x (let n = length_push xs x in omega (arith, n, size)) ∙ ap (λ y. Some y) (get_or_push xs x x j size)

pub get_front : {X : Type 0} (xs : List X) (x : X) (j : ℕ) → j < length xs → slice_get (xs ++ x ∷ []) j ≡ slice_get xs j
get_front xs x j less = let y = element_at xs j less in get_left xs (x ∷ []) j y.0 y.1 ∙ sym y.1

-- these are the first elements of a list
pub record IsFrontOf {X : Type 0} (left all : List X) : Type 0 where
  pub behind : List X
  pub whole : all ≡ left ++ behind

-- the last of them went, which stands behind the others
pub record IsPopped {X : Type 0} (left rest all : List X) (x : X) : Type 0 where
  pub front : IsFrontOf rest all
  pub there : slice_get all (length rest) ≡ Some x
  pub count : length left ≡ length rest + 1
  pub few : length left ≤ length all

pub front_all : {X : Type 0} (all : List X) → IsFrontOf all all
front_all all = record { behind = []; whole = sym (append-nil all) }

pub pop_front : {X : Type 0} (left rest all : List X) (x : X) → left ≡ rest ++ x ∷ [] → IsFrontOf left all → IsPopped left rest all x
pop_front {X} left rest all x split f =
    let whole : all ≡ rest ++ x ∷ f.behind = f.whole ∙ ap (λ (l : List X). l ++ f.behind) split ∙ append_assoc rest (x ∷ []) f.behind in
    record {
      front = record { behind = x ∷ f.behind; whole = whole };
      there = ap (λ (l : List X). slice_get l (length rest)) whole ∙ slice_get-get_or (rest ++ x ∷ f.behind) (length rest) x (omega (arith, length-append rest (x ∷ f.behind)))
          ∙ ap (λ (y : X). Some y) (get_or_at rest x f.behind x (length rest) refl);
      count = ap length split ∙ length_push rest x;
      few = omega (arith, ap length f.whole, length-append left f.behind);
    }

-- ---- The parts of an image are put together

pub all_reverse : {X : Type 0} (P : X → Type 0) (xs : List X) → All P xs → All P (reverse xs)
all_reverse P xs all k d within =
    let short : k < length xs = subst (λ (n : ℕ). k < n) (length-reverse xs) within in
    subst P (sym (get_or-reverse xs k d short)) (all (length xs - 1 - k) d (omega (arith, short)))

-- one segment more
pub together_next : {X : Type 0} (row : List X) (left : List (Option X)) (x : X) (o : Option X) (whole : List (Option X)) → o ≡ Some x
    → map (λ (p : X). Some p) row ++ reverse (left ++ o ∷ []) ≡ whole → map (λ (p : X). Some p) (row ++ x ∷ []) ++ reverse left ≡ whole
together_next {X} row left x o whole is kept =
    ap (λ (l : List (Option X)). l ++ reverse left) (map-append (λ (p : X). Some p) row (x ∷ []))
    ∙ append_assoc (map (λ (p : X). Some p) row) (Some x ∷ []) (reverse left)
    ∙ ap (λ (p : Option X). map (λ (q : X). Some q) row ++ (p ∷ reverse left)) (sym is)
    ∙ ap (λ (l : List (Option X)). map (λ (p : X). Some p) row ++ l) (sym (reverse-append left (o ∷ [])))
    ∙ kept

-- one segment more is laid out
pub laid_next : {X : Type 0} (done now : List (Option X)) (row rest : List X) (x : X) (whole : List (Option X)) → now ≡ done ++ Some x ∷ [] → row ≡ rest ++ x ∷ []
    → done ++ map (λ (p : X). Some p) (reverse row) ≡ whole → now ++ map (λ (p : X). Some p) (reverse rest) ≡ whole
laid_next {X} done now row rest x whole more is kept =
    ap (λ (l : List (Option X)). l ++ map (λ (p : X). Some p) (reverse rest)) more
    ∙ append_assoc done (Some x ∷ []) (map (λ (p : X). Some p) (reverse rest))
    ∙ ap (λ (l : List X). done ++ map (λ (p : X). Some p) l) (sym (ap reverse is ∙ reverse-append rest (x ∷ [])))
    ∙ kept
