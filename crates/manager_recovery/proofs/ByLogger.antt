-- Items by their loggers, and how often what they have counts.
use Rattle.std.proofs.Common.{◌≡◌, ◌≢◌, ◌⊎◌, inl, inr, ⊎_elim, ◌+◌, ◌<◌, ◌≤◌, ℕ, zero, suc, Bool, true, false, cond, eqb, List, [], ◌∷◌, ◌++◌, map, Some, refl, sym, ap, subst, ◌∙◌, arith}
use Rattle.std.specs.Prelude.{slice_get, filter, Contains, sum_by}
use Rattle.std.specs.List.{AllByRecursion, count_by, flat_map}
use Rattle.std.proofs.lemmas.Bool.{eqb-true, ne_eqb, eq-eqb}
use Rattle.std.proofs.lemmas.List.Sums.{sum_by-cons, sum_by-append}
use Rattle.std.proofs.lemmas.Option.{same_Some, none-some}
use Rattle.wol_disk.specs.Disk.{IsAmong}
use Rattle.wol_model.specs.Blocks.{AreApart}
use Rattle.wol_model.specs.Index.{AreRising}

-- ---- Members

module _ {X : Type 0} where
  pub among_get : (xs : List X) (x : X) → IsAmong xs x → (k : ℕ) × (slice_get xs k ≡ Some x)
  among_get [] x has = absurd has
  among_get (y ∷ xs) x has = ⊎_elim (λ same. (0, ap Some (sym same))) (λ more. let w = among_get xs x more in (suc w.0, w.1)) has

  pub among_at : (xs : List X) (k : ℕ) (x : X) → slice_get xs k ≡ Some x → IsAmong xs x
  among_at [] k x is = absurd (none-some x is)
  among_at (y ∷ xs) zero x is = inl (sym (same_Some y x is))
  among_at (y ∷ xs) (suc k) x is = inr (among_at xs k x is)

  pub contains_among : (xs : List X) (x : X) → IsAmong xs x → Contains xs x
  contains_among [] x has = absurd has
  contains_among (y ∷ xs) x has = ⊎_elim (λ same. (0, omega arith, sym same)) (λ more. let w = contains_among xs x more in (suc w.0, (let lt = w.1 in omega arith), w.2)) has

  pub among_contains : (xs : List X) (x : X) → Contains xs x → IsAmong xs x
  among_contains [] x (k, lt, is) = absurd (omega arith)
  among_contains (y ∷ xs) x (zero, lt, is) = inl (sym is)
  among_contains (y ∷ xs) x (suc k, lt, is) = inr (among_contains xs x (k, omega arith, is))

  pub among_left : (xs ys : List X) (x : X) → IsAmong xs x → IsAmong (xs ++ ys) x
  among_left [] ys x has = absurd has
  among_left (z ∷ xs) ys x has = ⊎_elim (λ same. inl same) (λ more. inr (among_left xs ys x more)) has

  pub among_right : (xs ys : List X) (x : X) → IsAmong ys x → IsAmong (xs ++ ys) x
  among_right [] ys x has = has
  among_right (z ∷ xs) ys x has = inr (among_right xs ys x has)

  pub among_either : (xs ys : List X) (x : X) → IsAmong (xs ++ ys) x → IsAmong xs x ⊎ IsAmong ys x
  among_either [] ys x has = inr has
  among_either (z ∷ xs) ys x has = ⊎_elim (λ same. inl (inl same)) (λ more. ⊎_elim (λ a. inl (inr a)) (λ b. inr b) (among_either xs ys x more)) has

  pub all_among : (P : X → Type 0) (xs : List X) (x : X) → AllByRecursion P xs → IsAmong xs x → P x
  all_among P [] x all has = absurd has
  all_among P (y ∷ xs) x all has = ⊎_elim (λ same. subst P (sym same) all.0) (λ more. all_among P xs x all.1 more) has

  pub all_from : (P : X → Type 0) (xs : List X) → ((x : X) → IsAmong xs x → P x) → AllByRecursion P xs
  all_from P [] so = tt
  all_from P (x ∷ xs) so = (so x (inl refl), all_from P xs (λ y has. so y (inr has)))

  -- what passes a test
  pub among_filter : (test : X → Bool) (xs : List X) (x : X) → IsAmong (filter test xs) x → IsAmong xs x × (test x ≡ true)
  among_filter test [] x has = absurd has
  among_filter test (y ∷ xs) x has = at (among_filter test xs x) (test y) refl has
    where
      at : (IsAmong (filter test xs) x → IsAmong xs x × (test x ≡ true)) → (t : Bool) → test y ≡ t → IsAmong (cond t (y ∷ filter test xs) (filter test xs)) x → IsAmong (y ∷ xs) x × (test x ≡ true)
      at more true e has = ⊎_elim (λ same. (inl same, ap test same ∙ e)) (λ rest. let w = more rest in (inr w.0, w.1)) has
      at more false e has = let w = more has in (inr w.0, w.1)

  pub filter_among : (test : X → Bool) (xs : List X) (x : X) → IsAmong xs x → test x ≡ true → IsAmong (filter test xs) x
  filter_among test [] x has passes = absurd has
  filter_among test (y ∷ xs) x has passes = ⊎_elim (λ same. here (test y) (ap test (sym same) ∙ passes) same) (λ more. behind (test y) (filter_among test xs x more passes)) has
    where
      here : (t : Bool) → t ≡ true → x ≡ y → IsAmong (cond t (y ∷ filter test xs) (filter test xs)) x
      here true e same = inl same
      here false e same = absurd (let bad : false ≡ true = e in cc)

      behind : (t : Bool) → IsAmong (filter test xs) x → IsAmong (cond t (y ∷ filter test xs) (filter test xs)) x
      behind true rest = inr rest
      behind false rest = rest

module _ {X Y : Type 0} where
  pub among_map : (f : X → Y) (xs : List X) (x : X) → IsAmong xs x → IsAmong (map f xs) (f x)
  among_map f [] x has = absurd has
  among_map f (y ∷ xs) x has = ⊎_elim (λ same. inl (ap f same)) (λ more. inr (among_map f xs x more)) has

  pub map_among : (f : X → Y) (xs : List X) (y : Y) → IsAmong (map f xs) y → (x : X) × IsAmong xs x × (y ≡ f x)
  map_among f [] y has = absurd has
  map_among f (x ∷ xs) y has = ⊎_elim (λ same. (x, inl refl, same)) (λ more. let w = map_among f xs y more in (w.0, inr w.1, w.2)) has

  pub among_flat : (f : X → List Y) (xs : List X) (x : X) (y : Y) → IsAmong xs x → IsAmong (f x) y → IsAmong (flat_map f xs) y
  among_flat f [] x y has in_ = absurd has
  among_flat f (z ∷ xs) x y has in_ = ⊎_elim (λ same. among_left (f z) (flat_map f xs) y (subst (λ (q : X). IsAmong (f q) y) same in_)) (λ more. among_right (f z) (flat_map f xs) y (among_flat f xs x y more in_)) has

  pub flat_among : (f : X → List Y) (xs : List X) (y : Y) → IsAmong (flat_map f xs) y → (x : X) × IsAmong xs x × IsAmong (f x) y
  flat_among f [] y has = absurd has
  flat_among f (x ∷ xs) y has = ⊎_elim (λ here. (x, inl refl, here)) (λ more. let w = flat_among f xs y more in (w.0, inr w.1, w.2)) (among_either (f x) (flat_map f xs) y has)

-- ---- Counts

module _ {X : Type 0} where
  pub count-cons : (test : X → Bool) (x : X) (xs : List X) → count_by test (x ∷ xs) ≡ cond (test x) 1 0 + count_by test xs
  count-cons test x xs = sum_by-cons (λ (y : X). cond (test y) 1 0) x xs

  pub count-append : (test : X → Bool) (xs ys : List X) → count_by test (xs ++ ys) ≡ count_by test xs + count_by test ys
  count-append test xs ys = sum_by-append (λ (y : X). cond (test y) 1 0) xs ys

  pub some_counts : (test : X → Bool) (xs : List X) (x : X) → IsAmong xs x → test x ≡ true → 1 ≤ count_by test xs
  some_counts test [] x has passes = absurd has
  some_counts test (y ∷ xs) x has passes = let c = count-cons test y xs in ⊎_elim
      (λ same. let here : cond {A = ℕ} (test y) 1 0 ≡ 1 = ap (λ (t : Bool). cond {A = ℕ} t 1 0) (ap test (sym same) ∙ passes) in omega (arith, c, here))
      (λ more. let rest = some_counts test xs x more passes in omega (arith, c, rest)) has

  -- two that pass where at most one does are the same
  pub one_only : (test : X → Bool) (xs : List X) (x y : X) → count_by test xs ≤ 1 → IsAmong xs x → IsAmong xs y → test x ≡ true → test y ≡ true → x ≡ y
  one_only test [] x y few a b p q = absurd a
  one_only test (z ∷ xs) x y few a b p q = let c = count-cons test z xs in
      let first : (w : X) → IsAmong xs w → test w ≡ true → (v : X) → v ≡ z → test v ≡ true → ⊥ = λ w has passes v same passes'.
      let rest = some_counts test xs w has passes in
      let here : cond {A = ℕ} (test z) 1 0 ≡ 1 = ap (λ (t : Bool). cond {A = ℕ} t 1 0) (ap test (sym same) ∙ passes') in omega (arith, c, here, rest, few) in
      ⊎_elim
      (λ same. ⊎_elim (λ same'. same ∙ sym same') (λ more. absurd (first y more q x same p)) b)
      (λ more. ⊎_elim (λ same'. absurd (first x more p y same' q)) (λ more'. one_only test xs x y (omega (arith, c, few)) more more' p q) b) a

pub count-map : {X Y : Type 0} (f : X → Y) (test : Y → Bool) (xs : List X) → count_by test (map f xs) ≡ count_by (λ (x : X). test (f x)) xs
count-map f test [] = refl
count-map {X} f test (x ∷ xs) = let c = count-cons test (f x) (map f xs) in let d = count-cons (λ (y : X). test (f y)) x xs in let rest = count-map f test xs in omega (arith, c, d, rest)

pub count-flat : {X Y : Type 0} (f : X → List Y) (test : Y → Bool) (xs : List X) → count_by test (flat_map f xs) ≡ sum_by (λ (x : X). count_by test (f x)) xs
count-flat f test [] = refl
count-flat {X} f test (x ∷ xs) = let c = count-append test (f x) (flat_map f xs) in let d = sum_by-cons (λ (y : X). count_by test (f y)) x xs in let rest = count-flat f test xs in omega (arith, c, d, rest)

-- numbers of which none comes twice
pub apart_once : (vs : List ℕ) → ((v : ℕ) → count_by (λ (w : ℕ). eqb w v) vs ≤ 1) → AreApart vs
apart_once [] once = tt
apart_once (v ∷ vs) once = (
  all_from (λ (w : ℕ). v ≢ w) vs (λ w has same.
      let c = count-cons (λ (u : ℕ). eqb u v) v vs in let few = once v in
      let here : cond {A = ℕ} (eqb v v) 1 0 ≡ 1 = ap (λ (t : Bool). cond {A = ℕ} t 1 0) (eq-eqb v v refl) in
      let rest = some_counts (λ (u : ℕ). eqb u v) vs w has (eq-eqb w v (sym same)) in omega (arith, c, few, here, rest)),
  apart_once vs (λ u. let c = count-cons (λ (w : ℕ). eqb w u) v vs in let few = once u in omega (arith, c, few)),
)

rising_once : (vs : List ℕ) → AreRising vs → (v : ℕ) → count_by (λ (w : ℕ). eqb w v) vs ≤ 1
rising_once [] rising v = omega arith
rising_once (w ∷ vs) rising v = let c = count-cons (λ (u : ℕ). eqb u v) w vs in ⊎_elim
    (λ same. let none = absent vs (λ u has e. let lt = all_among (λ (x : ℕ). w < x) vs u rising.0 has in omega (arith, lt, same, e)) in at (eqb w v) c none)
    (λ other. let no : cond {A = ℕ} (eqb w v) 1 0 ≡ 0 = ap (λ (t : Bool). cond {A = ℕ} t 1 0) (ne_eqb w v other) in let rest = rising_once vs rising.1 v in omega (arith, c, no, rest))
    (same_or_not w v)
  where
    same_or_not : (a b : ℕ) → (a ≡ b) ⊎ (a ≡ b → ⊥)
    same_or_not zero zero = inl refl
    same_or_not zero (suc b) = inr (λ e. omega (arith, e))
    same_or_not (suc a) zero = inr (λ e. omega (arith, e))
    same_or_not (suc a) (suc b) = ⊎_elim (λ e. inl (ap suc e)) (λ no_. inr (λ e. no_ (omega (arith, e)))) (same_or_not a b)

    absent : (us : List ℕ) → ((u : ℕ) → IsAmong us u → u ≡ v → ⊥) → count_by (λ (u : ℕ). eqb u v) us ≡ 0
    absent [] none = refl
    absent (u ∷ us) none =
        let c = count-cons (λ (x : ℕ). eqb x v) u us in
        let no : cond {A = ℕ} (eqb u v) 1 0 ≡ 0 = ap (λ (t : Bool). cond {A = ℕ} t 1 0) (ne_eqb u v (none u (inl refl))) in
        let rest = absent us (λ x has. none x (inr has)) in omega (arith, c, no, rest)

    at : (t : Bool) {n m : ℕ} → n ≡ cond {A = ℕ} t 1 0 + m → m ≡ 0 → n ≤ 1
    at true c none = omega (arith, c, none)
    at false c none = omega (arith, c, none)

pub rising_counts : (vs : List ℕ) → AreRising vs → (v : ℕ) → count_by (λ (w : ℕ). eqb w v) vs ≤ 1
rising_counts vs rising v = rising_once vs rising v

-- ---- By logger

module _ {X : Type 0} (key : X → ℕ) where
  -- those on this logger
  abbrev pub on : ℕ → List X → List X
  on v xs = filter (λ (x : X). eqb (key x) v) xs

  -- all, logger by logger
  abbrev pub total : (c : X → ℕ) → List ℕ → List X → ℕ
  total c [] xs = 0
  total c (v ∷ view) xs = sum_by c (on v xs) + total c view xs

  module _ (c : X → ℕ) (x : X) (xs : List X) where
    none_more : (view : List ℕ) → AllByRecursion (λ (w : ℕ). key x ≢ w) view → total c view (x ∷ xs) ≡ total c view xs
    none_more [] none = refl
    none_more (v ∷ view) none =
        let here : sum_by c (on v (x ∷ xs)) ≡ sum_by c (on v xs) = ap (λ (t : Bool). sum_by c (cond t (x ∷ on v xs) (on v xs))) (ne_eqb (key x) v none.0) in
        let rest = none_more view none.1 in omega (arith, here, rest)

    one_more : (view : List ℕ) → AreApart view → total c view (x ∷ xs) ≤ c x + total c view xs
    one_more [] apart = omega arith
    one_more (v ∷ view) apart = at (eqb (key x) v) refl (one_more view apart.1) (λ same. none_more view (subst (λ (k : ℕ). AllByRecursion (λ (w : ℕ). k ≢ w) view) (sym same) apart.0))
      where
        at : (t : Bool) → eqb (key x) v ≡ t → total c view (x ∷ xs) ≤ c x + total c view xs → (key x ≡ v → total c view (x ∷ xs) ≡ total c view xs) → sum_by c (cond t (x ∷ on v xs) (on v xs)) + total c view (x ∷ xs) ≤ c x + (sum_by c (on v xs) + total c view xs)
        at true e rest none = let s = sum_by-cons c x (on v xs) in let n = none (eqb-true (key x) v e) in omega (arith, s, n)
        at false e rest none = omega (arith, rest)

  -- no more than all together where no logger comes twice
  pub total_less : (c : X → ℕ) (view : List ℕ) (xs : List X) → AreApart view → total c view xs ≤ sum_by c xs
  total_less c view [] apart = nothing view
    where
      nothing : (view : List ℕ) → total c view [] ≤ 0
      nothing [] = omega arith
      nothing (v ∷ view) = let rest = nothing view in omega (arith, rest)
  total_less c view (x ∷ xs) apart = let a = one_more c x xs view apart in let b = total_less c view xs apart in let s = sum_by-cons c x xs in omega (arith, a, b, s)
