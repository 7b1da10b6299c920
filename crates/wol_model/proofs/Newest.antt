-- The newest record of joined lists.
use Rattle.std.proofs.Common.{◌≡◌, ℕ, Bool, true, false, cond, ◌&&◌, ◌||◌, List, [], ◌∷◌, ◌++◌, map, Option, None, Some, refl, sym, ap, ◌∙◌, arith, eqb, ltb, ◌<◌, ◌≢◌}
use Rattle.std.specs.Prelude.{⊤}
use Rattle.std.proofs.lemmas.Bool.Decides.{nat_tests}
use Rattle.std.proofs.lemmas.Bool.{ne_eqb}
use Rattle.std.specs.List.{list_any, AllByRecursion}
use Rattle.std.specs.Option.{option_and_then}
use Rattle.wol_model.specs.Extents.{Cover, newer_of, newest, has_newer, has_older, AreDistinct, IsValid}

-- the newest of two parts
abbrev pub newest_of : {X : Type 0} → (X → Cover) → Option X → Option X → Option X
newest_of head None y = y
newest_of head (Some x) y = newer_of head x y

-- whether one is above a version
abbrev pub above : {X : Type 0} → (X → Cover) → ℕ → Option X → Bool
above head v None = false
above head v (Some x) = ltb v (head x).version

pub or_assoc : (a b c : Bool) → (a || (b || c)) ≡ ((a || b) || c)
or_assoc true b c = refl
or_assoc false b c = refl

pub or_false : (a b : Bool) → (a || b) ≡ false → (a ≡ false) × (b ≡ false)
or_false true b e = cc
or_false false b e = (refl, e)

-- a record of this version covers block b
abbrev pub has_same : List Cover → ℕ → ℕ → Bool
has_same hs version b = list_any (λ h. h.covers b && eqb h.version version) hs

module _ {X : Type 0} (head : X → Cover) where
  three : (x a b : X) → newer_of head x (newer_of head a (Some b)) ≡ newest_of head (newer_of head x (Some a)) (Some b)
  three x a b = grind (arith, nat_tests)

  two : (x a : X) → newer_of head x (Some a) ≡ newest_of head (newer_of head x (Some a)) None
  two x a = elim (ltb (head x).version (head a).version) as (λ t. cond t (Some a) (Some x) ≡ newest_of head (cond t (Some a) (Some x)) None) [ true ↦ refl | false ↦ refl ]

  joined : (x : X) (a b : Option X) → newer_of head x (newest_of head a b) ≡ newest_of head (newer_of head x a) b
  joined x None b = refl
  joined x (Some a) None = two x a
  joined x (Some a) (Some b) = three x a b

  pub newest-append : (xs ys : List X) (b : ℕ) → newest head (xs ++ ys) b ≡ newest_of head (newest head xs b) (newest head ys b)
  newest-append [] ys b = refl
  newest-append (x ∷ xs) ys b = rw (newest-append xs ys b) (at ((head x).covers b))
    where
      at : (t : Bool) → cond t (newer_of head x (newest_of head (newest head xs b) (newest head ys b))) (newest_of head (newest head xs b) (newest head ys b)) ≡ newest_of head (cond t (newer_of head x (newest head xs b)) (newest head xs b)) (newest head ys b)
      at true = joined x (newest head xs b) (newest head ys b)
      at false = refl

  above_either : (v : ℕ) (x : X) (o : Option X) → (ltb v (head x).version || above head v o) ≡ above head v (newer_of head x o)
  above_either v x None = elim (ltb v (head x).version) as (λ t. (t || false) ≡ t) [ true ↦ refl | false ↦ refl ]
  above_either v x (Some y) = grind (arith, nat_tests)

  -- a newer one covers the block just where the newest one is newer
  pub newer_is_above : (xs : List X) (v b : ℕ) → has_newer (map head xs) v b ≡ above head v (newest head xs b)
  newer_is_above [] v b = refl
  newer_is_above (x ∷ xs) v b = rw (newer_is_above xs v b) (at ((head x).covers b))
    where
      at : (t : Bool) → ((t && ltb v (head x).version) || above head v (newest head xs b)) ≡ above head v (cond t (newer_of head x (newest head xs b)) (newest head xs b))
      at true = above_either v x (newest head xs b)
      at false = refl

  three_ways : (a v : ℕ) (p q r : Bool) → (ltb v a || p) ≡ false → (ltb a v || q) ≡ false → (eqb a v || r) ≡ false → ⊥
  three_ways a v p q r n o s = grind (arith, nat_tests)

  -- a newer one on either side outweighs an element
  pub outweighed : (x : X) (a b : Option X) → (above head (head x).version a || above head (head x).version b) ≡ true → newest_of head a (newer_of head x b) ≡ newest_of head a b
  outweighed x None None n = cc
  outweighed x None (Some b) n = grind (arith, nat_tests)
  outweighed x (Some a) None n = grind (arith, nat_tests)
  outweighed x (Some a) (Some b) n = grind (arith, nat_tests)

  -- one element in place of another of the same version
  pub in_place : {Y : Type 0} (of : X → Option Y) (x y : X) (a b : Option X) → (head y).version ≡ (head x).version → of y ≡ of x → option_and_then of (newest_of head a (newer_of head y b)) ≡ option_and_then of (newest_of head a (newer_of head x b))
  in_place of x y None None v e = e
  in_place of x y None (Some b) v e = rw v (choose (ltb (head x).version (head b).version))
    where
      choose : (t : Bool) → option_and_then of (cond t (Some b) (Some y)) ≡ option_and_then of (cond t (Some b) (Some x))
      choose true = refl
      choose false = e
  in_place of x y (Some a) None v e = rw v (choose (ltb (head a).version (head x).version))
    where
      choose : (t : Bool) → option_and_then of (cond t (Some y) (Some a)) ≡ option_and_then of (cond t (Some x) (Some a))
      choose true = e
      choose false = refl
  in_place of x y (Some a) (Some b) v e = rw v (choose (ltb (head x).version (head b).version))
    where
      last : (t : Bool) → option_and_then of (cond t (Some y) (Some a)) ≡ option_and_then of (cond t (Some x) (Some a))
      last true = e
      last false = refl

      choose : (t : Bool) → option_and_then of (newer_of head a (cond t (Some b) (Some y))) ≡ option_and_then of (newer_of head a (cond t (Some b) (Some x)))
      choose true = refl
      choose false = rw v (last (ltb (head a).version (head x).version))

  -- the newest of all is above an element just where one on either side is
  pub above_sides : (x : X) (a b : Option X) → above head (head x).version (newest_of head a (newer_of head x b)) ≡ (above head (head x).version a || above head (head x).version b)
  above_sides x None None = grind (arith, nat_tests)
  above_sides x None (Some b) = grind (arith, nat_tests)
  above_sides x (Some a) None = grind (arith, nat_tests)
  above_sides x (Some a) (Some b) = grind (arith, nat_tests)

  -- a test of some head, in parts
  pub any_parts : (p : Cover → Bool) (xs ys : List X) → list_any p (map head (xs ++ ys)) ≡ (list_any p (map head xs) || list_any p (map head ys))
  any_parts p [] ys = refl
  any_parts p (x ∷ xs) ys = rw (any_parts p xs ys) (or_assoc (p (head x)) (list_any p (map head xs)) (list_any p (map head ys)))

  -- where none is newer, older or of the same version, none covers the block
  pub none_covers : (xs : List X) (v b : ℕ) → has_newer (map head xs) v b ≡ false → has_older (map head xs) v b ≡ false → has_same (map head xs) v b ≡ false → newest head xs b ≡ None
  none_covers [] v b no_newer no_older no_same = refl
  none_covers (x ∷ xs) v b no_newer no_older no_same = at ((head x).covers b) no_newer no_older no_same (none_covers xs v b)
    where
      at : (t : Bool) → ((t && ltb v (head x).version) || has_newer (map head xs) v b) ≡ false → ((t && ltb (head x).version v) || has_older (map head xs) v b) ≡ false → ((t && eqb (head x).version v) || has_same (map head xs) v b) ≡ false
          → (has_newer (map head xs) v b ≡ false → has_older (map head xs) v b ≡ false → has_same (map head xs) v b ≡ false → newest head xs b ≡ None)
          → cond t (newer_of head x (newest head xs b)) (newest head xs b) ≡ None
      at true n o s rest = absurd (three_ways (head x).version v (has_newer (map head xs) v b) (has_older (map head xs) v b) (has_same (map head xs) v b) n o s)
      at false n o s rest = rest n o s

-- one is below a version, if there is one
abbrev pub Below : {X : Type 0} → (X → Cover) → ℕ → Option X → Type 0
Below head v None = ⊤
Below head v (Some x) = (head x).version < v

module _ {X : Type 0} (head : X → Cover) where
  below_newer : (v : ℕ) (x : X) (o : Option X) → (head x).version < v → Below head v o → Below head v (newer_of head x o)
  below_newer v x None lt rest = lt
  below_newer v x (Some y) lt rest = at (ltb (head x).version (head y).version)
    where
      at : (t : Bool) → Below head v (cond t (Some y) (Some x))
      at true = rest
      at false = lt

  pub all_below : (xs : List X) (v b : ℕ) → AllByRecursion (λ x. (head x).version < v) xs → Below head v (newest head xs b)
  all_below [] v b all = tt
  all_below (x ∷ xs) v b all = at ((head x).covers b) (all_below xs v b all.1)
    where
      at : (t : Bool) → Below head v (newest head xs b) → Below head v (cond t (newer_of head x (newest head xs b)) (newest head xs b))
      at true rest = below_newer v x (newest head xs b) all.0 rest
      at false rest = rest

  -- one above all others is the newest
  pub above_all : (x : X) (a b : Option X) → Below head (head x).version a → Below head (head x).version b → newest_of head a (newer_of head x b) ≡ Some x
  above_all x None None l r = refl
  above_all x None (Some b) l r = grind (arith, nat_tests)
  above_all x (Some a) None l r = grind (arith, nat_tests)
  above_all x (Some a) (Some b) l r = grind (arith, nat_tests)

  pub none_of_nothing : (xs : List X) (b : ℕ) → AllByRecursion (λ x. (c : ℕ) → (head x).covers c ≡ false) xs → newest head xs b ≡ None
  none_of_nothing [] b all = refl
  none_of_nothing (x ∷ xs) b all = ap (λ (t : Bool). cond t (newer_of head x (newest head xs b)) (newest head xs b)) (all.0 b) ∙ none_of_nothing xs b all.1

  all_at : (P : Cover → Type 0) (xs : List X) (x : X) (ys : List X) → AllByRecursion P (map head (xs ++ x ∷ ys)) → P (head x)
  all_at P [] x ys all = all.0
  all_at P (y ∷ xs) x ys all = all_at P xs x ys all.1

  other : (h g : Cover) (b : ℕ) → (IsValid h → IsValid g → h.version ≢ g.version) → h.covers b ≡ true → (t : Bool) → g.covers b ≡ t → (t && eqb g.version h.version) ≡ false
  other h g b apart c true k = let differ : h.version ≢ g.version = apart (b, c) (b, k) in ne_eqb g.version h.version (λ e. differ (sym e))
  other h g b apart c false k = refl

  none_same : (h : Cover) (ys : List X) (b : ℕ) → h.covers b ≡ true → AllByRecursion (λ g. IsValid h → IsValid g → h.version ≢ g.version) (map head ys) → has_same (map head ys) h.version b ≡ false
  none_same h [] b c all = refl
  none_same h (y ∷ ys) b c all = λ i. other h (head y) b all.0 c ((head y).covers b) refl i || none_same h ys b c all.1 i

  -- where valid records differ in their versions, no other one of this version covers the block
  pub no_twin : (xs : List X) (x : X) (ys : List X) (b : ℕ) → (head x).covers b ≡ true → AreDistinct (map head (xs ++ x ∷ ys)) → has_same (map head (xs ++ ys)) (head x).version b ≡ false
  no_twin [] x ys b c apart = none_same (head x) ys b c apart.0
  no_twin (y ∷ xs) x ys b c apart =
      let P : Cover → Type 0 = λ g. IsValid (head y) → IsValid g → (head y).version ≢ g.version in
      λ i. other (head x) (head y) b (λ v w e. all_at P xs x ys apart.0 w v (sym e)) c ((head y).covers b) refl i || no_twin xs x ys b c apart.1 i
