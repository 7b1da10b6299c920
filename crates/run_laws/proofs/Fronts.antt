-- Lists of which the elements that pass a test are the first ones.
use Rattle.std.proofs.Common.{◌≡◌, suc, Bool, true, false, cond, List, [], ◌∷◌, ◌++◌, refl, sym, ap, subst, ◌∙◌, length, take, ltb, arith}
use Rattle.std.specs.Prelude.{⊤}
use Rattle.std.specs.List.{filter}
use Rattle.std.proofs.lemmas.Bool.{lt-ltb, le-ltb, ltb-true, ltb-false}

false_true : {X : Type 0} → false ≡ true → X
false_true e = absurd (subst (λ (t : Bool). cond t ⊥ ⊤) e tt)

-- ---- the first element and the others

abbrev first_or : {X : Type 0} → X → List X → X
first_or d [] = d
first_or d (x ∷ xs) = x

abbrev others : {X : Type 0} → List X → List X
others [] = []
others (x ∷ xs) = xs

pub heads : {X : Type 0} (x y : X) (xs ys : List X) → x ∷ xs ≡ y ∷ ys → x ≡ y
heads x y xs ys same = ap (first_or x) same

pub tails : {X : Type 0} (x y : X) (xs ys : List X) → x ∷ xs ≡ y ∷ ys → xs ≡ ys
tails x y xs ys same = ap others same

-- behind fronts of the same length the elements are the same
pub head_behind : {X : Type 0} (f : List X) (g : List X) (x y : X) (xs ys : List X) → length f ≡ length g → f ++ x ∷ xs ≡ g ++ y ∷ ys → x ≡ y
head_behind [] [] x y xs ys same all = heads x y xs ys all
head_behind [] (b ∷ g) x y xs ys same all = absurd (omega (arith, same))
head_behind (a ∷ f) [] x y xs ys same all = absurd (omega (arith, same))
head_behind (a ∷ f) (b ∷ g) x y xs ys same all = head_behind f g x y xs ys (omega (arith, same)) (tails a b (f ++ x ∷ xs) (g ++ y ∷ ys) all)

-- ---- fronts of those that pass a test

module _ {X : Type 0} (p : X → Bool) where
  abbrev pub IsAhead : List X → Type 0
  IsAhead xs = filter p xs ≡ take (length (filter p xs)) xs

  -- the first of those that pass does pass
  head_passes : (xs : List X) (x : X) (rest : List X) → filter p xs ≡ x ∷ rest → p x ≡ true
  head_passes [] x rest same = absurd (omega (arith, ap length same))
  head_passes (y ∷ ys) x rest same = at (head_passes ys x rest) (p y) refl same
    where
      at : (filter p ys ≡ x ∷ rest → p x ≡ true) → (t : Bool) → p y ≡ t → cond t (y ∷ filter p ys) (filter p ys) ≡ x ∷ rest → p x ≡ true
      at further true is e = subst (λ (z : X). p z ≡ true) (heads y x (filter p ys) rest e) is
      at further false is e = further e

  -- where one is ahead without its first element passing, none passes
  none_ahead : (y : X) (ys : List X) → p y ≡ false → filter p ys ≡ take (length (filter p ys)) (y ∷ ys) → filter p ys ≡ []
  none_ahead y ys is ahead = at (filter p ys) refl
    where
      at : (l : List X) → filter p ys ≡ l → l ≡ []
      at [] same = refl
      at (z ∷ l) same =
          let front : z ∷ l ≡ y ∷ take (length l) ys = sym same ∙ (ahead ∙ ap (λ (m : List X). take (length m) (y ∷ ys)) same) in
          let passes = head_passes ys z l same in
          false_true (sym is ∙ subst (λ (w : X). p w ≡ true) (heads z y l (take (length l) ys) front) passes)

  none_then : (xs : List X) (x : X) (ys : List X) → filter p (xs ++ x ∷ ys) ≡ [] → p x ≡ false
  none_then [] x ys none = at (p x) refl none
    where
      at : (t : Bool) → p x ≡ t → cond t (x ∷ filter p ys) (filter p ys) ≡ [] → p x ≡ false
      at true is e = absurd (omega (arith, ap length e))
      at false is e = is
  none_then (w ∷ xs) x ys none = at (none_then xs x ys) (p w) none
    where
      at : (filter p (xs ++ x ∷ ys) ≡ [] → p x ≡ false) → (t : Bool) → cond t (w ∷ filter p (xs ++ x ∷ ys)) (filter p (xs ++ x ∷ ys)) ≡ [] → p x ≡ false
      at further true e = absurd (omega (arith, ap length e))
      at further false e = further e

  -- An element of such a list passes exactly where there are fewer before it than pass; and where it does, so do all before it.
  pub record Stands (xs : List X) (x : X) (ys : List X) : Type 0 where
    pub passes : ltb (length xs) (length (filter p (xs ++ x ∷ ys))) ≡ p x
    pub before : p x ≡ true → filter p (xs ++ x ∷ ys) ≡ xs ++ x ∷ filter p ys

  pub ahead : (xs : List X) (x : X) (ys : List X) → IsAhead (xs ++ x ∷ ys) → Stands xs x ys
  ahead [] x ys is = at (p x) refl is
    where
      Goal : Bool → Type 0
      Goal t = (ltb 0 (length (cond t (x ∷ filter p ys) (filter p ys))) ≡ t) × (t ≡ true → cond t (x ∷ filter p ys) (filter p ys) ≡ x ∷ filter p ys)

      at : (t : Bool) → p x ≡ t → cond t (x ∷ filter p ys) (filter p ys) ≡ take (length (cond t (x ∷ filter p ys) (filter p ys))) (x ∷ ys) → Stands [] x ys
      at t here e = record {
        passes = subst (λ (u : Bool). ltb 0 (length (cond u (x ∷ filter p ys) (filter p ys))) ≡ u) (sym here) (goal t here e).0;
        before = subst (λ (u : Bool). u ≡ true → cond u (x ∷ filter p ys) (filter p ys) ≡ x ∷ filter p ys) (sym here) (goal t here e).1;
      }
        where
          goal : (t : Bool) → p x ≡ t → cond t (x ∷ filter p ys) (filter p ys) ≡ take (length (cond t (x ∷ filter p ys) (filter p ys))) (x ∷ ys) → Goal t
          goal true here e = (lt-ltb 0 (length (x ∷ filter p ys)) (omega arith), λ _. refl)
          goal false here e = (
            le-ltb 0 (length (filter p ys)) (let none = ap length (none_ahead x ys here e) in omega (arith, none)),
            λ bad. false_true bad,
          )
  ahead (w ∷ xs) x ys is = at (ahead xs x ys) (p w) refl is
    where
      Goal : Bool → Type 0
      Goal t = (ltb (suc (length xs)) (length (cond t (w ∷ filter p (xs ++ x ∷ ys)) (filter p (xs ++ x ∷ ys)))) ≡ p x)
          × (p x ≡ true → cond t (w ∷ filter p (xs ++ x ∷ ys)) (filter p (xs ++ x ∷ ys)) ≡ w ∷ (xs ++ x ∷ filter p ys))

      more : (t : Bool) → p x ≡ t → ltb (length xs) (length (filter p (xs ++ x ∷ ys))) ≡ t → ltb (suc (length xs)) (suc (length (filter p (xs ++ x ∷ ys)))) ≡ t
      more true here e = lt-ltb (suc (length xs)) (suc (length (filter p (xs ++ x ∷ ys)))) (let l = ltb-true (length xs) (length (filter p (xs ++ x ∷ ys))) e in omega (arith, l))
      more false here e = le-ltb (suc (length xs)) (suc (length (filter p (xs ++ x ∷ ys)))) (let l = ltb-false (length xs) (length (filter p (xs ++ x ∷ ys))) e in omega (arith, l))

      goal : (IsAhead (xs ++ x ∷ ys) → Stands xs x ys) → (t : Bool) → p w ≡ t → cond t (w ∷ filter p (xs ++ x ∷ ys)) (filter p (xs ++ x ∷ ys)) ≡ take (length (cond t (w ∷ filter p (xs ++ x ∷ ys)) (filter p (xs ++ x ∷ ys)))) (w ∷ (xs ++ x ∷ ys)) → Goal t
      goal further true here e =
          let rest = further (tails w w (filter p (xs ++ x ∷ ys)) (take (length (filter p (xs ++ x ∷ ys))) (xs ++ x ∷ ys)) e) in
          (more (p x) refl rest.passes, λ yes. ap (λ (l : List X). w ∷ l) (rest.before yes))
      goal further false here e =
          let none = none_ahead w (xs ++ x ∷ ys) here e in
          let no = none_then xs x ys none in (
            le-ltb (suc (length xs)) (length (filter p (xs ++ x ∷ ys))) (let zero_long = ap length none in omega (arith, zero_long)) ∙ sym no,
            λ yes. false_true (sym no ∙ yes),
          )

      at : (IsAhead (xs ++ x ∷ ys) → Stands xs x ys) → (t : Bool) → p w ≡ t → cond t (w ∷ filter p (xs ++ x ∷ ys)) (filter p (xs ++ x ∷ ys)) ≡ take (length (cond t (w ∷ filter p (xs ++ x ∷ ys)) (filter p (xs ++ x ∷ ys)))) (w ∷ (xs ++ x ∷ ys)) → Stands (w ∷ xs) x ys
      at further t here e = record {
        passes = subst (λ (u : Bool). ltb (suc (length xs)) (length (cond u (w ∷ filter p (xs ++ x ∷ ys)) (filter p (xs ++ x ∷ ys)))) ≡ p x) (sym here) (goal further t here e).0;
        before = subst (λ (u : Bool). p x ≡ true → cond u (w ∷ filter p (xs ++ x ∷ ys)) (filter p (xs ++ x ∷ ys)) ≡ w ∷ (xs ++ x ∷ filter p ys)) (sym here) (goal further t here e).1;
      }
