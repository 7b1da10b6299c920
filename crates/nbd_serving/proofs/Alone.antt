-- The entries of a volume that none but its worker has used.
use Rattle.std.proofs.Common.{◌≡◌, ◌≢◌, ◌==◌, ℕ, Bool, true, false, cond, List, [], ◌∷◌, ◌++◌, refl, sym, ap, subst, ◌∙◌}
use Rattle.std.specs.List.{AllByRecursion}
use Rattle.std.proofs.lemmas.Bool.{eq-eqb}
use Rattle.turn_lock.specs.Histories.{Entry, own, Begins}

module _ (k : ℕ) where
  -- each of these entries is of pass k
  abbrev pub AreOf : List Entry → Type 0
  AreOf es = AllByRecursion (λ (e : Entry). (e.0 == k) ≡ true) es

  own_rest : (n : ℕ) (e : Entry) (es : List Entry) → own n (e ∷ es) ≡ [] → own n es ≡ []
  own_rest n e es none = by (e.0 == n) refl
    where
      by : (t : Bool) → (e.0 == n) ≡ t → own n es ≡ []
      by true is = absurd (let no : e ∷ own n es ≡ [] = sym (ap (λ (t : Bool). cond t (e ∷ own n es) (own n es)) is) ∙ none in cc)
      by false is = sym (ap (λ (t : Bool). cond t (e ∷ own n es) (own n es)) is) ∙ none

  -- so it is where no other pass has one
  pub all_of : (es : List Entry) → ((n : ℕ) → n ≢ k → own n es ≡ []) → AreOf es
  all_of [] none = tt
  all_of (e ∷ es) none = (by (e.0 == k) refl, all_of es (λ n other. own_rest n e es (none n other)))
    where
      by : (t : Bool) → (e.0 == k) ≡ t → t ≡ true
      by true is = refl
      by false is =
          let other : e.0 ≢ k = λ same. let yes : (e.0 == k) ≡ true = eq-eqb e.0 k same in cc in
          let first : own e.0 (e ∷ es) ≡ e ∷ own e.0 es = ap (λ (b : Bool). cond b (e ∷ own e.0 es) (own e.0 es)) (eq-eqb e.0 e.0 refl) in
          absurd (let no : e ∷ own e.0 es ≡ [] = sym first ∙ none e.0 other in cc)

  all_front : (xs ys : List Entry) → AreOf (xs ++ ys) → AreOf xs
  all_front [] ys all = tt
  all_front (x ∷ xs) ys all = (all.0, all_front xs ys all.1)

  pub all_begins : (xs es : List Entry) → Begins xs es → AreOf es → AreOf xs
  all_begins xs es (more, is) all = all_front xs more (subst AreOf (sym is) all)

  -- and then all are its own
  pub own_all : (es : List Entry) → AreOf es → own k es ≡ es
  own_all [] all = refl
  own_all (e ∷ es) all = ap (λ (t : Bool). cond t (e ∷ own k es) (own k es)) all.0 ∙ ap (λ (xs : List Entry). e ∷ xs) (own_all es all.1)
