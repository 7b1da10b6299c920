-- The first element that passes a test, and its place.
use Rattle.std.proofs.Common.{◌≡◌, ◌<◌, ℕ, Bool, true, false, cond, List, [], ◌∷◌, map, length, Option, None, Some, refl, sym, ap, ◌∙◌}
use Rattle.std.specs.Prelude.{slice_get, IsSome, position, option_map}
use Rattle.std.specs.List.{find, position_or_len}
use Rattle.std.proofs.lemmas.List.Folds.{find_at}
use Rattle.std.proofs.lemmas.Bool.{lt-ltb, false≢true}
use Rattle.std.proofs.lemmas.Option.{slice_get_within}

module _ {X : Type 0} (p : X → Bool) where
  find_within : (xs : List X) → IsSome (find p xs) → position_or_len p xs < length xs
  find_within xs some = at (find p xs) refl some
    where
      at : (o : Option X) → find p xs ≡ o → IsSome o → position_or_len p xs < length xs
      at None e none = absurd (false≢true none)
      at (Some x) e there = slice_get_within xs (position_or_len p xs) x (sym (find_at p xs) ∙ e)

  pub found_some : (xs : List X) (r : Option ℕ) → r ≡ position p xs → IsSome (find p xs) → IsSome r
  found_some xs r is some = rw (is, lt-ltb (position_or_len p xs) (length xs) (find_within xs some)) refl

  pub found_is : (xs : List X) (r : Option ℕ) (k : ℕ) → r ≡ position p xs → IsSome (find p xs) → r ≡ Some k → find p xs ≡ slice_get xs k
  found_is xs r k is some at =
      let e : Some (position_or_len p xs) ≡ Some k = sym (ap (λ (b : Bool). cond b (Some (position_or_len p xs)) None) (lt-ltb (position_or_len p xs) (length xs) (find_within xs some))) ∙ sym is ∙ at in
      let f : position_or_len p xs ≡ k = cc in
      find_at p xs ∙ ap (slice_get xs) f

  pub find-map : {Y : Type 0} (v : Y → X) (ys : List Y) → find p (map v ys) ≡ option_map v (find (λ y. p (v y)) ys)
  find-map v [] = refl
  find-map {Y} v (y ∷ ys) = at (p (v y)) (find-map v ys)
    where
      at : (b : Bool) → find p (map v ys) ≡ option_map v (find (λ z. p (v z)) ys) → cond b (Some (v y)) (find p (map v ys)) ≡ option_map v (cond b (Some y) (find (λ z. p (v z)) ys))
      at true rest = refl
      at false rest = rest
