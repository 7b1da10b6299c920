-- Ids of which no two are equal.
use Rattle.std.proofs.Common.{◌≡◌, ◌≢◌, ◌↔◌, ℕ, ◌+◌, ◌<◌, Bool, true, false, List, [], ◌∷◌, length, drop, get_or, nat_eq, ◌||◌, take, ◌-◌, refl, sym, arith}
use Rattle.std.specs.List.{list_any, AllByRecursion}
use Rattle.std.proofs.lemmas.Bool.{eqb-true, eqb-false}
use Rattle.std.proofs.lemmas.List.{drop_more, take_all, length-drop}
use Rattle.wol_model.specs.Blocks.{AreApart}

-- the number x stands among these
abbrev pub is_among : ℕ → List ℕ → Bool
is_among x xs = list_any (λ y. nat_eq y x) xs

apart_at : (x y : ℕ) (ys : List ℕ) (t : Bool) → nat_eq y x ≡ t → (is_among x ys ≡ false → AllByRecursion (λ z. x ≢ z) ys) → (t || is_among x ys) ≡ false → (x ≢ y) × AllByRecursion (λ z. x ≢ z) ys
apart_at x y ys true is more e = absurd (let e : true ≡ false = e in cc)
apart_at x y ys false is more e = (λ same. eqb-false y x is (sym same), more e)

-- a number differs from each of those among which it isn't found
pub apart_from : (x : ℕ) (xs : List ℕ) → is_among x xs ≡ false → AllByRecursion (λ y. x ≢ y) xs
apart_from x [] e = tt
apart_from x (y ∷ ys) e = apart_at x y ys (nat_eq y x) refl (apart_from x ys) e

found_at : (x y : ℕ) (ys : List ℕ) (t : Bool) → nat_eq y x ≡ t → (is_among x ys ≡ true → AllByRecursion (λ z. x ≢ z) ys → ⊥) → (t || is_among x ys) ≡ true → (x ≢ y) × AllByRecursion (λ z. x ≢ z) ys → ⊥
found_at x y ys true is more e h = h.0 (sym (eqb-true y x is))
found_at x y ys false is more e h = more e h.1

pub found_in : (x : ℕ) (xs : List ℕ) → is_among x xs ≡ true → AllByRecursion (λ y. x ≢ y) xs → ⊥
found_in x [] e h = cc
found_in x (y ∷ ys) e h = found_at x y ys (nat_eq y x) refl (found_in x ys) e h

-- the ids behind place i, as a slice has them
abbrev pub behind : List ℕ → ℕ → List ℕ
behind ids i = take (length ids - (i + 1)) (drop (i + 1) ids)

behind_all : (ids : List ℕ) (i : ℕ) → behind ids i ≡ drop (i + 1) ids
behind_all ids i = take_all (length ids - (i + 1)) (drop (i + 1) ids) (omega (arith, length-drop (i + 1) ids))

-- the ids from i on are apart where the first of them is apart from the rest, and the rest are
pub apart_more : (ids : List ℕ) (i : ℕ) → i < length ids → is_among (get_or ids i 0) (behind ids i) ≡ false → AreApart (drop i ids) ↔ AreApart (drop (i + 1) ids)
apart_more ids i inside e = let first = apart_from (get_or ids i 0) (drop (i + 1) ids) (rw (behind_all ids i) at e) in rw (drop_more ids i 0 inside) (λ h. h.1, λ h. (first, h))

pub apart_none : (ids : List ℕ) (i : ℕ) → i < length ids → is_among (get_or ids i 0) (behind ids i) ≡ true → AreApart (drop i ids) → ⊥
apart_none ids i inside e h = let k : AreApart (get_or ids i 0 ∷ drop (i + 1) ids) = rw (drop_more ids i 0 inside) at h in found_in (get_or ids i 0) (drop (i + 1) ids) (rw (behind_all ids i) at e) k.0
