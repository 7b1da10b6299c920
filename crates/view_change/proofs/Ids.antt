-- The ids of a view that is changed are those of a view.
use Rattle.std.proofs.Common.{◌≢◌, ◌<◌, ◌≤◌, ◌^◌, ℕ, zero, suc, Bool, true, false, List, [], ◌∷◌, ◌++◌, length, take, cond, arith, length-append}
use Rattle.std.specs.Prelude.{filter, Contains}
use Rattle.std.specs.List.{AllByRecursion}
use Rattle.wol_model.specs.Blocks.{AreApart}
use Rattle.wol_model.specs.Heads.{IsViewList}

-- ---- An id behind the others

all_then : {X : Type 0} (P : X → Type 0) (xs : List X) (x : X) → AllByRecursion P xs → P x → AllByRecursion P (xs ++ x ∷ [])
all_then P [] y all h = (h, tt)
all_then P (x ∷ xs) y all h = (all.0, all_then P xs y all.1 h)

contains_behind : (x : ℕ) (xs : List ℕ) (n : ℕ) → Contains xs n → Contains (x ∷ xs) n
contains_behind x xs n (k, within, is) = (suc k, omega (arith, within), is)

apart_then : (xs : List ℕ) (n : ℕ) → AreApart xs → (Contains xs n → ⊥) → AreApart (xs ++ n ∷ [])
apart_then [] n apart none = (tt, tt)
apart_then (x ∷ xs) n apart none =
    (all_then (λ w. x ≢ w) xs n apart.0 (λ e. none (0, omega arith, e)), apart_then xs n apart.1 (λ c. none (contains_behind x xs n c)))

pub view_with : (ids : List ℕ) (id : ℕ) → IsViewList ids → (Contains ids id → ⊥) → length ids < 16 → id < 2 ^ 32 → IsViewList (ids ++ id ∷ [])
view_with ids id is none room fits = record {
  few = let long = length-append ids (id ∷ []) in omega (arith, long, room);
  in_range = all_then (λ i. i < 2 ^ 32) ids id is.in_range fits;
  distinct = apart_then ids id is.distinct none;
}

-- ---- Some of the ids

module _ {X : Type 0} (P : X → Type 0) (p : X → Bool) where
  all_of_some : (xs : List X) → AllByRecursion P xs → AllByRecursion P (filter p xs)
  all_of_some [] all = tt
  all_of_some (x ∷ xs) all = go (p x) (all_of_some xs all.1)
    where
      go : (b : Bool) → AllByRecursion P (filter p xs) → AllByRecursion P (cond b (x ∷ filter p xs) (filter p xs))
      go true rest = (all.0, rest)
      go false rest = rest

fewer : {X : Type 0} (p : X → Bool) (xs : List X) → length (filter p xs) ≤ length xs
fewer p [] = omega arith
fewer p (x ∷ xs) = go (p x) (fewer p xs)
  where
    go : (b : Bool) → length (filter p xs) ≤ length xs → length (cond b (x ∷ filter p xs) (filter p xs)) ≤ length (x ∷ xs)
    go true less = omega (arith, less)
    go false less = omega (arith, less)

short : {X : Type 0} (n : ℕ) (xs : List X) → length (take n xs) ≤ n
short zero xs = omega arith
short (suc n) [] = omega arith
short (suc n) (x ∷ xs) = let less = short n xs in omega (arith, less)

-- of the first so many there are no more
pub front_is_short : {X : Type 0} (p : X → Bool) (xs : List X) (n : ℕ) → length (filter p (take n xs)) ≤ n
front_is_short p xs n = let less = fewer p (take n xs) in let front = short n xs in omega (arith, less, front)

apart_some : (p : ℕ → Bool) (xs : List ℕ) → AreApart xs → AreApart (filter p xs)
apart_some p [] apart = tt
apart_some p (x ∷ xs) apart = go (p x) (apart_some p xs apart.1)
  where
    go : (b : Bool) → AreApart (filter p xs) → AreApart (cond b (x ∷ filter p xs) (filter p xs))
    go true rest = (all_of_some (λ w. x ≢ w) p xs apart.0, rest)
    go false rest = rest

pub view_without : (p : ℕ → Bool) (ids : List ℕ) → IsViewList ids → IsViewList (filter p ids)
view_without p ids is = record {
  few = let less = fewer p ids in let few = is.few in omega (arith, less, few);
  in_range = all_of_some (λ i. i < 2 ^ 32) p ids is.in_range;
  distinct = apart_some p ids is.distinct;
}
