-- The flags of a view's loggers, one more.
use Rattle.std.proofs.Common.{◌≡◌, ◌+◌, ◌<◌, ℕ, zero, suc, Bool, false, List, [], ◌∷◌, ◌++◌, All, length, map, take, Some, slice_index_or, refl, sym, ap, subst, ◌∙◌, arith}
use Rattle.std.specs.Prelude.{IfSome, slice_get, slice_set}
use Rattle.std.proofs.lemmas.List.{map-append, take_more, take_more_set, length-map, get_or-map, set-get_or}
use Rattle.std.proofs.lemmas.List.Elements.{All-get_or}
use Rattle.std.proofs.lemmas.Option.{get_or_from_slice_get, none-some, same_Some}

-- an element stands at each place of a list
pub there_is : {X : Type 0} (xs : List X) (k : ℕ) → k < length xs → (x : X) × (slice_get xs k ≡ Some x)
there_is [] k within = absurd (omega (arith, within))
there_is (x ∷ xs) zero within = (x, refl)
there_is (x ∷ xs) (suc k) within = there_is xs k (omega (arith, within))

-- what stands at a place of a mapped list
mapped_at : {X : Type 0} (f : X → ℕ) (xs : List X) (k : ℕ) (x : X) (d : ℕ) → slice_get xs k ≡ Some x → slice_index_or (map f xs) k d ≡ f x
mapped_at f [] k x d is = absurd (none-some x is)
mapped_at f (y ∷ xs) zero x d is = ap f (same_Some y x is)
mapped_at f (y ∷ xs) (suc k) x d is = mapped_at f xs k x d is

-- a place of as many flags is one of a list
pub place_of_flag : {X : Type 0} (now flags : List Bool) (xs : List X) (k : ℕ) → now ≡ flags → length flags ≡ length xs → k < length now → k < length xs
place_of_flag now flags xs k is count within = let same : length now ≡ length flags = ap length is in omega arith

module _ {X : Type 0} (f : X → ℕ) (xs : List X) (k r : ℕ) (within : k < length xs) (has : IfSome (slice_get xs k) (λ x. r ≡ f x)) where
  pub holds_too : (P : ℕ → Type 0) → All P (map f xs) → P r
  holds_too P all =
      let e = there_is xs k within in
      let is : r ≡ f e.0 = rw e.1 at has in
      let long : length (map f xs) ≡ length xs = length-map xs f in
      subst P (mapped_at f xs k e.0 r e.1 ∙ sym is) (All-get_or P (map f xs) k r (omega arith) all)

  pub front_more : (flags awake : List Bool) → k < length flags → take k flags ≡ map (λ v. slice_index_or awake v false) (map f (take k xs))
      → take (k + 1) (slice_set flags k (slice_index_or awake r false)) ≡ map (λ v. slice_index_or awake v false) (map f (take (k + 1) xs))
  front_more flags awake room front =
      let e = there_is xs k within in
      let is : r ≡ f e.0 = rw e.1 at has in
      let next : take (k + 1) xs ≡ take k xs ++ e.0 ∷ [] = take_more xs k e.0 within ∙ ap (λ (y : X). take k xs ++ y ∷ []) (get_or_from_slice_get xs k e.0 e.0 e.1) in
      let right : map (λ (v : ℕ). slice_index_or awake v false) (map f (take (k + 1) xs)) ≡ map (λ (v : ℕ). slice_index_or awake v false) (map f (take k xs)) ++ slice_index_or awake (f e.0) false ∷ [] =
      ap (λ (ys : List X). map (λ (v : ℕ). slice_index_or awake v false) (map f ys)) next
      ∙ (ap (map (λ (v : ℕ). slice_index_or awake v false)) (map-append f (take k xs) (e.0 ∷ [])) ∙ map-append (λ (v : ℕ). slice_index_or awake v false) (map f (take k xs)) (f e.0 ∷ [])) in
      take_more_set flags k (slice_index_or awake r false) room
      ∙ (ap (λ (ys : List Bool). ys ++ slice_index_or awake r false ∷ []) front
      ∙ (ap (λ (v : ℕ). map (λ (u : ℕ). slice_index_or awake u false) (map f (take k xs)) ++ slice_index_or awake v false ∷ []) is ∙ sym right))

  -- .. where it is set already
  pub front_same : (flags awake : List Bool) → k < length flags → slice_index_or flags k false ≡ slice_index_or awake r false → take k flags ≡ map (λ v. slice_index_or awake v false) (map f (take k xs))
      → take (k + 1) flags ≡ map (λ v. slice_index_or awake v false) (map f (take (k + 1) xs))
  front_same flags awake room same front = subst (λ (bs : List Bool). take (k + 1) bs ≡ map (λ (v : ℕ). slice_index_or awake v false) (map f (take (k + 1) xs)))
      (ap (slice_set flags k) (sym same) ∙ set-get_or flags k false) (front_more flags awake room front)

  -- the flag that stands there
  pub flag_at : (awake : List Bool) → slice_index_or (map (λ v. slice_index_or awake v false) (map f xs)) k false ≡ slice_index_or awake r false
  flag_at awake =
      let e = there_is xs k within in
      let is : r ≡ f e.0 = rw e.1 at has in
      let long : length (map f xs) ≡ length xs = length-map xs f in
      get_or-map (λ (v : ℕ). slice_index_or awake v false) (map f xs) k 0 false (omega arith) ∙ ap (λ (v : ℕ). slice_index_or awake v false) (mapped_at f xs k e.0 0 e.1 ∙ sym is)
