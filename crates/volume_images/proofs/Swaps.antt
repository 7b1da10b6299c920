-- An element that left a list for a while, with the last one in its place.
use Rattle.std.proofs.Common.{◌≡◌, ◌≢◌, ⊎_elim, ℕ, ◌+◌, ◌-◌, ◌<◌, List, [], ◌∷◌, ◌++◌, length, get_or, set, sym, ap, ◌∙◌, subst, arith}
use Rattle.std.proofs.lemmas.Bool.{cases_eq}
use Rattle.std.proofs.lemmas.List.{same_lists, get_or-set_same, get_or-set_other, get_or_append_left, length-set}
use Rattle.std.proofs.Math.Seq.{get_or-append_seam}
use Rattle.std.specs.List.{SwappedAt}

module _ {X : Type 0} (xs ms ys : List X) (i : ℕ) (y : X) (lt : i < length xs) (len : length ms + 1 ≡ length xs) (kept_len : length ys ≡ length xs)
    (moved : (d : X) → i + 1 < length xs → get_or ms i d ≡ get_or xs (length xs - 1) d)
    (kept : (k : ℕ) (d : X) → k ≢ i → k + 1 < length xs → get_or ms k d ≡ get_or xs k d)
    (swapped : SwappedAt (ms ++ y ∷ []) ys i (length xs - 1)) where
  last : (d : X) → get_or (ms ++ y ∷ []) (length xs - 1) d ≡ y
  last d = let e : length xs - 1 ≡ length ms = omega (arith, len) in ap (λ (n : ℕ). get_or (ms ++ y ∷ []) n d) e ∙ get_or-append_seam ms y [] d

  front : (k : ℕ) (d : X) → k + 1 < length xs → get_or (ms ++ y ∷ []) k d ≡ get_or ms k d
  front k d below = get_or_append_left ms (y ∷ []) d k (omega (arith, len, below))

  here : (k : ℕ) (d : X) → k ≡ i → get_or ys k d ≡ get_or (set xs i y) k d
  here k d e =
      ap (λ (n : ℕ). get_or ys n d) e ∙ swapped.0 d ∙ last d ∙ sym (get_or-set_same xs i y d lt) ∙ sym (ap (λ (n : ℕ). get_or (set xs i y) n d) e)

  at_last : (k : ℕ) (d : X) → k ≢ i → k ≡ length xs - 1 → get_or ys k d ≡ get_or xs k d
  at_last k d other e =
      let below : i + 1 < length xs = omega (arith, lt, other, e) in
      ap (λ (n : ℕ). get_or ys n d) e ∙ swapped.1 d ∙ front i d below ∙ moved d below ∙ sym (ap (λ (n : ℕ). get_or xs n d) e)

  inside : (k : ℕ) (d : X) → k < length xs → k ≢ i → k ≢ length xs - 1 → get_or ys k d ≡ get_or xs k d
  inside k d within other more =
      let below : k + 1 < length xs = omega (arith, within, more) in
      swapped.2 k d other more ∙ front k d below ∙ kept k d other below

  there : (k : ℕ) (d : X) → k < length xs → k ≢ i → get_or ys k d ≡ get_or (set xs i y) k d
  there k d within other =
      ⊎_elim (at_last k d other) (inside k d within other) (cases_eq k (length xs - 1)) ∙ sym (get_or-set_other xs i k y d other)

  -- it is put back as another
  pub put_back : ys ≡ set xs i y
  put_back = same_lists ys (set xs i y) (kept_len ∙ sym (length-set xs i y)) (λ k d within. ⊎_elim (here k d) (there k d (omega (arith, within, kept_len))) (cases_eq k i))

-- the same by what the calls of a list say
pub put_back_as : {X : Type 0} (xs ms zs ys : List X) (i n last_place : ℕ) (z y : X) → n ≡ length xs → last_place ≡ n - 1 → i < n → length ms + 1 ≡ n → length ys ≡ n
    → ((d : X) → i + 1 < n → get_or ms i d ≡ get_or xs (n - 1) d) → ((k : ℕ) (d : X) → k ≢ i → k + 1 < n → get_or ms k d ≡ get_or xs k d)
    → zs ≡ ms ++ z ∷ [] → z ≡ y → SwappedAt zs ys i last_place → ys ≡ set xs i y
put_back_as {X} xs ms zs ys i n last_place z y all is_last lt len kept_len moved kept pushed same swapped =
    let at_end : last_place ≡ length xs - 1 = omega (arith, all, is_last) in
    let before_end : n - 1 ≡ length xs - 1 = omega (arith, all) in
    put_back xs ms ys i y (omega (arith, all, lt)) (omega (arith, all, len)) (omega (arith, all, kept_len))
    (λ d below. moved d (omega (arith, all, below)) ∙ ap (λ (m : ℕ). get_or xs m d) before_end)
    (λ k d other below. kept k d other (omega (arith, all, below)))
    (subst (λ (m : ℕ). SwappedAt (ms ++ y ∷ []) ys i m) at_end (subst (λ (l : List X). SwappedAt l ys i last_place) (pushed ∙ ap (λ (x : X). ms ++ x ∷ []) same) swapped))
