-- Segments of a log: a record comes into one, and leaves it.
use Rattle.std.proofs.Common.{◌⊎◌, ◌≢◌, inl, inr, ◌≡◌, ◌<◌, ◌≤◌, ℕ, zero, suc, Bool, true, false, cond, not, List, [], ◌∷◌, ◌++◌, map, length, get_or, Option, None, Some, refl, sym, ap, ◌∙◌, arith, eqb, leb}
use Rattle.std.specs.Prelude.{position, slice_get, slice_set}
use Rattle.std.specs.List.{AllByRecursion, filter, remove}
use Rattle.std.specs.Option.{option_map_or}
use Rattle.std.proofs.lemmas.Bool.{false≢true, eq-eqb, ne_eqb, cases_eq}
use Rattle.std.proofs.lemmas.Option.{none-some, same_Some}
use Rattle.std.proofs.lemmas.List.Quantifiers.{position-Some}
use mathlib.Core.Path.{fun_ext}
use Rattle.whatif.specs.declared.store.Segment.{Segment}
use Rattle.whatif.specs.declared.store.Shelf.{Shelf}
use Rattle.whatif.specs.Logs as logs
use Rattle.whatif.specs.Logs.{cleared, filed, has_record, if_some, new_segment, no_shelf, shelf_changed, taking}
use Rattle.whatif.specs.Volumes.{segment_in, shelf_at, shelf_in}
use Rattle.whatif.proofs.Lists.{NonePass, got_or, passes_none}

-- ---- a record comes

module _ (whole size version : ℕ) where
  filed_here : (xs : List Segment) (k : ℕ) (x y : Segment) → slice_get xs k ≡ Some x → leb size x.left ≡ true → ((j : ℕ) → j < k → leb size (get_or xs j x).left ≡ false) → segment_in y ≡ taking size version (segment_in x)
      → map segment_in (slice_set xs k y) ≡ filed whole size version (map segment_in xs)
  filed_here [] k x y at passes before is = absurd (none-some x at)
  filed_here (z ∷ xs) zero x y at passes before is =
      let here : leb size z.left ≡ true = ap (λ (s : Segment). leb size s.left) (same_Some z x at) ∙ passes in
      let one : segment_in y ≡ taking size version (segment_in z) = is ∙ ap (λ (s : Segment). taking size version (segment_in s)) (sym (same_Some z x at)) in
      (λ i. one i ∷ map segment_in xs) ∙ (λ i. cond (sym here i) (taking size version (segment_in z) ∷ map segment_in xs) (segment_in z ∷ filed whole size version (map segment_in xs)))
  filed_here (z ∷ xs) (suc k) x y at passes before is =
      let fails : leb size z.left ≡ false = before 0 (omega arith) in
      let rest = filed_here xs k x y at passes (λ j lt. before (suc j) (omega arith)) is in
      (λ i. segment_in z ∷ rest i) ∙ (λ i. cond (sym fails i) (taking size version (segment_in z) ∷ map segment_in xs) (segment_in z ∷ filed whole size version (map segment_in xs)))

  pub filed_some : (xs : List Segment) (k : ℕ) (d y : Segment) → position (λ (s : Segment). leb size s.left) xs ≡ Some k → segment_in y ≡ taking size version (segment_in (get_or xs k d))
      → map segment_in (slice_set xs k y) ≡ filed whole size version (map segment_in xs)
  filed_some xs k d y found is =
      let x = get_or xs k d in
      let p = position-Some (λ (s : Segment). leb size s.left) xs k d found in
      let q = position-Some (λ (s : Segment). leb size s.left) xs k x found in
      filed_here xs k x y (got_or xs k d p.0) p.1 q.2 is

  filed_past : (xs : List Segment) (y : Segment) → NonePass (λ (s : Segment). leb size s.left) xs → segment_in y ≡ taking size version (new_segment whole) → map segment_in (xs ++ y ∷ []) ≡ filed whole size version (map segment_in xs)
  filed_past [] y none is = λ i. is i ∷ []
  filed_past (z ∷ xs) y none is =
      (λ i. segment_in z ∷ filed_past xs y none.1 is i) ∙ (λ i. cond (sym none.0 i) (taking size version (segment_in z) ∷ map segment_in xs) (segment_in z ∷ filed whole size version (map segment_in xs)))

  pub filed_none : (xs : List Segment) (y : Segment) → position (λ (s : Segment). leb size s.left) xs ≡ None → segment_in y ≡ taking size version (new_segment whole) → map segment_in (xs ++ y ∷ []) ≡ filed whole size version (map segment_in xs)
  filed_none xs y none is = filed_past xs y (passes_none (λ (s : Segment). leb size s.left) xs none) is

-- ---- a record leaves

some_kept : (left : ℕ) (rs : List ℕ) → eqb (length rs) 0 ≡ false → if_some left rs ≡ record { left = left; records = rs } ∷ []
some_kept left [] is = absurd (false≢true (sym is))
some_kept left (r ∷ rs) is = refl

none_kept : (left : ℕ) (rs : List ℕ) → eqb (length rs) 0 ≡ true → if_some left rs ≡ []
none_kept left [] is = refl
none_kept left (r ∷ rs) is = absurd (let some : eqb (suc (length rs)) 0 ≡ false = ne_eqb (suc (length rs)) 0 (λ e. absurd (omega (arith, e))) in false≢true (sym some ∙ is))

module _ (version : ℕ) where
  abbrev pub has : Segment → Bool
  has s = has_record version (segment_in s)

  abbrev pub rest_of : Segment → List ℕ
  rest_of s = filter (λ r. not (eqb r version)) s.records.items

  pub cleared_none : (xs : List Segment) → position has xs ≡ None → map segment_in xs ≡ cleared version (map segment_in xs)
  cleared_none xs none = all xs (passes_none has xs none)
    where
      all : (ys : List Segment) → NonePass has ys → map segment_in ys ≡ cleared version (map segment_in ys)
      all [] none = refl
      all (z ∷ ys) none = (λ i. segment_in z ∷ all ys none.1 i) ∙ (λ i. cond (sym none.0 i) (if_some z.left (rest_of z) ++ map segment_in ys) (segment_in z ∷ cleared version (map segment_in ys)))

  kept_here : (xs : List Segment) (k : ℕ) (x y : Segment) → slice_get xs k ≡ Some x → has x ≡ true → ((j : ℕ) → j < k → has (get_or xs j x) ≡ false) → y.left ≡ x.left → y.records.items ≡ rest_of x → eqb (length y.records.items) 0 ≡ false
      → map segment_in (slice_set xs k y) ≡ cleared version (map segment_in xs)
  kept_here [] k x y at passes before left records some = absurd (none-some x at)
  kept_here (z ∷ xs) zero x y at passes before left records some =
      let same = same_Some z x at in
      let here : has z ≡ true = ap has same ∙ passes in
      let rest : y.records.items ≡ rest_of z = records ∙ ap rest_of (sym same) in
      let over : y.left ≡ z.left = left ∙ ap (λ (s : Segment). s.left) (sym same) in
      ap (λ (l : List logs.Segment). l ++ map segment_in xs) (sym (some_kept y.left y.records.items some)) ∙ (λ i. if_some (over i) (rest i) ++ map segment_in xs)
      ∙ (λ i. cond (sym here i) (if_some z.left (rest_of z) ++ map segment_in xs) (segment_in z ∷ cleared version (map segment_in xs)))
  kept_here (z ∷ xs) (suc k) x y at passes before left records some =
      let fails : has z ≡ false = before 0 (omega arith) in
      let rest = kept_here xs k x y at passes (λ j lt. before (suc j) (omega arith)) left records some in
      (λ i. segment_in z ∷ rest i) ∙ (λ i. cond (sym fails i) (if_some z.left (rest_of z) ++ map segment_in xs) (segment_in z ∷ cleared version (map segment_in xs)))

  gone_here : (xs : List Segment) (k : ℕ) (x y : Segment) → slice_get xs k ≡ Some x → has x ≡ true → ((j : ℕ) → j < k → has (get_or xs j x) ≡ false) → y.records.items ≡ rest_of x → eqb (length y.records.items) 0 ≡ true
      → map segment_in (remove (slice_set xs k y) k) ≡ cleared version (map segment_in xs)
  gone_here [] k x y at passes before records none = absurd (none-some x at)
  gone_here (z ∷ xs) zero x y at passes before records none =
      let same = same_Some z x at in
      let here : has z ≡ true = ap has same ∙ passes in
      let rest : y.records.items ≡ rest_of z = records ∙ ap rest_of (sym same) in
      ap (λ (l : List logs.Segment). l ++ map segment_in xs) (sym (none_kept z.left y.records.items none)) ∙ (λ i. if_some z.left (rest i) ++ map segment_in xs)
      ∙ (λ i. cond (sym here i) (if_some z.left (rest_of z) ++ map segment_in xs) (segment_in z ∷ cleared version (map segment_in xs)))
  gone_here (z ∷ xs) (suc k) x y at passes before records none =
      let fails : has z ≡ false = before 0 (omega arith) in
      let rest = gone_here xs k x y at passes (λ j lt. before (suc j) (omega arith)) records none in
      (λ i. segment_in z ∷ rest i) ∙ (λ i. cond (sym fails i) (if_some z.left (rest_of z) ++ map segment_in xs) (segment_in z ∷ cleared version (map segment_in xs)))

  pub cleared_kept : (xs : List Segment) (k : ℕ) (d y : Segment) → position has xs ≡ Some k → y.left ≡ (get_or xs k d).left → y.records.items ≡ rest_of (get_or xs k d) → eqb (length y.records.items) 0 ≡ false
      → map segment_in (slice_set xs k y) ≡ cleared version (map segment_in xs)
  cleared_kept xs k d y found left records some =
      let p = position-Some has xs k d found in let q = position-Some has xs k (get_or xs k d) found in
      kept_here xs k (get_or xs k d) y (got_or xs k d p.0) p.1 q.2 left records some

  pub cleared_gone : (xs : List Segment) (k : ℕ) (d y : Segment) → position has xs ≡ Some k → y.records.items ≡ rest_of (get_or xs k d) → eqb (length y.records.items) 0 ≡ true
      → map segment_in (remove (slice_set xs k y) k) ≡ cleared version (map segment_in xs)
  cleared_gone xs k d y found records none =
      let p = position-Some has xs k d found in let q = position-Some has xs k (get_or xs k d) found in
      gone_here xs k (get_or xs k d) y (got_or xs k d p.0) p.1 q.2 records none

-- ---- all disks

set_get : (hs : List Shelf) (k d : ℕ) (h : Shelf) → k < length hs → slice_get (slice_set hs k h) d ≡ cond (eqb d k) (Some h) (slice_get hs d)
set_get [] k d h lt = absurd (omega arith)
set_get (x ∷ hs) zero zero h lt = refl
set_get (x ∷ hs) zero (suc d) h lt = sym (ap (λ (b : Bool). cond b (Some h) (slice_get hs d)) (ne_eqb (suc d) 0 (λ e. absurd (omega (arith, e)))))
set_get (x ∷ hs) (suc k) zero h lt = sym (ap (λ (b : Bool). cond b (Some h) (Some x)) (ne_eqb 0 (suc k) (λ e. absurd (omega (arith, e)))))
set_get (x ∷ hs) (suc k) (suc d) h lt = set_get hs k d h (omega arith) ∙ ap (λ (b : Bool). cond b (Some h) (slice_get hs d)) (more d k (cases_eq d k))
  where
    more : (a b : ℕ) → (a ≡ b) ⊎ (a ≢ b) → eqb a b ≡ eqb (suc a) (suc b)
    more a b (inl same) = eq-eqb a b same ∙ sym (eq-eqb (suc a) (suc b) (ap suc same))
    more a b (inr other) = ne_eqb a b other ∙ sym (ne_eqb (suc a) (suc b) (λ e. other (omega (arith, e))))

-- what is on one disk changes
pub shelves_set : (hs : List Shelf) (k : ℕ) (h e : Shelf) (f : logs.Shelf → logs.Shelf) → k < length hs → shelf_in h ≡ f (shelf_in (get_or hs k e)) → shelf_at (slice_set hs k h) ≡ shelf_changed k f (shelf_at hs)
shelves_set hs k h e f lt is = fun_ext (λ d. ap (λ (o : Option Shelf). option_map_or shelf_in o no_shelf) (set_get hs k d h lt) ∙ at d (cases_eq d k))
  where
    at : (d : ℕ) → (d ≡ k) ⊎ (d ≢ k) → option_map_or shelf_in (cond (eqb d k) (Some h) (slice_get hs d)) no_shelf ≡ cond (eqb d k) (f (shelf_at hs d)) (shelf_at hs d)
    at d (inl same) =
        let yes : eqb d k ≡ true = eq-eqb d k same in
        let here : shelf_at hs d ≡ shelf_in (get_or hs k e) = ap (shelf_at hs) same ∙ ap (λ (o : Option Shelf). option_map_or shelf_in o no_shelf) (got_or hs k e lt) in
        (λ i. option_map_or shelf_in (cond (yes i) (Some h) (slice_get hs d)) no_shelf) ∙ is ∙ ap f (sym here) ∙ (λ i. cond (sym yes i) (f (shelf_at hs d)) (shelf_at hs d))
    at d (inr other) =
        let no : eqb d k ≡ false = ne_eqb d k other in
        (λ i. option_map_or shelf_in (cond (no i) (Some h) (slice_get hs d)) no_shelf) ∙ (λ i. cond (sym no i) (f (shelf_at hs d)) (shelf_at hs d))

-- .. where there is no such disk
pub shelves_same : (hs : List Shelf) (k : ℕ) (f : logs.Shelf → logs.Shelf) → length hs ≤ k → f no_shelf ≡ no_shelf → shelf_at hs ≡ shelf_changed k f (shelf_at hs)
shelves_same hs k f past none = fun_ext (λ d. at d (cases_eq d k))
  where
    past_none : (xs : List Shelf) (j : ℕ) → length xs ≤ j → slice_get xs j ≡ None
    past_none [] j le = refl
    past_none (x ∷ xs) zero le = absurd (omega arith)
    past_none (x ∷ xs) (suc j) le = past_none xs j (omega arith)

    at : (d : ℕ) → (d ≡ k) ⊎ (d ≢ k) → shelf_at hs d ≡ cond (eqb d k) (f (shelf_at hs d)) (shelf_at hs d)
    at d (inl same) =
        let here : shelf_at hs d ≡ no_shelf = ap (shelf_at hs) same ∙ ap (λ (o : Option Shelf). option_map_or shelf_in o no_shelf) (past_none hs k past) in
        here ∙ sym none ∙ ap f (sym here) ∙ (λ i. cond (sym (eq-eqb d k same) i) (f (shelf_at hs d)) (shelf_at hs d))
    at d (inr other) = λ i. cond (sym (ne_eqb d k other) i) (f (shelf_at hs d)) (shelf_at hs d)

-- nothing is on new shelves
pub first_shelves : (hs : List Shelf) → AllByRecursion (λ (h : Shelf). shelf_in h ≡ no_shelf) hs → shelf_at hs ≡ (λ d. no_shelf)
first_shelves hs all = fun_ext (λ d. at hs d all)
  where
    at : (xs : List Shelf) (d : ℕ) → AllByRecursion (λ (h : Shelf). shelf_in h ≡ no_shelf) xs → shelf_at xs d ≡ no_shelf
    at [] d all = refl
    at (x ∷ xs) zero all = all.0
    at (x ∷ xs) (suc d) all = at xs d all.1
