-- The names of volumes, and the views that name them.
use Rattle.std.proofs.Common.{◌≡◌, ◌≢◌, ℕ, ◌+◌, ◌<◌, ◌≤◌, Bool, true, false, not, cond, List, [], ◌∷◌, length, take, map, position, get_or, unwrap_or, eqb, eq-eqb, ltb, ◌&&◌, ◌^◌, subst, arith, Option, Some, None, refl, sym, ap, ◌∙◌}
use Rattle.std.specs.List.{position_or_len, list_all, list_any, AllByRecursion}
use Rattle.std.proofs.lemmas.List.{length-map, get_or-map}
use Rattle.std.proofs.Math.Seq.{take-length}
use Rattle.std.specs.Str.{bytes_eq}
use Rattle.std.proofs.lemmas.List.Folds.{list_all_at, list_any_at}
use Rattle.std.proofs.lemmas.Bool.{and_parts, ltb-true}
use Rattle.toml.specs.View.{view}
use Rattle.toml.specs.declared.value.Value.{Value}
use Rattle.std.specs.Option.{SomeIff}
use Rattle.wol_model.specs.Blocks.{AreApart}
use Rattle.wol_model.specs.Heads.{IsViewList}
use Rattle.log_layout.proofs.Apart.{apart_from, found_in}
use Rattle.wol_config.specs.Documents.{text_of, number_named, numbers_named, is_known, stands_in, are_apart, is_good_view}
use Rattle.wol_config.specs.Tables.{texts_in}

position_or_len-map : {X Y : Type 0} (p : Y → Bool) (f : X → Y) (xs : List X) → position_or_len p (map f xs) ≡ position_or_len (λ x. p (f x)) xs
position_or_len-map p f [] = refl
position_or_len-map p f (x ∷ xs) = ap (λ n. cond (not (p (f x))) (1 + n) 0) (position_or_len-map p f xs)

-- the first that passes, of what a function makes of the members
pub position-map : {X Y : Type 0} (p : Y → Bool) (f : X → Y) (xs : List X) → position p (map f xs) ≡ position (λ x. p (f x)) xs
position-map p f xs = rw (position_or_len-map p f xs, length-map xs f) refl

-- ---- Views

-- text i of a view
text_at_place : (ts : List Value) (i : ℕ) (v : Value) → i < length ts → v ≡ get_or ts i v → get_or (texts_in ts) i (text_of (view v)) ≡ text_of (view v)
text_at_place ts i v inside here = get_or-map (λ w. text_of (view w)) ts i v (text_of (view v)) inside ∙ rw (← here) refl

-- an unknown name is in no good view
pub unknown_is_bad : (names : List (List ℕ)) (own : ℕ) (ts : List Value) (i : ℕ) (v : Value) (name : List ℕ) → i < length ts → v ≡ get_or ts i v → name ≡ text_of (view v)
    → None ≡ number_named names name → is_good_view names own (texts_in ts) ≡ true → ⊥
unknown_is_bad names own ts i v name inside here is none good =
    let place : i < length (texts_in ts) = rw (length-map ts (λ w. text_of (view w))) inside in
    let told : is_known names (get_or (texts_in ts) i (text_of (view v))) ≡ false = rw (text_at_place ts i v inside here, ← is, ← none) refl in
    let unknown : list_all (is_known names) (texts_in ts) ≡ false = list_all_at (is_known names) (texts_in ts) i (text_of (view v)) place told in
    let known = (and_parts (list_all (is_known names) (texts_in ts)) _ good).0 in
    cc (unknown, known)

-- nor is the volume itself
pub own_is_bad : (names : List (List ℕ)) (own : ℕ) (ts : List Value) (i : ℕ) (v : Value) (name : List ℕ) → i < length ts → v ≡ get_or ts i v → name ≡ text_of (view v)
    → Some own ≡ number_named names name → is_good_view names own (texts_in ts) ≡ true → ⊥
own_is_bad names own ts i v name inside here is some good =
    let place : i < length (texts_in ts) = rw (length-map ts (λ w. text_of (view w))) inside in
    let number : ℕ → List ℕ → ℕ = λ d n. unwrap_or (number_named names n) d in
    let told : eqb (get_or (numbers_named names (texts_in ts)) i own) own ≡ true =
    rw (get_or-map (number 0) (texts_in ts) i (text_of (view v)) own place, text_at_place ts i v inside here, ← is, ← some) (eq-eqb own own refl) in
    let stands : stands_in (numbers_named names (texts_in ts)) own ≡ true =
    list_any_at (λ m. eqb m own) (numbers_named names (texts_in ts)) i own (rw (length-map (texts_in ts) (number 0)) place) told in
    let others = (and_parts (not (stands_in (numbers_named names (texts_in ts)) own)) _ (and_parts (list_all (is_known names) (texts_in ts)) _ good).1).0 in
    let e : not true ≡ true = rw stands at others in
    cc

pub not_true : (t : Bool) → not t ≡ true → t ≡ false
not_true true e = sym e
not_true false e = refl

not_among : (n : ℕ) (ns : List ℕ) (t : Bool) → stands_in ns n ≡ t → AllByRecursion (λ m. n ≢ m) ns → stands_in ns n ≡ false
not_among n ns true is h = absurd (found_in n ns is h)
not_among n ns false is h = is

-- numbers that are apart, by the test
pub apart_test : (ns : List ℕ) → are_apart ns ≡ true → AreApart ns
apart_test [] e = tt
apart_test (n ∷ ns) e = let (first, rest) = and_parts (not (stands_in ns n)) (are_apart ns) e in (apart_from n ns (not_true (stands_in ns n) first), apart_test ns rest)

pub test_apart : (ns : List ℕ) → AreApart ns → are_apart ns ≡ true
test_apart [] h = refl
test_apart (n ∷ ns) h = rw (not_among n ns (stands_in ns n) refl h.0, test_apart ns h.1) refl

some_iff : {X P Q : Type 0} (r : Option X) (v w : X) → SomeIff r P v → v ≡ w → (P → Q) → (Q → P) → SomeIff r Q w
some_iff None v w h same to from = λ q. h (from q)
some_iff (Some x) v w h same to from = (to h.0, h.1 ∙ same)

-- the number of a name is that of a volume, and small
place_small : (n m : ℕ) (t : Bool) → ltb n m ≡ t → m ≤ 64 → unwrap_or (cond t (Some n) None) 0 < 2 ^ 32
place_small n m true is room = let lt = ltb-true n m is in omega arith
place_small n m false is room = omega arith

small_number : (names : List (List ℕ)) (name : List ℕ) → length names ≤ 64 → unwrap_or (number_named names name) 0 < 2 ^ 32
small_number names name room =
    let n = position_or_len (λ other. bytes_eq other name) names in place_small n (length names) (ltb n (length names)) refl room

pub small_numbers : (names view : List (List ℕ)) → length names ≤ 64 → AllByRecursion (λ n. n < 2 ^ 32) (numbers_named names view)
small_numbers names [] room = tt
small_numbers names (name ∷ view) room = (small_number names name room, small_numbers names view room)

length-numbers : (names : List (List ℕ)) (ts : List Value) → length (numbers_named names (texts_in ts)) ≡ length ts
length-numbers names ts = length-map (texts_in ts) (λ name. unwrap_or (number_named names name) 0) ∙ length-map ts (λ v. text_of (view v))

both_true : (a b : Bool) → a ≡ true → b ≡ true → (a && b) ≡ true
both_true true true p q = refl
both_true true false p q = q
both_true false b p q = p

-- the view of the numbers that were found is the answer
pub view_answer : (r : Option (List ℕ)) (names : List (List ℕ)) (own : ℕ) (ts : List Value) (ids : List ℕ) (i : ℕ) → i ≡ length ts → length ts ≤ 16 → length names ≤ 64
    → list_all (is_known names) (texts_in (take i ts)) ≡ true → stands_in (numbers_named names (texts_in (take i ts))) own ≡ false
    → take i ids ≡ numbers_named names (texts_in (take i ts)) → SomeIff r (IsViewList (take (length ts) ids)) (take (length ts) ids)
    → SomeIff r (is_good_view names own (texts_in ts) ≡ true) (numbers_named names (texts_in ts))
view_answer r names own ts ids i end few room known others found answer =
    let ns = numbers_named names (texts_in ts) in
    let whole : take i ts ≡ ts = rw end (take-length ts) in
    let same : take (length ts) ids ≡ ns = rw (← end) (found ∙ ap (λ us. numbers_named names (texts_in us)) whole) in
    let all_known : list_all (is_known names) (texts_in ts) ≡ true = rw whole at known in
    let no_own : not (stands_in ns own) ≡ true = let e : stands_in ns own ≡ false = rw whole at others in rw e refl in
    some_iff r (take (length ts) ids) ns answer same
    (λ h. let list : IsViewList ns = subst IsViewList same h in
    both_true _ _ all_known (both_true _ _ no_own (test_apart ns list.distinct)))
    (λ good. subst IsViewList (sym same) (record {
      few = rw (length-numbers names ts) few;
      in_range = small_numbers names (texts_in ts) room;
      distinct = apart_test ns (and_parts (not (stands_in ns own)) (are_apart ns) (and_parts (list_all (is_known names) (texts_in ts)) _ good).1).1;
    }))
