-- Items that go to a log together are placed there by the rule, one behind the other.
use Rattle.std.proofs.Common.{◌≡◌, ◌⊎◌, inl, inr, ⊎_elim, ◌<◌, ◌≤◌, ◌+◌, ◌-◌, ℕ, zero, suc, Bool, true, false, not, ◌&&◌, ◌||◌, cond, eqb, leb, ltb, List, [], ◌∷◌, ◌++◌, map, length, take, drop, get_or, Option, None, Some, refl, sym, ap, subst, ◌∙◌, arith, append_assoc, replicate}
use Rattle.std.specs.Prelude.{slice_get, slice_set, position}
use Rattle.std.specs.List.{AllByRecursion, list_any, range_with_len, position_from, zip}
use Rattle.std.proofs.lemmas.Bool.{le-leb, leb-true, ltb-true, leb-false, false≢true}
use Rattle.std.proofs.lemmas.Iterator.Adapters.{position_from-zero}
use Rattle.std.proofs.lemmas.List.{get_or-replicate}
use Rattle.std.proofs.lemmas.List.Folds.{list_any-append}
use Rattle.std.proofs.lemmas.Option.{none-some, same_Some}
use Rattle.std.proofs.Math.ListN.{length-set}
use Rattle.wol_disk.specs.Disk.{Block}
use Rattle.wol_model.specs.Blocks.{Write}
use Rattle.wol_model.specs.Extents.{marked, remarked}
use Rattle.wol_model.specs.Index.{Listed, cover_of, is_covered}
use Rattle.wol_model.specs.Placing.{Home, Log, Full, log_or}
use Rattle.wol_promise.specs.Policy.{Look, place_of, rooms_but, placed, listing, is_in, AreWrites, version_at}
use Rattle.log_segment.specs.Records.{count_of}
use Rattle.log_segment.specs.declared.item.Item.{Item}
use Rattle.volume_parts.specs.Items.{log_write, AreItemsOf, log_writes, placed_all, IsGroup}
use Rattle.volume_parts.specs.Joining.{meets, is_covered_behind, GoTogether}
use Rattle.volume_parts.proofs.Records.{enough_rest, first_long}

-- ---- The first logger that is awake and has room

abbrev awake : Bool × Bool → Bool
awake l = l.0 && l.1

abbrev asleep : Bool × Bool → Bool
asleep l = not l.0 && l.1

-- what is found behind a place isn't at it
behind : (p : Bool × Bool → Bool) (xs : List (Bool × Bool)) (a b : ℕ) → position_from p a xs ≡ Some b → b < a → ⊥
behind p [] a b is lt = none-some b is
behind p (x ∷ xs) a b is lt = at (p x) (λ later. behind p xs (a + 1) b later (omega arith)) is
  where
    at : (t : Bool) → (position_from p (a + 1) xs ≡ Some b → ⊥) → cond t (Some a) (position_from p (a + 1) xs) ≡ Some b → ⊥
    at true rest is = (let e : a ≡ b = same_Some a b is in omega arith)
    at false rest is = rest is

-- once it is awake it is found still
found_still : (a k : ℕ) (ups rooms : List Bool) → position_from awake a (zip ups rooms) ≡ Some (a + k) → position_from awake a (zip (slice_set ups k true) rooms) ≡ Some (a + k)
found_still a k [] rooms is = is
found_still a zero (u ∷ ups) [] is = absurd (none-some (a + 0) is)
found_still a (suc k) (u ∷ ups) [] is = absurd (none-some (a + suc k) is)
found_still a zero (u ∷ ups) (r ∷ rooms) is = at u r is
  where
    at : (s t : Bool) → cond (s && t) (Some a) (position_from awake (a + 1) (zip ups rooms)) ≡ Some (a + 0) → cond (true && t) (Some a) (position_from awake (a + 1) (zip ups rooms)) ≡ Some (a + 0)
    at true t is = is
    at false t is = absurd (behind awake (zip ups rooms) (a + 1) (a + 0) is (omega arith))
found_still a (suc k) (u ∷ ups) (r ∷ rooms) is = at (u && r) (λ later. found_still (a + 1) k ups rooms later) is
  where
    next : a + suc k ≡ a + 1 + k
    next = omega arith

    at : (t : Bool) → (position_from awake (a + 1) (zip ups rooms) ≡ Some (a + 1 + k) → position_from awake (a + 1) (zip (slice_set ups k true) rooms) ≡ Some (a + 1 + k))
        → cond t (Some a) (position_from awake (a + 1) (zip ups rooms)) ≡ Some (a + suc k) → cond t (Some a) (position_from awake (a + 1) (zip (slice_set ups k true) rooms)) ≡ Some (a + suc k)
    at true rest is = absurd (let e : a ≡ a + suc k = same_Some a (a + suc k) is in omega arith)
    at false rest is = rest (is ∙ ap Some next) ∙ ap Some (sym next)

-- and so it is where it was woken, since no other was awake with room
woken_found : (a k : ℕ) (ups rooms : List Bool) → position_from awake a (zip ups rooms) ≡ None → position_from asleep a (zip ups rooms) ≡ Some (a + k) → position_from awake a (zip (slice_set ups k true) rooms) ≡ Some (a + k)
woken_found a k [] rooms none is = is
woken_found a zero (u ∷ ups) [] none is = absurd (none-some (a + 0) is)
woken_found a (suc k) (u ∷ ups) [] none is = absurd (none-some (a + suc k) is)
woken_found a zero (u ∷ ups) (r ∷ rooms) none is = at u r none is
  where
    at : (s t : Bool) → cond (s && t) (Some a) (position_from awake (a + 1) (zip ups rooms)) ≡ None → cond (not s && t) (Some a) (position_from asleep (a + 1) (zip ups rooms)) ≡ Some (a + 0)
        → cond (true && t) (Some a) (position_from awake (a + 1) (zip ups rooms)) ≡ Some (a + 0)
    at true true none is = absurd (let no : Some a ≡ None = none in cc)
    at true false none is = absurd (behind asleep (zip ups rooms) (a + 1) (a + 0) is (omega arith))
    at false true none is = is
    at false false none is = absurd (behind asleep (zip ups rooms) (a + 1) (a + 0) is (omega arith))
woken_found a (suc k) (u ∷ ups) (r ∷ rooms) none is = at (u && r) (not u && r) (λ without later. woken_found (a + 1) k ups rooms without later) none is
  where
    next : a + suc k ≡ a + 1 + k
    next = omega arith

    at : (s t : Bool) → (position_from awake (a + 1) (zip ups rooms) ≡ None → position_from asleep (a + 1) (zip ups rooms) ≡ Some (a + 1 + k) → position_from awake (a + 1) (zip (slice_set ups k true) rooms) ≡ Some (a + 1 + k))
        → cond s (Some a) (position_from awake (a + 1) (zip ups rooms)) ≡ None → cond t (Some a) (position_from asleep (a + 1) (zip ups rooms)) ≡ Some (a + suc k)
        → cond s (Some a) (position_from awake (a + 1) (zip (slice_set ups k true) rooms)) ≡ Some (a + suc k)
    at true t rest none is = absurd (let no : Some a ≡ None = none in cc)
    at false true rest none is = absurd (let e : a ≡ a + suc k = same_Some a (a + suc k) is in omega arith)
    at false false rest none is = rest none (is ∙ ap Some next) ∙ ap Some (sym next)

-- ---- One write behind another

module _ (passed : List ℕ) (l : Look) (w v : Write) (k : ℕ) where
  abbrev rooms : List Bool
  rooms = rooms_but passed l.ups

  first_awake : position awake (zip l.ups rooms) ≡ position_from awake 0 (zip l.ups rooms)
  first_awake = position_from-zero awake (zip l.ups rooms)

  first_asleep : position asleep (zip l.ups rooms) ≡ position_from asleep 0 (zip l.ups rooms)
  first_asleep = position_from-zero asleep (zip l.ups rooms)

  from_zero : Some k ≡ Some (0 + k)
  from_zero = ap Some (let e : k ≡ 0 + k = omega arith in e)

  found : place_of passed l w ≡ Log k → position_from awake 0 (zip (slice_set l.ups k true) rooms) ≡ Some (0 + k)
  found = at (l.home_up && not (list_any (is_covered l.listed) (range_with_len w.first (length w.blocks)))) (list_any (is_covered l.listed) (range_with_len w.first (length w.blocks)))
      (position awake (zip l.ups rooms)) (position asleep (zip l.ups rooms)) refl refl
    where
      at : (t c : Bool) (o q : Option ℕ) → position awake (zip l.ups rooms) ≡ o → position asleep (zip l.ups rooms) ≡ q → cond t Home (log_or o (cond c (log_or q Full) Home)) ≡ Log k
          → position_from awake 0 (zip (slice_set l.ups k true) rooms) ≡ Some (0 + k)
      at true c o q first second is = absurd (cc is)
      at false c (Some j) q first second is = let e : j ≡ k = cc in found_still 0 k l.ups rooms (sym first_awake ∙ first ∙ ap Some e ∙ from_zero)
      at false true None (Some j) first second is = let e : j ≡ k = cc in woken_found 0 k l.ups rooms (sym first_awake ∙ first) (sym first_asleep ∙ second ∙ ap Some e ∙ from_zero)
      at false true None None first second is = absurd (cc is)
      at false false None q first second is = absurd (cc is)

  -- it goes to the same log, unless it would go home
  pub again : place_of passed l w ≡ Log k → (l.home_up ≡ true → list_any (is_covered (listing l k w)) (range_with_len v.first (length v.blocks)) ≡ true) → place_of passed (placed (Log k) l w) v ≡ Log k
  again is away =
      (λ i. cond (shut i) Home (log_or (where_ i) (cond covered (log_or (position asleep (zip (slice_set l.ups k true) (rooms_but passed (slice_set l.ups k true)))) Full) Home)))
    where
      covered : Bool
      covered = list_any (is_covered (listing l k w)) (range_with_len v.first (length v.blocks))

      shut : (l.home_up && not covered) ≡ false
      shut = at l.home_up away
        where
          at : (h : Bool) → (h ≡ true → covered ≡ true) → (h && not covered) ≡ false
          at true away = ap not (away refl)
          at false away = refl

      same_rooms : rooms_but passed (slice_set l.ups k true) ≡ rooms
      same_rooms = ap (λ (n : ℕ). map (λ j. not (list_any (λ p. eqb p j) passed)) (range_with_len 0 n)) (length-set l.ups k true)

      where_ : position awake (zip (slice_set l.ups k true) (rooms_but passed (slice_set l.ups k true))) ≡ Some k
      where_ = ap (λ (rs : List Bool). position awake (zip (slice_set l.ups k true) rs)) same_rooms
          ∙ position_from-zero awake (zip (slice_set l.ups k true) rooms) ∙ found is ∙ sym from_zero

-- ---- Which blocks are covered

any_within : (p : ℕ → Bool) (a n b : ℕ) → a ≤ b → b < a + n → p b ≡ true → list_any p (range_with_len a n) ≡ true
any_within p a zero b le lt is = absurd (omega arith)
any_within p a (suc n) b le lt is = ⊎_elim
    (λ here. let t : p a ≡ true = ap p here ∙ is in ap (λ (s : Bool). s || list_any p (range_with_len (a + 1) n)) t)
    (λ later. ap (λ (s : Bool). p a || s) (any_within p (a + 1) n b (omega arith) (omega arith) is) ∙ or_true (p a))
    (split a b le)
  where
    or_true : (s : Bool) → (s || true) ≡ true
    or_true true = refl
    or_true false = refl

    split : (x y : ℕ) → x ≤ y → (x ≡ y) ⊎ (x < y)
    split zero zero le = inl refl
    split zero (suc y) le = inr (omega arith)
    split (suc x) zero le = absurd (omega arith)
    split (suc x) (suc y) le = ⊎_elim (λ e. inl (ap suc e)) (λ l. inr (omega arith)) (split x y (omega arith))

covers_its : (first n b : ℕ) → first ≤ b → b < first + n → marked first (replicate n true) b ≡ true
covers_its first n b le lt = ap (λ (t : Bool). t && get_or (replicate n true) (b - first) false) (le-leb first b le) ∙ get_or-replicate n (b - first) true false (omega arith)

unmarked : (f : Listed → ℕ → Bool → Bool) (es : List Listed) (b : ℕ) → is_covered (map (λ (e : Listed). record e { homed = remarked e.first e.homed (f e) }) es) b ≡ is_covered es b
unmarked f [] b = refl
unmarked f (e ∷ es) b = ap (λ (t : Bool). (cover_of e).covers b || t) (unmarked f es b)

-- what was covered before a write to a log is covered still, and so are its blocks
module _ (l : Look) (k : ℕ) (w : Write) (b : ℕ) where
  listing_is : is_covered (listing l k w) b ≡ (is_covered l.listed b || (marked w.first (replicate (length w.blocks) true) b || false))
  listing_is = list_any-append (λ (e : Listed). (cover_of e).covers b) (map (λ (e : Listed). record e { homed = remarked e.first e.homed (λ c m. m && not (is_in w c)) }) l.listed)
      (record { version = l.next; first = w.first; keep = replicate (length w.blocks) true; lane = k; homed = replicate (length w.blocks) false } ∷ [])
      ∙ ap (λ (t : Bool). t || (marked w.first (replicate (length w.blocks) true) b || false)) (unmarked (λ e c m. m && not (is_in w c)) l.listed b)

  covered_still : is_covered l.listed b ≡ true → is_covered (listing l k w) b ≡ true
  covered_still is = listing_is ∙ ap (λ (t : Bool). t || (marked w.first (replicate (length w.blocks) true) b || false)) is

  covered_now : w.first ≤ b → b < w.first + length w.blocks → is_covered (listing l k w) b ≡ true
  covered_now le lt = listing_is ∙ ap (λ (t : Bool). is_covered l.listed b || (t || false)) (covers_its w.first (length w.blocks) b le lt) ∙ or_true (is_covered l.listed b)
    where
      or_true : (s : Bool) → (s || true) ≡ true
      or_true true = refl
      or_true false = refl

-- a look covers what these records and these items do
record Covers (es : List Listed) (before : List Item) (l : Look) : Type 0 where
  old : (b : ℕ) → is_covered es b ≡ true → is_covered l.listed b ≡ true
  items : AllByRecursion (λ (i : Item). (b : ℕ) → i.lbn ≤ b → b < i.lbn + i.count → is_covered l.listed b ≡ true) before

all_mapped_to : {X : Type 0} (P Q : X → Type 0) → ((x : X) → P x → Q x) → (xs : List X) → AllByRecursion P xs → AllByRecursion Q xs
all_mapped_to P Q f [] all = tt
all_mapped_to P Q f (x ∷ xs) all = (f x all.0, all_mapped_to P Q f xs all.1)

all_pushed : {X : Type 0} (P : X → Type 0) (xs : List X) (x : X) → AllByRecursion P xs → P x → AllByRecursion P (xs ++ x ∷ [])
all_pushed P [] x all here = (here, tt)
all_pushed P (y ∷ xs) x all here = (all.0, all_pushed P xs x all.1 here)

covers_more : (es : List Listed) (before : List Item) (l : Look) (k : ℕ) (i : Item) (w : Write) → w.first ≡ i.lbn → length w.blocks ≡ i.count → Covers es before l → Covers es (before ++ i ∷ []) (placed (Log k) l w)
covers_more es before l k i w first long c = record {
  old = λ b is. covered_still l k w b (c.old b is);
  items = all_pushed (λ (j : Item). (b : ℕ) → j.lbn ≤ b → b < j.lbn + j.count → is_covered (listing l k w) b ≡ true) before i
      (all_mapped_to (λ (j : Item). (b : ℕ) → j.lbn ≤ b → b < j.lbn + j.count → is_covered l.listed b ≡ true) (λ (j : Item). (b : ℕ) → j.lbn ≤ b → b < j.lbn + j.count → is_covered (listing l k w) b ≡ true)
      (λ j has b le lt. covered_still l k w b (has b le lt)) before c.items)
      (λ b le lt. covered_now l k w b (omega arith) (omega arith));
}

or_true : (s : Bool) → (s || true) ≡ true
or_true true = refl
or_true false = refl

-- a range with a block that was covered has one that is covered
any_still : (p q : ℕ → Bool) → ((b : ℕ) → p b ≡ true → q b ≡ true) → (a n : ℕ) → list_any p (range_with_len a n) ≡ true → list_any q (range_with_len a n) ≡ true
any_still p q so a zero is = is
any_still p q so a (suc n) is = at (p a) refl (λ later. any_still p q so (a + 1) n later) is
  where
    at : (t : Bool) → p a ≡ t → (list_any p (range_with_len (a + 1) n) ≡ true → list_any q (range_with_len (a + 1) n) ≡ true) → (t || list_any p (range_with_len (a + 1) n)) ≡ true → (q a || list_any q (range_with_len (a + 1) n)) ≡ true
    at true here rest is = ap (λ (s : Bool). s || list_any q (range_with_len (a + 1) n)) (so a here)
    at false here rest is = ap (λ (s : Bool). q a || s) (rest is) ∙ or_true (q a)

-- an item that meets a covered one has a covered block
met_covered : (q : ℕ → Bool) (i j : Item) → 1 ≤ i.count → 1 ≤ j.count → ((b : ℕ) → j.lbn ≤ b → b < j.lbn + j.count → q b ≡ true) → meets j i ≡ true → list_any q (range_with_len i.lbn i.count) ≡ true
met_covered q i j some one has met = at (leb j.lbn i.lbn) refl met
  where
    at : (t : Bool) → leb j.lbn i.lbn ≡ t → cond t (ltb i.lbn (j.lbn + j.count)) (ltb j.lbn (i.lbn + i.count)) ≡ true → list_any q (range_with_len i.lbn i.count) ≡ true
    at true le lt = let before_ : j.lbn ≤ i.lbn = leb-true j.lbn i.lbn le in let inside : i.lbn < j.lbn + j.count = ltb-true i.lbn (j.lbn + j.count) lt in
        any_within q i.lbn i.count i.lbn (omega arith) (omega arith) (has i.lbn before_ inside)
    at false not_le lt = let behind_ : i.lbn < j.lbn = leb-false j.lbn i.lbn not_le in let inside : j.lbn < i.lbn + i.count = ltb-true j.lbn (i.lbn + i.count) lt in
        any_within q i.lbn i.count j.lbn (omega arith) inside (has j.lbn (omega arith) (omega arith))

some_met : (q : ℕ → Bool) (i : Item) (js : List Item) → 1 ≤ i.count → AllByRecursion (λ (j : Item). 1 ≤ j.count) js → AllByRecursion (λ (j : Item). (b : ℕ) → j.lbn ≤ b → b < j.lbn + j.count → q b ≡ true) js → list_any (λ j. meets j i) js ≡ true
    → list_any q (range_with_len i.lbn i.count) ≡ true
some_met q i [] some ones has met = absurd (false≢true met)
some_met q i (j ∷ js) some ones has met = at (meets j i) refl (λ later. some_met q i js some ones.1 has.1 later) met
  where
    at : (t : Bool) → meets j i ≡ t → (list_any (λ x. meets x i) js ≡ true → list_any q (range_with_len i.lbn i.count) ≡ true) → (t || list_any (λ x. meets x i) js) ≡ true → list_any q (range_with_len i.lbn i.count) ≡ true
    at true here rest met = met_covered q i j some ones.0 has.0 here
    at false here rest met = rest met

-- an item that is covered behind others has a block that is covered then
is_away : (es : List Listed) (before : List Item) (l : Look) (i : Item) → 1 ≤ i.count → AllByRecursion (λ (j : Item). 1 ≤ j.count) before → Covers es before l → is_covered_behind es before i ≡ true → list_any (is_covered l.listed) (range_with_len i.lbn i.count) ≡ true
is_away es before l i some each c is = at (list_any (is_covered es) (range_with_len i.lbn i.count)) refl is
  where
    at : (t : Bool) → list_any (is_covered es) (range_with_len i.lbn i.count) ≡ t → (t || list_any (λ j. meets j i) before) ≡ true → list_any (is_covered l.listed) (range_with_len i.lbn i.count) ≡ true
    at true here is = any_still (is_covered es) (is_covered l.listed) c.old i.lbn i.count here
    at false here is = some_met (is_covered l.listed) i before some each c.items is

-- ---- All of them

module _ (passed : List ℕ) (k most size : ℕ) (es : List Listed) (home_up : Bool) where
  -- each is covered behind those before it, unless home is asleep
  abbrev Follow : List Item → List Item → Type 0
  Follow before [] = Unit {0}
  Follow before (i ∷ items) = (home_up ≡ true → is_covered_behind es before i ≡ true) × Follow (before ++ i ∷ []) items

  follow : (before items : List Item) → (home_up ≡ true → (j : ℕ) (i : Item) → slice_get items j ≡ Some i → is_covered_behind es (before ++ take j items) i ≡ true) → Follow before items
  follow before [] each = tt
  follow before (i ∷ items) each = (
    (λ up. subst (λ (b : List Item). is_covered_behind es b i ≡ true) (nil before) (each up 0 i refl)),
    follow (before ++ i ∷ []) items (λ up j x at. subst (λ (b : List Item). is_covered_behind es b x ≡ true) (sym (append_assoc before (i ∷ []) (take j items))) (each up (suc j) x at)),
  )
    where
      nil : (l : List Item) → l ++ [] ≡ l
      nil [] = refl
      nil (x ∷ l) = λ t. x ∷ nil l t

  go : (before : List Item) (i : Item) (items : List Item) (from : List Block) (l : Look) → l.home_up ≡ home_up → AllByRecursion (λ (j : Item). 1 ≤ j.count) before → AreItemsOf most size (i ∷ items) → count_of (i ∷ items) ≤ length from → Covers es before l
      → place_of passed l (log_write l.next i.lbn (take i.count from)) ≡ Log k → Follow (before ++ i ∷ []) items
      → AreWrites passed l (log_writes l.next (i ∷ items) from) (placed_all (Log k) l (log_writes l.next (i ∷ items) from))
  go before i [] from l up ones are enough covers is follows = (
    (λ full. let no : Log k ≡ Full = sym is ∙ full in cc),
    ap (λ p. version_at p l) (sym is),
    subst (λ p. AreWrites passed (placed p l (log_write l.next i.lbn (take i.count from))) [] (placed (Log k) l (log_write l.next i.lbn (take i.count from)))) (sym is) refl,
  )
  go before i (j ∷ items) from l up ones are enough covers is follows = (
    (λ full. let no : Log k ≡ Full = sym is ∙ full in cc),
    ap (λ p. version_at p l) (sym is),
    subst (λ p. AreWrites passed (placed p l w) (log_writes (l.next + 1) (j ∷ items) (drop i.count from)) (placed_all (Log k) l' (log_writes (l.next + 1) (j ∷ items) (drop i.count from)))) (sym is)
        (go (before ++ i ∷ []) j items (drop i.count from) l' up ones' are.1 enough' covers'
        (again passed l w (log_write (l.next + 1) j.lbn (take j.count (drop i.count from))) k is
        (λ h. subst (λ (n : ℕ). list_any (is_covered (listing l k w)) (range_with_len j.lbn n) ≡ true) (sym (first_long j items (drop i.count from) enough')) (is_away es (before ++ i ∷ []) l' j are.1.0.some ones' covers' (follows.0 (sym up ∙ h)))))
        follows.1),
  )
    where
      w : Write
      w = log_write l.next i.lbn (take i.count from)

      l' : Look
      l' = placed (Log k) l w

      enough' : count_of (j ∷ items) ≤ length (drop i.count from)
      enough' = enough_rest i (j ∷ items) from enough

      covers' : Covers es (before ++ i ∷ []) l'
      covers' = covers_more es before l k i w refl (first_long i (j ∷ items) from enough) covers

      ones' : AllByRecursion (λ (x : Item). 1 ≤ x.count) (before ++ i ∷ [])
      ones' = all_pushed (λ (x : Item). 1 ≤ x.count) before i ones are.0.some

taken_at : (n j : ℕ) (xs : List Item) (x : Item) → slice_get (take n xs) j ≡ Some x → (j < n) × (slice_get xs j ≡ Some x) × (take j (take n xs) ≡ take j xs)
taken_at zero j xs x at = absurd (none-some x at)
taken_at (suc n) j [] x at = absurd (none-some x at)
taken_at (suc n) zero (y ∷ xs) x at = (omega arith, at, refl)
taken_at (suc n) (suc j) (y ∷ xs) x at = let rest = taken_at n j xs x at in (omega (arith, rest.0), rest.1, (λ t. y ∷ rest.2 t))

front_of : (most size n : ℕ) (xs : List Item) → AreItemsOf most size xs → AreItemsOf most size (take n xs)
front_of most size zero xs all = tt
front_of most size (suc n) [] all = tt
front_of most size (suc n) (x ∷ xs) all = (all.0, front_of most size n xs all.1)

-- the first goes to this log by the rule, and so do those that go together with it
pub group_writes : (passed : List ℕ) (k most size : ℕ) (l : Look) (items : List Item) (n : ℕ) (from : List Block) → 1 ≤ n → n ≤ length items → AreItemsOf most size items → count_of (take n items) ≤ length from
    → GoTogether l.home_up l.listed passed items n → ((i : Item) → slice_get items 0 ≡ Some i → place_of passed l (log_write l.next i.lbn (take i.count from)) ≡ Log k)
    → AreWrites passed l (log_writes l.next (take n items) from) (placed_all (Log k) l (log_writes l.next (take n items) from))
group_writes passed k most size l [] n from one le are enough joins first = absurd (omega arith)
group_writes passed k most size l (i ∷ items) zero from one le are enough joins first = absurd (omega arith)
group_writes passed k most size l (i ∷ items) (suc n) from one le are enough joins first =
    go passed k most size l.listed l.home_up [] i (take n items) from l refl tt (are.0, front_of most size n items are.1) enough (record { old = λ b is. is; items = tt }) (first i refl)
    (follow passed k most size l.listed l.home_up (i ∷ []) (take n items)
    (λ up j x at. let t = taken_at n j items x at in subst (λ (b : List Item). is_covered_behind l.listed (i ∷ b) x ≡ true) (sym t.2) (joins.away up (suc j) x (omega arith) (omega (arith, t.0)) t.1)))

-- none is smaller than the first, where a logger was passed over
all_long : (c version : ℕ) (items : List Item) (m : ℕ) (from : List Block) → count_of (take m items) ≤ length from → ((k : ℕ) (x : Item) → k < m → slice_get items k ≡ Some x → c ≤ x.count)
    → AllByRecursion (λ (v : Write). c ≤ length v.blocks) (log_writes version (take m items) from)
all_long c version items zero from enough long = tt
all_long c version [] (suc m) from enough long = tt
all_long c version (x ∷ items) (suc m) from enough long = (
  (let l = long 0 x (omega arith) refl in let f = first_long x (take m items) from enough in omega arith),
  all_long c (version + 1) items m (drop x.count from) (enough_rest x (take m items) from enough) (λ k y lt at. long (suc k) y (omega arith) at),
)

pub group_group : (home_up : Bool) (es : List Listed) (passed : List ℕ) (version : ℕ) (items : List Item) (n : ℕ) (from : List Block) → 1 ≤ n → n ≤ length items → count_of (take n items) ≤ length from → GoTogether home_up es passed items n
    → IsGroup passed (log_writes version (take n items) from)
group_group home_up es passed version [] n from one le enough joins = absurd (omega arith)
group_group home_up es passed version (i ∷ items) zero from one le enough joins = absurd (omega arith)
group_group home_up es passed version (i ∷ items) (suc n) from one le enough joins = ⊎_elim
    (λ none. inl none)
    (λ long. inr (all_long (length (take i.count from)) (version + 1) items n (drop i.count from) (enough_rest i (take n items) from enough)
    (λ k x lt at. let l = long (suc k) x (omega arith) at in let f = first_long i (take n items) from enough in omega arith)))
    joins.long
