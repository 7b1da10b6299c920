-- The first two of one version, in a list that is sorted by version.
use Rattle.std.proofs.Common.{◌≡◌, ◌⊎◌, inl, inr, ⊎_elim, ◌+◌, ◌-◌, ◌<◌, ◌≤◌, ℕ, zero, suc, Bool, true, false, not, ◌&&◌, cond, eqb, eq-eqb, List, [], ◌∷◌, ◌++◌, length, take, drop, map, get_or, Some, refl, sym, ap, subst, ◌∙◌, arith}
use Rattle.std.specs.Prelude.{slice_get}
use Rattle.std.specs.Cmp.{nat_cmp_is}
use Rattle.std.specs.List.{AllByRecursion, filter}
use Rattle.std.specs.List.Sorted.{IsNonDecreasingBy, IsStableByKey}
use Rattle.std.specs.Ordering.{is_lt, nat_cmp}
use Rattle.std.specs.declared.cmp.Ordering.TheVariants.{Less, Equal, Greater}
use Rattle.std.proofs.lemmas.Bool.{ne_eqb}
use Rattle.std.proofs.lemmas.Bool.Decides.{eqb_tells}
use Rattle.std.proofs.lemmas.List.{append-nil, take-append-drop}
use Rattle.std.proofs.lemmas.List.Elements.{filter-append}
use Rattle.std.proofs.lemmas.Option.{none-some, get_or_from_slice_get, slice_get-get_or}
use Rattle.wol_model.specs.Index.{AreRising}
use Rattle.manager_recovery.specs.Owned.{Head, with_version, HaveNoTwins, AreFirstTwins}
use Rattle.manager_recovery.specs.Scanned.{head_of, AreSortedByVersion, IsStableByVersion}
use Rattle.manager_recovery.specs.declared.listing.FoundRecord.{FoundRecord}
use Rattle.logger.proofs.Held.{length-map}
use Rattle.manager_recovery.proofs.Lists.{take_snoc, drop_here}

three : (v w : ℕ) → (v < w) ⊎ ((v ≡ w) ⊎ (w < v))
three zero zero = inr (inl refl)
three zero (suc w) = inl (omega arith)
three (suc v) zero = inr (inr (omega arith))
three (suc v) (suc w) = ⊎_elim (λ lt. inl (omega arith)) (λ rest. ⊎_elim (λ (e : v ≡ w). inr (inl (ap suc e))) (λ gt. inr (inr (omega arith))) rest) (three v w)

-- of neither of two numbers it is said that it is less exactly where they are the same
ties_version : (v w : ℕ) → (not (is_lt (nat_cmp v w)) && not (is_lt (nat_cmp w v))) ≡ eqb w v
ties_version v w = ⊎_elim below (λ rest. ⊎_elim same above rest) (three v w)
  where
    below : v < w → (not (is_lt (nat_cmp v w)) && not (is_lt (nat_cmp w v))) ≡ eqb w v
    below lt = (λ i. not (is_lt (sym (nat_cmp_is v w Less lt) i)) && not (is_lt (nat_cmp w v))) ∙ sym (ne_eqb w v (λ e. absurd (omega arith)))

    same : v ≡ w → (not (is_lt (nat_cmp v w)) && not (is_lt (nat_cmp w v))) ≡ eqb w v
    same e = (λ i. not (is_lt (sym (nat_cmp_is v w Equal e) i)) && not (is_lt (sym (nat_cmp_is w v Equal (sym e)) i))) ∙ sym (eq-eqb w v (sym e))

    above : w < v → (not (is_lt (nat_cmp v w)) && not (is_lt (nat_cmp w v))) ≡ eqb w v
    above gt = (λ i. not (is_lt (sym (nat_cmp_is v w Greater gt) i)) && not (is_lt (sym (nat_cmp_is w v Less gt) i))) ∙ sym (ne_eqb w v (λ e. absurd (omega arith)))

abbrev version : FoundRecord → ℕ
version r = r.entry.version

-- some record of this version
some_record : ℕ → FoundRecord
some_record v = record { entry = record { version = v; lbn = 0; count = 0; keep = 0; lane = 0; segment = 0; pos = 0 }; volume = 0; block = 0 }

pub stable_by_version : (old new : List FoundRecord) → IsStableByKey version nat_cmp old new → IsStableByVersion old new
unfolding some_record
stable_by_version old new stable v =
    let by : FoundRecord → Bool = λ r. not (is_lt (nat_cmp v (version r))) && not (is_lt (nat_cmp (version r) v)) in
    let test : FoundRecord → Bool = λ r. eqb (version r) v in
    sym (λ i. filter (λ (r : FoundRecord). ties_version v (version r) i) new) ∙ stable (some_record v) ∙ (λ i. filter (λ (r : FoundRecord). ties_version v (version r) i) old)

all_from_places : {X : Type 0} (P : X → Type 0) (xs : List X) → ((k : ℕ) (x : X) → slice_get xs k ≡ Some x → P x) → AllByRecursion P xs
all_from_places P [] f = tt
all_from_places P (x ∷ xs) f = (f zero x refl, all_from_places P xs (λ k y is. f (suc k) y is))

within : {X : Type 0} (xs : List X) (k : ℕ) (x : X) → slice_get xs k ≡ Some x → k < length xs
within [] k x is = absurd (none-some x is)
within (y ∷ ys) zero x is = omega arith
within (y ∷ ys) (suc k) x is = let w = within ys k x is in omega (arith, w)

pub sorted_by_version : (rs : List FoundRecord) → IsNonDecreasingBy version rs → AreSortedByVersion rs
sorted_by_version [] up = tt
sorted_by_version (r ∷ rs) up = (
  all_from_places (λ (q : FoundRecord). version r ≤ version q) rs (λ k q is.
      let w = within rs k q is in
      subst (λ (x : FoundRecord). version r ≤ version x) (get_or_from_slice_get rs k q r is) (up zero (suc k) r (omega arith) (omega (arith, w)))),
  sorted_by_version rs (λ i j d le lt. up (suc i) (suc j) d (omega arith) (omega arith)),
)

-- ---- Fronts that rise

same_version : ℕ → List FoundRecord → List FoundRecord
same_version v rs = filter (λ (r : FoundRecord). eqb (version r) v) rs

none_below : (v : ℕ) (rs : List FoundRecord) → AllByRecursion (λ (r : FoundRecord). version r < v) rs → filter (λ (r : FoundRecord). eqb (version r) v) rs ≡ []
none_below v [] all = refl
none_below v (r ∷ rs) all = (λ i. cond (ne_eqb (version r) v (λ e. absurd (let lt : version r < v = all.0 in omega arith)) i) (r ∷ filter (λ (r : FoundRecord). eqb (version r) v) rs) (filter (λ (r : FoundRecord). eqb (version r) v) rs)) ∙ none_below v rs all.1

none_above : (v : ℕ) (rs : List FoundRecord) → AllByRecursion (λ (r : FoundRecord). v < version r) rs → filter (λ (r : FoundRecord). eqb (version r) v) rs ≡ []
none_above v [] all = refl
none_above v (r ∷ rs) all = (λ i. cond (ne_eqb (version r) v (λ e. absurd (let lt : v < version r = all.0 in omega arith)) i) (r ∷ filter (λ (r : FoundRecord). eqb (version r) v) rs) (filter (λ (r : FoundRecord). eqb (version r) v) rs)) ∙ none_above v rs all.1

all_of_map : {X Y : Type 0} (P : Y → Type 0) (f : X → Y) (xs : List X) → AllByRecursion P (map f xs) → AllByRecursion (λ x. P (f x)) xs
all_of_map P f [] all = tt
all_of_map P f (x ∷ xs) all = (all.0, all_of_map P f xs all.1)

all_to_map : {X Y : Type 0} (P : Y → Type 0) (f : X → Y) (xs : List X) → AllByRecursion (λ x. P (f x)) xs → AllByRecursion P (map f xs)
all_to_map P f [] all = tt
all_to_map P f (x ∷ xs) all = (all.0, all_to_map P f xs all.1)

at_most_one : (v : ℕ) (rs : List FoundRecord) → AreRising (map version rs) → length (filter (λ (r : FoundRecord). eqb (version r) v) rs) ≤ 1
at_most_one v [] rising = omega arith
at_most_one v (r ∷ rs) rising = ⊎_elim here (other (at_most_one v rs rising.1)) (eqb_tells (version r) v)
  where
    here : (eqb (version r) v ≡ true) × (version r ≡ v) → length (filter (λ (r : FoundRecord). eqb (version r) v) (r ∷ rs)) ≤ 1
    here h =
        let bare = none_above v rs (subst (λ (w : ℕ). AllByRecursion (λ (q : FoundRecord). w < version q) rs) h.1 (all_of_map (λ w. version r < w) version rs rising.0)) in
        let e : length (filter (λ (r : FoundRecord). eqb (version r) v) (r ∷ rs)) ≡ 1 = (λ i. length (cond (h.0 i) (r ∷ bare i) (bare i))) in
        omega (arith, e)

    other : length (filter (λ (r : FoundRecord). eqb (version r) v) rs) ≤ 1 → (eqb (version r) v ≡ false) × (version r ≡ v → ⊥) → length (filter (λ (r : FoundRecord). eqb (version r) v) (r ∷ rs)) ≤ 1
    other few h =
        let e : length (filter (λ (r : FoundRecord). eqb (version r) v) (r ∷ rs)) ≡ length (filter (λ (r : FoundRecord). eqb (version r) v) rs) = (λ i. length (cond (h.0 i) (r ∷ filter (λ (r : FoundRecord). eqb (version r) v) rs) (filter (λ (r : FoundRecord). eqb (version r) v) rs))) in
        omega (arith, e, few)

-- ---- Heads of records

pub head_versions : (v : ℕ) (rs : List FoundRecord) → with_version v (map head_of rs) ≡ map head_of (filter (λ (r : FoundRecord). eqb (version r) v) rs)
head_versions v [] = refl
head_versions v (r ∷ rs) = (λ i. cond (eqb (version r) v) (head_of r ∷ head_versions v rs i) (head_versions v rs i)) ∙ at (eqb (version r) v)
  where
    at : (t : Bool) → cond t (head_of r ∷ map head_of (filter (λ (r : FoundRecord). eqb (version r) v) rs)) (map head_of (filter (λ (r : FoundRecord). eqb (version r) v) rs)) ≡ map head_of (cond t (r ∷ filter (λ (r : FoundRecord). eqb (version r) v) rs) (filter (λ (r : FoundRecord). eqb (version r) v) rs))
    at true = refl
    at false = refl

-- records of rising versions have no twins
pub rising_no_twins : (rs : List FoundRecord) → AreRising (map version rs) → HaveNoTwins (map head_of rs)
rising_no_twins rs rising v =
    let few = at_most_one v rs rising in
    subst (λ (l : List Head). length l ≤ 1) (sym (head_versions v rs)) (subst (λ (n : ℕ). n ≤ 1) (sym (length-map head_of (filter (λ (r : FoundRecord). eqb (version r) v) rs))) few)

-- ---- The first two

rising_before : (xs : List FoundRecord) (p : FoundRecord) → AreRising (map version (xs ++ p ∷ [])) → AllByRecursion (λ (r : FoundRecord). version r < version p) xs
rising_before [] p rising = tt
rising_before (x ∷ xs) p rising = (last xs rising.0, rising_before xs p rising.1)
  where
    last : (ys : List FoundRecord) → AllByRecursion (λ w. version x < w) (map version (ys ++ p ∷ [])) → version x < version p
    last [] all = all.0
    last (y ∷ ys) all = last ys all.1

rising_push : (xs : List FoundRecord) (q : FoundRecord) → AreRising (map version xs) → AllByRecursion (λ (r : FoundRecord). version r < version q) xs → AreRising (map version (xs ++ q ∷ []))
rising_push [] q rising all = (tt, tt)
rising_push (x ∷ xs) q rising all = (last xs rising.0, rising_push xs q rising.1 all.1)
  where
    last : (ys : List FoundRecord) → AllByRecursion (λ w. version x < w) (map version ys) → AllByRecursion (λ w. version x < w) (map version (ys ++ q ∷ []))
    last [] more = (all.0, tt)
    last (y ∷ ys) more = (more.0, last ys more.1)

sorted_drop : (k : ℕ) (rs : List FoundRecord) → AreSortedByVersion rs → AreSortedByVersion (drop k rs)
sorted_drop zero rs sorted = sorted
sorted_drop (suc k) [] sorted = tt
sorted_drop (suc k) (r ∷ rs) sorted = sorted_drop k rs sorted.1

all_more : (P Q : FoundRecord → Type 0) → ((r : FoundRecord) → P r → Q r) → (rs : List FoundRecord) → AllByRecursion P rs → AllByRecursion Q rs
all_more P Q f [] all = tt
all_more P Q f (r ∷ rs) all = (f r all.0, all_more P Q f rs all.1)

all_joined : (P : FoundRecord → Type 0) (xs : List FoundRecord) (q : FoundRecord) → AllByRecursion P xs → P q → AllByRecursion P (xs ++ q ∷ [])
all_joined P [] q all here = (here, tt)
all_joined P (x ∷ xs) q all here = (all.0, all_joined P xs q all.1 here)

module _ (rs : List FoundRecord) (j : ℕ) (p q : FoundRecord) (sorted : AreSortedByVersion rs) (is : slice_get rs j ≡ Some p) (next : slice_get rs (j + 1) ≡ Some q) (rising : AreRising (map version (take (j + 1) rs))) where
  front : AllByRecursion (λ (r : FoundRecord). version r < version p) (take j rs)
  front = rising_before (take j rs) p (subst (λ (l : List FoundRecord). AreRising (map version l)) (take_snoc rs j p is) rising)

  behind : drop j rs ≡ p ∷ q ∷ drop (j + 1 + 1) rs
  behind = drop_here rs j p is ∙ (λ i. p ∷ drop_here rs (j + 1) q next i)

  tail_sorted : AreSortedByVersion (p ∷ q ∷ drop (j + 1 + 1) rs)
  tail_sorted = subst AreSortedByVersion behind (sorted_drop j rs sorted)

  le : version p ≤ version q
  le = tail_sorted.0.0

  pub still_rising : (version p ≡ version q → ⊥) → AreRising (map version (take (j + 1 + 1) rs))
  still_rising differ =
      let w : version p ≤ version q = le in
      let lt : version p < version q = ⊎_elim (λ l. l) (λ rest. ⊎_elim (λ e. absurd (differ e)) (λ g. absurd (omega (arith, w, g))) rest) (three (version p) (version q)) in
      let before : AllByRecursion (λ (r : FoundRecord). version r < version q) (take (j + 1) rs) =
      subst (AllByRecursion (λ (r : FoundRecord). version r < version q)) (sym (take_snoc rs j p is))
      (all_joined (λ r. version r < version q) (take j rs) p (all_more (λ r. version r < version p) (λ r. version r < version q) (λ r l. omega (arith, l, lt)) (take j rs) front) lt) in
      subst (λ (l : List FoundRecord). AreRising (map version l)) (sym (take_snoc rs (j + 1) q next)) (rising_push (take (j + 1) rs) q rising before)

  module _ (same : version p ≡ version q) where
    further : List FoundRecord
    further = filter (λ (r : FoundRecord). eqb (version r) (version p)) (drop (j + 1 + 1) rs)

    first_two : filter (λ (r : FoundRecord). eqb (version r) (version p)) rs ≡ p ∷ q ∷ further
    unfolding further
    first_two =
        (λ i. filter (λ (r : FoundRecord). eqb (version r) (version p)) (sym (take-append-drop j rs) i))
        ∙ filter-append (λ (r : FoundRecord). eqb (version r) (version p)) (take j rs) (drop j rs)
        ∙ (λ i. none_below (version p) (take j rs) front i ++ filter (λ (r : FoundRecord). eqb (version r) (version p)) (behind i))
        ∙ (λ i. cond (eq-eqb (version p) (version p) refl i) (p ∷ cond (eq-eqb (version q) (version p) (sym same) i) (q ∷ further) further) (cond (eqb (version q) (version p)) (q ∷ further) further))

    least : (v : ℕ) → v < version p → length (filter (λ (r : FoundRecord). eqb (version r) v) rs) ≤ 1
    least v lt =
        let w : version p ≤ version q = le in
        let later : AllByRecursion (λ (r : FoundRecord). v < version r) (drop (j + 1) rs) =
        subst (AllByRecursion (λ (r : FoundRecord). v < version r)) (sym (drop_here rs (j + 1) q next))
        (omega (arith, w, lt), all_more (λ r. version q ≤ version r) (λ r. v < version r) (λ r l. omega (arith, l, w, lt)) (drop (j + 1 + 1) rs) tail_sorted.1.0) in
        let split : filter (λ (r : FoundRecord). eqb (version r) v) rs ≡ filter (λ (r : FoundRecord). eqb (version r) v) (take (j + 1) rs) =
        (λ i. filter (λ (r : FoundRecord). eqb (version r) v) (sym (take-append-drop (j + 1) rs) i))
        ∙ filter-append (λ (r : FoundRecord). eqb (version r) v) (take (j + 1) rs) (drop (j + 1) rs)
        ∙ (λ i. filter (λ (r : FoundRecord). eqb (version r) v) (take (j + 1) rs) ++ none_above v (drop (j + 1) rs) later i)
        ∙ append-nil (filter (λ (r : FoundRecord). eqb (version r) v) (take (j + 1) rs)) in
        subst (λ (l : List FoundRecord). length l ≤ 1) (sym split) (at_most_one v (take (j + 1) rs) rising)

    pub are_first_twins : AreFirstTwins (map head_of rs) (head_of p) (head_of q)
    are_first_twins = record {
      further = map head_of further;
      first_two = head_versions (version p) rs ∙ (λ i. map head_of (first_two i));
      least = λ v lt. subst (λ (l : List Head). length l ≤ 1) (sym (head_versions v rs)) (subst (λ (n : ℕ). n ≤ 1) (sym (length-map head_of (filter (λ (r : FoundRecord). eqb (version r) v) rs))) (least v lt));
    }

-- ---- The same at a place and the one before it

module _ (rs : List FoundRecord) (k : ℕ) (d : FoundRecord) (sorted : AreSortedByVersion rs) (least : 1 ≤ k) (inside : k < length rs) (rising : AreRising (map version (take k rs))) where
  back : k - 1 + 1 ≡ k
  back = omega arith

  one : slice_get rs (k - 1) ≡ Some (get_or rs (k - 1) d)
  one = slice_get-get_or rs (k - 1) d (omega arith)

  other : slice_get rs (k - 1 + 1) ≡ Some (get_or rs k d)
  other = subst (λ (i : ℕ). slice_get rs i ≡ Some (get_or rs k d)) (sym back) (slice_get-get_or rs k d inside)

  rising_back : AreRising (map version (take (k - 1 + 1) rs))
  rising_back = subst (λ (i : ℕ). AreRising (map version (take i rs))) (sym back) rising

  pub twins_here : version (get_or rs (k - 1) d) ≡ version (get_or rs k d) → AreFirstTwins (map head_of rs) (head_of (get_or rs (k - 1) d)) (head_of (get_or rs k d))
  twins_here same = are_first_twins rs (k - 1) (get_or rs (k - 1) d) (get_or rs k d) sorted one other rising_back same

  pub rising_here : (version (get_or rs (k - 1) d) ≡ version (get_or rs k d) → ⊥) → AreRising (map version (take (k + 1) rs))
  rising_here differ = subst (λ (i : ℕ). AreRising (map version (take (i + 1) rs))) back (still_rising rs (k - 1) (get_or rs (k - 1) d) (get_or rs k d) sorted one other rising_back differ)
