-- A list of entries with dead places, and what it lists.
use Rattle.std.proofs.Common.{◌≡◌, ◌<◌, ◌≤◌, ◌+◌, ◌-◌, ℕ, zero, suc, Bool, true, false, cond, not, ◌&&◌, List, [], ◌∷◌, ◌++◌, map, length, take, drop, get_or, Option, None, Some, IsSome, refl, sym, ap, ◌∙◌, subst, arith, eqb, ltb, leb}
use Rattle.std.specs.Prelude.{slice_get, option_map}
use Rattle.std.specs.List.{AllByRecursion, list_any, find, filter, remove}
use Rattle.std.proofs.Math.ListN.{set}
use Rattle.std.proofs.Math.Bool.{and-false}
use Rattle.std.proofs.lemmas.Option.{slice_get_within, slice_get-get_or, get_or_from_slice_get}
use Rattle.std.proofs.lemmas.List.{length-set, length-append, length-take-le, take-take, map-append}
use Rattle.std.proofs.lemmas.List.Elements.{filter-append}
use Rattle.std.proofs.lemmas.List.Filters.{length-filter_more}
use Rattle.std.proofs.lemmas.List.Sums.{length-filter, count_by-le-length}
use Rattle.std.proofs.lemmas.Bool.{ne_eqb, eq-eqb, eqb-true, false≢true}
use Rattle.wol_model.specs.Index.{AreRising}
use Rattle.block_cells.specs.declared.blocks.Cell.{Cell}
use Rattle.block_cells.proofs.Bits.{has_bit-zero}
use Rattle.redirect_map.specs.declared.entry.Entry.{Entry}
use Rattle.redirect_map.specs.Cells.{cell_of}
use Rattle.redirect_map.specs.Index.{has_version}
use Rattle.redirect_map.specs.Kept.{is_version, seen, keeps, one_keeps, IsKept, AreEntries, IsAt}
use Rattle.redirect_map.specs.Listing.{is_listed, is_dead, place_in, ArePlaces}
use Rattle.redirect_map.proofs.Found.{find-map}
use Rattle.redirect_map.proofs.Seen.{all_at, all_before_map}
use Rattle.redirect_map.proofs.Celled.{IsNewest}
use Rattle.redirect_map.proofs.Newest.{newest_here}
use Rattle.redirect_map.proofs.Changing.{versions_set}
use Rattle.redirect_map.proofs.Adding.{rising_push}

-- ---- What is found

-- the place of a version that is found
pub found_place : (items : List Entry) (v : ℕ) (e : Entry) → find (is_version v) items ≡ Some e → slice_get items (place_in v items) ≡ Some e
found_place [] v e found = absurd (cc)
found_place (x ∷ xs) v e found = at (is_version v x) found (found_place xs v e)
  where
    at : (t : Bool) → cond t (Some x) (find (is_version v) xs) ≡ Some e → (find (is_version v) xs ≡ Some e → slice_get xs (place_in v xs) ≡ Some e) → slice_get (x ∷ xs) (cond t 0 (suc (place_in v xs))) ≡ Some e
    at true f rest = f
    at false f rest = rest f

found_version : (items : List Entry) (v : ℕ) (e : Entry) → find (is_version v) items ≡ Some e → e.record.version ≡ v
found_version [] v e found = absurd (cc)
found_version (x ∷ xs) v e found = at (is_version v x) refl found (found_version xs v e)
  where
    at : (t : Bool) → is_version v x ≡ t → cond t (Some x) (find (is_version v) xs) ≡ Some e → (find (is_version v) xs ≡ Some e → e.record.version ≡ v) → e.record.version ≡ v
    at true is f rest = let g : x ≡ e = cc in subst (λ (d : Entry). d.record.version ≡ v) g (eqb-true x.record.version v is)
    at false is f rest = rest f

pub found_at : (items : List Entry) (v : ℕ) (e : Entry) → find (is_version v) items ≡ Some e → IsAt items v (place_in v items) e
found_at items v e found = record {
  at = found_place items v e found;
  version_is = found_version items v e found;
  found = find-map (has_version v) seen items ∙ ap (option_map seen) found;
}

-- what isn't there isn't listed
pub none_listed : (places : List Entry) (v : ℕ) → find (is_version v) places ≡ None → find (is_version v) (filter is_listed places) ≡ None
none_listed [] v none = refl
none_listed (x ∷ xs) v none = at (is_version v x) (is_listed x) refl none (none_listed xs v)
  where
    at : (t l : Bool) → is_version v x ≡ t → cond t (Some x) (find (is_version v) xs) ≡ None → (find (is_version v) xs ≡ None → find (is_version v) (filter is_listed xs) ≡ None)
        → find (is_version v) (cond l (x ∷ filter is_listed xs) (filter is_listed xs)) ≡ None
    at true l is n rest = absurd (cc)
    at false true is n rest = ap (λ (t : Bool). cond t (Some x) (find (is_version v) (filter is_listed xs))) is ∙ rest n
    at false false is n rest = rest n

-- where all versions are greater, none is found
none_above : (xs : List Entry) (v : ℕ) → AllByRecursion (λ w. v < w) (map (λ (e : Entry). e.record.version) xs) → find (is_version v) xs ≡ None
none_above [] v above = refl
none_above (x ∷ xs) v above =
    let less : v < x.record.version = above.0 in
    ap (λ (t : Bool). cond t (Some x) (find (is_version v) xs)) (ne_eqb x.record.version v (λ same. absurd (omega arith))) ∙ none_above xs v above.1

-- an entry that is found is listed where it isn't dead
pub some_listed : (places : List Entry) (v : ℕ) (e : Entry) → find (is_version v) places ≡ Some e → is_listed e ≡ true → find (is_version v) (filter is_listed places) ≡ Some e
some_listed [] v e found listed = absurd (cc)
some_listed (x ∷ xs) v e found listed = at (is_version v x) (is_listed x) refl refl found (λ f. some_listed xs v e f listed)
  where
    at : (t l : Bool) → is_version v x ≡ t → is_listed x ≡ l → cond t (Some x) (find (is_version v) xs) ≡ Some e → (find (is_version v) xs ≡ Some e → find (is_version v) (filter is_listed xs) ≡ Some e)
        → find (is_version v) (cond l (x ∷ filter is_listed xs) (filter is_listed xs)) ≡ Some e
    at true true is on f rest = ap (λ (t : Bool). cond t (Some x) (find (is_version v) (filter is_listed xs))) is ∙ f
    at true false is on f rest = let g : x ≡ e = cc in absurd (false≢true (sym on ∙ ap is_listed g ∙ listed))
    at false true is on f rest = ap (λ (t : Bool). cond t (Some x) (find (is_version v) (filter is_listed xs))) is ∙ rest f
    at false false is on f rest = rest f

-- and not where it is dead
pub dead_unlisted : (places : List Entry) (v : ℕ) (e : Entry) → AreRising (map (λ (d : Entry). d.record.version) places) → find (is_version v) places ≡ Some e → is_listed e ≡ false → find (is_version v) (filter is_listed places) ≡ None
dead_unlisted [] v e rising found dead = absurd (cc)
dead_unlisted (x ∷ xs) v e rising found dead = at (is_version v x) (is_listed x) refl refl found (λ f. dead_unlisted xs v e rising.1 f dead)
  where
    at : (t l : Bool) → is_version v x ≡ t → is_listed x ≡ l → cond t (Some x) (find (is_version v) xs) ≡ Some e → (find (is_version v) xs ≡ Some e → find (is_version v) (filter is_listed xs) ≡ None)
        → find (is_version v) (cond l (x ∷ filter is_listed xs) (filter is_listed xs)) ≡ None
    at true true is on f rest = let g : x ≡ e = cc in absurd (false≢true (sym dead ∙ ap is_listed (sym g) ∙ on))
    at true false is on f rest =
        let same : x.record.version ≡ v = eqb-true x.record.version v is in
        none_listed xs v (none_above xs v (subst (λ (w : ℕ). AllByRecursion (λ u. w < u) (map (λ (d : Entry). d.record.version) xs)) same rising.0))
    at false true is on f rest = ap (λ (t : Bool). cond t (Some x) (find (is_version v) (filter is_listed xs))) is ∙ rest f
    at false false is on f rest = rest f

-- what is listed is there
pub listed_there : (places : List Entry) (v : ℕ) → IsSome (find (is_version v) (filter is_listed places)) → IsSome (find (is_version v) places)
listed_there places v there = at (find (is_version v) places) refl
  where
    at : (o : Option Entry) → find (is_version v) places ≡ o → IsSome o
    at None is = absurd (false≢true (subst (λ (o : Option Entry). IsSome o) (none_listed places v is) there))
    at (Some e) is = refl

-- the entry that stands where a listed version is found isn't dead
pub listed_place : (places : List Entry) (v k : ℕ) (e : Entry) → AreRising (map (λ (d : Entry). d.record.version) places) → IsSome (find (is_version v) (filter is_listed places)) → find (is_version v) places ≡ Some e → is_listed e ≡ true
listed_place places v k e rising there found = at (is_listed e) refl
  where
    at : (l : Bool) → is_listed e ≡ l → is_listed e ≡ true
    at true is = is
    at false is = absurd (false≢true (subst (λ (o : Option Entry). IsSome o) (dead_unlisted places v e rising found is) there))

-- ---- One place changes

-- a listed entry for another
pub set_listed : (places : List Entry) (p : ℕ) (e f : Entry) → AreRising (map (λ (d : Entry). d.record.version) places) → slice_get places p ≡ Some e → is_listed e ≡ true → is_listed f ≡ true
    → filter is_listed (set places p f) ≡ set (filter is_listed places) (place_in e.record.version (filter is_listed places)) f
set_listed [] p e f rising at_p on new = absurd (cc)
set_listed (x ∷ xs) zero e f rising at_p on new =
    let g : x ≡ e = cc in
    subst (λ (d : Entry). cond (is_listed f) (f ∷ filter is_listed xs) (filter is_listed xs) ≡ set (cond (is_listed x) (x ∷ filter is_listed xs) (filter is_listed xs)) (place_in d.record.version (cond (is_listed x) (x ∷ filter is_listed xs) (filter is_listed xs))) f) g
    (rw (new, ap is_listed g ∙ on, eq-eqb x.record.version x.record.version refl) refl)
set_listed (x ∷ xs) (suc p) e f rising at_p on new =
    let less : x.record.version < e.record.version = all_at (λ (d : Entry). x.record.version < d.record.version) xs p e (all_before_map (λ w. x.record.version < w) (λ (d : Entry). d.record.version) xs rising.0) at_p in
    at (is_listed x) (ne_eqb x.record.version e.record.version (λ same. absurd (omega arith))) (set_listed xs p e f rising.1 at_p on new)
  where
    at : (l : Bool) → eqb x.record.version e.record.version ≡ false → filter is_listed (set xs p f) ≡ set (filter is_listed xs) (place_in e.record.version (filter is_listed xs)) f
        → cond l (x ∷ filter is_listed (set xs p f)) (filter is_listed (set xs p f)) ≡ set (cond l (x ∷ filter is_listed xs) (filter is_listed xs)) (place_in e.record.version (cond l (x ∷ filter is_listed xs) (filter is_listed xs))) f
    at true other rest = rw other (λ i. x ∷ rest i)
    at false other rest = rest

-- a listed entry for a dead one
pub set_dead : (places : List Entry) (p : ℕ) (e f : Entry) → AreRising (map (λ (d : Entry). d.record.version) places) → slice_get places p ≡ Some e → is_listed e ≡ true → is_listed f ≡ false
    → filter is_listed (set places p f) ≡ remove (filter is_listed places) (place_in e.record.version (filter is_listed places))
set_dead [] p e f rising at_p on new = absurd (cc)
set_dead (x ∷ xs) zero e f rising at_p on new =
    let g : x ≡ e = cc in
    subst (λ (d : Entry). cond (is_listed f) (f ∷ filter is_listed xs) (filter is_listed xs) ≡ remove (cond (is_listed x) (x ∷ filter is_listed xs) (filter is_listed xs)) (place_in d.record.version (cond (is_listed x) (x ∷ filter is_listed xs) (filter is_listed xs)))) g
    (rw (new, ap is_listed g ∙ on, eq-eqb x.record.version x.record.version refl) refl)
set_dead (x ∷ xs) (suc p) e f rising at_p on new =
    let less : x.record.version < e.record.version = all_at (λ (d : Entry). x.record.version < d.record.version) xs p e (all_before_map (λ w. x.record.version < w) (λ (d : Entry). d.record.version) xs rising.0) at_p in
    at (is_listed x) (ne_eqb x.record.version e.record.version (λ same. absurd (omega arith))) (set_dead xs p e f rising.1 at_p on new)
  where
    at : (l : Bool) → eqb x.record.version e.record.version ≡ false → filter is_listed (set xs p f) ≡ remove (filter is_listed xs) (place_in e.record.version (filter is_listed xs))
        → cond l (x ∷ filter is_listed (set xs p f)) (filter is_listed (set xs p f)) ≡ remove (cond l (x ∷ filter is_listed xs) (filter is_listed xs)) (place_in e.record.version (cond l (x ∷ filter is_listed xs) (filter is_listed xs)))
    at true other rest = rw other (λ i. x ∷ rest i)
    at false other rest = rest

length_dead : (places : List Entry) (p : ℕ) (e f : Entry) → slice_get places p ≡ Some e → is_listed e ≡ true → is_listed f ≡ false → length (filter is_listed (set places p f)) + 1 ≡ length (filter is_listed places)
length_dead [] p e f at_p on new = absurd (cc)
length_dead (x ∷ xs) zero e f at_p on new =
    let g : x ≡ e = cc in
    rw (new, ap is_listed g ∙ on) (omega arith)
length_dead (x ∷ xs) (suc p) e f at_p on new = at (is_listed x) (length_dead xs p e f at_p on new)
  where
    at : (l : Bool) → length (filter is_listed (set xs p f)) + 1 ≡ length (filter is_listed xs)
        → length (cond l (x ∷ filter is_listed (set xs p f)) (filter is_listed (set xs p f))) + 1 ≡ length (cond l (x ∷ filter is_listed xs) (filter is_listed xs))
    at true rest = omega (arith, rest)
    at false rest = rest

-- ---- Before a place

-- what is listed before the place of a listed entry
pub take_listed : (places : List Entry) (p : ℕ) (e : Entry) → AreRising (map (λ (d : Entry). d.record.version) places) → slice_get places p ≡ Some e → is_listed e ≡ true
    → filter is_listed (take p places) ≡ take (place_in e.record.version (filter is_listed places)) (filter is_listed places)
take_listed [] p e rising at_p on = absurd (cc)
take_listed (x ∷ xs) zero e rising at_p on =
    let g : x ≡ e = cc in
    subst (λ (d : Entry). [] ≡ take (place_in d.record.version (cond (is_listed x) (x ∷ filter is_listed xs) (filter is_listed xs))) (cond (is_listed x) (x ∷ filter is_listed xs) (filter is_listed xs))) g
    (rw (ap is_listed g ∙ on, eq-eqb x.record.version x.record.version refl) refl)
take_listed (x ∷ xs) (suc p) e rising at_p on =
    let less : x.record.version < e.record.version = all_at (λ (d : Entry). x.record.version < d.record.version) xs p e (all_before_map (λ w. x.record.version < w) (λ (d : Entry). d.record.version) xs rising.0) at_p in
    at (is_listed x) (ne_eqb x.record.version e.record.version (λ same. absurd (omega arith))) (take_listed xs p e rising.1 at_p on)
  where
    at : (l : Bool) → eqb x.record.version e.record.version ≡ false → filter is_listed (take p xs) ≡ take (place_in e.record.version (filter is_listed xs)) (filter is_listed xs)
        → cond l (x ∷ filter is_listed (take p xs)) (filter is_listed (take p xs)) ≡ take (place_in e.record.version (cond l (x ∷ filter is_listed xs) (filter is_listed xs))) (cond l (x ∷ filter is_listed xs) (filter is_listed xs))
    at true other rest = rw other (λ i. x ∷ rest i)
    at false other rest = rest

-- the listed entry behind so many others
pub nth_listed : (places : List Entry) (p : ℕ) (e : Entry) → slice_get places p ≡ Some e → is_listed e ≡ true → slice_get (filter is_listed places) (length (filter is_listed (take p places))) ≡ Some e
nth_listed [] p e at_p on = absurd (cc)
nth_listed (x ∷ xs) zero e at_p on =
    let g : x ≡ e = cc in
    rw (ap is_listed g ∙ on) at_p
nth_listed (x ∷ xs) (suc p) e at_p on = at (is_listed x) (nth_listed xs p e at_p on)
  where
    at : (l : Bool) → slice_get (filter is_listed xs) (length (filter is_listed (take p xs))) ≡ Some e
        → slice_get (cond l (x ∷ filter is_listed xs) (filter is_listed xs)) (length (cond l (x ∷ filter is_listed (take p xs)) (filter is_listed (take p xs)))) ≡ Some e
    at true rest = rest
    at false rest = rest

pub from_last_here : (places : List Entry) (place left behind : ℕ) (e : Entry) → 0 < place → place ≤ length places → length (filter is_listed (take place places)) + behind ≡ length (filter is_listed places) + left → left ≡ 0
    → e ≡ get_or places (place - 1) e → (e.record.keep ≡ 0 → ⊥) → slice_get (filter is_listed places) (length (filter is_listed places) - 1 - behind) ≡ Some e
from_last_here places place left behind e some within counted last is keep =
    let inside : place - 1 < length places = omega arith in
    let on : is_listed e ≡ true = ap not (ne_eqb e.record.keep 0 keep) in
    let at : slice_get places (place - 1) ≡ Some e = slice_get-get_or places (place - 1) e inside ∙ ap Some (sym is) in
    let one : cond (is_listed (get_or places (place - 1) e)) 1 0 ≡ 1 = ap (λ (d : Entry). cond (is_listed d) 1 0) (sym is) ∙ ap (λ (t : Bool). cond t 1 0) on in
    let back : place ≡ place - 1 + 1 = omega arith in
    let more : length (filter is_listed (take place places)) ≡ length (filter is_listed (take (place - 1) places)) + 1 = ap (λ (k : ℕ). length (filter is_listed (take k places))) back
    ∙ length-filter_more is_listed places (place - 1) e inside ∙ ap (λ (k : ℕ). length (filter is_listed (take (place - 1) places)) + k) one in
    let place_is : length (filter is_listed (take (place - 1) places)) ≡ length (filter is_listed places) - 1 - behind = omega arith in
    subst (λ (k : ℕ). slice_get (filter is_listed places) k ≡ Some e) place_is (nth_listed places (place - 1) e at on)

-- ---- What dead entries don't meet

pub any_listed : (test : Entry → Bool) (places : List Entry) → ((e : Entry) → is_listed e ≡ false → test e ≡ false) → list_any test (filter is_listed places) ≡ list_any test places
any_listed test [] dead = refl
any_listed test (x ∷ xs) dead = at (is_listed x) refl (any_listed test xs dead)
  where
    at : (l : Bool) → is_listed x ≡ l → list_any test (filter is_listed xs) ≡ list_any test xs → list_any test (cond l (x ∷ filter is_listed xs) (filter is_listed xs)) ≡ list_any test (x ∷ xs)
    at true is rest = search (rest)
    at false is rest = rw (dead x is) rest

none_kept : (e : Entry) (b : ℕ) → is_listed e ≡ false → keeps e b ≡ false
none_kept e b dead = at (eqb e.record.keep 0) refl
  where
    at : (t : Bool) → eqb e.record.keep 0 ≡ t → keeps e b ≡ false
    at true is = rw (eqb-true e.record.keep 0 is, has_bit-zero (b - e.record.lbn)) (and-false (leb e.record.lbn b))
    at false is = absurd (false≢true (sym dead ∙ ap not is))

pub dead_misses : (e : Entry) (bs : List ℕ) → is_listed e ≡ false → list_any (keeps e) bs ≡ false
dead_misses e [] dead = refl
dead_misses e (b ∷ bs) dead = rw (none_kept e b dead) (dead_misses e bs dead)

-- ---- The order of the places

all_above : (P : ℕ → Type 0) (xs : List Entry) → AllByRecursion P (map (λ (e : Entry). e.record.version) xs) → AllByRecursion P (map (λ (e : Entry). e.record.version) (filter is_listed xs))
all_above P [] all = tt
all_above P (x ∷ xs) all = at (is_listed x) (all_above P xs all.1)
  where
    at : (l : Bool) → AllByRecursion P (map (λ (e : Entry). e.record.version) (filter is_listed xs)) → AllByRecursion P (map (λ (e : Entry). e.record.version) (cond l (x ∷ filter is_listed xs) (filter is_listed xs)))
    at true rest = (all.0, rest)
    at false rest = rest

pub rising_listed : (xs : List Entry) → AreRising (map (λ (e : Entry). e.record.version) xs) → AreRising (map (λ (e : Entry). e.record.version) (filter is_listed xs))
rising_listed [] rising = tt
rising_listed (x ∷ xs) rising = at (is_listed x) (rising_listed xs rising.1)
  where
    at : (l : Bool) → AreRising (map (λ (e : Entry). e.record.version) (filter is_listed xs)) → AreRising (map (λ (e : Entry). e.record.version) (cond l (x ∷ filter is_listed xs) (filter is_listed xs)))
    at true rest = (all_above (λ w. x.record.version < w) xs rising.0, rest)
    at false rest = rest

all_taken : (P : ℕ → Type 0) (n : ℕ) (xs : List Entry) → AllByRecursion P (map (λ (e : Entry). e.record.version) xs) → AllByRecursion P (map (λ (e : Entry). e.record.version) (take n xs))
all_taken P zero xs all = tt
all_taken P (suc n) [] all = tt
all_taken P (suc n) (x ∷ xs) all = (all.0, all_taken P n xs all.1)

pub rising_taken : (n : ℕ) (xs : List Entry) → AreRising (map (λ (e : Entry). e.record.version) xs) → AreRising (map (λ (e : Entry). e.record.version) (take n xs))
rising_taken zero xs rising = tt
rising_taken (suc n) [] rising = tt
rising_taken (suc n) (x ∷ xs) rising = (all_taken (λ w. x.record.version < w) n xs rising.0, rising_taken n xs rising.1)

-- ---- At the place of a listed version

-- what stands at the place that was found for a version
there : (places : List Entry) (v k : ℕ) → AreRising (map (λ (d : Entry). d.record.version) places) → IsSome (find (is_version v) (filter is_listed places)) → find (is_version v) places ≡ slice_get places k → k < length places
    → (e : Entry) × ((slice_get places k ≡ Some e) × ((e.record.version ≡ v) × (is_listed e ≡ true)))
there places v k rising some found within = at (slice_get places k) refl
  where
    at : (o : Option Entry) → slice_get places k ≡ o → (e : Entry) × ((slice_get places k ≡ Some e) × ((e.record.version ≡ v) × (is_listed e ≡ true)))
    at None is = absurd (false≢true (subst (λ (o : Option Entry). IsSome o) (found ∙ is) (listed_there places v some)))
    at (Some e) is = (e, (is, (found_version places v e (found ∙ is), listed_place places v k e rising some (found ∙ is))))

keeps_on : (keep : ℕ) → 0 < keep → not (eqb keep 0) ≡ true
keeps_on keep some = ap not (ne_eqb keep 0 (λ none. absurd (omega arith)))

pub items_set : (places : List Entry) (v k : ℕ) (f : Entry) → AreRising (map (λ (d : Entry). d.record.version) places) → IsSome (find (is_version v) (filter is_listed places)) → find (is_version v) places ≡ slice_get places k → k < length places
    → 0 < f.record.keep → filter is_listed (set places k f) ≡ set (filter is_listed places) (place_in v (filter is_listed places)) f
items_set places v k f rising some found within keep =
    let h = there places v k rising some found within in
    set_listed places k h.0 f rising h.1.0 h.1.1.1 (keeps_on f.record.keep keep) ∙ ap (λ (w : ℕ). set (filter is_listed places) (place_in w (filter is_listed places)) f) h.1.1.0

length_set : (places : List Entry) (k : ℕ) (e f : Entry) → slice_get places k ≡ Some e → is_listed e ≡ is_listed f → length (filter is_listed (set places k f)) ≡ length (filter is_listed places)
length_set [] k e f at_k same = absurd (cc)
length_set (x ∷ xs) zero e f at_k same =
    let g : x ≡ e = cc in
    ap (λ (l : Bool). length (cond l (f ∷ filter is_listed xs) (filter is_listed xs))) (sym same ∙ ap is_listed (sym g)) ∙ at (is_listed x)
  where
    at : (l : Bool) → length (cond l (f ∷ filter is_listed xs) (filter is_listed xs)) ≡ length (cond l (x ∷ filter is_listed xs) (filter is_listed xs))
    at true = refl
    at false = refl
length_set (x ∷ xs) (suc k) e f at_k same = at (is_listed x) (length_set xs k e f at_k same)
  where
    at : (l : Bool) → length (filter is_listed (set xs k f)) ≡ length (filter is_listed xs) → length (cond l (x ∷ filter is_listed (set xs k f)) (filter is_listed (set xs k f))) ≡ length (cond l (x ∷ filter is_listed xs) (filter is_listed xs))
    at true rest = ap suc rest
    at false rest = rest

pub places_set : (places : List Entry) (dead v k : ℕ) (f : Entry) → ArePlaces places dead → IsSome (find (is_version v) (filter is_listed places)) → find (is_version v) places ≡ slice_get places k → k < length places
    → f.record.version ≡ v → 0 < f.record.keep → ArePlaces (set places k f) dead
places_set places dead v k f all some found within same keep =
    let h = there places v k all.rising some found within in
    record {
      rising = subst AreRising (sym (versions_set places k h.0 f h.1.0 (same ∙ sym h.1.1.0))) all.rising;
      counted = omega (arith, all.counted, length_set places k h.0 f h.1.0 (h.1.1.1 ∙ sym (keeps_on f.record.keep keep)), length-set places k f);
    }

pub before_listed : (places : List Entry) (v k lbn mask : ℕ) → AreRising (map (λ (d : Entry). d.record.version) places) → IsSome (find (is_version v) (filter is_listed places)) → find (is_version v) places ≡ slice_get places k → k < length places
    → IsKept lbn (take (k - 0) (drop 0 places)) mask → IsKept lbn (take (place_in v (filter is_listed places)) (filter is_listed places)) mask
before_listed places v k lbn mask rising some found within kept i =
    let h = there places v k rising some found within in
    let all : k - 0 ≡ k = omega arith in
    kept i ∙ ap (λ (n : ℕ). ltb i 128 && one_keeps (take n places) (lbn + i)) all
    ∙ ap (λ (b : Bool). ltb i 128 && b) (sym (any_listed (λ e. keeps e (lbn + i)) (take k places) (λ e dead. none_kept e (lbn + i) dead)))
    ∙ ap (λ (es : List Entry). ltb i 128 && one_keeps es (lbn + i)) (take_listed places k h.0 rising h.1.0 h.1.1.1 ∙ ap (λ (w : ℕ). take (place_in w (filter is_listed places)) (filter is_listed places)) h.1.1.0)

-- ---- A further place

pub items_pushed : (now : List Entry) (f : Entry) → 0 < f.record.keep → filter is_listed (now ++ f ∷ []) ≡ filter is_listed now ++ f ∷ []
items_pushed now f keep = filter-append is_listed now (f ∷ []) ∙ ap (λ (t : Bool). filter is_listed now ++ cond t (f ∷ []) []) (keeps_on f.record.keep keep)

pub filter_twice : (xs : List Entry) → filter is_listed (filter is_listed xs) ≡ filter is_listed xs
filter_twice [] = refl
filter_twice (x ∷ xs) = at (is_listed x) refl (filter_twice xs)
  where
    at : (l : Bool) → is_listed x ≡ l → filter is_listed (filter is_listed xs) ≡ filter is_listed xs → filter is_listed (cond l (x ∷ filter is_listed xs) (filter is_listed xs)) ≡ cond l (x ∷ filter is_listed xs) (filter is_listed xs)
    at true is rest = rw is (λ i. x ∷ rest i)
    at false is rest = rest

-- where the last entry isn't dead, all versions are below what is above all listed ones
pub all_below : (xs : List Entry) (v : ℕ) → AreRising (map (λ (e : Entry). e.record.version) xs) → ((k : ℕ) → suc k ≡ length xs → is_dead (slice_get xs k) ≡ false) → AllByRecursion (λ (e : Entry). e.record.version < v) (filter is_listed xs)
    → AllByRecursion (λ w. w < v) (map (λ (e : Entry). e.record.version) xs)
all_below [] v rising last listed = tt
all_below (x ∷ []) v rising last listed = (at (is_listed x) (ap not (last 0 refl)) listed, tt)
  where
    at : (l : Bool) → l ≡ true → AllByRecursion (λ (e : Entry). e.record.version < v) (cond l (x ∷ []) []) → x.record.version < v
    at true is all = all.0
    at false is all = absurd (false≢true is)
all_below (x ∷ y ∷ ys) v rising last listed =
    let rest = all_below (y ∷ ys) v rising.1 (λ k is. last (suc k) (ap suc is)) (at (is_listed x) listed) in
    let less : x.record.version < y.record.version = rising.0.0 in
    let more : y.record.version < v = rest.0 in
    (omega arith, rest)
  where
    at : (l : Bool) → AllByRecursion (λ (e : Entry). e.record.version < v) (cond l (x ∷ filter is_listed (y ∷ ys)) (filter is_listed (y ∷ ys))) → AllByRecursion (λ (e : Entry). e.record.version < v) (filter is_listed (y ∷ ys))
    at true all = all.1
    at false all = all

-- ---- Dead places go

pub few_listed : (xs : List Entry) → length (filter is_listed xs) ≤ length xs
few_listed xs = subst (λ (n : ℕ). n ≤ length xs) (sym (length-filter is_listed xs)) (count_by-le-length is_listed xs)

-- where as many are listed as there are places, none is dead
pub all_listed : (xs : List Entry) → length (filter is_listed xs) ≡ length xs → filter is_listed xs ≡ xs
all_listed [] same = refl
all_listed (x ∷ xs) same = at (is_listed x) same (λ is. all_listed xs is)
  where
    at : (l : Bool) → length (cond l (x ∷ filter is_listed xs) (filter is_listed xs)) ≡ suc (length xs) → (length (filter is_listed xs) ≡ length xs → filter is_listed xs ≡ xs)
        → cond l (x ∷ filter is_listed xs) (filter is_listed xs) ≡ x ∷ xs
    at true is rest = ap (λ (es : List Entry). x ∷ es) (rest (omega (arith, is)))
    at false is rest = let few : length (filter is_listed xs) ≤ length xs = few_listed xs in absurd (omega (arith, is))

-- a dead place that is last
pub last_dropped : (xs : List Entry) (n : ℕ) → suc n ≡ length xs → is_dead (slice_get xs n) ≡ true → filter is_listed (take n xs) ≡ filter is_listed xs
last_dropped [] n is dead = absurd (omega arith)
last_dropped (x ∷ []) zero is dead = rw dead refl
last_dropped (x ∷ y ∷ ys) zero is dead = absurd (omega arith)
last_dropped (x ∷ xs) (suc n) is dead = at (is_listed x) (last_dropped xs n (omega (arith, is)) dead)
  where
    at : (l : Bool) → filter is_listed (take n xs) ≡ filter is_listed xs → cond l (x ∷ filter is_listed (take n xs)) (filter is_listed (take n xs)) ≡ cond l (x ∷ filter is_listed xs) (filter is_listed xs)
    at true rest = λ i. x ∷ rest i
    at false rest = rest

-- one more of these
pub drop_step : (initial old now : List Entry) (len : ℕ) → len ≡ length old → is_dead (slice_get old (length old - 1)) ≡ true → now ≡ take (len - 1) old → filter is_listed old ≡ filter is_listed initial → old ≡ take (length old) initial
    → (filter is_listed now ≡ filter is_listed initial) × (now ≡ take (length now) initial)
drop_step initial [] now len is dead rest same first = absurd (false≢true dead)
drop_step initial (x ∷ xs) now len is dead rest same first =
    let last : length (x ∷ xs) - 1 ≡ length xs = omega arith in
    let at : is_dead (slice_get (x ∷ xs) (length xs)) ≡ true = subst (λ (k : ℕ). is_dead (slice_get (x ∷ xs) k) ≡ true) last dead in
    let e : len - 1 ≡ length xs = omega (arith, is) in
    let part : now ≡ take (length xs) (x ∷ xs) = rest ∙ ap (λ (k : ℕ). take k (x ∷ xs)) e in
    let long : length now ≡ length xs = ap length part ∙ length-take-le (length xs) (x ∷ xs) (omega arith) in (
      ap (filter is_listed) part ∙ last_dropped (x ∷ xs) (length xs) refl at ∙ same,
      part ∙ ap (take (length xs)) first ∙ take-take (length xs) (length (x ∷ xs)) initial (omega arith) ∙ ap (λ (k : ℕ). take k initial) (sym long),
    )

-- as many as went were dead
pub popped_few : (places now : List Entry) (dead popped : ℕ) → ArePlaces places dead → filter is_listed now ≡ filter is_listed places → length now + popped ≡ length places → popped ≤ dead
popped_few places now dead popped all same count = omega (arith, all.counted, count, few_listed now, ap length same)

pub places_dropped : (places now : List Entry) (dead popped : ℕ) → ArePlaces places dead → filter is_listed now ≡ filter is_listed places → now ≡ take (length now) places → length now + popped ≡ length places → ArePlaces now (dead - popped)
places_dropped places now dead popped all same first count = record {
  rising = subst (λ (es : List Entry). AreRising (map (λ (d : Entry). d.record.version) es)) (sym first) (rising_taken (length now) places all.rising);
  counted = omega (arith, all.counted, count, popped_few places now dead popped all same count, ap length same);
}

pub places_listed : (places now : List Entry) (dead : ℕ) → ArePlaces places dead → now ≡ filter is_listed places → ArePlaces now 0
places_listed places now dead all is = subst (λ (es : List Entry). ArePlaces es 0) (sym is) (record {
  rising = rising_listed places all.rising;
  counted = omega (arith, ap length (filter_twice places));
})

pub places_pushed : (places now pushed : List Entry) (dead popped : ℕ) (f : Entry) → ArePlaces places dead → filter is_listed now ≡ filter is_listed places → now ≡ take (length now) places → length now + popped ≡ length places
    → is_dead (slice_get now (length now - 1)) ≡ false → AllByRecursion (λ (e : Entry). e.record.version < f.record.version) (filter is_listed places) → 0 < f.record.keep → pushed ≡ now ++ f ∷ [] → ArePlaces pushed (dead - popped)
places_pushed places now pushed dead popped f all same first count last newest keep is =
    let before = places_dropped places now dead popped all same first count in
    let ends : (k : ℕ) → suc k ≡ length now → is_dead (slice_get now k) ≡ false = λ k at_k. subst (λ (n : ℕ). is_dead (slice_get now n) ≡ false) (omega (arith, at_k)) last in
    let below = all_below now f.record.version before.rising ends (subst (AllByRecursion (λ (e : Entry). e.record.version < f.record.version)) (sym same) newest) in
    subst (λ (es : List Entry). ArePlaces es (dead - popped)) (sym is) (record {
      rising = subst AreRising (sym (map-append (λ (d : Entry). d.record.version) now (f ∷ []))) (rising_push (map (λ (d : Entry). d.record.version) now) f.record.version before.rising below);
      counted = omega (arith, before.counted, ap length (items_pushed now f keep), length-append (filter is_listed now) (f ∷ []), length-append now (f ∷ []));
    })

pub places_dead : (places : List Entry) (dead v k : ℕ) (f : Entry) → ArePlaces places dead → IsSome (find (is_version v) (filter is_listed places)) → find (is_version v) places ≡ slice_get places k → k < length places
    → ((e : Entry) → slice_get places k ≡ Some e → f.record.version ≡ e.record.version) → is_listed f ≡ false → ArePlaces (set places k f) (dead + 1)
places_dead places dead v k f all some found within same off =
    let h = there places v k all.rising some found within in
    record {
      rising = subst AreRising (sym (versions_set places k h.0 f h.1.0 (same h.0 h.1.0))) all.rising;
      counted = omega (arith, all.counted, length_dead places k h.0 f h.1.0 h.1.1.1 off, length-set places k f);
    }

pub items_dead : (places : List Entry) (v k : ℕ) (f : Entry) → AreRising (map (λ (d : Entry). d.record.version) places) → IsSome (find (is_version v) (filter is_listed places)) → find (is_version v) places ≡ slice_get places k → k < length places
    → is_listed f ≡ false → filter is_listed (set places k f) ≡ remove (filter is_listed places) (place_in v (filter is_listed places))
items_dead places v k f rising some found within off =
    let h = there places v k rising some found within in
    set_dead places k h.0 f rising h.1.0 h.1.1.1 off ∙ ap (λ (w : ℕ). remove (filter is_listed places) (place_in w (filter is_listed places))) h.1.1.0

-- ---- The newest entry of a block

pub newest_entry : (items : List Entry) (b : ℕ) (c : Cell) (e : Entry) → AreEntries items → cell_of items b ≡ Some c → find (is_version c.version) items ≡ Some e → IsNewest items b c (place_in c.version items) e
newest_entry items b c e es is found =
    let at = found_place items c.version e found in
    newest_here items b c (place_in c.version items) e es is (slice_get_within items (place_in c.version items) e at) (found ∙ sym at) (sym (get_or_from_slice_get items (place_in c.version items) e e at))
