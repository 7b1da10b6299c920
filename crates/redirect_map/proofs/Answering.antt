-- The answers of an index, in the words of contracts.
use Rattle.std.proofs.Common.{◌≡◌, ⊎_elim, ◌<◌, ◌≤◌, ◌+◌, ◌-◌, ◌^◌, ℕ, zero, suc, Bool, true, false, cond, not, ◌&&◌, ◌||◌, List, [], ◌∷◌, map, length, take, drop, get_or, Option, None, Some, refl, sym, ap, ◌∙◌, subst, arith, eqb, ltb, leb, bit_and}
use Rattle.std.specs.Prelude.{slice_get, option_map, IfSome, IsSome}
use Rattle.std.specs.List.{AllByRecursion, list_any, find}
use Rattle.std.proofs.Math.Nat.{pow-le-pow_right}
use Rattle.std.proofs.lemmas.Bool.{cases_lt, lt-ltb, leb-true, and_parts, false≢true, eq-eqb, ne_eqb}
use Rattle.std.proofs.lemmas.Option.{slice_get-map}
use Rattle.wol_model.specs.Log.{has_bit}
use Rattle.wol_model.specs.Extents.{has_newer}
use Rattle.wol_model.specs.Index.{listed_in, Indexed, AreRising, cover_of, listed_covers, is_homed, is_live, is_older, is_covered, keeps_a_block}
use Rattle.block_cells.specs.Masks.{IsMask}
use Rattle.block_cells.proofs.Bits.{has_bit-above, has_bit-and, some_bit}
use Rattle.block_cells.proofs.Meeting.{any_in_range}
use Rattle.block_cells.proofs.Marks.{in_mask-bit, length-marks_of}
use Rattle.redirect_map.specs.declared.entry.Entry.{Entry}
use Rattle.redirect_map.specs.Index.{has_version, entry_at, HasVersion, IsRecordOf, IsAnswer, IsEntry, IsIndex}
use Rattle.redirect_map.specs.Kept.{seen, keeps, one_keeps, IsKept, is_version, IsInRange, AreLive, AreEntries, IsAt}
use Rattle.redirect_map.proofs.Found.{find-map}
use Rattle.redirect_map.proofs.Seen.{all_at, all_from_places, all_of_map, all_before_map, covers_seen, homed_seen, newer_at, older_at, at_place}

-- a mask of an entry is one of 128 bits
pub wide : (mask count : ℕ) → mask < 2 ^ count → count ≤ 128 → mask < 2 ^ 128
wide mask count fits few =
    let more : 2 ^ count ≤ 2 ^ 128 = pow-le-pow_right (omega arith) few in
    omega arith

pub range_at : (items : List Entry) (k : ℕ) (e : Entry) → AreEntries items → slice_get items k ≡ Some e → IsInRange e
range_at items k e es at = all_at IsInRange items k e es.ranges at

pub is_there : (items : List Entry) (version : ℕ) → HasVersion (map seen items) version → IsSome (find (is_version version) items)
is_there items version there = at (find (is_version version) items) (subst (λ (o : Option Indexed). IsSome o) (find-map (has_version version) seen items) there)
  where
    at : (o : Option Entry) → IsSome (option_map seen o) → IsSome o
    at None h = h
    at (Some x) h = h

-- the record of an entry
pub record_seen : (e : Entry) → IsInRange e → IsRecordOf (seen e) e.record
record_seen e r = record {
  version = refl;
  first = refl;
  count = sym (length-marks_of e.record.count e.record.keep);
  keep = refl;
  within = r.keep_within;
  lane = refl;
  segment = refl;
  pos = refl;
}

-- which of an entry's blocks a newer one covers, and which an older one
newer_there : (items : List Entry) (version k : ℕ) (e : Entry) (b : ℕ) → AreEntries items → IsAt items version k e
    → has_newer (listed_covers (listed_in (map seen items))) e.record.version b ≡ one_keeps (drop (suc k) items) b
newer_there items version k e b es at = newer_at items k e b es.rising es.ranges at.at

pub live_there : (items : List Entry) (version k : ℕ) (e : Entry) (i : ℕ) → AreEntries items → IsAt items version k e
    → is_live (listed_in (map seen items)) (seen e).listed (e.record.lbn + i) ≡ (has_bit e.record.keep i && not (one_keeps (drop (suc k) items) (e.record.lbn + i)))
live_there items version k e i es at =
    λ j. (covers_seen e (e.record.lbn + i) (range_at items k e es at.at) ∙ in_mask-bit e.record.lbn e.record.keep i) j && not (newer_there items version k e (e.record.lbn + i) es at j)

pub older_there : (items : List Entry) (version k : ℕ) (e : Entry) (i : ℕ) → AreEntries items → IsAt items version k e
    → is_older (listed_in (map seen items)) (seen e).listed (e.record.lbn + i) ≡ (has_bit e.record.keep i && one_keeps (take k items) (e.record.lbn + i))
older_there items version k e i es at =
    λ j. (covers_seen e (e.record.lbn + i) (range_at items k e es at.at) ∙ in_mask-bit e.record.lbn e.record.keep i) j && older_at items k e (e.record.lbn + i) es.rising es.ranges at.at j

pub homed_there : (items : List Entry) (version k : ℕ) (e : Entry) (i : ℕ) → AreEntries items → IsAt items version k e → is_homed (seen e).listed (e.record.lbn + i) ≡ has_bit e.homed i
homed_there items version k e i es at = homed_seen e (e.record.lbn + i) (range_at items k e es at.at) ∙ in_mask-bit e.record.lbn e.homed i

-- what is said of the entry of a version, from what is so of it
pub of_entry : (items : List Entry) (version k : ℕ) (e : Entry) (P : Indexed → Type 0) → IsAt items version k e → P (seen e) → IfSome (entry_at (map seen items) version) P
of_entry items version k e P at holds = rw at.found holds

in_128 : (keep i : ℕ) (b : Bool) (f : Bool → Bool) → keep < 2 ^ 128 → (has_bit keep i && f (ltb i 128 && b)) ≡ (has_bit keep i && f b)
in_128 keep i b f fits = ⊎_elim
    (λ low. ap (λ (t : Bool). has_bit keep i && f (t && b)) (lt-ltb i 128 low))
    (λ high. rw (has_bit-above keep 128 i fits high) refl)
    (cases_lt i 128)

pub older_is : (items : List Entry) (version k : ℕ) (e : Entry) (older : ℕ) → AreEntries items → IsAt items version k e → IsKept e.record.lbn (take k items) older
    → IfSome (entry_at (map seen items) version) (λ d. IsMask d.listed.first (is_older (listed_in (map seen items)) d.listed) (bit_and e.record.keep older))
older_is items version k e older es at bits =
    let range = range_at items k e es at.at in
    let keep_fits : e.record.keep < 2 ^ 128 = wide e.record.keep e.record.count range.keep_within range.count in
    of_entry items version k e (λ d. IsMask d.listed.first (is_older (listed_in (map seen items)) d.listed) (bit_and e.record.keep older)) at
    (λ i. has_bit-and e.record.keep older i ∙ ap (λ (t : Bool). has_bit e.record.keep i && t) (bits i)
    ∙ in_128 e.record.keep i (one_keeps (take k items) (e.record.lbn + i)) (λ t. t) keep_fits ∙ sym (older_there items version k e i es at))

pub homed_is : (items : List Entry) (version k : ℕ) (e : Entry) → AreEntries items → IsAt items version k e
    → IfSome (entry_at (map seen items) version) (λ d. IsMask d.listed.first (is_homed d.listed) e.homed)
homed_is items version k e es at =
    of_entry items version k e (λ d. IsMask d.listed.first (is_homed d.listed) e.homed) at (λ i. sym (homed_there items version k e i es at))

-- homed blocks are live
pub live_entry : (items : List Entry) (k : ℕ) (e : Entry) → AreLive items → slice_get items k ≡ Some e
    → (i : ℕ) → has_bit e.homed i ≡ true → (has_bit e.record.keep i ≡ true) × (one_keeps (drop (suc k) items) (e.record.lbn + i) ≡ false)
live_entry [] k e live at i homed = absurd (cc)
live_entry (x ∷ xs) zero e live at i homed =
    let f : x ≡ e = cc in
    subst (λ (d : Entry). (j : ℕ) → has_bit d.homed j ≡ true → (has_bit d.record.keep j ≡ true) × (one_keeps xs (d.record.lbn + j) ≡ false)) f live.0 i homed
live_entry (x ∷ xs) (suc k) e live at i homed = live_entry xs k e live.1 at i homed

pub live_bit : (items : List Entry) (version k : ℕ) (e : Entry) (i : ℕ) → AreEntries items → IsAt items version k e → has_bit e.homed i ≡ true
    → is_live (listed_in (map seen items)) (seen e).listed (e.record.lbn + i) ≡ true
live_bit items version k e i es at homed =
    let facts = live_entry items k e es.live at.at i homed in
    live_there items version k e i es at ∙ (λ j. facts.0 j && not (facts.1 j))

pub homed_live : (items : List Entry) (version k : ℕ) (e : Entry) → AreEntries items → IsAt items version k e
    → IfSome (entry_at (map seen items) version) (λ d. (i : ℕ) → has_bit e.homed i ≡ true → is_live (listed_in (map seen items)) d.listed (d.listed.first + i) ≡ true)
homed_live items version k e es at =
    of_entry items version k e (λ d. (i : ℕ) → has_bit e.homed i ≡ true → is_live (listed_in (map seen items)) d.listed (d.listed.first + i) ≡ true) at
    (λ i homed. live_bit items version k e i es at homed)

-- a look-up by version
pub find_none : (items : List Entry) (version : ℕ) → find (is_version version) items ≡ None → IsAnswer (entry_at (map seen items) version) None
find_none items version none = rw (find-map (has_version version) seen items, none) tt

pub find_range : (p : Entry → Bool) (items : List Entry) (e : Entry) → AllByRecursion IsInRange items → find p items ≡ Some e → IsInRange e
find_range p [] e ranges found = absurd (cc)
find_range p (x ∷ xs) e ranges found = at (p x) found (find_range p xs e ranges.1)
  where
    at : (t : Bool) → cond t (Some x) (find p xs) ≡ Some e → (find p xs ≡ Some e → IsInRange e) → IsInRange e
    at true f rest = let g : x ≡ e = cc in subst IsInRange g ranges.0
    at false f rest = rest f

pub find_some : (items : List Entry) (version : ℕ) (e : Entry) → AreEntries items → find (is_version version) items ≡ Some e → IsAnswer (entry_at (map seen items) version) (Some e.record)
find_some items version e es found = rw (find-map (has_version version) seen items, found) (record_seen e (find_range (is_version version) items e es.ranges found))

-- which blocks are covered
pub covered_seen : (items : List Entry) (b : ℕ) → AllByRecursion IsInRange items → is_covered (listed_in (map seen items)) b ≡ one_keeps items b
covered_seen [] b ranges = refl
covered_seen (x ∷ xs) b ranges = λ i. covers_seen x b ranges.0 i || covered_seen xs b ranges.1 i

pub no_any : (bs : List ℕ) → list_any (λ b. false) bs ≡ false
no_any [] = refl
no_any (b ∷ bs) = no_any bs

either_any : (p q : ℕ → Bool) (bs : List ℕ) → (list_any p bs || list_any q bs) ≡ list_any (λ b. p b || q b) bs
either_any p q [] = refl
either_any p q (b ∷ bs) = four (p b) (list_any p bs) (q b) (list_any q bs) ∙ ap (λ (t : Bool). (p b || q b) || t) (either_any p q bs)
  where
    four : (w x y z : Bool) → ((w || x) || (y || z)) ≡ ((w || y) || (x || z))
    four true x y z = refl
    four false true true z = refl
    four false true false z = refl
    four false false true z = refl
    four false false false z = refl

pub any_block : (p q : ℕ → Bool) → ((b : ℕ) → p b ≡ q b) → (bs : List ℕ) → list_any p bs ≡ list_any q bs
any_block p q same [] = refl
any_block p q same (b ∷ bs) = λ i. same b i || any_block p q same bs i

pub covered_is : (items : List Entry) (bs : List ℕ) → AllByRecursion IsInRange items → list_any (λ e. list_any (keeps e) bs) items ≡ list_any (is_covered (listed_in (map seen items))) bs
covered_is items bs ranges = swapped items ∙ any_block (one_keeps items) (is_covered (listed_in (map seen items))) (λ b. sym (covered_seen items b ranges)) bs
  where
    swapped : (es : List Entry) → list_any (λ e. list_any (keeps e) bs) es ≡ list_any (one_keeps es) bs
    swapped [] = sym (no_any bs)
    swapped (x ∷ xs) = ap (λ (t : Bool). list_any (keeps x) bs || t) (swapped xs) ∙ either_any (keeps x) (one_keeps xs) bs

-- what is so of each index
pub keeps_some : (e : Entry) → IsInRange e → keeps_a_block (seen e).listed ≡ true
keeps_some e r =
    let one = some_bit e.record.keep r.keeps (wide e.record.keep e.record.count r.keep_within r.count) in
    let inside : one.0 < e.record.count = ⊎_elim (λ less. less) (λ more. absurd (false≢true (sym (has_bit-above e.record.keep e.record.count one.0 r.keep_within more) ∙ one.1))) (cases_lt one.0 e.record.count) in
    rw (length-marks_of e.record.count e.record.keep) (any_in_range (cover_of (seen e).listed).covers e.record.lbn e.record.count (e.record.lbn + one.0) (omega arith) (omega arith)
    (covers_seen e (e.record.lbn + one.0) r ∙ in_mask-bit e.record.lbn e.record.keep one.0 ∙ one.1))

pub same_version : (items : List Entry) (k : ℕ) (e : Entry) → AreRising (map (λ (d : Entry). d.record.version) items) → slice_get items k ≡ Some e → find (is_version e.record.version) items ≡ Some e
same_version [] k e rising at = absurd (cc)
same_version (x ∷ xs) zero e rising at =
    let f : x ≡ e = cc in
    subst (λ (d : Entry). cond (eqb x.record.version d.record.version) (Some x) (find (is_version d.record.version) xs) ≡ Some d) f (ap (λ (t : Bool). cond t (Some x) (find (is_version x.record.version) xs)) (eq-eqb x.record.version x.record.version refl))
same_version (x ∷ xs) (suc k) e rising at =
    let less : x.record.version < e.record.version = all_at (λ (d : Entry). x.record.version < d.record.version) xs k e (all_before_map (λ w. x.record.version < w) (λ (d : Entry). d.record.version) xs rising.0) at in
    ap (λ (t : Bool). cond t (Some x) (find (is_version e.record.version) xs)) (ne_eqb x.record.version e.record.version (λ same. absurd (omega arith))) ∙ same_version xs k e rising.1 at

pub at_own : (items : List Entry) (k : ℕ) (e : Entry) → AreEntries items → slice_get items k ≡ Some e → IsAt items e.record.version k e
at_own items k e es at = record {
  at = at;
  version_is = refl;
  found = find-map (has_version e.record.version) seen items ∙ ap (option_map seen) (same_version items k e es.rising at);
}

entry_there : (items : List Entry) (k : ℕ) (e : Entry) → AreEntries items → slice_get items k ≡ Some e → IsEntry (listed_in (map seen items)) (seen e).listed
entry_there items k e es at =
    let r = range_at items k e es at in
    let size = length-marks_of e.record.count e.record.keep in
    record {
      count = rw size r.count;
      within = rw size r.within;
      keeps = keeps_some e r;
      homed = record {
        marks = length-marks_of e.record.count e.homed ∙ sym size;
        homed_are_live = λ b homed.
            let parts = and_parts (leb e.record.lbn b) (has_bit e.homed (b - e.record.lbn)) (sym (homed_seen e b r) ∙ homed) in
            let reached : e.record.lbn ≤ b = leb-true e.record.lbn b parts.0 in
            let same : e.record.lbn + (b - e.record.lbn) ≡ b = omega arith in
            subst (λ (n : ℕ). is_live (listed_in (map seen items)) (seen e).listed n ≡ true) same (live_bit items e.record.version k e (b - e.record.lbn) es (at_own items k e es at) parts.1);
      };
    }

rising_seen : (items : List Entry) → map (λ (d : Entry). d.record.version) items ≡ map (λ (e : Indexed). e.listed.version) (map seen items)
rising_seen [] = refl
rising_seen (x ∷ xs) = λ i. x.record.version ∷ rising_seen xs i

pub index_is : (items : List Entry) → AreEntries items → IsIndex (map seen items)
index_is items es = record {
  rising = subst AreRising (rising_seen items) es.rising;
  each = all_of_map (λ e. IsEntry (listed_in (map seen items)) e.listed) seen items (all_from_places (λ e. IsEntry (listed_in (map seen items)) (seen e).listed) items (λ k e at. entry_there items k e es at));
}

-- the record at a place
pub record_at : (items : List Entry) (k : ℕ) (e : Entry) → AreEntries items → slice_get items k ≡ Some e → IfSome (option_map seen (slice_get items k)) (λ d. IsRecordOf d e.record)
record_at items k e es at = rw at (record_seen e (range_at items k e es at))

pub at_is : (items : List Entry) (k : ℕ) (e : Entry) → AreEntries items → slice_get items k ≡ Some e → IfSome (slice_get (map seen items) k) (λ d. IsRecordOf d e.record)
at_is items k e es at = rw (slice_get-map seen items k) (record_at items k e es at)

-- the same, where the entries were read as a slice
pub place_is : (items now : List Entry) (version k : ℕ) (e : Entry) → now ≡ items → find (is_version version) now ≡ slice_get now k → k < length now → e ≡ get_or items k e → IsAt items version k e
place_is items now version k e same found within is =
    let P : List Entry → Type 0 = λ xs. (find (is_version version) xs ≡ slice_get xs k) × (k < length xs) in
    let facts = subst P same (found, within) in
    at_place items version k e facts.0 facts.1 is

-- the entries before a place
pub before_is : (items : List Entry) (lbn k mask : ℕ) → IsKept lbn (take (k - 0) (drop 0 items)) mask → IsKept lbn (take k items) mask
before_is items lbn k mask kept =
    let all : k - 0 ≡ k = omega arith in
    subst (λ (n : ℕ). IsKept lbn (take n items) mask) all kept
