-- What changes in an index where one of its entries is changed or removed.
use Rattle.std.proofs.Common.{◌≡◌, ◌<◌, ◌+◌, ◌-◌, ◌^◌, ℕ, zero, suc, Bool, true, false, cond, not, ◌&&◌, ◌||◌, List, [], ◌∷◌, ◌++◌, map, length, take, drop, get_or, Some, refl, sym, ap, ◌∙◌, subst, arith, leb, bit_and, bit_or}
use Rattle.std.specs.Prelude.{slice_get}
use Rattle.std.specs.Option.{ForSome}
use Rattle.std.specs.Int.{bit_not, w128}
use Rattle.std.specs.List.{AllByRecursion, range_with_len, filter, remove}
use Rattle.std.proofs.Math.ListN.{set}
use Rattle.std.proofs.lemmas.Nat.{pow_pos}
use Rattle.std.proofs.lemmas.Bool.{and_parts, or_parts, or_from, false_from_ne_true, false≢true, eq-eqb, ne_eqb, le-leb, not-true}
use Rattle.wol_model.specs.Log.{has_bit, marks_of}
use Rattle.wol_model.specs.Extents.{marked, remarked}
use Rattle.wol_model.specs.Index.{listed_in, Listed, Indexed, AreRising, cover_of, is_homed, is_live, keeps_a_block}
use Rattle.block_cells.specs.Masks.{in_mask, IsMask}
use Rattle.block_cells.proofs.Bits.{has_bit-above, has_bit-or, has_bit-zero, has_bit-without, small_from_bits}
use Rattle.block_cells.proofs.Meeting.{none_in_range}
use Rattle.block_cells.proofs.Marks.{marked-marks_of, in_mask-bit, length-marks_of}
use Rattle.redirect_map.specs.declared.entry.Entry.{Entry}
use Rattle.redirect_map.specs.Index.{entry_at, changed, with_homed, given_up}
use Rattle.redirect_map.specs.Kept.{seen, keeps, one_keeps, IsInRange, AreLive, AreEntries, IsAt}
use Rattle.redirect_map.proofs.Seen.{all_at, all_before_map}
use Rattle.redirect_map.proofs.Answering.{wide, range_at, live_there, live_entry, keeps_some}

-- ---- One entry in place of another

pub versions_set : (items : List Entry) (k : ℕ) (e f : Entry) → slice_get items k ≡ Some e → f.record.version ≡ e.record.version
    → map (λ (d : Entry). d.record.version) (set items k f) ≡ map (λ (d : Entry). d.record.version) items
versions_set [] k e f at same = refl
versions_set (x ∷ xs) zero e f at same =
    let here : x ≡ e = cc in
    λ i. (same ∙ ap (λ (d : Entry). d.record.version) (sym here)) i ∷ map (λ (d : Entry). d.record.version) xs
versions_set (x ∷ xs) (suc k) e f at same = λ i. x.record.version ∷ versions_set xs k e f at same i

all_set : {X : Type 0} (P : X → Type 0) (xs : List X) (k : ℕ) (y : X) → AllByRecursion P xs → P y → AllByRecursion P (set xs k y)
all_set P [] k y all here = tt
all_set P (x ∷ xs) zero y all here = (here, all.1)
all_set P (x ∷ xs) (suc k) y all here = (all.0, all_set P xs k y all.1 here)

none_set : (items : List Entry) (k : ℕ) (e f : Entry) (b : ℕ) → slice_get items k ≡ Some e → (keeps e b ≡ false → keeps f b ≡ false) → one_keeps items b ≡ false → one_keeps (set items k f) b ≡ false
none_set [] k e f b at less none = refl
none_set (x ∷ xs) zero e f b at less none =
    let here : x ≡ e = cc in
    let parts = or_parts (keeps x b) (one_keeps xs b) none in
    or_from (keeps f b) (one_keeps xs b) (less (subst (λ (d : Entry). keeps d b ≡ false) here parts.0)) parts.1
none_set (x ∷ xs) (suc k) e f b at less none =
    let parts = or_parts (keeps x b) (one_keeps xs b) none in
    or_from (keeps x b) (one_keeps (set xs k f) b) parts.0 (none_set xs k e f b at less parts.1)

lives_set : (items : List Entry) (k : ℕ) (e f : Entry) → slice_get items k ≡ Some e → ((b : ℕ) → keeps e b ≡ false → keeps f b ≡ false)
    → ((i : ℕ) → has_bit f.homed i ≡ true → (has_bit f.record.keep i ≡ true) × (one_keeps (drop (suc k) items) (f.record.lbn + i) ≡ false)) → AreLive items → AreLive (set items k f)
lives_set [] k e f at less homed live = tt
lives_set (x ∷ xs) zero e f at less homed live = (homed, live.1)
lives_set (x ∷ xs) (suc k) e f at less homed live =
    ((λ i on. let facts = live.0 i on in (facts.0, none_set xs k e f (x.record.lbn + i) at (less (x.record.lbn + i)) facts.1)), lives_set xs k e f at less homed live.1)

-- the entry f stands in place of e
pub entries_set : (items : List Entry) (k : ℕ) (e f : Entry) → AreEntries items → slice_get items k ≡ Some e → f.record.version ≡ e.record.version → IsInRange f → ((b : ℕ) → keeps e b ≡ false → keeps f b ≡ false)
    → ((i : ℕ) → has_bit f.homed i ≡ true → (has_bit f.record.keep i ≡ true) × (one_keeps (drop (suc k) items) (f.record.lbn + i) ≡ false)) → AreEntries (set items k f)
entries_set items k e f es at same range less homed = record {
  rising = subst AreRising (sym (versions_set items k e f at same)) es.rising;
  ranges = all_set IsInRange items k f es.ranges range;
  live = lives_set items k e f at less homed es.live;
}

-- where all versions are above v, no entry is changed
unchanged : (v : ℕ) (f : Indexed → Indexed) (items : List Entry) → AllByRecursion (λ w. v < w) (map (λ (d : Entry). d.record.version) items) → changed v f (map seen items) ≡ map seen items
unchanged v f [] above = refl
unchanged v f (x ∷ xs) above =
    let less : v < x.record.version = above.0 in
    λ i. ap (λ (t : Bool). cond t (f (seen x)) (seen x)) (ne_eqb x.record.version v (λ same. absurd (omega arith))) i ∷ unchanged v f xs above.1 i

above_at : (x : Entry) (xs : List Entry) (k : ℕ) (e : Entry) → AllByRecursion (λ w. x.record.version < w) (map (λ (d : Entry). d.record.version) xs) → slice_get xs k ≡ Some e → x.record.version < e.record.version
above_at x xs k e above at = all_at (λ (d : Entry). x.record.version < d.record.version) xs k e (all_before_map (λ w. x.record.version < w) (λ (d : Entry). d.record.version) xs above) at

-- the change of the entry of a version is that of the entry at its place
pub changed_set : (items : List Entry) (k : ℕ) (e f : Entry) (h : Indexed → Indexed) → AreRising (map (λ (d : Entry). d.record.version) items) → slice_get items k ≡ Some e → seen f ≡ h (seen e)
    → map seen (set items k f) ≡ changed e.record.version h (map seen items)
changed_set [] k e f h rising at same = absurd (cc)
changed_set (x ∷ xs) zero e f h rising at same =
    let here : x ≡ e = cc in
    subst (λ (d : Entry). seen f ≡ h (seen d) → seen f ∷ map seen xs ≡ changed d.record.version h (map seen (x ∷ xs))) here
    (λ same_x i. (same_x ∙ sym (ap (λ (t : Bool). cond t (h (seen x)) (seen x)) (eq-eqb x.record.version x.record.version refl))) i ∷ sym (unchanged x.record.version h xs rising.0) i) same
changed_set (x ∷ xs) (suc k) e f h rising at same =
    let less : x.record.version < e.record.version = above_at x xs k e rising.0 at in
    λ i. sym (ap (λ (t : Bool). cond t (h (seen x)) (seen x)) (ne_eqb x.record.version e.record.version (λ equal. absurd (omega arith)))) i ∷ changed_set xs k e f h rising.1 at same i

-- ---- Homed blocks

-- the blocks of a mask of live blocks are kept, and no later entry keeps them
live_bits : (items : List Entry) (version k : ℕ) (e : Entry) (mask : ℕ) → AreEntries items → IsAt items version k e
    → ForSome (entry_at (map seen items) version) (λ d. (i : ℕ) → has_bit mask i ≡ true → is_live (listed_in (map seen items)) d.listed (d.listed.first + i) ≡ true)
    → (i : ℕ) → has_bit mask i ≡ true → (has_bit e.record.keep i ≡ true) × (one_keeps (drop (suc k) items) (e.record.lbn + i) ≡ false)
live_bits items version k e mask es at live i on =
    let parts = and_parts (has_bit e.record.keep i) (not (one_keeps (drop (suc k) items) (e.record.lbn + i))) (sym (live_there items version k e i es at) ∙ live (seen e) at.found i on) in
    (parts.0, not-true (one_keeps (drop (suc k) items) (e.record.lbn + i)) parts.1)

pub within_count : (e : Entry) (mask : ℕ) → IsInRange e → ((i : ℕ) → has_bit mask i ≡ true → has_bit e.record.keep i ≡ true) → mask < 2 ^ e.record.count
within_count e mask r kept = small_from_bits mask e.record.count (λ i high. false_from_ne_true (has_bit mask i) (λ on. false≢true (sym (has_bit-above e.record.keep e.record.count i r.keep_within high) ∙ kept i on)))

unfoldable pub homed_entry : Entry → ℕ → Entry
homed_entry e mask = record { «record» = e.record; homed = mask }

pub entries_homed : (items : List Entry) (version k : ℕ) (e : Entry) (mask : ℕ) → AreEntries items → IsAt items version k e
    → ForSome (entry_at (map seen items) version) (λ d. (i : ℕ) → has_bit mask i ≡ true → is_live (listed_in (map seen items)) d.listed (d.listed.first + i) ≡ true)
    → AreEntries (set items k (homed_entry e mask))
unfolding homed_entry
entries_homed items version k e mask es at live =
    let r = range_at items k e es at.at in
    let bits = live_bits items version k e mask es at live in
    entries_set items k e (homed_entry e mask) es at.at refl
    (record { some = r.some; count = r.count; within = r.within; keeps = r.keeps; keep_within = r.keep_within; homed_within = within_count e mask r (λ i on. (bits i on).0) })
    (λ b none. none) bits

pub changed_homed : (items : List Entry) (version k : ℕ) (e : Entry) (mask : ℕ) → AreEntries items → IsAt items version k e
    → map seen (set items k (homed_entry e mask)) ≡ changed version (with_homed mask) (map seen items)
unfolding homed_entry
changed_homed items version k e mask es at =
    changed_set items k e (homed_entry e mask) (with_homed mask) es.rising at.at
    (λ i. record {
      listed = record { version = e.record.version; first = e.record.lbn; keep = marks_of e.record.count e.record.keep; lane = e.record.lane; homed = marks_of (sym (length-marks_of e.record.count e.record.keep) i) mask };
      index = e.record.segment;
      pos = e.record.pos;
    })
    ∙ ap (λ (v : ℕ). changed v (with_homed mask) (map seen items)) at.version_is

-- ---- Blocks that are given up

remarked-from : (first m n a count : ℕ) (f : ℕ → Bool → Bool) → ((i : ℕ) → has_bit n i ≡ f (first + i) (has_bit m i)) → map (has_bit n) (range_with_len a count) ≡ remarked (first + a) (map (has_bit m) (range_with_len a count)) f
remarked-from first m n a zero f bits = refl
remarked-from first m n a (suc count) f bits =
    let next : first + a + 1 ≡ first + (a + 1) = omega arith in
    λ i. bits a i ∷ (remarked-from first m n (a + 1) count f bits ∙ ap (λ (k : ℕ). remarked k (map (has_bit m) (range_with_len (a + 1) count)) f) (sym next)) i

-- marks of a mask that is another one, changed bit by bit
pub remarked-marks_of : (first count m n : ℕ) (f : ℕ → Bool → Bool) → ((i : ℕ) → has_bit n i ≡ f (first + i) (has_bit m i)) → marks_of count n ≡ remarked first (marks_of count m) f
remarked-marks_of first count m n f bits =
    let e : first + 0 ≡ first = omega arith in
    remarked-from first m n 0 count f bits ∙ ap (λ (k : ℕ). remarked k (marks_of count m) f) e

-- marks are those of a mask with the same bits
marks_from : (marks : List Bool) (k h : ℕ) → ((i : ℕ) → i < length marks → has_bit h (k + i) ≡ get_or marks i false) → marks ≡ map (has_bit h) (range_with_len k (length marks))
marks_from [] k h same = refl
marks_from (x ∷ marks) k h same =
    let here : has_bit h k ≡ x = let e : k + 0 ≡ k = omega arith in rw e at (same 0 (omega arith)) in
    let rest = marks_from marks (k + 1) h (λ i lt. let e : k + 1 + i ≡ k + suc i = omega arith in rw e (same (suc i) (omega arith))) in
    λ i. sym here i ∷ rest i

-- the marks of home with the blocks of a mask set beside them
pub remarked-or : (d : Listed) (due : ℕ → Bool) (homed mask : ℕ) → length d.homed ≡ length d.keep → IsMask d.first (is_homed d) homed → IsMask d.first due mask
    → marks_of (length d.keep) (bit_or homed mask) ≡ remarked d.first d.homed (λ b m. m || due b)
remarked-or d due homed mask marks bits dues =
    remarked-marks_of d.first (length d.keep) homed (bit_or homed mask) (λ b m. m || due b) (λ j. has_bit-or homed mask j ∙ ap (λ (t : Bool). has_bit homed j || t) (dues j))
    ∙ ap (λ (l : List Bool). remarked d.first l (λ b m. m || due b)) (sym were)
  where
    were : d.homed ≡ marks_of (length d.keep) homed
    were = marks_from d.homed 0 homed (λ i lt.
        let zero_ : 0 + i ≡ i = omega arith in
        let le : leb d.first (d.first + i) ≡ true = le-leb d.first (d.first + i) (omega arith) in
        let place : d.first + i - d.first ≡ i = omega arith in
        ap (has_bit homed) zero_ ∙ bits i ∙ rw (le, place) refl)
        ∙ ap (λ (n : ℕ). marks_of n homed) marks

-- the entry without the blocks of the mask
unfoldable pub trimmed : Entry → ℕ → Entry
trimmed e mask = record {
  «record» = record { version = e.record.version; lbn = e.record.lbn; count = e.record.count; keep = bit_and e.record.keep (bit_not w128 mask); lane = e.record.lane; segment = e.record.segment; pos = e.record.pos };
  homed = bit_and e.homed (bit_not w128 mask);
}

without_mask : (first mask i : ℕ) (m : Bool) → (m && not (has_bit mask i)) ≡ (m && not (in_mask first mask (first + i)))
without_mask first mask i m = ap (λ (t : Bool). m && not t) (sym (in_mask-bit first mask i))

pub seen_trimmed : (e : Entry) (mask : ℕ) → IsInRange e → mask < 2 ^ 128 → seen (trimmed e mask) ≡ given_up mask (seen e)
unfolding trimmed
seen_trimmed e mask r fits =
    let keep_bits : (i : ℕ) → has_bit (bit_and e.record.keep (bit_not w128 mask)) i ≡ (has_bit e.record.keep i && not (in_mask e.record.lbn mask (e.record.lbn + i))) =
    λ i. has_bit-without e.record.keep mask i (wide e.record.keep e.record.count r.keep_within r.count) fits ∙ without_mask e.record.lbn mask i (has_bit e.record.keep i) in
    let homed_bits : (i : ℕ) → has_bit (bit_and e.homed (bit_not w128 mask)) i ≡ (has_bit e.homed i && not (in_mask e.record.lbn mask (e.record.lbn + i))) =
    λ i. has_bit-without e.homed mask i (wide e.homed e.record.count r.homed_within r.count) fits ∙ without_mask e.record.lbn mask i (has_bit e.homed i) in
    λ j. record {
      listed = record {
        version = e.record.version;
        first = e.record.lbn;
        keep = remarked-marks_of e.record.lbn e.record.count e.record.keep (bit_and e.record.keep (bit_not w128 mask)) (λ b m. m && not (in_mask e.record.lbn mask b)) keep_bits j;
        lane = e.record.lane;
        homed = remarked-marks_of e.record.lbn e.record.count e.homed (bit_and e.homed (bit_not w128 mask)) (λ b m. m && not (in_mask e.record.lbn mask b)) homed_bits j;
      };
      index = e.record.segment;
      pos = e.record.pos;
    }

trimmed_bit : (e : Entry) (mask i : ℕ) → IsInRange e → mask < 2 ^ 128 → has_bit (bit_and e.record.keep (bit_not w128 mask)) i ≡ (has_bit e.record.keep i && not (has_bit mask i))
trimmed_bit e mask i r fits = has_bit-without e.record.keep mask i (wide e.record.keep e.record.count r.keep_within r.count) fits

less_within : (m n count : ℕ) → ((i : ℕ) → has_bit n i ≡ true → has_bit m i ≡ true) → m < 2 ^ count → n < 2 ^ count
less_within m n count less fits = small_from_bits n count (λ i high. false_from_ne_true (has_bit n i) (λ on. false≢true (sym (has_bit-above m count i fits high) ∙ less i on)))

pub entries_trimmed : (items : List Entry) (k : ℕ) (e : Entry) (mask : ℕ) → AreEntries items → slice_get items k ≡ Some e → mask < 2 ^ 128 → 0 < bit_and e.record.keep (bit_not w128 mask) → AreEntries (set items k (trimmed e mask))
unfolding trimmed
entries_trimmed items k e mask es at fits some =
    let r = range_at items k e es at in
    let homed_bit : (i : ℕ) → has_bit (bit_and e.homed (bit_not w128 mask)) i ≡ (has_bit e.homed i && not (has_bit mask i)) = λ i. has_bit-without e.homed mask i (wide e.homed e.record.count r.homed_within r.count) fits in
    let kept_less : (i : ℕ) → has_bit (bit_and e.record.keep (bit_not w128 mask)) i ≡ true → has_bit e.record.keep i ≡ true = λ i on. (and_parts (has_bit e.record.keep i) (not (has_bit mask i)) (sym (trimmed_bit e mask i r fits) ∙ on)).0 in
    let homed_less : (i : ℕ) → has_bit (bit_and e.homed (bit_not w128 mask)) i ≡ true → has_bit e.homed i ≡ true = λ i on. (and_parts (has_bit e.homed i) (not (has_bit mask i)) (sym (homed_bit i) ∙ on)).0 in
    entries_set items k e (trimmed e mask) es at refl
    (record {
      some = r.some;
      count = r.count;
      within = r.within;
      keeps = some;
      keep_within = less_within e.record.keep (bit_and e.record.keep (bit_not w128 mask)) e.record.count kept_less r.keep_within;
      homed_within = less_within e.homed (bit_and e.homed (bit_not w128 mask)) e.record.count homed_less r.homed_within;
    })
    (λ b none. still_none (leb e.record.lbn b) (has_bit e.record.keep (b - e.record.lbn)) (has_bit mask (b - e.record.lbn)) _ (trimmed_bit e mask (b - e.record.lbn) r fits) none)
    (λ i on.
    let both = and_parts (has_bit e.homed i) (not (has_bit mask i)) (sym (homed_bit i) ∙ on) in
    let facts = live_entry items k e es.live at i both.0 in
    (trimmed_bit e mask i r fits ∙ (λ j. facts.0 j && both.1 j), facts.1))
  where
    still_none : (reached keep gone now : Bool) → now ≡ (keep && not gone) → (reached && keep) ≡ false → (reached && now) ≡ false
    still_none true true gone now is none = cc
    still_none true false gone now is none = is
    still_none false keep gone now is none = refl

-- entries that keep a block pass the test that one is kept
pub filter_seen : (items : List Entry) → AllByRecursion IsInRange items → filter (λ (d : Indexed). keeps_a_block d.listed) (map seen items) ≡ map seen items
filter_seen [] ranges = refl
filter_seen (x ∷ xs) ranges =
    ap (λ (t : Bool). cond t (seen x ∷ filter (λ (d : Indexed). keeps_a_block d.listed) (map seen xs)) (filter (λ (d : Indexed). keeps_a_block d.listed) (map seen xs))) (keeps_some x ranges.0) ∙ ap (λ (ys : List Indexed). seen x ∷ ys) (filter_seen xs ranges.1)

pub changed_trimmed : (items : List Entry) (version k : ℕ) (e : Entry) (mask : ℕ) → AreEntries items → IsAt items version k e → mask < 2 ^ 128 → 0 < bit_and e.record.keep (bit_not w128 mask)
    → map seen (set items k (trimmed e mask)) ≡ filter (λ (d : Indexed). keeps_a_block d.listed) (changed version (given_up mask) (map seen items))
changed_trimmed items version k e mask es at fits some =
    sym (filter_seen (set items k (trimmed e mask)) (entries_trimmed items k e mask es at.at fits some).ranges)
    ∙ ap (filter (λ (d : Indexed). keeps_a_block d.listed)) (changed_set items k e (trimmed e mask) (given_up mask) es.rising at.at (seen_trimmed e mask (range_at items k e es at.at) fits) ∙ ap (λ (v : ℕ). changed v (given_up mask) (map seen items)) at.version_is)

-- ---- An entry that goes

all_removed : (P : ℕ → Type 0) (items : List Entry) (k : ℕ) → AllByRecursion P (map (λ (d : Entry). d.record.version) items) → AllByRecursion P (map (λ (d : Entry). d.record.version) (take k items ++ drop (suc k) items))
all_removed P [] zero all = tt
all_removed P [] (suc k) all = tt
all_removed P (x ∷ xs) zero all = all.1
all_removed P (x ∷ xs) (suc k) all = (all.0, all_removed P xs k all.1)

rising_removed : (items : List Entry) (k : ℕ) → AreRising (map (λ (d : Entry). d.record.version) items) → AreRising (map (λ (d : Entry). d.record.version) (take k items ++ drop (suc k) items))
rising_removed [] zero rising = tt
rising_removed [] (suc k) rising = tt
rising_removed (x ∷ xs) zero rising = rising.1
rising_removed (x ∷ xs) (suc k) rising = (all_removed (λ w. x.record.version < w) xs k rising.0, rising_removed xs k rising.1)

ranges_removed : (items : List Entry) (k : ℕ) → AllByRecursion IsInRange items → AllByRecursion IsInRange (take k items ++ drop (suc k) items)
ranges_removed [] zero ranges = tt
ranges_removed [] (suc k) ranges = tt
ranges_removed (x ∷ xs) zero ranges = ranges.1
ranges_removed (x ∷ xs) (suc k) ranges = (ranges.0, ranges_removed xs k ranges.1)

none_removed : (items : List Entry) (k b : ℕ) → one_keeps items b ≡ false → one_keeps (take k items ++ drop (suc k) items) b ≡ false
none_removed [] zero b none = refl
none_removed [] (suc k) b none = refl
none_removed (x ∷ xs) zero b none = (or_parts (keeps x b) (one_keeps xs b) none).1
none_removed (x ∷ xs) (suc k) b none =
    let parts = or_parts (keeps x b) (one_keeps xs b) none in
    or_from (keeps x b) (one_keeps (take k xs ++ drop (suc k) xs) b) parts.0 (none_removed xs k b parts.1)

live_removed : (items : List Entry) (k : ℕ) → AreLive items → AreLive (take k items ++ drop (suc k) items)
live_removed [] zero live = tt
live_removed [] (suc k) live = tt
live_removed (x ∷ xs) zero live = live.1
live_removed (x ∷ xs) (suc k) live = ((λ i on. let facts = live.0 i on in (facts.0, none_removed xs k (x.record.lbn + i) facts.1)), live_removed xs k live.1)

pub entries_removed : (items : List Entry) (k : ℕ) → AreEntries items → AreEntries (remove items k)
entries_removed items k es = record { rising = rising_removed items k es.rising; ranges = ranges_removed items k es.ranges; live = live_removed items k es.live }

-- the other entries stay
filter_removed : (items : List Entry) (k : ℕ) (e : Entry) (h : Indexed → Indexed) → AreRising (map (λ (d : Entry). d.record.version) items) → AllByRecursion IsInRange items → slice_get items k ≡ Some e → keeps_a_block (h (seen e)).listed ≡ false
    → map seen (take k items ++ drop (suc k) items) ≡ filter (λ (d : Indexed). keeps_a_block d.listed) (changed e.record.version h (map seen items))
filter_removed [] k e h rising ranges at none = absurd (cc)
filter_removed (x ∷ xs) zero e h rising ranges at none =
    let here : x ≡ e = cc in
    subst (λ (d : Entry). keeps_a_block (h (seen d)).listed ≡ false → map seen xs ≡ filter (λ (y : Indexed). keeps_a_block y.listed) (changed d.record.version h (map seen (x ∷ xs)))) here
    (λ gone. sym (ap (λ (y : Indexed). filter (λ (z : Indexed). keeps_a_block z.listed) (y ∷ changed x.record.version h (map seen xs))) (ap (λ (t : Bool). cond t (h (seen x)) (seen x)) (eq-eqb x.record.version x.record.version refl))
    ∙ ap (λ (t : Bool). cond t (h (seen x) ∷ filter (λ (z : Indexed). keeps_a_block z.listed) (changed x.record.version h (map seen xs))) (filter (λ (z : Indexed). keeps_a_block z.listed) (changed x.record.version h (map seen xs)))) gone
    ∙ ap (filter (λ (z : Indexed). keeps_a_block z.listed)) (unchanged x.record.version h xs rising.0) ∙ filter_seen xs ranges.1)) none
filter_removed (x ∷ xs) (suc k) e h rising ranges at none =
    let less : x.record.version < e.record.version = above_at x xs k e rising.0 at in
    sym (ap (λ (y : Indexed). filter (λ (z : Indexed). keeps_a_block z.listed) (y ∷ changed e.record.version h (map seen xs))) (ap (λ (t : Bool). cond t (h (seen x)) (seen x)) (ne_eqb x.record.version e.record.version (λ equal. absurd (omega arith))))
    ∙ ap (λ (t : Bool). cond t (seen x ∷ filter (λ (z : Indexed). keeps_a_block z.listed) (changed e.record.version h (map seen xs))) (filter (λ (z : Indexed). keeps_a_block z.listed) (changed e.record.version h (map seen xs)))) (keeps_some x ranges.0)
    ∙ ap (λ (ys : List Indexed). seen x ∷ ys) (sym (filter_removed xs k e h rising.1 ranges.1 at none)))

keeps_none : (e : Entry) (mask : ℕ) → IsInRange e → mask < 2 ^ 128 → bit_and e.record.keep (bit_not w128 mask) ≡ 0 → keeps_a_block (given_up mask (seen e)).listed ≡ false
unfolding trimmed
keeps_none e mask r fits none =
    let no_block : (b : ℕ) → (cover_of (seen (trimmed e mask)).listed).covers b ≡ false = λ b.
    ap (λ (m : ℕ). marked e.record.lbn (marks_of e.record.count m) b) none ∙ marked-marks_of e.record.lbn e.record.count 0 b (pow_pos e.record.count) ∙ empty e.record.lbn b in
    ap (λ (d : Indexed). keeps_a_block d.listed) (sym (seen_trimmed e mask r fits))
    ∙ none_in_range (cover_of (seen (trimmed e mask)).listed).covers e.record.lbn (length (seen (trimmed e mask)).listed.keep) (λ b from to. no_block b)
  where
    empty : (first b : ℕ) → in_mask first 0 b ≡ false
    empty first b = at (leb first b)
      where
        at : (t : Bool) → (t && has_bit 0 (b - first)) ≡ false
        at true = has_bit-zero (b - first)
        at false = refl

pub changed_removed : (items : List Entry) (version k : ℕ) (e : Entry) (mask : ℕ) → AreEntries items → IsAt items version k e → mask < 2 ^ 128 → bit_and e.record.keep (bit_not w128 mask) ≡ 0
    → map seen (remove items k) ≡ filter (λ (d : Indexed). keeps_a_block d.listed) (changed version (given_up mask) (map seen items))
changed_removed items version k e mask es at fits none =
    filter_removed items k e (given_up mask) es.rising es.ranges at.at (keeps_none e mask (range_at items k e es at.at) fits none)
    ∙ ap (λ (v : ℕ). filter (λ (d : Indexed). keeps_a_block d.listed) (changed v (given_up mask) (map seen items))) at.version_is
