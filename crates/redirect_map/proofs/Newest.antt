-- The entry that is named as the newest of a block.
use Rattle.std.proofs.Common.{◌≡◌, ⊎_elim, ◌<◌, ◌+◌, ℕ, zero, suc, Bool, true, false, cond, not, ◌&&◌, List, [], ◌∷◌, map, take, drop, Option, Some, None, get_or, length, find, IsSome, IfSome, is_some, refl, sym, ap, ◌∙◌, subst, ltb, ◌^◌, bit_and}
use Rattle.std.specs.Prelude.{slice_get}
use Rattle.std.specs.Int.{bit_not, w128}
use Rattle.std.specs.List.{AllByRecursion, list_any}
use Rattle.std.proofs.lemmas.Bool.{cases_lt, lt-ltb, le-ltb, or_parts, false≢true}
use Rattle.std.proofs.lemmas.Option.{slice_get-get_or}
use Rattle.wol_model.specs.Log.{has_bit}
use Rattle.wol_model.specs.Extents.{newest, newer_of}
use Rattle.wol_model.specs.Index.{listed_in, AreRising, is_live, is_older, is_covered}
use Rattle.block_cells.specs.declared.blocks.Cell.{Cell}
use Rattle.block_cells.specs.Masks.{IsMask}
use Rattle.block_cells.specs.Cells.{is_held, version_in}
use Rattle.block_cells.proofs.Bits.{has_bit-above, has_bit-zero, has_bit-without}
use Rattle.block_cells.proofs.Marks.{in_mask-bit}
use Rattle.redirect_map.specs.declared.entry.Entry.{Entry}
use Rattle.redirect_map.specs.Index.{cover_at, entry_at, IsAnswer, IsRecordOf}
use Rattle.redirect_map.specs.Kept.{seen, keeps, one_keeps, is_version, IsInRange, AreEntries, IsAt}
use Rattle.redirect_map.specs.Cells.{cell_of}
use Rattle.redirect_map.proofs.Seen.{all_at, all_before_map, covers_seen}
use Rattle.redirect_map.proofs.Answering.{same_version, record_seen, range_at, covered_seen, any_block, of_entry, live_there, older_there}
use Rattle.redirect_map.proofs.Search.{place_unique}
use Rattle.redirect_map.proofs.Celled.{IsNewest, newest_place, cell_there, held_at, alone_at}

pub newest_version : (items : List Entry) (b : ℕ) (c : Cell) → AreEntries items → cell_of items b ≡ Some c → (k : ℕ) × (e : Entry) × IsNewest items b c k e × (find (is_version c.version) items ≡ Some e)
newest_version items b c es is =
    let there = newest_place items b c is in
    (there.0, there.1, there.2, subst (λ (v : ℕ). find (is_version v) items ≡ Some there.1) there.2.version_is (same_version items there.0 there.1 es.rising there.2.at))

pub newest_found : (items : List Entry) (b : ℕ) (c : Cell) → AreEntries items → cell_of items b ≡ Some c → IsSome (find (is_version c.version) items)
newest_found items b c es is = let there = newest_version items b c es is in ap (λ (o : Option Entry). is_some o) there.3

pub newest_at : (items : List Entry) (b : ℕ) (c : Cell) (p : ℕ) (d : Entry) → AreEntries items → cell_of items b ≡ Some c → p < length items → find (is_version c.version) items ≡ slice_get items p → IsNewest items b c p (get_or items p d)
newest_at items b c p d es is within found =
    let there = newest_version items b c es is in
    let at : slice_get items p ≡ Some there.1 = sym found ∙ there.3 in
    let got : slice_get items p ≡ Some (get_or items p d) = slice_get-get_or items p d within in
    let same : there.1 ≡ get_or items p d = cc in
    let place : there.0 ≡ p = sym (place_unique items p there.0 there.1 es.rising at there.2.at) in
    subst (λ (e : Entry). IsNewest items b c p e) same (subst (λ (k : ℕ). IsNewest items b c k there.1) place there.2)

pub newest_here : (items : List Entry) (b : ℕ) (c : Cell) (p : ℕ) (e : Entry) → AreEntries items → cell_of items b ≡ Some c → p < length items → find (is_version c.version) items ≡ slice_get items p → e ≡ get_or items p e → IsNewest items b c p e
newest_here items b c p e es is within found same = subst (λ (d : Entry). IsNewest items b c p d) (sym same) (newest_at items b c p e es is within found)

-- ---- The answers, in the words of contracts

none_newest : (items : List Entry) (b : ℕ) → AllByRecursion IsInRange items → one_keeps items b ≡ false → newest cover_at (map seen items) b ≡ None
none_newest [] b ranges none = refl
none_newest (x ∷ xs) b ranges none =
    let parts = or_parts (keeps x b) (one_keeps xs b) none in
    rw (covers_seen x b ranges.0, parts.0) (none_newest xs b ranges.1 parts.1)

some_newest : (items : List Entry) (b k : ℕ) (e : Entry) → AreRising (map (λ (d : Entry). d.record.version) items) → AllByRecursion IsInRange items → slice_get items k ≡ Some e → keeps e b ≡ true → one_keeps (drop (suc k) items) b ≡ false
    → newest cover_at (map seen items) b ≡ Some (seen e)
some_newest [] b k e rising ranges at keep last = absurd (cc)
some_newest (x ∷ xs) b zero e rising ranges at keep last =
    let f : x ≡ e = cc in
    rw (covers_seen x b ranges.0, ap (λ (d : Entry). keeps d b) f ∙ keep, none_newest xs b ranges.1 last) (ap (λ (d : Entry). Some (seen d)) f)
some_newest (x ∷ xs) b (suc k) e rising ranges at keep last =
    rw (covers_seen x b ranges.0, some_newest xs b k e rising.1 ranges.1 at keep last) (here (keeps x b))
  where
    less : x.record.version < e.record.version
    less = all_at (λ (d : Entry). x.record.version < d.record.version) xs k e (all_before_map (λ w. x.record.version < w) (λ (d : Entry). d.record.version) xs rising.0) at

    here : (t : Bool) → cond t (newer_of cover_at (seen x) (Some (seen e))) (Some (seen e)) ≡ Some (seen e)
    here true = ap (λ (t : Bool). cond t (Some (seen e)) (Some (seen x))) (lt-ltb x.record.version e.record.version less)
    here false = refl

pub answer_none : (items : List Entry) (b : ℕ) → AreEntries items → cell_of items b ≡ None → IsAnswer (newest cover_at (map seen items) b) None
answer_none items b es none = rw (none_newest items b es.ranges (sym (cell_there items b) ∙ ap (λ (o : Option Cell). is_some o) none)) tt

pub answer_some : (items : List Entry) (b : ℕ) (c : Cell) (e : Entry) → AreEntries items → cell_of items b ≡ Some c → find (is_version c.version) items ≡ Some e → IsAnswer (newest cover_at (map seen items) b) (Some e.record)
answer_some items b c e es is found =
    let there = newest_version items b c es is in
    let same : there.1 ≡ e = cc in
    rw (some_newest items b there.0 there.1 es.rising es.ranges there.2.at there.2.keeps_it there.2.last) (subst (λ (d : Entry). IsRecordOf (seen there.1) d.record) same (record_seen there.1 (range_at items there.0 there.1 es there.2.at)))

-- blocks of one newest version have one answer
pub same_newest : (items : List Entry) (a b : ℕ) → AreEntries items → version_in (cell_of items a) ≡ version_in (cell_of items b) → newest cover_at (map seen items) a ≡ newest cover_at (map seen items) b
same_newest items a b es same = at (cell_of items a) (cell_of items b) refl refl same
  where
    none : (b : ℕ) → cell_of items b ≡ None → newest cover_at (map seen items) b ≡ None
    none b is = none_newest items b es.ranges (sym (cell_there items b) ∙ ap (λ (o : Option Cell). is_some o) is)

    some : (b : ℕ) (c : Cell) (e : Entry) → cell_of items b ≡ Some c → find (is_version c.version) items ≡ Some e → newest cover_at (map seen items) b ≡ Some (seen e)
    some b c e is found =
        let there = newest_version items b c es is in
        let f : there.1 ≡ e = cc in
        some_newest items b there.0 there.1 es.rising es.ranges there.2.at there.2.keeps_it there.2.last ∙ ap (λ (d : Entry). Some (seen d)) f

    at : (x y : Option Cell) → cell_of items a ≡ x → cell_of items b ≡ y → version_in x ≡ version_in y → newest cover_at (map seen items) a ≡ newest cover_at (map seen items) b
    at None None is_a is_b e = none a is_a ∙ sym (none b is_b)
    at None (Some d) is_a is_b e = absurd (cc)
    at (Some c) None is_a is_b e = absurd (cc)
    at (Some c) (Some d) is_a is_b e =
        let f : c.version ≡ d.version = cc in
        let there = newest_version items a c es is_a in
        let found : find (is_version d.version) items ≡ Some there.1 = subst (λ (v : ℕ). find (is_version v) items ≡ Some there.1) f there.3 in
        some a c there.1 is_a there.3 ∙ sym (some b d there.1 is_b found)

pub answer_never : (items : List Entry) (b : ℕ) (c : Cell) → AreEntries items → cell_of items b ≡ Some c → find (is_version c.version) items ≡ None → ⊥
answer_never items b c es is none = let there = newest_version items b c es is in some_none (sym there.3 ∙ none)
  where
    some_none : {e : Entry} → Some e ≡ None → ⊥
    some_none e = absurd (cc)

pub covered_cells : (items : List Entry) (F : ℕ → Option Cell) (bs : List ℕ) → AreEntries items → ((b : ℕ) → F b ≡ cell_of items b) → list_any (λ b. is_some (F b)) bs ≡ list_any (is_covered (listed_in (map seen items))) bs
covered_cells items F bs es cells = any_block (λ b. is_some (F b)) (is_covered (listed_in (map seen items))) (λ b. ap (λ (o : Option Cell). is_some o) (cells b) ∙ cell_there items b ∙ sym (covered_seen items b es.ranges)) bs

-- the mask of the blocks that the table tells of
below_count : (e : Entry) (i : ℕ) (t : Bool) → IsInRange e → (ltb i e.record.count && (has_bit e.record.keep i && t)) ≡ (has_bit e.record.keep i && t)
below_count e i t r = ⊎_elim
    (λ low. ap (λ (s : Bool). s && (has_bit e.record.keep i && t)) (lt-ltb i e.record.count low))
    (λ high. rw (le-ltb i e.record.count high, has_bit-above e.record.keep e.record.count i r.keep_within high) refl)
    (cases_lt i e.record.count)

held_bit : (items : List Entry) (version k : ℕ) (e : Entry) (i : ℕ) → AreEntries items → IsAt items version k e
    → (ltb i e.record.count && is_held e.record.version false (cell_of items (e.record.lbn + i))) ≡ is_live (listed_in (map seen items)) (seen e).listed (e.record.lbn + i)
held_bit items version k e i es at =
    ap (λ (t : Bool). ltb i e.record.count && t) (held_at items k e (e.record.lbn + i) es.rising at.at ∙ ap (λ (t : Bool). t && not (one_keeps (drop (suc k) items) (e.record.lbn + i))) (in_mask-bit e.record.lbn e.record.keep i))
    ∙ below_count e i (not (one_keeps (drop (suc k) items) (e.record.lbn + i))) (range_at items k e es at.at)
    ∙ sym (live_there items version k e i es at)

pub live_held : (items : List Entry) (version k : ℕ) (e : Entry) (mask : ℕ) (F : ℕ → Option Cell) → AreEntries items → IsAt items version k e → ((b : ℕ) → F b ≡ cell_of items b)
    → ((i : ℕ) → has_bit mask i ≡ (ltb i e.record.count && is_held e.record.version false (F (e.record.lbn + i))))
    → IfSome (entry_at (map seen items) version) (λ d. IsMask d.listed.first (is_live (listed_in (map seen items)) d.listed) mask)
live_held items version k e mask F es at cells bits = of_entry items version k e (λ d. IsMask d.listed.first (is_live (listed_in (map seen items)) d.listed) mask) at
    (λ i. bits i ∙ ap (λ (o : Option Cell). ltb i e.record.count && is_held e.record.version false o) (cells (e.record.lbn + i)) ∙ held_bit items version k e i es at)

four : (l h o t : Bool) → (l && (h && not o)) ≡ ((l && h) && not o)
four true h o t = refl
four false h o t = refl

-- a live block that no older record keeps
live_keeps : (k n o : Bool) → ((k && n) && not o) ≡ ((k && n) && not (k && o))
live_keeps true n o = refl
live_keeps false n o = refl

pub alone_held : (items : List Entry) (version k : ℕ) (e : Entry) (mask : ℕ) (F : ℕ → Option Cell) → AreEntries items → IsAt items version k e → ((b : ℕ) → F b ≡ cell_of items b)
    → ((i : ℕ) → has_bit mask i ≡ (ltb i e.record.count && is_held e.record.version true (F (e.record.lbn + i))))
    → IfSome (entry_at (map seen items) version) (λ d. IsMask d.listed.first (λ b. is_live (listed_in (map seen items)) d.listed b && not (is_older (listed_in (map seen items)) d.listed b)) mask)
alone_held items version k e mask F es at cells bits = of_entry items version k e (λ d. IsMask d.listed.first (λ b. is_live (listed_in (map seen items)) d.listed b && not (is_older (listed_in (map seen items)) d.listed b)) mask) at
    (λ i. bits i ∙ ap (λ (o : Option Cell). ltb i e.record.count && is_held e.record.version true o) (cells (e.record.lbn + i))
    ∙ ap (λ (t : Bool). ltb i e.record.count && t) (alone_at items k e (e.record.lbn + i) es.rising at.at)
    ∙ four (ltb i e.record.count) (is_held e.record.version false (cell_of items (e.record.lbn + i))) (one_keeps (take k items) (e.record.lbn + i)) true
    ∙ ap (λ (t : Bool). t && not (one_keeps (take k items) (e.record.lbn + i))) (held_bit items version k e i es at ∙ live_there items version k e i es at)
    ∙ live_keeps (has_bit e.record.keep i) (not (one_keeps (drop (suc k) items) (e.record.lbn + i))) (one_keeps (take k items) (e.record.lbn + i))
    ∙ sym ((λ j. live_there items version k e i es at j && not (older_there items version k e i es at j))))

-- the older blocks of a record of which all are live: those that aren't its own alone
pub older_but_alone : (items : List Entry) (version k : ℕ) (e : Entry) (live alone : ℕ) (F : ℕ → Option Cell) → AreEntries items → IsAt items version k e → ((b : ℕ) → F b ≡ cell_of items b)
    → ((i : ℕ) → has_bit live i ≡ (ltb i e.record.count && is_held e.record.version false (F (e.record.lbn + i))))
    → ((i : ℕ) → has_bit alone i ≡ (ltb i e.record.count && is_held e.record.version true (F (e.record.lbn + i))))
    → e.record.keep < 2 ^ 128 → live < 2 ^ 128 → alone < 2 ^ 128 → bit_and e.record.keep (bit_not w128 live) ≡ 0
    → IfSome (entry_at (map seen items) version) (λ d. IsMask d.listed.first (is_older (listed_in (map seen items)) d.listed) (bit_and e.record.keep (bit_not w128 alone)))
older_but_alone items version k e live alone F es at cells lives alones keep_fits live_fits alone_fits none =
    of_entry items version k e (λ d. IsMask d.listed.first (is_older (listed_in (map seen items)) d.listed) (bit_and e.record.keep (bit_not w128 alone))) at
    (λ i. has_bit-without e.record.keep alone i keep_fits alone_fits ∙ bit (has_bit e.record.keep i) (has_bit live i) (has_bit alone i) (one_keeps (take k items) (e.record.lbn + i)) (here i) (covered i) ∙ sym (older_there items version k e i es at))
  where
    here : (i : ℕ) → has_bit alone i ≡ (has_bit live i && not (one_keeps (take k items) (e.record.lbn + i)))
    here i = alones i ∙ ap (λ (o : Option Cell). ltb i e.record.count && is_held e.record.version true o) (cells (e.record.lbn + i))
        ∙ ap (λ (t : Bool). ltb i e.record.count && t) (alone_at items k e (e.record.lbn + i) es.rising at.at)
        ∙ four (ltb i e.record.count) (is_held e.record.version false (cell_of items (e.record.lbn + i))) (one_keeps (take k items) (e.record.lbn + i)) true
        ∙ ap (λ (t : Bool). t && not (one_keeps (take k items) (e.record.lbn + i))) (sym (lives i ∙ ap (λ (o : Option Cell). ltb i e.record.count && is_held e.record.version false o) (cells (e.record.lbn + i))))

    covered : (i : ℕ) → (has_bit e.record.keep i && not (has_bit live i)) ≡ false
    covered i = sym (has_bit-without e.record.keep live i keep_fits live_fits) ∙ ap (λ (m : ℕ). has_bit m i) none ∙ has_bit-zero i

    bit : (k l a o : Bool) → a ≡ (l && not o) → (k && not l) ≡ false → (k && not a) ≡ (k && o)
    bit false l a o is all = refl
    bit true false a o is all = absurd (false≢true (sym all))
    bit true true a true is all = ap not is
    bit true true a false is all = ap not is
