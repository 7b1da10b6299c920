-- What is known of each block, where entries are added, and where they give up blocks.
use Rattle.std.proofs.Common.{◌≡◌, ◌<◌, ◌≤◌, ◌+◌, ◌-◌, ◌^◌, ℕ, suc, Bool, true, false, cond, not, ◌&&◌, ◌||◌, List, [], ◌∷◌, ◌++◌, map, take, drop, set, Option, Some, refl, sym, ap, ◌∙◌, subst, arith, leb, bit_and}
use Rattle.std.specs.Prelude.{slice_get}
use Rattle.std.specs.Int.{bit_not, w128}
use Rattle.std.specs.Option.{ForSome}
use Rattle.std.specs.List.{AllZip, remove}
use Rattle.std.proofs.Math.Bool.{and-false, and-true}
use Rattle.std.proofs.lemmas.Bool.{and_parts, false≢true, leb-true}
use Rattle.wol_model.specs.Log.{has_bit}
use Rattle.wol_model.specs.Extents.{has_newer, has_older}
use Rattle.wol_model.specs.Index.{listed_in, goes, listed_covers, is_homed}
use Rattle.block_cells.specs.declared.record.Rec.{Rec}
use Rattle.block_cells.specs.declared.blocks.Cell.{Cell}
use Rattle.block_cells.specs.Masks.{in_mask}
use Rattle.block_cells.specs.Cells.{one_covers, take_one}
use Rattle.block_cells.proofs.Bits.{has_bit-zero, has_bit-without}
use Rattle.block_cells.proofs.Marks.{in_mask-bit}
use Rattle.redirect_map.specs.declared.entry.Entry.{Entry}
use Rattle.redirect_map.specs.Index.{entry_at, cover_at}
use Rattle.redirect_map.specs.Kept.{seen, keeps, one_keeps, IsInRange, IsUnhomed, AreEntries, IsAt}
use Rattle.redirect_map.specs.Cells.{cell_of}
use Rattle.redirect_map.proofs.Seen.{covers_seen, newer_at, older_at}
use Rattle.redirect_map.proofs.Answering.{range_at, wide}
use Rattle.redirect_map.proofs.Changing.{trimmed, within_count}
use Rattle.redirect_map.proofs.Adding.{new_entry}
use Rattle.redirect_map.proofs.Without.{cell_kept, without_from}
use Rattle.redirect_map.proofs.Celled.{cell_push, cell_set_same, cell_set_less, cell_removed}

-- a record is added
pub cell_added : (r : Rec) (old new : List Entry) (b : ℕ) → AllZip (IsUnhomed r) old new → cell_of (new ++ new_entry r ∷ []) b ≡ cond (in_mask r.lbn r.keep b) (one_covers r.version (cell_of old b)) (cell_of old b)
unfolding new_entry
cell_added r old new b all = cell_push new (new_entry r) b ∙ ap (λ (o : Option Cell). cond (in_mask r.lbn r.keep b) (one_covers r.version o) o) (cell_kept (in_mask r.lbn r.keep) old new b (without_from r old new all))

pub all_added : (r : Rec) (old new all : List Entry) (F G : ℕ → Option Cell) → AllZip (IsUnhomed r) old new → all ≡ new ++ new_entry r ∷ [] → ((b : ℕ) → F b ≡ cell_of old b)
    → ((b : ℕ) → G b ≡ cond (in_mask r.lbn r.keep b) (one_covers r.version (F b)) (F b)) → (b : ℕ) → G b ≡ cell_of all b
all_added r old new all F G zipped is before after b =
    after b ∙ ap (λ (o : Option Cell). cond (in_mask r.lbn r.keep b) (one_covers r.version o) o) (before b) ∙ sym (cell_added r old new b zipped) ∙ ap (λ (es : List Entry). cell_of es b) (sym is)

-- ---- What goes

-- a block that goes is kept, and where an older record keeps it, so does a newer one
going : (items : List Entry) (k : ℕ) (e : Entry) (b : ℕ) → AreEntries items → slice_get items k ≡ Some e → goes (listed_in (map seen items)) (seen e).listed b ≡ true
    → (keeps e b ≡ true) × (one_keeps (take k items) b ≡ true → one_keeps (drop (suc k) items) b ≡ true)
going items k e b es at go =
    let r = range_at items k e es at in
    let parts = and_parts ((cover_at (seen e)).covers b) (has_newer (listed_covers (listed_in (map seen items))) e.record.version b || (is_homed (seen e).listed b && not (has_older (listed_covers (listed_in (map seen items))) e.record.version b))) go in
    let newer = newer_at items k e b es.rising es.ranges at in
    let older = older_at items k e b es.rising es.ranges at in
    (sym (covers_seen e b r) ∙ parts.0, λ one. sym newer ∙ later (has_newer (listed_covers (listed_in (map seen items))) e.record.version b) (is_homed (seen e).listed b) (has_older (listed_covers (listed_in (map seen items))) e.record.version b) parts.1 (older ∙ one))
  where
    later : (n h o : Bool) → (n || (h && not o)) ≡ true → o ≡ true → n ≡ true
    later true h o some old = refl
    later false true true some old = absurd (false≢true some)
    later false true false some old = absurd (false≢true old)
    later false false o some old = absurd (false≢true some)

-- the facts of a mask of blocks that go
abbrev pub GoesAll : List Entry → ℕ → ℕ → Type 0
GoesAll items version mask = ForSome (entry_at (map seen items) version) (λ e. (i : ℕ) → has_bit mask i ≡ true → goes (listed_in (map seen items)) e.listed (e.listed.first + i) ≡ true)

gone_block : (items : List Entry) (version k : ℕ) (e : Entry) (mask b : ℕ) → AreEntries items → IsAt items version k e → GoesAll items version mask → in_mask e.record.lbn mask b ≡ true
    → (keeps e b ≡ true) × (one_keeps (take k items) b ≡ true → one_keeps (drop (suc k) items) b ≡ true)
gone_block items version k e mask b es at all on =
    let parts = and_parts (leb e.record.lbn b) (has_bit mask (b - e.record.lbn)) on in
    let from : e.record.lbn ≤ b = leb-true e.record.lbn b parts.0 in
    let place : e.record.lbn + (b - e.record.lbn) ≡ b = omega arith in
    going items k e b es at.at (subst (λ (n : ℕ). goes (listed_in (map seen items)) (seen e).listed n ≡ true) place (all (seen e) at.found (b - e.record.lbn) parts.1))

-- so the mask is one of the record's blocks
pub mask_fits : (items : List Entry) (version k : ℕ) (e : Entry) (mask : ℕ) → AreEntries items → IsAt items version k e → GoesAll items version mask → mask < 2 ^ e.record.count
mask_fits items version k e mask es at all = within_count e mask (range_at items k e es at.at)
    (λ i on. sym (in_mask-bit e.record.lbn e.record.keep i) ∙ (going items k e (e.record.lbn + i) es at.at (all (seen e) at.found i on)).0)

trimmed_keeps : (e : Entry) (mask b : ℕ) → IsInRange e → mask < 2 ^ 128 → keeps (trimmed e mask) b ≡ (keeps e b && not (in_mask e.record.lbn mask b))
unfolding trimmed
trimmed_keeps e mask b r fits = ap (λ (t : Bool). leb e.record.lbn b && t) (has_bit-without e.record.keep mask (b - e.record.lbn) (wide e.record.keep e.record.count r.keep_within r.count) fits)
    ∙ at (leb e.record.lbn b) (has_bit e.record.keep (b - e.record.lbn)) (has_bit mask (b - e.record.lbn))
  where
    at : (l k m : Bool) → (l && (k && not m)) ≡ ((l && k) && not (l && m))
    at true k m = refl
    at false k m = refl

-- an entry gives up the blocks of the mask
pub cell_trimmed : (items : List Entry) (version k : ℕ) (e : Entry) (mask b : ℕ) → AreEntries items → IsAt items version k e → GoesAll items version mask → mask < 2 ^ 128
    → cell_of (set items k (trimmed e mask)) b ≡ cond (in_mask e.record.lbn mask b) (take_one (cell_of items b)) (cell_of items b)
unfolding trimmed
cell_trimmed items version k e mask b es at all fits = here (in_mask e.record.lbn mask b) refl
  where
    keep : keeps (trimmed e mask) b ≡ (keeps e b && not (in_mask e.record.lbn mask b))
    keep = trimmed_keeps e mask b (range_at items k e es at.at) fits

    here : (t : Bool) → in_mask e.record.lbn mask b ≡ t → cell_of (set items k (trimmed e mask)) b ≡ cond t (take_one (cell_of items b)) (cell_of items b)
    here true on =
        let facts = gone_block items version k e mask b es at all on in
        cell_set_less items k e (trimmed e mask) b at.at facts.0 (keep ∙ ap (λ (t : Bool). keeps e b && not t) on ∙ and-false (keeps e b)) facts.1
    here false off = cell_set_same items k e (trimmed e mask) b at.at refl (keep ∙ ap (λ (t : Bool). keeps e b && not t) off ∙ and-true (keeps e b))

-- a trimmed entry that keeps nothing
empty_keeps : (e : Entry) (mask b : ℕ) → bit_and e.record.keep (bit_not w128 mask) ≡ 0 → keeps (trimmed e mask) b ≡ false
unfolding trimmed
empty_keeps e mask b none = ap (λ (m : ℕ). leb e.record.lbn b && has_bit m (b - e.record.lbn)) none ∙ ap (λ (t : Bool). leb e.record.lbn b && t) (has_bit-zero (b - e.record.lbn)) ∙ and-false (leb e.record.lbn b)

pub cell_emptied : (items : List Entry) (version k : ℕ) (e : Entry) (mask b : ℕ) → AreEntries items → IsAt items version k e → GoesAll items version mask → mask < 2 ^ 128 → bit_and e.record.keep (bit_not w128 mask) ≡ 0
    → cell_of (remove items k) b ≡ cond (in_mask e.record.lbn mask b) (take_one (cell_of items b)) (cell_of items b)
cell_emptied items version k e mask b es at all fits none = cell_removed items k e (trimmed e mask) b at.at (empty_keeps e mask b none) ∙ cell_trimmed items version k e mask b es at all fits

-- the table after `uncover`
pub all_less : (F G : ℕ → Option Cell) (items new : List Entry) (first mask : ℕ) → ((b : ℕ) → F b ≡ cell_of items b) → ((b : ℕ) → G b ≡ cond (in_mask first mask b) (take_one (F b)) (F b))
    → ((b : ℕ) → cell_of new b ≡ cond (in_mask first mask b) (take_one (cell_of items b)) (cell_of items b)) → (b : ℕ) → G b ≡ cell_of new b
all_less F G items new first mask before after is b = after b ∙ ap (λ (o : Option Cell). cond (in_mask first mask b) (take_one o) o) (before b) ∙ sym (is b)
