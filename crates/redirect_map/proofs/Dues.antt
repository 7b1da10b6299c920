-- What of an entry is due or may go, in the words of contracts.
use Rattle.std.proofs.Common.{◌≡◌, ◌<◌, ◌≤◌, ◌+◌, ◌-◌, ◌^◌, ℕ, suc, Bool, true, false, cond, not, ◌&&◌, ◌||◌, List, map, take, drop, Option, None, Some, is_some, refl, sym, ap, ◌∙◌, subst, arith, eqb, ltb, leb, bit_and, ⊎_elim}
use Rattle.std.specs.Prelude.{slice_get, IfSome}
use Rattle.std.specs.Int.{bit_not, w128}
use Rattle.std.specs.List.{AllByRecursion, list_any, range_with_len}
use Rattle.std.proofs.lemmas.Bool.{cases_lt, lt-ltb, le-ltb, leb-true, eqb-true, and_parts, false≢true, false_from_ne_true}
use Rattle.wol_model.specs.Log.{has_bit}
use Rattle.wol_model.specs.Index.{listed_in, is_covered, is_due, goes}
use Rattle.block_cells.specs.declared.record.Rec.{Rec}
use Rattle.block_cells.specs.declared.blocks.Cell.{Cell}
use Rattle.block_cells.specs.Masks.{in_mask, IsMask}
use Rattle.block_cells.specs.Cells.{is_held, keepers_of, take_one}
use Rattle.block_cells.proofs.Bits.{has_bit-above, has_bit-without}
use Rattle.block_cells.proofs.Meeting.{any_in_range}
use Rattle.block_cells.proofs.Marks.{in_mask-bit, length-marks_of}
use Rattle.block_cells.proofs.Stepping.{mask_within}
use Rattle.redirect_map.specs.declared.entry.Entry.{Entry}
use Rattle.redirect_map.specs.declared.going.Sought.{Sought}
use Rattle.redirect_map.specs.declared.going.Sought.TheVariants.{Due, Going}
use Rattle.redirect_map.specs.Index.{entry_at, is_sought, has_sought}
use Rattle.redirect_map.specs.Kept.{seen, keeps, one_keeps, IsInRange, AreEntries, IsAt}
use Rattle.redirect_map.specs.Cells.{cell_of}
use Rattle.redirect_map.specs.Marked.{is_home, is_due_of, goes_of, sought_of, AreBegun}
use Rattle.redirect_map.proofs.Seen.{covers_seen, homed_seen, newer_at, older_at}
use Rattle.redirect_map.proofs.Answering.{range_at, any_block, of_entry, covered_seen, live_entry}
use Rattle.redirect_map.proofs.Celled.{held_at, alone_at, cell_there}
use Rattle.redirect_map.proofs.Tabling.{GoesAll}

-- an entry's block i is due, or may go, by the bits of its masks
pub due-bit : (e : Entry) (i : ℕ) (c : Option Cell) → is_due_of e (e.record.lbn + i) c ≡ (has_bit e.record.keep i && (is_held e.record.version false c && not (has_bit e.homed i)))
due-bit e i c = λ j. in_mask-bit e.record.lbn e.record.keep i j && (is_held e.record.version false c && not (in_mask-bit e.record.lbn e.homed i j))

pub goes-bit : (e : Entry) (i : ℕ) (c : Option Cell) → goes_of e (e.record.lbn + i) c ≡ (has_bit e.record.keep i && (not (is_held e.record.version false c) || (has_bit e.homed i && is_held e.record.version true c)))
goes-bit e i c = λ j. in_mask-bit e.record.lbn e.record.keep i j && (not (is_held e.record.version false c) || (in_mask-bit e.record.lbn e.homed i j && is_held e.record.version true c))

-- a block that is away is kept and not home
without : (e : Entry) (i : ℕ) → e.record.keep < 2 ^ 128 → e.homed < 2 ^ 128 → has_bit (bit_and e.record.keep (bit_not w128 e.homed)) i ≡ (has_bit e.record.keep i && not (has_bit e.homed i))
without e i keep homed = has_bit-without e.record.keep e.homed i keep homed

pub due_off : (e : Entry) (i : ℕ) (c : Option Cell) → e.record.keep < 2 ^ 128 → e.homed < 2 ^ 128 → has_bit (bit_and e.record.keep (bit_not w128 e.homed)) i ≡ false → is_due_of e (e.record.lbn + i) c ≡ false
due_off e i c keep homed off = due-bit e i c ∙ at (has_bit e.record.keep i) (has_bit e.homed i) (is_held e.record.version false c) (sym (without e i keep homed) ∙ off)
  where
    at : (k h d : Bool) → (k && not h) ≡ false → (k && (d && not h)) ≡ false
    at false h d none = refl
    at true true true none = refl
    at true true false none = refl
    at true false d none = absurd (false≢true (sym none))

pub due_on : (e : Entry) (i : ℕ) (c : Option Cell) → e.record.keep < 2 ^ 128 → e.homed < 2 ^ 128 → has_bit (bit_and e.record.keep (bit_not w128 e.homed)) i ≡ true → is_due_of e (e.record.lbn + i) c ≡ is_held e.record.version false c
due_on e i c keep homed on = due-bit e i c ∙ at (has_bit e.record.keep i) (has_bit e.homed i) (is_held e.record.version false c) (sym (without e i keep homed) ∙ on)
  where
    at : (k h d : Bool) → (k && not h) ≡ true → (k && (d && not h)) ≡ d
    at false h d some = absurd (false≢true some)
    at true true d some = absurd (false≢true some)
    at true false true some = refl
    at true false false some = refl

pub goes_off : (e : Entry) (i : ℕ) (c : Option Cell) → has_bit e.record.keep i ≡ false → goes_of e (e.record.lbn + i) c ≡ false
goes_off e i c off = goes-bit e i c ∙ ap (λ (t : Bool). t && (not (is_held e.record.version false c) || (has_bit e.homed i && is_held e.record.version true c))) off

pub goes_on : (e : Entry) (i : ℕ) (c : Option Cell) → has_bit e.record.keep i ≡ true → goes_of e (e.record.lbn + i) c ≡ (not (is_held e.record.version false c) || (has_bit e.homed i && is_held e.record.version true c))
goes_on e i c on = goes-bit e i c ∙ ap (λ (t : Bool). t && (not (is_held e.record.version false c) || (has_bit e.homed i && is_held e.record.version true c))) on

-- a block that an entry keeps is one of its range
pub kept_in_range : (e : Entry) (p : ℕ → Bool) (b : ℕ) → IsInRange e → keeps e b ≡ true → p b ≡ true → list_any p (range_with_len e.record.lbn e.record.count) ≡ true
kept_in_range e p b r keep here =
    let from : e.record.lbn ≤ b = leb-true e.record.lbn b (and_parts (leb e.record.lbn b) (has_bit e.record.keep (b - e.record.lbn)) keep).0 in
    any_in_range p e.record.lbn e.record.count b from (mask_within e.record.lbn e.record.keep e.record.count b r.keep_within keep) here

-- what is known of the entry's blocks
held_here : (items : List Entry) (F : ℕ → Option Cell) (k : ℕ) (e : Entry) (b : ℕ) → AreEntries items → ((x : ℕ) → F x ≡ cell_of items x) → slice_get items k ≡ Some e
    → is_held e.record.version false (F b) ≡ (keeps e b && not (one_keeps (drop (suc k) items) b))
held_here items F k e b es table at = ap (is_held e.record.version false) (table b) ∙ held_at items k e b es.rising at

alone_here : (items : List Entry) (F : ℕ → Option Cell) (k : ℕ) (e : Entry) (b : ℕ) → AreEntries items → ((x : ℕ) → F x ≡ cell_of items x) → slice_get items k ≡ Some e
    → is_held e.record.version true (F b) ≡ ((keeps e b && not (one_keeps (drop (suc k) items) b)) && not (one_keeps (take k items) b))
alone_here items F k e b es table at = ap (is_held e.record.version true) (table b) ∙ alone_at items k e b es.rising at ∙ ap (λ (t : Bool). t && not (one_keeps (take k items) b)) (held_at items k e b es.rising at)

pub due_same : (items : List Entry) (F : ℕ → Option Cell) (k : ℕ) (e : Entry) (b : ℕ) → AreEntries items → ((x : ℕ) → F x ≡ cell_of items x) → slice_get items k ≡ Some e
    → is_due_of e b (F b) ≡ is_due (listed_in (map seen items)) (seen e).listed b
due_same items F k e b es table at =
    (λ i. keeps e b && (held_here items F k e b es table at i && not (is_home e b)))
    ∙ twice (keeps e b) (one_keeps (drop (suc k) items) b) (is_home e b)
    ∙ sym (λ i. (covers_seen e b (range_at items k e es at) i && not (newer_at items k e b es.rising es.ranges at i)) && not (homed_seen e b (range_at items k e es at) i))
  where
    twice : (k n h : Bool) → (k && ((k && not n) && not h)) ≡ ((k && not n) && not h)
    twice true n h = refl
    twice false n h = refl

pub goes_same : (items : List Entry) (F : ℕ → Option Cell) (k : ℕ) (e : Entry) (b : ℕ) → AreEntries items → ((x : ℕ) → F x ≡ cell_of items x) → slice_get items k ≡ Some e
    → goes_of e b (F b) ≡ goes (listed_in (map seen items)) (seen e).listed b
goes_same items F k e b es table at =
    (λ i. keeps e b && (not (held_here items F k e b es table at i) || (is_home e b && alone_here items F k e b es table at i)))
    ∙ either (keeps e b) (one_keeps (drop (suc k) items) b) (is_home e b) (one_keeps (take k items) b)
    ∙ sym (λ i. covers_seen e b (range_at items k e es at) i && (newer_at items k e b es.rising es.ranges at i || (homed_seen e b (range_at items k e es at) i && not (older_at items k e b es.rising es.ranges at i))))
  where
    either : (k n h o : Bool) → (k && (not (k && not n) || (h && ((k && not n) && not o)))) ≡ (k && (n || (h && not o)))
    either true true h o = refl
    either true false h o = refl
    either false n h o = refl

pub sought_same : (sought : Sought) (items : List Entry) (F : ℕ → Option Cell) (k : ℕ) (e : Entry) (b : ℕ) → AreEntries items → ((x : ℕ) → F x ≡ cell_of items x) → slice_get items k ≡ Some e
    → sought_of sought e b (F b) ≡ is_sought sought (listed_in (map seen items)) (seen e).listed b
sought_same Due = due_same
sought_same Going = goes_same

-- the answer
pub sought_told : (sought : Sought) (items : List Entry) (version k : ℕ) (e : Entry) (F : ℕ → Option Cell) (answer : Bool) → AreEntries items → ((x : ℕ) → F x ≡ cell_of items x) → IsAt items version k e
    → answer ≡ list_any (λ b. sought_of sought e b (F b)) (range_with_len e.record.lbn e.record.count) → IfSome (entry_at (map seen items) version) (λ d. answer ≡ has_sought sought (listed_in (map seen items)) d.listed)
sought_told sought items version k e F answer es table at is = of_entry items version k e (λ d. answer ≡ has_sought sought (listed_in (map seen items)) d.listed) at
    (is ∙ any_block (λ b. sought_of sought e b (F b)) (is_sought sought (listed_in (map seen items)) (seen e).listed) (λ b. sought_same sought items F k e b es table at.at) (range_with_len e.record.lbn e.record.count)
    ∙ ap (λ (n : ℕ). list_any (is_sought sought (listed_in (map seen items)) (seen e).listed) (range_with_len e.record.lbn n)) (sym (length-marks_of e.record.count e.record.keep)))

none_past : (e : Entry) (i : ℕ) (c : Option Cell) → IsInRange e → (ltb i e.record.count && goes_of e (e.record.lbn + i) c) ≡ goes_of e (e.record.lbn + i) c
none_past e i c r = ⊎_elim
    (λ less. ap (λ (t : Bool). t && goes_of e (e.record.lbn + i) c) (lt-ltb i e.record.count less))
    (λ more. (λ j. ltb i e.record.count && past more j) ∙ none (ltb i e.record.count) ∙ sym (past more))
    (cases_lt i e.record.count)
  where
    past : e.record.count ≤ i → goes_of e (e.record.lbn + i) c ≡ false
    past more = goes_off e i c (has_bit-above e.record.keep e.record.count i r.keep_within more)

    none : (t : Bool) → (t && false) ≡ false
    none true = refl
    none false = refl

pub going_mask : (items : List Entry) (version k : ℕ) (e : Entry) (F : ℕ → Option Cell) (mask : ℕ) → AreEntries items → ((x : ℕ) → F x ≡ cell_of items x) → IsAt items version k e
    → ((i : ℕ) → has_bit mask i ≡ (ltb i e.record.count && goes_of e (e.record.lbn + i) (F (e.record.lbn + i))))
    → IfSome (entry_at (map seen items) version) (λ d. IsMask d.listed.first (goes (listed_in (map seen items)) d.listed) mask)
going_mask items version k e F mask es table at bits = of_entry items version k e (λ d. IsMask d.listed.first (goes (listed_in (map seen items)) d.listed) mask) at
    (λ i. bits i ∙ none_past e i (F (e.record.lbn + i)) (range_at items k e es at.at) ∙ goes_same items F k e (e.record.lbn + i) es table at.at)

-- ---- A record of whose range no other one keeps a block

pub apart_keeps : (r : Rec) (items : List Entry) → AllByRecursion IsInRange items → r.keep < 2 ^ r.count → list_any (is_covered (listed_in (map seen items))) (range_with_len r.lbn r.count) ≡ false
    → (b : ℕ) → in_mask r.lbn r.keep b ≡ true → one_keeps items b ≡ false
apart_keeps r items ranges within none b on =
    let from : r.lbn ≤ b = leb-true r.lbn b (and_parts (leb r.lbn b) (has_bit r.keep (b - r.lbn)) on).0 in
    false_from_ne_true (one_keeps items b) (λ kept. false≢true (sym none ∙ any_in_range (is_covered (listed_in (map seen items))) r.lbn r.count b from (mask_within r.lbn r.keep r.count b within on) (covered_seen items b ranges ∙ kept)))

pub apart_none : (items : List Entry) (F : ℕ → Option Cell) (b : ℕ) → ((x : ℕ) → F x ≡ cell_of items x) → one_keeps items b ≡ false → F b ≡ None
apart_none items F b table none = missing (F b) (ap (λ (o : Option Cell). is_some o) (table b) ∙ cell_there items b ∙ none)
  where
    missing : (o : Option Cell) → is_some {T = Cell} o ≡ false → o ≡ None
    missing None is = refl
    missing (Some c) is = absurd (false≢true (sym is))

-- ---- A block that goes of a record where it is home

keepers_one : (v : ℕ) (o : Option Cell) → is_held v true o ≡ true → keepers_of o ≤ 1
keepers_one v None on = absurd (false≢true on)
keepers_one v (Some c) on =
    let one : c.keepers ≡ 1 = eqb-true c.keepers 1 (and_parts (eqb c.version v) (eqb c.keepers 1) on).1 in
    omega arith

-- no other record keeps it
pub alone_few : (items : List Entry) (F : ℕ → Option Cell) (version k : ℕ) (e : Entry) (mask : ℕ) → AreEntries items → ((x : ℕ) → F x ≡ cell_of items x) → IsAt items version k e → GoesAll items version mask
    → (i : ℕ) → has_bit e.homed i ≡ true → has_bit mask i ≡ true → keepers_of (F (e.record.lbn + i)) ≤ 1
alone_few items F version k e mask es table at all i homed on =
    let live = live_entry items k e es.live at.at i homed in
    let held : is_held e.record.version false (F (e.record.lbn + i)) ≡ true =
    held_here items F k e (e.record.lbn + i) es table at.at ∙ (λ j. (in_mask-bit e.record.lbn e.record.keep i ∙ live.0) j && not (live.1 j)) in
    let free : goes_of e (e.record.lbn + i) (F (e.record.lbn + i)) ≡ true = goes_same items F k e (e.record.lbn + i) es table at.at ∙ all (seen e) at.found i on in
    let rest = (and_parts (has_bit e.record.keep i) (not (is_held e.record.version false (F (e.record.lbn + i))) || (has_bit e.homed i && is_held e.record.version true (F (e.record.lbn + i)))) (sym (goes-bit e i (F (e.record.lbn + i))) ∙ free)).1 in
    keepers_one e.record.version (F (e.record.lbn + i)) (sym (λ j. not (held j) || (homed j && is_held e.record.version true (F (e.record.lbn + i)))) ∙ rest)

take_none : (o : Option Cell) → keepers_of o ≤ 1 → take_one o ≡ None
take_none None few = refl
take_none (Some c) few = ap (λ (t : Bool). cond t (Some (record { version = c.version; keepers = c.keepers - 1 })) None) (le-ltb 1 c.keepers few)

-- so it begins to go of none
begun_few : (items : List Entry) (F : ℕ → Option Cell) (M : ℕ → ℕ) (b : ℕ) → keepers_of (F b) ≤ 1 → AreBegun false items F M b
begun_few items F M b few k e at starts =
    absurd (false≢true (sym (ap (is_held e.record.version true) (take_none (F b) few)) ∙ (and_parts (is_home e b) (is_held e.record.version true (take_one (F b))) starts).1))

pub begun_else : (items : List Entry) (F : ℕ → Option Cell) (M : ℕ → ℕ) (first mask alone b : ℕ) → mask < 2 ^ 128 → alone < 2 ^ 128 → ((i : ℕ) → has_bit alone i ≡ true → has_bit mask i ≡ true → keepers_of (F (first + i)) ≤ 1)
    → (in_mask first (bit_and mask (bit_not w128 alone)) b ≡ true → AreBegun false items F M b) → in_mask first mask b ≡ true → AreBegun false items F M b
begun_else items F M first mask alone b fits alone_fits few begun on = at (has_bit alone (b - first)) refl
  where
    parts : (leb first b ≡ true) × (has_bit mask (b - first) ≡ true)
    parts = and_parts (leb first b) (has_bit mask (b - first)) on

    place : first + (b - first) ≡ b
    place = let from : first ≤ b = leb-true first b parts.0 in omega arith

    at : (t : Bool) → has_bit alone (b - first) ≡ t → AreBegun false items F M b
    at true is = begun_few items F M b (subst (λ (n : ℕ). keepers_of (F n) ≤ 1) place (few (b - first) is parts.1))
    at false is = begun (λ i. parts.0 i && (has_bit-without mask alone (b - first) fits alone_fits ∙ (λ j. parts.1 j && not (is j))) i)
