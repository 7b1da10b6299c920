-- Items that go to a log as records in a row: what their lane takes, and what the index lists.
use Rattle.std.proofs.Common.{◌≡◌, ◌⊎◌, inl, inr, ⊎_elim, ◌<◌, ◌≤◌, ◌+◌, ℕ, zero, suc, Bool, true, false, not, ◌||◌, cond, List, [], ◌∷◌, length, take, drop, get_or, Some, refl, sym, ap, subst, ◌∙◌, arith, ◌-◌, ◌^◌, ◌&&◌, ◌++◌, map, Option, eqb, leb, ltb, replicate, None}
use Rattle.std.specs.Prelude.{slice_get, slice_set, IfSome, Result, is_some}
use Rattle.std.specs.List.{list_any, filter, range_with_len, AllByRecursion}
use Rattle.std.proofs.lemmas.Bool.{false≢true, leb-true, lt-ltb, le-ltb, cases_lt}
use Rattle.std.proofs.lemmas.List.{take_more, get_or-replicate, get_or_past, length-take-le, length-drop}
use Rattle.std.proofs.lemmas.List.Sums.{sum_by_push, sum_by-cons}
use Rattle.std.proofs.lemmas.Option.{same_Some, none-some}
use Rattle.std.proofs.lemmas.Bool.Decides.{nat_tests}
use Rattle.std.proofs.lemmas.Nat.Bits.{bit_at_ones, bit_at-zero}
use Rattle.std.proofs.Math.Pow.{pow_mono}
use Rattle.wol_disk.specs.Disk.{Block, State}
use Rattle.wol_model.specs.Index.{Listed, Indexed, listed_in}
use Rattle.log_segment.specs.Records.{group_of, count_of, new_head, AreItems, new_record}
use Rattle.log_segment.specs.declared.item.Item.{Item}
use Rattle.logger.specs.Lanes.{first_count, IsLane, IsHeld, IsTaken, IsSameLane, IsFirstWithRoom, IsFit, HasNoRoom, HasRoom, HasUsed, Secured, had_room, asked, Wrote, to_held, to_taken, Claimed, IsSpot, held_in, taken_in, lane_owner, logger_of, pool_blocks, segments_in, pool_of, spindle_of}
use Rattle.offload_policy.specs.Placing.{may_hold}
use Rattle.offload_policy.specs.declared.Room.{Room}
use Rattle.offload_policy.specs.declared.Room.TheVariants.{Unknown}
use Rattle.volume_parts.specs.Offers.{passed_in, HasTakenWrite}
use Rattle.volume_parts.specs.Joining.{is_covered_behind, AreCoveredBehind, AreAsLong, GoTogether}
use mathlib.Core.Path.{fun_ext}
use Rattle.wol_model.specs.Extents.{marked, remarked, KeepsAll, IsValid}
use Rattle.wol_model.specs.Log.{Record, has_bit, marks_of, extent_of, end_of}
use Rattle.wol_model.specs.Placing.{Log}
use Rattle.wol_model.proofs.Live.{full_mask}
use Rattle.block_cells.specs.Runs.{runs_after, runs_of}
use Rattle.block_cells.specs.declared.record.Rec.{Rec}
use Rattle.redirect_map.specs.Index.{entry_of, unhomed, cover_at}
use Rattle.wol_promise.specs.Manager.{Held}
use Rattle.wol_promise.specs.Policy.{Look, PartName, placed, is_in}
use Rattle.wol_promise.proofs.Index.{cleared, indexed_with, grown}
use Rattle.volume_parts.specs.Items.{log_write, AreItemsOf, log_writes, placed_all}
use Rattle.wol_promise.proofs.Lists.{all_push, all_map, all_mapped}
use Rattle.volume_parts.specs.Listing.{recs_at, entered_all}
use Rattle.volume_parts.proofs.Groups.{IsNew, AreNew, FitBehind, written_as, indexed_by, end_more}
use Rattle.wol_disk.specs.declared.disk.Failed.{Failed}
use Rattle.turn_lock.specs.LockIds.{LockId}
use Rattle.turn_lock.specs.Passes.{pass_mine, pass_number}
use Rattle.seg_pool.specs.Holders.{Took}
use Rattle.seg_pool.specs.Operations.{operation_of, taken}
use Rattle.wol_model.specs.Journal.{Needed, Done}
use Rattle.seg_pool.specs.declared.base.PoolBase.{PoolBase}
use Rattle.log_segment.specs.Segment.{IsBlank, room_of}
use Rattle.log_segment.specs.declared.free.FreeSegment.{FreeSegment}
use Rattle.logger.proofs.Rooms.{decide_room, not_both, same_first}
use Rattle.logger.specs.declared.lane.HeldSegment.{HeldSegment}
use Rattle.logger.specs.declared.lane.Lane.{Lane}
use Rattle.logger.specs.declared.lane.Spot.{Spot}
use Rattle.volume_parts.specs.Puts.{PutIn}
use Rattle.volume_parts.proofs.Elements.{all_at}
use Rattle.spin_model.specs.Operations as spindle
use Rattle.volume_parts.specs.Puts as puts

-- ---- One item more

none_behind : (items : List Item) (es : List Listed) → AreCoveredBehind es items 1
none_behind items es k i one lt at = absurd (omega arith)

pub behind_one : (es : List Listed) (items : List Item) → AreCoveredBehind es items 1
behind_one es items = none_behind items es

pub long_one : (items : List Item) → AreAsLong items 1
long_one [] k i lt at = absurd (none-some i at)
long_one (x ∷ items) zero i lt at = let e = ap (λ (j : Item). j.count) (same_Some x i at) in omega arith
long_one (x ∷ items) (suc k) i lt at = absurd (omega arith)

either : (k n : ℕ) → k < n + 1 → (k < n) ⊎ (k ≡ n)
either zero zero lt = inr refl
either zero (suc n) lt = inl (omega arith)
either (suc k) zero lt = absurd (omega arith)
either (suc k) (suc n) lt = ⊎_elim (λ l. inl (omega arith)) (λ e. inr (ap suc e)) (either k n (omega arith))

pub behind_more : (es : List Listed) (items : List Item) (n : ℕ) → AreCoveredBehind es items n → ((i : Item) → slice_get items n ≡ Some i → is_covered_behind es (take n items) i ≡ true) → AreCoveredBehind es items (n + 1)
behind_more es items n before here k i one lt at = ⊎_elim
    (λ less. before k i one less at)
    (λ same. subst (λ (p : ℕ). slice_get items p ≡ Some i → is_covered_behind es (take p items) i ≡ true) (sym same) (here i) at)
    (either k n lt)

pub long_more : (items : List Item) (n : ℕ) → AreAsLong items n → ((i : Item) → slice_get items n ≡ Some i → first_count items ≤ i.count) → AreAsLong items (n + 1)
long_more items n before here k i lt at = ⊎_elim
    (λ less. before k i less at)
    (λ same. subst (λ (p : ℕ). slice_get items p ≡ Some i → first_count items ≤ i.count) (sym same) (here i) at)
    (either k n lt)

-- ---- Blocks of the first ones

pub first_at : (items : List Item) (d : Item) → 1 ≤ length items → first_count items ≡ (get_or items 0 d).count
first_at [] d some = absurd (omega arith)
first_at (i ∷ items) d some = refl

pub count_take_more : (items : List Item) (n : ℕ) (d : Item) → n < length items → count_of (take (n + 1) items) ≡ count_of (take n items) + (get_or items n d).count
count_take_more items n d lt = ap count_of (take_more items n d lt) ∙ sum_by_push (λ (i : Item). i.count) (take n items) (get_or items n d)

pub first_of_take : (items : List Item) (n : ℕ) → 1 ≤ n → first_count (take n items) ≡ first_count items
first_of_take items zero one = absurd (omega arith)
first_of_take [] (suc n) one = refl
first_of_take (i ∷ items) (suc n) one = refl

-- ---- Whether a logger was turned away

filter_none : (q : ℕ → Bool) (a n : ℕ) → ((k : ℕ) → a ≤ k → k < a + n → q k ≡ false) → filter q (range_with_len a n) ≡ []
filter_none q a zero none = refl
filter_none q a (suc n) none = ap (λ (t : Bool). cond t (a ∷ filter q (range_with_len (a + 1) n)) (filter q (range_with_len (a + 1) n))) (none a (omega arith) (omega arith))
    ∙ filter_none q (a + 1) n (λ k le lt. none k (omega arith) (omega arith))

none_no : (rooms : List Room) → list_any (λ r. not (may_hold r)) rooms ≡ false → (k : ℕ) → not (may_hold (get_or rooms k Unknown)) ≡ false
none_no [] none k = refl
none_no (r ∷ rooms) none zero = at (not (may_hold r)) (list_any (λ s. not (may_hold s)) rooms) none
  where
    at : (s t : Bool) → (s || t) ≡ false → s ≡ false
    at true t is = absurd (false≢true (sym is))
    at false t is = refl
none_no (r ∷ rooms) none (suc k) = none_no rooms (at (not (may_hold r)) (list_any (λ s. not (may_hold s)) rooms) none) k
  where
    at : (s t : Bool) → (s || t) ≡ false → t ≡ false
    at true t is = absurd (false≢true (sym is))
    at false t is = is

pub none_passed : (rooms : List Room) → list_any (λ r. not (may_hold r)) rooms ≡ false → passed_in rooms ≡ []
none_passed rooms none = filter_none (λ (k : ℕ). not (may_hold (get_or rooms k Unknown))) 0 (length rooms) (λ k le lt. none_no rooms none k)

-- ---- A group's blocks in front of others

pub take_front : {X : Type 0} (n m : ℕ) (xs : List X) → n ≤ m → take n (take m xs) ≡ take n xs
take_front zero m xs le = refl
take_front (suc n) zero xs le = absurd (omega arith)
take_front (suc n) (suc m) [] le = refl
take_front (suc n) (suc m) (x ∷ xs) le = λ i. x ∷ take_front n m xs (omega arith) i

take_none : (n : ℕ) → take {A = Block} n [] ≡ []
take_none zero = refl
take_none (suc n) = refl

drop_front : (n m : ℕ) (xs : List Block) → drop n (take (n + m) xs) ≡ take m (drop n xs)
drop_front zero m xs = (let e : 0 + m ≡ m = omega arith in ap (λ (k : ℕ). take k xs) e)
drop_front (suc n) m [] = ap (drop (suc n)) (take_none (suc n + m)) ∙ sym (take_none m)
drop_front (suc n) m (x ∷ xs) = (let e : suc n + m ≡ suc (n + m) = omega arith in ap (λ (k : ℕ). drop (suc n) (take k (x ∷ xs))) e) ∙ drop_front n m xs

-- the records of a group are those of its own blocks
pub group_cut : (owner version : ℕ) (items : List Item) (from : List Block) → group_of owner version items (take (count_of items) from) ≡ group_of owner version items from
group_cut owner version [] from = refl
group_cut owner version (i ∷ items) from =
    ap (λ (n : ℕ). group_of owner version (i ∷ items) (take n from)) (sum_by-cons (λ (j : Item). j.count) i items)
    ∙ (λ t. record { head = new_head owner version i.lbn i.count; blocks = take_front i.count (i.count + count_of items) from (omega arith) t } ∷ group_of owner (version + 1) items (drop_front i.count (count_of items) from t))
    ∙ (λ t. record { head = new_head owner version i.lbn i.count; blocks = take i.count from } ∷ group_cut owner (version + 1) items (drop i.count from) t)

-- no smaller one, or no logger was turned away
pub long_or_none : (rooms : List Room) (items : List Item) (n : ℕ) (t : Bool) → t ≡ list_any (λ r. not (may_hold r)) rooms → (t ≡ true → AreAsLong items n) → (passed_in rooms ≡ []) ⊎ AreAsLong items n
long_or_none rooms items n true is long = inr (long refl)
long_or_none rooms items n false is long = inl (none_passed rooms (sym is))

-- the first of them has some blocks and no more than a record may have
pub first_item : (items : List Item) (d : Item) → 1 ≤ length items → AreItems items → (1 ≤ (get_or items 0 d).count) × ((get_or items 0 d).count ≤ 128)
first_item [] d some are = absurd (omega arith)
first_item (i ∷ items) d some are = (are.0.0, are.0.1)

pub items_front : (n : ℕ) (items : List Item) → AreItems items → AreItems (take n items)
items_front zero items are = tt
items_front (suc n) [] are = tt
items_front (suc n) (i ∷ items) are = (are.0, items_front n items are.1)

-- fewer of them go together too
pub joins_fewer : (home_up : Bool) (es : List Listed) (passed : List ℕ) (items : List Item) (n k : ℕ) → k ≤ n → GoTogether home_up es passed items n → GoTogether home_up es passed items k
joins_fewer home_up es passed items n k le joins = record {
  away = λ up j i one lt at. joins.away up j i one (omega arith) at;
  long = ⊎_elim (λ none. inl none) (λ long. inr (λ j i lt at. long j i (omega arith) at)) joins.long;
}

-- ---- Its marks

each_same : {X : Type 0} (f : ℕ → X) (x : X) (a n : ℕ) → ((i : ℕ) → a ≤ i → i < a + n → f i ≡ x) → map f (range_with_len a n) ≡ replicate n x
each_same f x a zero same = refl
each_same f x a (suc n) same = λ i. same a (omega arith) (omega arith) i ∷ each_same f x (a + 1) n (λ k above below. same k (omega arith) (omega arith)) i

pub full_marks : (n : ℕ) → marks_of n (2 ^ n - 1) ≡ replicate n true
full_marks n = each_same (has_bit (2 ^ n - 1)) true 0 n (λ i above below. let inside : i < n = omega arith in ap (λ (k : ℕ). eqb k 1) (bit_at_ones n i inside))

pub no_marks : (n : ℕ) → marks_of n 0 ≡ replicate n false
no_marks n = each_same (has_bit 0) false 0 n (λ i above below. ap (λ (k : ℕ). eqb k 1) (bit_at-zero i))

run_on : (n : ℕ) → runs_after true (replicate n true) ≡ 0
run_on zero = refl
run_on (suc n) = run_on n

-- they are one run
pub one_run : (n : ℕ) → 1 ≤ n → runs_of (marks_of n (2 ^ n - 1)) ≡ 1
one_run zero le = absurd (omega arith)
one_run (suc n) le = ap runs_of (full_marks (suc n)) ∙ ap (λ (k : ℕ). 1 + k) (run_on n)

marked_full : (first n b : ℕ) → marked first (replicate n true) b ≡ (leb first b && ltb b (first + n))
marked_full first n b = at (leb first b) refl
  where
    inside : (k : ℕ) → b ≡ first + k → get_or (replicate n true) k false ≡ ltb b (first + n)
    inside k is = ⊎_elim
        (λ lt. get_or-replicate n k true false lt ∙ sym (let less : b < first + n = omega arith in lt-ltb b (first + n) less))
        (λ past. get_or_past (replicate n true) k false (omega (arith, length-replicated n, past)) ∙ sym (let more : first + n ≤ b = omega arith in le-ltb b (first + n) more))
        (cases_lt k n)
      where
        length-replicated : (m : ℕ) → length (replicate m true) ≡ m
        length-replicated zero = refl
        length-replicated (suc m) = ap suc (length-replicated m)

    at : (t : Bool) → leb first b ≡ t → (t && get_or (replicate n true) (b - first) false) ≡ (t && ltb b (first + n))
    at true is = inside (b - first) (let le : first ≤ b = leb-true first b is in omega arith)
    at false is = refl

-- a new record as the index is given it, with its place
abbrev pub rec_at : (version lbn : ℕ) → List Block → (lane segment pos : ℕ) → Rec
rec_at version lbn from lane segment pos = record { version = version; lbn = lbn; count = length from; keep = 2 ^ length from - 1; lane = lane; segment = segment; pos = pos }

-- the entries once the index has it
abbrev pub entered : List Indexed → Rec → List Indexed
entered es rec = map (unhomed (cover_at (entry_of rec 0))) es ++ entry_of rec 0 ∷ []

module _ (owner version lbn : ℕ) (from : List Block) where
  abbrev r : Record
  r = new_record owner version lbn from

  pub new_keeps : KeepsAll (extent_of r)
  new_keeps = full_mask r refl refl

  pub covers_its : (extent_of r).cover.covers ≡ is_in (log_write version lbn from)
  covers_its = fun_ext (λ b. ap (λ (marks : List Bool). marked lbn marks b) (full_marks (length from)) ∙ marked_full lbn (length from) b)

  pub new_valid : 1 ≤ length from → IsValid (extent_of r).cover
  new_valid some = (lbn, ap (λ (f : ℕ → Bool). f lbn) covers_its ∙ within)
    where
      within : is_in (log_write version lbn from) lbn ≡ true
      within = grind (arith, nat_tests)

  -- ---- Its entry

  -- the index with it is that of the promise, where it stands behind the records of its segment
  pub indexed_so : {P : Type 0} (rec : Rec) (es : List Indexed) (s : Held P) → rec ≡ rec_at version lbn from s.lane s.index (end_of s.records) → entered es rec ≡ indexed_with es s r
  indexed_so rec es s is = ap (entered es) is
      ∙ (λ i. map (cleared (extent_of r).cover.covers) es ++ record { listed = record { version = version; first = lbn; keep = marks_of (length from) (2 ^ length from - 1); lane = s.lane; homed = no_marks (length from) i }; index = s.index; pos = end_of s.records } ∷ [])

  -- and the look is that of a write placed there
  pub look_so : (rec : Rec) (es : List Indexed) (home_up : Bool) (ups : List Bool) (down : Option PartName) (lane segment pos : ℕ) → rec ≡ rec_at version lbn from lane segment pos
      → (let l : Look = record { home_up = home_up; ups = slice_set ups lane true; next = version + 1; listed = listed_in (entered es rec); down = down } in l)
      ≡ placed (Log lane) (record { home_up = home_up; ups = ups; next = version; listed = listed_in es; down = down }) (log_write version lbn from)
  look_so rec es home_up ups down lane segment pos is = λ i. record { home_up = home_up; ups = slice_set ups lane true; next = version + 1; listed = (ap (λ (q : Rec). listed_in (entered es q)) is ∙ listed_then es ∙ marks) i; down = down }
    where
      new : (keep homed : List Bool) → Listed
      new keep homed = record { version = version; first = lbn; keep = keep; lane = lane; homed = homed }

      clear : (ℕ → Bool) → Listed → Listed
      clear covers e = record e { homed = remarked e.first e.homed (λ b m. m && not (covers b)) }

      listed_then : (ds : List Indexed) → listed_in (entered ds (rec_at version lbn from lane segment pos)) ≡ map (clear (extent_of r).cover.covers) (listed_in ds) ++ new (marks_of (length from) (2 ^ length from - 1)) (marks_of (length from) 0) ∷ []
      listed_then [] = refl
      listed_then (d ∷ ds) = λ i. clear (extent_of r).cover.covers d.listed ∷ listed_then ds i

      marks : map (clear (extent_of r).cover.covers) (listed_in es) ++ new (marks_of (length from) (2 ^ length from - 1)) (marks_of (length from) 0) ∷ []
          ≡ map (clear (is_in (log_write version lbn from))) (listed_in es) ++ new (replicate (length from) true) (replicate (length from) false) ∷ []
      marks = λ i. map (clear (covers_its i)) (listed_in es) ++ new (full_marks (length from) i) (no_marks (length from) i) ∷ []

-- the record of an item, with this mask
abbrev pub rec_of : (version lane segment pos keep : ℕ) → Item → Rec
rec_of version lane segment pos keep i = record { version = version; lbn = i.lbn; count = i.count; keep = keep; lane = lane; segment = segment; pos = pos }

abbrev pub with_rec : List Indexed → Rec → List Indexed
with_rec es q = map (unhomed (cover_at (entry_of q 0))) es ++ entry_of q 0 ∷ []

-- what is left to list goes on from it
pub listed_more : (es es' : List Indexed) (version lane segment pos keep : ℕ) (i : Item) (items : List Item) → keep ≡ 2 ^ i.count - 1 → es' ≡ with_rec es (rec_of version lane segment pos keep i)
    → entered_all es' (recs_at (version + 1) items lane segment (pos + 1 + i.count)) ≡ entered_all es (recs_at version (i ∷ items) lane segment pos)
listed_more es es' version lane segment pos keep i items is entries =
    ap (λ (ds : List Indexed). entered_all ds (recs_at (version + 1) items lane segment (pos + 1 + i.count))) entries
    ∙ ap (λ (k : ℕ). entered_all (with_rec es (rec_of version lane segment pos k i)) (recs_at (version + 1) items lane segment (pos + 1 + i.count))) is

pub below_more : (es es' : List Indexed) (q : Rec) → es' ≡ with_rec es q → AllByRecursion (λ (e : Indexed). e.listed.version < q.version) es → AllByRecursion (λ (e : Indexed). e.listed.version < q.version + 1) es'
below_more es es' q entries low = subst (AllByRecursion (λ (e : Indexed). e.listed.version < q.version + 1)) (sym entries)
    (all_push (λ (e : Indexed). e.listed.version < q.version + 1) (map (unhomed (cover_at (entry_of q 0))) es) (entry_of q 0)
    (all_mapped (λ (e : Indexed). e.listed.version < q.version + 1) (unhomed (cover_at (entry_of q 0))) es
    (all_map (λ (e : Indexed). e.listed.version < q.version) (λ (e : Indexed). e.listed.version < q.version + 1) (λ e lt. omega arith) es low)) (omega arith))

pub keeps_one : (count keep : ℕ) → 1 ≤ count → keep ≡ 2 ^ count - 1 → 0 < keep
keeps_one count keep some is = let more : 2 ^ 1 ≤ 2 ^ count = pow_mono some in omega (arith, is, more)

pub within_count : (count keep : ℕ) → 1 ≤ count → keep ≡ 2 ^ count - 1 → keep < 2 ^ count
within_count count keep some is = let more : 2 ^ 1 ≤ 2 ^ count = pow_mono some in omega (arith, is, more)

pub one_place : (count keep reserved : ℕ) → 1 ≤ count → keep ≡ 2 ^ count - 1 → 1 ≤ reserved → runs_of (marks_of count keep) ≤ reserved
one_place count keep reserved some is room = subst (λ (k : ℕ). k ≤ reserved) (sym (ap (λ (k : ℕ). runs_of (marks_of count k)) is ∙ one_run count some)) room

pub room_left : (count keep old new n : ℕ) → 1 ≤ count → keep ≡ 2 ^ count - 1 → old ≤ new + runs_of (marks_of count keep) → n + 1 ≤ old → n ≤ new
room_left count keep old new n some is kept le = let e : runs_of (marks_of count keep) ≡ 1 = ap (λ (k : ℕ). runs_of (marks_of count k)) is ∙ one_run count some in omega (arith, kept, e, le)

-- ---- Their blocks

pub count_more : (i : Item) (items : List Item) → count_of (i ∷ items) ≡ i.count + count_of items
count_more i items = sum_by-cons (λ (j : Item). j.count) i items

-- there are enough blocks for the first, and for the others behind it
pub enough_first : (i : Item) (items : List Item) (from : List Block) → count_of (i ∷ items) ≤ length from → i.count ≤ length from
enough_first i items from enough = let e = count_more i items in omega arith

pub enough_rest : (i : Item) (items : List Item) (from : List Block) → count_of (i ∷ items) ≤ length from → count_of items ≤ length (drop i.count from)
enough_rest i items from enough = let e = count_more i items in let d = length-drop i.count from in omega arith

pub first_long : (i : Item) (items : List Item) (from : List Block) → count_of (i ∷ items) ≤ length from → length (take i.count from) ≡ i.count
first_long i items from enough = length-take-le i.count from (enough_first i items from enough)

-- the first record of a group
pub first_record : (owner version : ℕ) (i : Item) (items : List Item) (from : List Block) → count_of (i ∷ items) ≤ length from
    → new_record owner version i.lbn (take i.count from) ≡ record { head = new_head owner version i.lbn i.count; blocks = take i.count from }
first_record owner version i items from enough = λ j. record { head = new_head owner version i.lbn (first_long i items from enough j); blocks = take i.count from }

-- ---- They are new

pub group_new : (owner version most size home_blocks : ℕ) (items : List Item) (from : List Block) → AreItemsOf most size items → size ≡ home_blocks → count_of items ≤ length from → AreNew home_blocks version (group_of owner version items from)
group_new owner version most size home_blocks [] from are same enough = tt
group_new owner version most size home_blocks (i ∷ items) from are same enough = (
  subst (IsNew home_blocks version) (first_record owner version i items from enough) (record {
    keeps = new_keeps owner version i.lbn (take i.count from);
    version = refl;
    lies = let l = first_long i items from enough in let w = are.0.within in omega arith;
    valid = new_valid owner version i.lbn (take i.count from) (let l = first_long i items from enough in let s = are.0.some in omega arith);
    counted = refl;
  }),
  group_new owner (version + 1) most size home_blocks items (drop i.count from) are.1 same (enough_rest i items from enough),
)

-- a group with an item has a block
pub group_some : (most size : ℕ) (items : List Item) → 1 ≤ length items → AreItemsOf most size items → 1 ≤ count_of items
group_some most size [] some are = absurd (omega arith)
group_some most size (i ∷ items) some are = let e = count_more i items in let c = are.0.some in omega arith

pub group_fits : (size end owner version : ℕ) (items : List Item) (from : List Block) → end + length items + count_of items ≤ size → FitBehind size end (group_of owner version items from)
group_fits size end owner version [] from fits = tt
group_fits size end owner version (i ∷ items) from fits = (
  (let e = count_more i items in omega arith),
  group_fits size (end + 1 + i.count) owner (version + 1) items (drop i.count from) (let e = count_more i items in omega arith),
)

pub group_written : (owner version : ℕ) (items : List Item) (from : List Block) → written_as (group_of owner version items from) ≡ log_writes version items from
group_written owner version [] from = refl
group_written owner version (i ∷ items) from = λ j. record { first = i.lbn; blocks = take i.count from; version = Some version } ∷ group_written owner (version + 1) items (drop i.count from) j

pub group_long : (owner version : ℕ) (items : List Item) (from : List Block) → length (group_of owner version items from) ≡ length items
group_long owner version [] from = refl
group_long owner version (i ∷ items) from = ap suc (group_long owner (version + 1) items (drop i.count from))

-- a group has a record for each item
pub group_nonempty : (owner version : ℕ) (items : List Item) (from : List Block) → 1 ≤ length items → 1 ≤ length (group_of owner version items from)
group_nonempty owner version items from some = let e = group_long owner version items from in omega arith

-- ---- Their entries

pub first_rec : (version : ℕ) (i : Item) (items : List Item) (from : List Block) (lane segment pos : ℕ) → count_of (i ∷ items) ≤ length from
    → record { version = version; lbn = i.lbn; count = i.count; keep = 2 ^ i.count - 1; lane = lane; segment = segment; pos = pos } ≡ rec_at version i.lbn (take i.count from) lane segment pos
first_rec version i items from lane segment pos enough =
    λ j. record { version = version; lbn = i.lbn; count = sym (first_long i items from enough) j; keep = 2 ^ sym (first_long i items from enough) j - 1; lane = lane; segment = segment; pos = pos }

-- the index with them is that of the promise, where they stand behind the records of their segment
pub group_indexed : {P : Type 0} (owner version : ℕ) (items : List Item) (from : List Block) (es : List Indexed) (s : Held P) (part : P) → count_of items ≤ length from
    → entered_all es (recs_at version items s.lane s.index (end_of s.records)) ≡ indexed_by es s part (group_of owner version items from)
group_indexed owner version [] from es s part enough = refl
group_indexed {P} owner version (i ∷ items) from es s part enough =
    ap (λ (ds : List Indexed). entered_all ds (recs_at (version + 1) items s.lane s.index (end_of s.records + 1 + i.count))) one
    ∙ ap (λ (pos : ℕ). entered_all (indexed_with es s r) (recs_at (version + 1) items s.lane s.index pos)) (sym (end_more s.records r (first_long i items from enough)))
    ∙ group_indexed owner (version + 1) items (drop i.count from) (indexed_with es s r) (grown s part r) part (enough_rest i items from enough)
  where
    r : Record
    r = record { head = new_head owner version i.lbn i.count; blocks = take i.count from }

    q : Rec
    q = record { version = version; lbn = i.lbn; count = i.count; keep = 2 ^ i.count - 1; lane = s.lane; segment = s.index; pos = end_of s.records }

    one : entered es q ≡ indexed_with es s r
    one = indexed_so owner version i.lbn (take i.count from) q es s (first_rec version i items from s.lane s.index (end_of s.records) enough)
        ∙ ap (indexed_with es s) (first_record owner version i items from enough)

-- ---- The look that they leave

set_twice : (ups : List Bool) (lane : ℕ) → slice_set (slice_set ups lane true) lane true ≡ slice_set ups lane true
set_twice [] lane = refl
set_twice (u ∷ ups) zero = refl
set_twice (u ∷ ups) (suc lane) = λ i. u ∷ set_twice ups lane i

-- that of writes that are placed there one after another
pub group_look : (version : ℕ) (items : List Item) (from : List Block) (es : List Indexed) (home_up : Bool) (ups : List Bool) (down : Option PartName) (lane segment pos : ℕ) → count_of items ≤ length from → slice_set ups lane true ≡ ups
    → (let l : Look = record { home_up = home_up; ups = ups; next = version + length items; listed = listed_in (entered_all es (recs_at version items lane segment pos)); down = down } in l)
    ≡ placed_all (Log lane) (record { home_up = home_up; ups = ups; next = version; listed = listed_in es; down = down }) (log_writes version items from)
group_look version [] from es home_up ups down lane segment pos enough set = λ i. record { home_up = home_up; ups = ups; next = (let e : version + 0 ≡ version = omega arith in e) i; listed = listed_in es; down = down }
group_look version (j ∷ items) from es home_up ups down lane segment pos enough set =
    (λ i. record { home_up = home_up; ups = ups; next = (let e : version + suc (length items) ≡ version + 1 + length items = omega arith in e) i; listed = listed_in (entered_all es (recs_at version (j ∷ items) lane segment pos)); down = down })
    ∙ group_look (version + 1) items (drop j.count from) (entered es q) home_up ups down lane segment (pos + 1 + j.count) (enough_rest j items from enough) set
    ∙ ap (λ (l : Look). placed_all (Log lane) l (log_writes (version + 1) items (drop j.count from))) one
  where
    q : Rec
    q = record { version = version; lbn = j.lbn; count = j.count; keep = 2 ^ j.count - 1; lane = lane; segment = segment; pos = pos }

    one : (let l : Look = record { home_up = home_up; ups = ups; next = version + 1; listed = listed_in (entered es q); down = down } in l) ≡ placed (Log lane) (record { home_up = home_up; ups = ups; next = version; listed = listed_in es; down = down }) (log_write version j.lbn (take j.count from))
    one = (λ i. record { home_up = home_up; ups = sym set i; next = version + 1; listed = listed_in (entered es q); down = down })
        ∙ look_so 0 version j.lbn (take j.count from) q es home_up ups down lane segment pos (first_rec version j items from lane segment pos enough)

-- of a group with a first one, whose logger it wakes
woken_first : (version : ℕ) (j : Item) (items : List Item) (from : List Block) (es : List Indexed) (home_up : Bool) (ups : List Bool) (down : Option PartName) (lane segment pos : ℕ) → count_of (j ∷ items) ≤ length from
    → (let l : Look = record { home_up = home_up; ups = slice_set ups lane true; next = version + length (j ∷ items); listed = listed_in (entered_all es (recs_at version (j ∷ items) lane segment pos)); down = down } in l)
    ≡ placed_all (Log lane) (record { home_up = home_up; ups = ups; next = version; listed = listed_in es; down = down }) (log_writes version (j ∷ items) from)
woken_first version j items from es home_up ups down lane segment pos enough =
    (λ i. record { home_up = home_up; ups = slice_set ups lane true; next = (let e : version + suc (length items) ≡ version + 1 + length items = omega arith in e) i; listed = listed_in (entered_all es (recs_at version (j ∷ items) lane segment pos)); down = down })
    ∙ group_look (version + 1) items (drop j.count from) (entered es q) home_up (slice_set ups lane true) down lane segment (pos + 1 + j.count) (enough_rest j items from enough) (set_twice ups lane)
    ∙ ap (λ (l : Look). placed_all (Log lane) l (log_writes (version + 1) items (drop j.count from)))
    (look_so 0 version j.lbn (take j.count from) q es home_up ups down lane segment pos (first_rec version j items from lane segment pos enough))
  where
    q : Rec
    q = record { version = version; lbn = j.lbn; count = j.count; keep = 2 ^ j.count - 1; lane = lane; segment = segment; pos = pos }

pub group_look_woken : (version : ℕ) (items : List Item) (from : List Block) (es : List Indexed) (home_up : Bool) (ups : List Bool) (down : Option PartName) (lane segment pos : ℕ) → 1 ≤ length items → count_of items ≤ length from
    → (let l : Look = record { home_up = home_up; ups = slice_set ups lane true; next = version + length items; listed = listed_in (entered_all es (recs_at version items lane segment pos)); down = down } in l)
    ≡ placed_all (Log lane) (record { home_up = home_up; ups = ups; next = version; listed = listed_in es; down = down }) (log_writes version items from)
group_look_woken version [] from es home_up ups down lane segment pos some enough = absurd (omega arith)
group_look_woken version (j ∷ items) from es home_up ups down lane segment pos some enough = woken_first version j items from es home_up ups down lane segment pos enough

module _ {D : Type 0} (state : D → State) (old mid new : Lane D) (held : held_in mid ≡ held_in old) (is_lane : IsLane state mid) (same : IsSameLane old mid) (count fit total : ℕ) (is_fit : IsFit count fit mid) (fits : total ≤ fit) where
  room_in : (k : ℕ) (o : HeldSegment D) → IsFirstWithRoom count (held_in mid) k → slice_get (held_in mid) k ≡ Some o → total ≤ room_of o.segment
  room_in k o first at =
      let e : fit ≡ room_of o.segment = is_fit.held k first ∙ ap (λ (h : HeldSegment D). room_of h.segment) (same_Some first.segment o (sym first.there ∙ at)) in omega (arith, fits, e)

  blank_in : (index : ℕ) (f : FreeSegment D) → taken_in mid ≡ Some (index, f) → IsBlank state (logger_of old) (pool_blocks old) f
  blank_in index f taken =
      let is : IsTaken state (logger_of mid) (segments_in mid) (pool_of mid) (index, f) = (let P : Option (ℕ × FreeSegment D) → Type 0 = λ t. IfSome t (IsTaken state (logger_of mid) (segments_in mid) (pool_of mid)) in subst P taken is_lane.unclaimed) in
      subst (λ (l : ℕ). IsBlank state l (pool_blocks old) f) same.logger (subst (λ (n : ℕ). IsBlank state (logger_of mid) n f) (ap (λ (q : LockId PoolBase). q.base.blocks) same.pool.0) is.blank)

  pub group_in : (added : List Record) (res : Result Spot (ℕ × Failed)) → Wrote state mid new count added res → PutIn state old new count total added res
  group_in added res (to_held k o n first at now taken grown spot) = puts.to_held k o n (subst (λ (hs : List (HeldSegment D)). IsFirstWithRoom count hs k) held first) (ap (λ (hs : List (HeldSegment D)). slice_get hs k) (sym held) ∙ at) (room_in k o first at) (now ∙ ap (λ (hs : List (HeldSegment D)). slice_set hs k n) held) grown spot
  group_in added res (to_taken index f n none taken now named untaken claimed spot) = puts.to_new f n (subst (HasNoRoom count) held none) (blank_in index f taken) (now ∙ ap (λ (hs : List (HeldSegment D)). hs ++ n ∷ []) held)
      (subst (λ (o : ℕ). Claimed state o f n.segment added res) same.owner claimed) (subst (λ (i : ℕ). IsSpot i 1 res) (sym named) spot)

  -- it has so much room
  pub group_within : (added : List Record) (res : Result Spot (ℕ × Failed)) → Wrote state mid new count added res → total + 2 ≤ pool_blocks old
  group_within added res (to_held k o n first at now taken grown spot) =
      let r = room_in k o first at in let p = ap (λ (q : LockId PoolBase). q.base.blocks) same.pool.0 in omega (arith, r, p, is.blocks, is.shape.place.0, is.shape.small.0)
    where
      is : IsHeld state (logger_of mid) (lane_owner mid) (segments_in mid) (pool_of mid) o
      is = all_at (IsHeld state (logger_of mid) (lane_owner mid) (segments_in mid) (pool_of mid)) (held_in mid) k o at is_lane.each
  group_within added res (to_taken index f n none taken now named untaken claimed spot) =
      let u = is_fit.unclaimed none in let p = ap (λ (q : LockId PoolBase). q.base.blocks) same.pool.0 in omega (arith, fits, u, p)

-- as many blocks as were asked for fit
pub first_fits : {D : Type 0} (count fit : ℕ) (l : Lane D) → IsFit count fit l → count + 2 ≤ pool_blocks l → count ≤ fit
first_fits count fit l is le = ⊎_elim
    (λ has. let e = is.held has.0 has.1 in let r = has.1.room in omega (arith, e, r))
    (λ none. let e = is.unclaimed none in omega (arith, e, le)) (decide_room count (held_in l))

-- ---- A lane that had room, or a segment that its pool gave, and took a group

module _ {D : Type 0} (state : D → State) (old mid new : Lane D) (count : ℕ) (answer : Bool) (secured : Secured old mid count answer) (yes : answer ≡ true) where
  -- no segment is taken still
  pub group_untaken : held_in mid ≡ held_in old → (added : List Record) (res : Result Spot (ℕ × Failed)) → Wrote state mid new count added res → taken_in new ≡ None
  group_untaken held added res (to_held k o n first at now taken_is grown spot) = taken_is ∙ still secured
    where
      still : Secured old mid count answer → taken_in mid ≡ None
      still (had_room has is none pool) = none
      still (asked full is pool) = absurd (not_both count (held_in old) (subst (HasRoom count) held (k, first)) full)
  group_untaken held added res (to_taken index f n none taken_is now named untaken claimed spot) = untaken

  abbrev PoolIs : Option (ℕ × FreeSegment D) → Type 0
  PoolIs t = pass_mine (pool_of mid) ≡ pass_mine (pool_of old) ++ (pass_number (pool_of old), operation_of (taken t)) ∷ []

  pool_gave : (t : Option (ℕ × FreeSegment D)) → is_some t ≡ true → PoolIs t → (index : ℕ) × (pass_mine (pool_of mid) ≡ pass_mine (pool_of old) ++ (pass_number (pool_of old), operation_of (Took (Some index))) ∷ [])
  pool_gave None some pool = absurd (let no = some in cc)
  pool_gave (Some t) some pool = (t.0, pool)

  pub group_taken : IsSameLane old mid → pass_mine (spindle_of mid) ≡ pass_mine (spindle_of old) → IsSameLane mid new → HasUsed mid new → pass_mine (pool_of new) ≡ pass_mine (pool_of mid)
      → held_in mid ≡ held_in old → (added : List Record) (res : Result Spot (ℕ × Failed)) → Wrote state mid new count added res → HasTakenWrite count old new
  group_taken was spins same used pool held added res wrote = record {
    same = record {
      logger = same.logger ∙ was.logger;
      owner = same.owner ∙ was.owner;
      segments = same.segments ∙ was.segments;
      pool = (same.pool.0 ∙ was.pool.0, same.pool.1 ∙ was.pool.1);
      spindle = (same.spindle.0 ∙ was.spindle.0, same.spindle.1 ∙ was.spindle.1);
    };
    used = used ∙ (λ i. spins i ++ (was.spindle.1 i, spindle.operation_of Needed) ∷ (was.spindle.1 i, spindle.operation_of Done) ∷ []);
    pool = by secured;
    first = λ k one. changed k (subst (λ (hs : List (HeldSegment D)). IsFirstWithRoom count hs k) (sym held) one) wrote;
  }
    where
      by : Secured old mid count answer → (pass_mine (pool_of new) ≡ pass_mine (pool_of old)) ⊎ ((index : ℕ) × (pass_mine (pool_of new) ≡ pass_mine (pool_of old) ++ (pass_number (pool_of old), operation_of (Took (Some index))) ∷ []) × HasNoRoom count (held_in old))
      by (had_room has is none kept) = inl (pool ∙ kept)
      by (asked full is gave) = let g = pool_gave (taken_in mid) (sym is ∙ yes) gave in inr (g.0, pool ∙ g.1, full)

      changed : (k : ℕ) → IsFirstWithRoom count (held_in mid) k → Wrote state mid new count added res → (h : HeldSegment D) × (held_in new ≡ slice_set (held_in old) k h)
      changed k one (to_held j o n first at now taken_is grown spot) =
          (n, now ∙ (λ i. slice_set (held i) (same_first count (held_in mid) j k first one i) n))
      changed k one (to_taken index f n none taken_is now named untaken claimed spot) = absurd (not_both count (held_in mid) (k, one) none)
