-- The first entry that passes a test, in an index whose versions rise, and what the steps of reclaim make of an index.
use Rattle.std.proofs.Common.{◌≡◌, ◌<◌, ◌≤◌, ◌+◌, ◌-◌, ℕ, zero, suc, Bool, true, false, cond, not, ◌&&◌, List, [], ◌∷◌, length, Option, None, Some, refl, sym, ap, subst, ◌∙◌, arith, bit_or, eqb, get_or, length}
use Rattle.std.specs.Prelude.{find, position, IfSome, is_none, slice_get, slice_set, slice_index_or}
use Rattle.std.specs.List.{AllByRecursion, count_by, filter, range_with_len}
use Rattle.std.specs.Option.{option_map}
use Rattle.std.proofs.lemmas.Bool.{false≢true, and_parts, le-leb}
use Rattle.std.proofs.lemmas.Option.{none-some, same_Some}
use Rattle.wol_model.specs.Extents.{marked, remarked}
use Rattle.wol_model.specs.Log.{has_bit, marks_of}
use Rattle.wol_model.proofs.Counts.{counted, one}
use Rattle.std.proofs.lemmas.List.FromFn.{get_or-map-range_with_len}
use Rattle.wol_model.specs.Index.{Listed, Indexed, listed_in, cover_of, is_homed, is_due, goes, has_due, has_going, keeps_a_block, homing, keeping, block_numbers, left}
use Rattle.wol_promise.specs.Policy.{Look}
use Rattle.wol_promise.proofs.Covers.{any_found}
use Rattle.wol_promise.proofs.Lowering.{given_lowers, put_lowers, filter_listed}
use Rattle.wol_promise.proofs.Lists.{all_member}
use Rattle.block_cells.specs.Masks.{in_mask, IsMask}
use Rattle.block_cells.specs.declared.record.Rec.{Rec}
use Rattle.block_cells.proofs.Marks.{in_mask-bit}
use Rattle.redirect_map.specs.Index.{Contents, entry_at, changed, given_up, has_version, with_homed, IsAnswer, IsEntry, IsIndex, IsRecordOf}
use Rattle.redirect_map.proofs.Changing.{remarked-or}
use Rattle.garbage_list.specs.Least.{first_version, can_go, can_go_home}
use Rattle.garbage_list.proofs.Nexts.{First, answered, found_there, first_of_all, least_of, version_in}
use Rattle.whatif.specs.Machine.{Reach, Action, put_home, give_up, put_step, give_step, given_of, next_due, next_to_go, logger_at, step_at}
use Rattle.whatif.specs.Logs.{Gives, Move, all_moved}
use Rattle.whatif.specs.declared.store.Given.{Given}
use Rattle.whatif.specs.declared.store.Store.{Store}
use Rattle.whatif.specs.Volumes.{IsLogged, IsStore, IsVolume, StaysOpen, give_answer, look_in, put_answer, reach_in, store_in}
use Rattle.whatif.specs.declared.volume.Volume.{Volume}
use Rattle.whatif.proofs.Lists.{all_filter, found_none, none_found, none_mapped, none_passes, none_unmapped, passes_none}

-- ---- marks

-- the blocks of a mask become homed, beside those that were
pub homed_then : (e : Indexed) (due : ℕ → Bool) (homed mask : ℕ) → length e.listed.homed ≡ length e.listed.keep → IsMask e.listed.first (is_homed e.listed) homed → IsMask e.listed.first due mask
    → (with_homed (bit_or homed mask) e).listed ≡ homing due e.listed
homed_then e due homed mask marks bits dues = λ i. record e.listed { homed = remarked-or e.listed due homed mask marks bits dues i }

remarked_same : (b : ℕ) (marks : List Bool) (f g : ℕ → Bool → Bool) → ((i : ℕ) (m : Bool) → f (b + i) m ≡ g (b + i) m) → remarked b marks f ≡ remarked b marks g
remarked_same b [] f g same = refl
remarked_same b (m ∷ marks) f g same =
    let here : f b m ≡ g b m = let e : b + 0 ≡ b = omega arith in rw e at (same 0 m) in
    let rest = remarked_same (b + 1) marks f g (λ i t. let e : b + 1 + i ≡ b + (i + 1) = omega arith in rw e (same (i + 1) t)) in
    λ i. here i ∷ rest i

-- the blocks of a mask are given up
pub given_then : (es : List Listed) (e : Indexed) (given : ℕ) → IsMask e.listed.first (goes es e.listed) given → (given_up given e).listed ≡ keeping es e.listed
given_then es e given bits = λ i. record e.listed { keep = same e.listed.keep i; homed = same e.listed.homed i }
  where
    same : (marks : List Bool) → remarked e.listed.first marks (λ b m. m && not (in_mask e.listed.first given b)) ≡ remarked e.listed.first marks (λ b m. m && not (goes es e.listed b))
    same marks = remarked_same e.listed.first marks (λ b m. m && not (in_mask e.listed.first given b)) (λ b m. m && not (goes es e.listed b)) (λ i m. ap (λ (t : Bool). m && not t) (in_mask-bit e.listed.first given i ∙ bits i))

-- ---- what is left

due_lowers : (listed : List Listed) (place : ℕ) (x : Listed) → slice_get listed place ≡ Some x → length x.homed ≡ length x.keep → has_due listed x ≡ true → left (slice_set listed place (homing (is_due listed x) x)) < left listed
due_lowers listed place x is sized some =
    let f = any_found (is_due listed x) (block_numbers x) some in
    put_lowers listed place x (is_due listed x) f.item is sized (λ c p. p) f.passes

-- ---- counts of blocks

counted_same : (f g : ℕ → Bool) (a b n : ℕ) → ((i : ℕ) → i < n → f (a + i) ≡ g (b + i)) → count_by f (range_with_len a n) ≡ count_by g (range_with_len b n)
counted_same f g a b zero same = refl
counted_same f g a b (suc n) same =
    let here : f a ≡ g b = (let e : a + 0 ≡ a = omega arith in let h : b + 0 ≡ b = omega arith in rw (e, h) at (same 0 (omega arith))) in
    let rest = counted_same f g (a + 1) (b + 1) n (λ i lt. let e : a + 1 + i ≡ a + (i + 1) = omega arith in let h : b + 1 + i ≡ b + (i + 1) = omega arith in rw (e, h) (same (i + 1) (omega arith))) in
    counted f a (range_with_len (a + 1) n) ∙ (λ i. one (here i) + rest i) ∙ sym (counted g b (range_with_len (b + 1) n))

-- a bit of a record's mask tells of its block
kept_bit : (count mask : ℕ) (keep : List Bool) (first i : ℕ) → marks_of count mask ≡ keep → i < count → has_bit mask (0 + i) ≡ marked first keep (first + i)
kept_bit count mask keep first i is lt =
    let none : first + i - first ≡ i = omega arith in
    let zero_ : 0 + i ≡ i = omega arith in
    let within : first ≤ first + i = omega arith in
    sym (get_or-map-range_with_len (has_bit mask) 0 count i (0 + i) false lt refl) ∙ ap (λ (l : List Bool). get_or l i false) is
    ∙ sym ((λ j. le-leb first (first + i) within j && get_or keep (none j) false))

-- ---- the steps

pub all_changed : (P : Indexed → Type 0) (version : ℕ) (f : Indexed → Indexed) → ((d : Indexed) → P d → P (f d)) → (es : List Indexed) → AllByRecursion P es → AllByRecursion P (changed version f es)
all_changed P version f so [] all = tt
all_changed P version f so (x ∷ es) all = (at (has_version version x), all_changed P version f so es all.1)
  where
    at : (t : Bool) → P (cond t (f x) x)
    at true = so x all.0
    at false = all.0

pub some_of : {X : Type 0} (P : X → Type 0) (o : Option X) (x : X) → IfSome o P → o ≡ Some x → P x
some_of P None x is same = absurd (none-some x same)
some_of P (Some y) x is same = let Q : _ → Type 0 = λ z. P z in subst Q (same_Some y x same) is

module _ (r : Reach) (ups : List Bool) (next : ℕ) (es : List Indexed) (index : IsIndex es) (version : ℕ) (rec : Rec) (there : IsAnswer (entry_at es version) (Some rec)) where
  module _ (P : Listed → Bool) (first : first_version (λ (d : Indexed). P d.listed) es ≡ Some version) where
    pub found : (e : Indexed) × (find (λ (d : Indexed). P d.listed) es ≡ Some e) × (e.listed.version ≡ version)
    found = version_in (find (λ (d : Indexed). P d.listed) es) version first

    its : First P es found.0
    its = first_of_all P es found.0 index.rising found.1

    entry : entry_at es version ≡ Some found.0
    entry = ap (entry_at es) (sym found.2) ∙ its.entry

    lane : rec.lane ≡ found.0.listed.lane
    lane = let a = answered (entry_at es version) rec there in a.record_.lane ∙ ap (λ (d : Indexed). d.listed.lane) (same_Some a.entry found.0 (sym a.is ∙ entry))

    marks : length found.0.listed.homed ≡ length found.0.listed.keep
    marks = (all_member (λ (d : Indexed). IsEntry (listed_in es) d.listed) es found.0 index.each (found_there (λ (d : Indexed). P d.listed) es found.0 found.1)).homed.marks

    then : (f : Indexed → Indexed) → listed_in (changed version f es) ≡ slice_set (listed_in es) its.spot.place (f found.0).listed
    then f = ap (λ (v : ℕ). listed_in (changed v f es)) (sym found.2) ∙ its.spot.then_is f

  module _ (first : first_version (can_go_home ups es) es ≡ Some version) (homed mask : ℕ) (homes : IfSome (entry_at es version) (λ e. IsMask e.listed.first (is_homed e.listed) homed))
      (dues : IfSome (entry_at es version) (λ e. IsMask e.listed.first (is_due (listed_in es) e.listed) mask)) where
    abbrev P : Listed → Bool
    P d = slice_index_or ups d.lane false && has_due (listed_in es) d

    abbrev e : Indexed
    e = (found P first).0

    listed_then : listed_in (changed version (with_homed (bit_or homed mask)) es) ≡ slice_set (listed_in es) (its P first).spot.place (homing (is_due (listed_in es) e.listed) e.listed)
    listed_then = then P first (with_homed (bit_or homed mask))
        ∙ ap (slice_set (listed_in es) (its P first).spot.place) (homed_then e (is_due (listed_in es) e.listed) homed mask (marks P first)
        (some_of (λ (d : Indexed). IsMask d.listed.first (is_homed d.listed) homed) (entry_at es version) e homes (entry P first))
        (some_of (λ (d : Indexed). IsMask d.listed.first (is_due (listed_in es) d.listed) mask) (entry_at es version) e dues (entry P first)))

    pub put_done : put_step r (record { home_up = true; ups = ups; next = next; listed = listed_in es; down = None })
        ≡ Some (record { look = record { home_up = true; ups = ups; next = next; listed = listed_in (changed version (with_homed (bit_or homed mask)) es); down = None }; uses = logger_at r rec.lane ∷ r.own ∷ []; moves = [] })
    put_done =
        let l : Look = record { home_up = true; ups = ups; next = next; listed = listed_in es; down = None } in
        ap (step_at (put_home r) l) (least_of P es e (its P first)) ∙ ap (option_map (put_home r l (its P first).spot.place)) (its P first).spot.there
        ∙ (λ i. Some (record { look = record { home_up = true; ups = ups; next = next; listed = (sym listed_then) i; down = None }; uses = logger_at r (sym (lane P first) i) ∷ r.own ∷ []; moves = [] }))

    pub put_less : left (listed_in (changed version (with_homed (bit_or homed mask)) es)) < left (listed_in es)
    put_less =
        let same = ap left listed_then in
        let less = due_lowers (listed_in es) (its P first).spot.place e.listed (its P first).spot.there (marks P first) (and_parts (slice_index_or ups e.listed.lane false) (has_due (listed_in es) e.listed) (its P first).passes).1 in
        omega (arith, same, less)

  module _ (first : first_version (can_go ups es) es ≡ Some version) (home_up : Bool) (given : ℕ) (bits : IfSome (entry_at es version) (λ e. IsMask e.listed.first (goes (listed_in es) e.listed) given)) where
    abbrev Q : Listed → Bool
    Q d = slice_index_or ups d.lane false && has_going (listed_in es) d

    abbrev g : Indexed
    g = (found Q first).0

    kept_then : listed_in (filter (λ (d : Indexed). keeps_a_block d.listed) (changed version (given_up given) es)) ≡ filter keeps_a_block (slice_set (listed_in es) (its Q first).spot.place (keeping (listed_in es) g.listed))
    kept_then = filter_listed (changed version (given_up given) es) ∙ ap (filter keeps_a_block) (then Q first (given_up given)
        ∙ ap (slice_set (listed_in es) (its Q first).spot.place) (given_then (listed_in es) g given (some_of (λ (d : Indexed). IsMask d.listed.first (goes (listed_in es) d.listed) given) (entry_at es version) g bits (entry Q first))))

    pub give_done : give_step r (record { home_up = home_up; ups = ups; next = next; listed = listed_in es; down = None })
        ≡ Some (record { look = record { home_up = home_up; ups = ups; next = next; listed = listed_in (filter (λ (d : Indexed). keeps_a_block d.listed) (changed version (given_up given) es)); down = None }; uses = logger_at r rec.lane ∷ []; moves = Gives (given_of r (record { home_up = home_up; ups = ups; next = next; listed = listed_in es; down = None }) g.listed) ∷ [] })
    give_done =
        let l : Look = record { home_up = home_up; ups = ups; next = next; listed = listed_in es; down = None } in
        ap (step_at (give_up r) l) (least_of Q es g (its Q first)) ∙ ap (option_map (give_up r l (its Q first).spot.place)) (its Q first).spot.there
        ∙ (λ i. Some (record { look = record { home_up = home_up; ups = ups; next = next; listed = (sym kept_then) i; down = None }; uses = logger_at r (sym (lane Q first) i) ∷ []; moves = Gives (given_of r l g.listed) ∷ [] }))

    its_record : IsRecordOf g rec
    its_record = let a = answered (entry_at es version) rec there in subst (λ (d : Indexed). IsRecordOf d rec) (same_Some a.entry g (sym a.is ∙ entry Q first)) a.record_

    blocks_are : count_by (has_bit given) (range_with_len 0 rec.count) ≡ count_by (goes (listed_in es) g.listed) (block_numbers g.listed)
    blocks_are = ap (λ (n : ℕ). count_by (has_bit given) (range_with_len 0 n)) its_record.count
        ∙ counted_same (has_bit given) (goes (listed_in es) g.listed) 0 g.listed.first (length g.listed.keep)
        (λ i lt. let zero_ : 0 + i ≡ i = omega arith in ap (has_bit given) zero_ ∙ some_of (λ (d : Indexed). IsMask d.listed.first (goes (listed_in es) d.listed) given) (entry_at es version) g bits (entry Q first) i)

    kept_are : count_by (has_bit rec.keep) (range_with_len 0 rec.count) ≡ count_by (cover_of g.listed).covers (block_numbers g.listed)
    kept_are = ap (λ (n : ℕ). count_by (has_bit rec.keep) (range_with_len 0 n)) its_record.count
        ∙ counted_same (has_bit rec.keep) (cover_of g.listed).covers 0 g.listed.first (length g.listed.keep)
        (λ i lt. kept_bit rec.count rec.keep g.listed.keep g.listed.first i its_record.keep (let n = its_record.count in omega (arith, lt, n)))

    -- what it gives up
    pub given_is : (disk : ℕ) → logger_at r rec.lane ≡ disk → (let blocks = count_by (has_bit given) (range_with_len 0 rec.count) in let x : Given = record { disk = disk; version = rec.version; blocks = blocks; gone = eqb blocks (count_by (has_bit rec.keep) (range_with_len 0 rec.count)) } in x)
        ≡ given_of r (record { home_up = home_up; ups = ups; next = next; listed = listed_in es; down = None }) g.listed
    given_is disk is = λ i. record { disk = (sym is ∙ ap (logger_at r) (lane Q first)) i; version = its_record.version i; blocks = blocks_are i; gone = eqb (blocks_are i) (kept_are i) }

    pub give_less : left (listed_in (filter (λ (d : Indexed). keeps_a_block d.listed) (changed version (given_up given) es))) < left (listed_in es)
    give_less =
        let same = ap left kept_then in
        let less = given_lowers (listed_in es) (its Q first).spot.place g.listed (its Q first).spot.there (and_parts (slice_index_or ups g.listed.lane false) (has_going (listed_in es) g.listed) (its Q first).passes).1 in
        omega (arith, same, less)

-- a record has no more than 128 blocks
pub count_few : (es : List Indexed) (version : ℕ) (rec : Rec) → IsIndex es → IsAnswer (entry_at es version) (Some rec) → rec.count ≤ 128
count_few es version rec index there =
    let a = answered (entry_at es version) rec there in
    let few = (all_member (λ (d : Indexed). IsEntry (listed_in es) d.listed) es a.entry index.each (found_there (has_version version) es a.entry a.is)).count in
    let count = a.record_.count in
    omega (arith, few, count)

-- the records stay among their lanes and versions
pub homed_logged : (lanes next version mask : ℕ) (es : List Indexed) → AllByRecursion (IsLogged lanes next) es → AllByRecursion (IsLogged lanes next) (changed version (with_homed mask) es)
homed_logged lanes next version mask es all = all_changed (IsLogged lanes next) version (with_homed mask) (λ d is. record { lane = is.lane; version = is.version }) es all

pub given_logged : (lanes next version mask : ℕ) (es : List Indexed) → AllByRecursion (IsLogged lanes next) es → AllByRecursion (IsLogged lanes next) (filter (λ (d : Indexed). keeps_a_block d.listed) (changed version (given_up mask) es))
given_logged lanes next version mask es all = all_filter (IsLogged lanes next) (λ (d : Indexed). keeps_a_block d.listed) (changed version (given_up mask) es) (all_changed (IsLogged lanes next) version (given_up mask) (λ d is. record { lane = is.lane; version = is.version }) es all)

-- ---- a volume's steps

pub index_same : (xs : List ℕ) (k d e : ℕ) → k < length xs → slice_index_or xs k d ≡ slice_index_or xs k e
index_same [] k d e lt = absurd (omega arith)
index_same (x ∷ xs) zero d e lt = refl
index_same (x ∷ xs) (suc k) d e lt = index_same xs k d e (omega arith)

-- a record's logger
pub lane_of : (v : Volume) (version : ℕ) (rec : Rec) → IsVolume v → IsAnswer (entry_at v.index.entries version) (Some rec) → rec.lane < length v.loggers.items
lane_of v version rec volume there =
    let a = answered (entry_at v.index.entries version) rec there in
    let in_ = all_member (IsLogged (length v.ups.items) v.next) v.index.entries a.entry volume.logged (found_there (has_version version) v.index.entries a.entry a.is) in
    let lt = in_.lane in let same = a.record_.lane in let flags = volume.flags in omega (arith, lt, same, flags)

pub logger_of : (v : Volume) (version : ℕ) (rec : Rec) (disk : ℕ) → IsVolume v → IsAnswer (entry_at v.index.entries version) (Some rec) → disk ≡ slice_index_or v.loggers.items rec.lane disk
    → logger_at (reach_in v) rec.lane ≡ disk
logger_of v version rec disk volume there is = index_same v.loggers.items rec.lane v.own disk (lane_of v version rec volume there) ∙ sym is

-- the logger's disk is among the disks
pub logger_within : (xs : List ℕ) (k disk n : ℕ) → k < length xs → disk ≡ slice_index_or xs k disk → AllByRecursion (λ d. d < n) xs → disk < n
logger_within [] k disk n lt is all = absurd (omega arith)
logger_within (x ∷ xs) zero disk n lt is all = let here : x < n = all.0 in omega (arith, is, here)
logger_within (x ∷ xs) (suc k) disk n lt is all = logger_within xs k disk n (omega arith) is all.1

pub put_answered : (v : Volume) (version : ℕ) (rec : Rec) (homed mask disk : ℕ) (after : Contents) → v.home_up ≡ true → IsVolume v → IsIndex v.index.entries → IsAnswer (entry_at v.index.entries version) (Some rec)
    → first_version (can_go_home v.ups.items v.index.entries) v.index.entries ≡ Some version → IfSome (entry_at v.index.entries version) (λ e. IsMask e.listed.first (is_homed e.listed) homed)
    → IfSome (entry_at v.index.entries version) (λ e. IsMask e.listed.first (is_due (listed_in v.index.entries) e.listed) mask)
    → after.entries ≡ changed version (with_homed (bit_or homed mask)) v.index.entries → disk ≡ slice_index_or v.loggers.items rec.lane disk
    → put_step (reach_in v) (look_in v) ≡ put_answer (reach_in v) (look_in (record v { index = after })) (Some disk)
put_answered v version rec homed mask disk after up volume index there first homes dues entries is =
    subst (λ (h : Bool). put_step (reach_in v) (record { home_up = h; ups = v.ups.items; next = v.next; listed = listed_in v.index.entries; down = None })
    ≡ Some (record { look = record { home_up = h; ups = v.ups.items; next = v.next; listed = listed_in after.entries; down = None }; uses = disk ∷ v.own ∷ []; moves = [] })) (sym up)
    (put_done (reach_in v) v.ups.items v.next v.index.entries index version rec there first homed mask homes dues
    ∙ (λ i. Some (record { look = record { home_up = true; ups = v.ups.items; next = v.next; listed = listed_in (sym entries i); down = None }; uses = logger_of v version rec disk volume there is i ∷ v.own ∷ []; moves = [] })))

pub give_answered : (v : Volume) (version : ℕ) (rec : Rec) (given disk : ℕ) (after : Contents) (x : Given) → IsVolume v → IsIndex v.index.entries → IsAnswer (entry_at v.index.entries version) (Some rec)
    → first_version (can_go v.ups.items v.index.entries) v.index.entries ≡ Some version → IfSome (entry_at v.index.entries version) (λ e. IsMask e.listed.first (goes (listed_in v.index.entries) e.listed) given)
    → after.entries ≡ filter (λ (d : Indexed). keeps_a_block d.listed) (changed version (given_up given) v.index.entries) → disk ≡ slice_index_or v.loggers.items rec.lane disk
    → x ≡ (let blocks = count_by (has_bit given) (range_with_len 0 rec.count) in record { disk = disk; version = rec.version; blocks = blocks; gone = eqb blocks (count_by (has_bit rec.keep) (range_with_len 0 rec.count)) })
    → give_step (reach_in v) (look_in v) ≡ give_answer (look_in (record v { index = after })) (Some x)
give_answered v version rec given disk after x volume index there first bits entries is gives =
    let log = logger_of v version rec disk volume there is in
    let same = gives ∙ given_is (reach_in v) v.ups.items v.next v.index.entries index version rec there first v.home_up given bits disk log in
    give_done (reach_in v) v.ups.items v.next v.index.entries index version rec there first v.home_up given bits
    ∙ (λ i. Some (record { look = record { home_up = v.home_up; ups = v.ups.items; next = v.next; listed = listed_in (sym entries i); down = None }; uses = (log ∙ sym (ap (λ (g : Given). g.disk) gives)) i ∷ []; moves = Gives (sym same i) ∷ [] }))

-- the volume with another index, and with what is in logs
pub with_index : (v : Volume) (after : Contents) (store : Store) (moves : List Move) → IsVolume v → v.settled ≡ false → AllByRecursion (IsLogged (length v.ups.items) v.next) after.entries → IsStore v.next v.loggers.items store
    → store_in store ≡ all_moved moves (store_in v.store) → StaysOpen moves v (record v { index = after; store = store })
with_index v after store moves volume unsettled logged stored done = record {
  volume = record { few = volume.few; flags = volume.flags; rooms_ = volume.rooms_; logged = logged; settled = λ is. absurd (false≢true (sym unsettled ∙ is)); store_ = stored };
  settled = unsettled;
  reach = refl;
  next = refl;
  store = done;
}

-- ---- no step

version_none : (o : Option Indexed) → option_map (λ (e : Indexed). e.listed.version) o ≡ None → o ≡ None
version_none None is = refl
version_none (Some e) is = absurd (none-some e.listed.version (sym is))

pub no_place : (P : Listed → Bool) (es : List Indexed) → first_version (λ (d : Indexed). P d.listed) es ≡ None → position P (listed_in es) ≡ None
no_place P es is = none_passes P (listed_in es) (none_mapped P (λ (d : Indexed). d.listed) es (found_none (λ (d : Indexed). P d.listed) es (version_none (find (λ (d : Indexed). P d.listed) es) is)))

-- a record is found exactly where it has a place
pub some_place : (P : Listed → Bool) (es : List Indexed) → position P (listed_in es) ≡ None → first_version (λ (d : Indexed). P d.listed) es ≡ None
some_place P es is = ap (option_map (λ (e : Indexed). e.listed.version)) (none_found (λ (d : Indexed). P d.listed) es (none_unmapped P (λ (d : Indexed). d.listed) es (passes_none P (listed_in es) is)))

pub no_put : (r : Reach) (v : Volume) → first_version (can_go_home v.ups.items v.index.entries) v.index.entries ≡ None → next_due (look_in v) ≡ None
no_put r v is = at v.home_up
  where
    at : (h : Bool) → cond h (position (λ (d : Listed). slice_index_or v.ups.items d.lane false && has_due (listed_in v.index.entries) d) (listed_in v.index.entries)) None ≡ None
    at true = no_place (λ (d : Listed). slice_index_or v.ups.items d.lane false && has_due (listed_in v.index.entries) d) v.index.entries is
    at false = refl

pub no_give : (v : Volume) → first_version (can_go v.ups.items v.index.entries) v.index.entries ≡ None → next_to_go (look_in v) ≡ None
no_give v is = no_place (λ (d : Listed). slice_index_or v.ups.items d.lane false && has_going (listed_in v.index.entries) d) v.index.entries is

pub step_none : (f : Look → ℕ → Listed → Action) (l : Look) (o : Option ℕ) → o ≡ None → step_at f l o ≡ None
step_none f l o is = ap (step_at f l) is

-- whether there is a record to put home
pub same_none : (v : Volume) → v.home_up ≡ true → is_none (first_version (can_go_home v.ups.items v.index.entries) v.index.entries) ≡ is_none (next_due (look_in v))
same_none v up = at (first_version (can_go_home v.ups.items v.index.entries) v.index.entries) (position (λ (d : Listed). slice_index_or v.ups.items d.lane false && has_due (listed_in v.index.entries) d) (listed_in v.index.entries)) refl refl
    ∙ ap (λ (h : Bool). is_none (cond h (position (λ (d : Listed). slice_index_or v.ups.items d.lane false && has_due (listed_in v.index.entries) d) (listed_in v.index.entries)) None)) (sym up)
  where
    at : (o q : Option ℕ) → first_version (can_go_home v.ups.items v.index.entries) v.index.entries ≡ o → position (λ (d : Listed). slice_index_or v.ups.items d.lane false && has_due (listed_in v.index.entries) d) (listed_in v.index.entries) ≡ q → is_none (first_version (can_go_home v.ups.items v.index.entries) v.index.entries) ≡ is_none (position (λ (d : Listed). slice_index_or v.ups.items d.lane false && has_due (listed_in v.index.entries) d) (listed_in v.index.entries))
    at None q none place = ap is_none none ∙ sym (ap is_none (no_place (λ (d : Listed). slice_index_or v.ups.items d.lane false && has_due (listed_in v.index.entries) d) v.index.entries none))
    at (Some version) None some place = absurd (none-some version (sym (some_place (λ (d : Listed). slice_index_or v.ups.items d.lane false && has_due (listed_in v.index.entries) d) v.index.entries place) ∙ some))
    at (Some version) (Some k) some place = ap is_none some ∙ sym (ap is_none place)
