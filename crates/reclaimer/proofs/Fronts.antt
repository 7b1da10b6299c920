-- The first records of an index, as far as they were looked at.
use Rattle.std.proofs.Common.{◌≡◌, ◌<◌, ◌≤◌, ◌+◌, ◌-◌, ◌^◌, ℕ, zero, suc, Bool, true, false, cond, not, ◌&&◌, List, [], ◌∷◌, ◌++◌, map, length, take, drop, Some, refl, sym, ap, subst, ◌∙◌, arith, eqb, bit_and}
use Rattle.std.specs.Prelude.{Contains, IfSome, slice_get, slice_index_or}
use Rattle.std.specs.Int.{bit_not, w128}
use Rattle.std.specs.List.{AllByRecursion}
use Rattle.std.proofs.lemmas.Bool.{eq-eqb, ne_eqb, false≢true}
use Rattle.std.proofs.lemmas.List.{append-nil, take-append-drop, take_all, take_more}
use Rattle.std.proofs.lemmas.Option.{get_or_from_slice_get, none-some, same_Some, slice_get_within}
use Rattle.wol_model.specs.Index.{Indexed, AreRising, cover_of, goes, keeping, keeps_a_block, listed_in}
use Rattle.wol_model.proofs.Counts.{marked_within}
use Rattle.wol_model.proofs.Marks.{remarked_is}
use Rattle.wol_promise.proofs.Lists.{all_joined, all_map, all_member, member_map, member_of}
use Rattle.block_cells.specs.Masks.{IsMask}
use Rattle.block_cells.specs.declared.record.Rec.{Rec}
use Rattle.block_cells.proofs.Meeting.{any_in_range}
use Rattle.redirect_map.specs.Index.{IsAnswer, IsIndex, IsRecordOf, entry_at}
use Rattle.garbage_list.specs.Least.{HasLane, is_awake}
use Rattle.manager.specs.Reclaim.{AllGoIn, GoesIn, lies_elsewhere}
use Rattle.manager.specs.Stands.{entries_at}
use Rattle.volume_parts.proofs.Entries.{among, count-cons, count_mid, entry_in, entry_of_version, found_of, keeps_is, one_there}
use Rattle.reclaimer.specs.Wholes.{ComeFirst}
use Rattle.reclaimer.proofs.TakenOff.{each_member}
use Rattle.reclaimer.proofs.Wholes.{AllGo}

-- ---- A record all of whose kept blocks may go

-- an entry that would keep none gives up all
all_go_from : (es : List Indexed) (e : Indexed) → keeps_a_block (keeping (listed_in es) e.listed) ≡ false → AllGo es e
all_go_from es e nothing b covers = at (goes (listed_in es) e.listed b) refl
  where
    at : (t : Bool) → goes (listed_in es) e.listed b ≡ t → goes (listed_in es) e.listed b ≡ true
    at true is = is
    at false is =
        let kept = remarked_is e.listed.first e.listed.keep (λ c m. m && not (goes (listed_in es) e.listed c)) b refl ∙ (λ i. covers i && not (is i)) in
        let within = marked_within e.listed.first (keeping (listed_in es) e.listed).keep b kept in
        absurd (false≢true (sym nothing ∙ any_in_range (cover_of (keeping (listed_in es) e.listed)).covers e.listed.first (length (keeping (listed_in es) e.listed).keep) b within.0 within.1 kept))

-- by the masks of the record
pub all_go_of : (es : List Indexed) (r : Rec) → IsIndex es → IsAnswer (entry_at es r.version) (Some r) → (given : ℕ) → given < 2 ^ 128 → IfSome (entry_at es r.version) (λ e. IsMask e.listed.first (goes (listed_in es) e.listed) given)
    → bit_and r.keep (bit_not w128 given) ≡ 0 → IfSome (entry_at es r.version) (AllGo es)
all_go_of es r index answer given fits bits nothing =
    let f = found_of es r.version r answer in
    let its = entry_in es f.entry index (among (entry_of_version es r.version f.entry index.rising f.is)) in
    let mask = subst (λ o. IfSome o (λ (e : Indexed). IsMask e.listed.first (goes (listed_in es) e.listed) given)) f.is bits in
    subst (λ o. IfSome o (AllGo es)) (sym f.is) (all_go_from es f.entry (sym (keeps_is es f.entry r f.record_ its.count given fits mask) ∙ ap not (eq-eqb (bit_and r.keep (bit_not w128 given)) 0 nothing)))

-- ---- The entry at a place

pub record AtPlace (es : List Indexed) (place : ℕ) (r : Rec) : Type 0 where
  pub entry : Indexed
  pub is : slice_get es place ≡ Some entry
  pub record_ : IsRecordOf entry r

pub at_place : (es : List Indexed) (place : ℕ) (r : Rec) → place < length es → IfSome (slice_get es place) (λ e. IsRecordOf e r) → AtPlace es place r
at_place [] place r lt is = absurd (omega (arith, lt))
at_place (x ∷ es) zero r lt is = record { entry = x; is = refl; record_ = is }
at_place (x ∷ es) (suc place) r lt is = let rest = at_place es place r (omega (arith, lt)) is in record { entry = rest.entry; is = rest.is; record_ = rest.record_ }

entry_of_place : (es : List Indexed) → AreRising (map (λ (d : Indexed). d.listed.version) es) → (k : ℕ) (e : Indexed) → slice_get es k ≡ Some e → entry_at es e.listed.version ≡ Some e
entry_of_place [] rising k e is = absurd (none-some e is)
entry_of_place (x ∷ es) rising zero e is = subst (λ (d : Indexed). entry_at (x ∷ es) d.listed.version ≡ Some d) (same_Some x e is) (λ i. cond (eq-eqb x.listed.version x.listed.version refl i) (Some x) (entry_at es x.listed.version))
entry_of_place (x ∷ es) rising (suc k) e is =
    let lt : x.listed.version < e.listed.version = all_member (λ (v : ℕ). x.listed.version < v) (map (λ (d : Indexed). d.listed.version) es) e.listed.version rising.0 (member_map (λ (d : Indexed). d.listed.version) es e (member_of es e k is)) in
    (λ i. cond (ne_eqb x.listed.version e.listed.version (λ same. omega (arith, lt, same)) i) (Some x) (entry_at es e.listed.version)) ∙ entry_of_place es rising.1 k e is

module _ (es : List Indexed) (index : IsIndex es) (place : ℕ) (r : Rec) (a : AtPlace es place r) where
  entry_is : entry_at es r.version ≡ Some a.entry
  entry_is = ap (entry_at es) a.record_.version ∙ entry_of_place es index.rising place a.entry a.is

  pub answer_at : IsAnswer (entry_at es r.version) (Some r)
  answer_at = subst (λ o. IsAnswer o (Some r)) (sym entry_is) a.record_

  pub go_at : IfSome (entry_at es r.version) (AllGo es) → AllGo es a.entry
  go_at go = subst (λ o. IfSome o (AllGo es)) entry_is go

  pub lane_at : (lanes : List Bool) → AllByRecursion (HasLane lanes) es → r.lane < length lanes
  lane_at lanes all = let lt : a.entry.listed.lane < length lanes = all_member (HasLane lanes) es a.entry all (member_of es a.entry place a.is) in let e = a.record_.lane in omega (arith, lt, e)

  more_at : take (place + 1) es ≡ take place es ++ a.entry ∷ []
  more_at = take_more es place a.entry (slice_get_within es place a.entry a.is) ∙ ap (λ (y : Indexed). take place es ++ y ∷ []) (get_or_from_slice_get es place a.entry a.entry a.is)

  module _ (lane index_ left count : ℕ) (lanes : List Bool) where
    abbrev pub SoFar : (ds : List Indexed) → (left : ℕ) → Type 0
    SoFar ds left = AllByRecursion (GoesIn lane index_ es) ds × AllByRecursion (λ e. lies_elsewhere lane index_ e ≡ true → is_awake lanes e ≡ false) ds × (entries_at lane index_ ds + left ≡ count)

    its : (eqb a.entry.listed.lane lane && eqb a.entry.index index_) ≡ (eqb r.lane lane && eqb r.segment index_)
    its = λ i. eqb (sym a.record_.lane i) lane && eqb (sym a.record_.segment i) index_

    counted : (t : Bool) → (eqb r.lane lane && eqb r.segment index_) ≡ t → entries_at lane index_ (take place es ++ a.entry ∷ []) ≡ entries_at lane index_ (take place es) + cond t 1 0
    counted t is = count_mid (λ (d : Indexed). eqb d.listed.lane lane && eqb d.index index_) (take place es) a.entry []
        ∙ (λ i. entries_at lane index_ (append-nil (take place es) i) + cond ((its ∙ is) i) 1 0)

    further : (now : ℕ) → SoFar (take place es) left → GoesIn lane index_ es a.entry → (lies_elsewhere lane index_ a.entry ≡ true → is_awake lanes a.entry ≡ false) → entries_at lane index_ (take place es ++ a.entry ∷ []) + now ≡ count → SoFar (take (place + 1) es) now
    further now so go other many = subst (λ (ds : List Indexed). SoFar ds now) (sym more_at) (
      all_joined (GoesIn lane index_ es) (take place es) (a.entry ∷ []) so.0 (go, tt),
      all_joined (λ (e : Indexed). lies_elsewhere lane index_ e ≡ true → is_awake lanes e ≡ false) (take place es) (a.entry ∷ []) so.1 (other, tt),
      many,
    )

    -- a record of the segment
    pub one_more : (now : ℕ) → SoFar (take place es) left → (eqb r.lane lane && eqb r.segment index_) ≡ true → AllGo es a.entry → 0 < left → now ≡ left - 1 → SoFar (take (place + 1) es) now
    one_more now so here go some less = further now so (λ leaves. go) (λ elsewhere. absurd (false≢true (sym (ap not (its ∙ here)) ∙ elsewhere)))
        (let c = counted true here in let w = so.2 in omega (arith, c, w, some, less))

    -- one that is out of reach
    pub one_past : (now : ℕ) → SoFar (take place es) left → (eqb r.lane lane && eqb r.segment index_) ≡ false → slice_index_or lanes r.lane false ≡ false → now ≡ left → SoFar (take (place + 1) es) now
    one_past now so other asleep same = further now so (λ leaves. absurd (false≢true (sym leaves ∙ ap not (its ∙ other)))) (λ elsewhere. ap (λ (k : ℕ). slice_index_or lanes k false) (sym a.record_.lane) ∙ asleep)
        (let c = counted false other in let w = so.2 in omega (arith, c, w, same))

-- ---- All of them

module _ (es : List Indexed) (lane index : ℕ) (lanes : List Bool) (place count : ℕ) (go : AllByRecursion (GoesIn lane index es) (take place es))
    (others : AllByRecursion (λ e. lies_elsewhere lane index e ≡ true → is_awake lanes e ≡ false) (take place es)) where
  -- where all were counted the rest lies elsewhere
  module _ (all : entries_at lane index es ≡ count) (many : entries_at lane index (take place es) ≡ count) where
    none_behind : entries_at lane index (drop place es) ≡ 0
    none_behind =
        let s = ap (entries_at lane index) (take-append-drop place es) in
        let j = count_joined (take place es) (drop place es) in omega (arith, s, j, all, many)
      where
        count_joined : (xs ys : List Indexed) → entries_at lane index (xs ++ ys) ≡ entries_at lane index xs + entries_at lane index ys
        count_joined [] ys = omega arith
        count_joined (x ∷ xs) ys =
            let a = count-cons (λ (d : Indexed). eqb d.listed.lane lane && eqb d.index index) x (xs ++ ys) in let b = count-cons (λ (d : Indexed). eqb d.listed.lane lane && eqb d.index index) x xs in
            let r = count_joined xs ys in omega (arith, a, b, r)

    behind : AllByRecursion (λ e. lies_elsewhere lane index e ≡ true) (drop place es)
    behind = each_member (λ e. lies_elsewhere lane index e ≡ true) (drop place es) (λ e has. at e has (eqb e.listed.lane lane && eqb e.index index) refl)
      where
        at : (e : Indexed) → Contains (drop place es) e → (t : Bool) → (eqb e.listed.lane lane && eqb e.index index) ≡ t → lies_elsewhere lane index e ≡ true
        at e has false is = ap not is
        at e has true is = absurd (let some = one_there (λ (d : Indexed). eqb d.listed.lane lane && eqb d.index index) (drop place es) e has is in let n = none_behind in omega (arith, some, n))

    pub go_all : AllGoIn lane index es
    go_all = subst (AllByRecursion (GoesIn lane index es)) (take-append-drop place es)
        (all_joined (GoesIn lane index es) (take place es) (drop place es) go
        (all_map (λ e. lies_elsewhere lane index e ≡ true) (GoesIn lane index es) (λ e is leaves. absurd (false≢true (sym leaves ∙ is))) (drop place es) behind))

    pub first_all : ComeFirst lanes lane index es
    first_all = record { front = take place es; back = drop place es; is = sym (take-append-drop place es); others = others; behind = behind }

  -- where all were looked at
  pub first_ended : length es ≤ place → ComeFirst lanes lane index es
  first_ended le = record { front = es; back = []; is = sym (append-nil es); others = subst (AllByRecursion (λ e. lies_elsewhere lane index e ≡ true → is_awake lanes e ≡ false)) (take_all place es le) others; behind = tt }
