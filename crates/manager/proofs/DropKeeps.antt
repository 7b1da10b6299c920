-- A record gave up what goes: what the manager keeps up, whether its segment stays in the lane or went to the pool.
use Rattle.std.proofs.Common.{◌≡◌, ◌≢◌, ◌⊎◌, inl, inr, ⊎_elim, ◌<◌, ◌≤◌, ◌+◌, ◌-◌, ◌^◌, ℕ, Bool, true, false, cond, not, ◌&&◌, List, [], ◌∷◌, ◌++◌, length, None, Some, Ok, refl, sym, ap, subst, ◌∙◌, arith, eqb, leb, bit_and}
use Rattle.std.specs.Prelude.{IsTrue, Contains, slice_get, slice_set, remove}
use Rattle.std.specs.Int.{bit_not, w128}
use Rattle.std.specs.List.{AllByRecursion}
use Rattle.std.proofs.lemmas.Bool.{false≢true, eq-eqb, ne_eqb, cases_eq}
use Rattle.std.proofs.Math.ListN.{length-set}
use Rattle.std.proofs.Math.Nat.{pow-le-pow_right}
use Rattle.wol_disk.specs.Disk.{State, Block}
use Rattle.wol_model.specs.Extents.{IsValid, CoversNothing, marked}
use Rattle.wol_model.specs.History.{writes, flight_of}
use Rattle.wol_model.specs.Index.{Indexed, listed_in, cover_of, goes, keeping, keeps_a_block, block_numbers}
use Rattle.wol_model.specs.Log.{Record, IsLog, IsNamed, extent_of, marks_of, has_bit}
use Rattle.wol_model.proofs.Counts.{marked_within}
use Rattle.wol_promise.specs.Manager.{Held, ManagerSeen, IsEntryOf, AreInUse}
use Rattle.wol_promise.specs.Ruled.{Noted, entries_of}
use Rattle.wol_promise.specs.Stands.{Upholds, IsPlaced}
use Rattle.wol_promise.proofs.Covers.{any_found}
use Rattle.wol_promise.proofs.GiveUps.{trims, drops}
use Rattle.wol_promise.proofs.Kept.{other_flags}
use Rattle.wol_promise.proofs.Lists.{all_swap, all_front, all_back, all_joined, member_behind}
use Rattle.wol_promise.proofs.Retires.{AreEmpty, member_without}
use Rattle.wol_promise.proofs.Trims.{trimmed}
use Rattle.spin_model.specs.declared.spun.Spun.{Spun}
use Rattle.log_segment.specs.Records.{count_valid}
use Rattle.log_segment.specs.Segment.{Holds, part_of, disk_of, owner_of}
use Rattle.block_cells.specs.Masks.{in_mask, IsMask}
use Rattle.block_cells.specs.declared.record.Rec.{Rec}
use Rattle.block_cells.proofs.Bits.{some_bit, has_bit-zero}
use Rattle.block_cells.proofs.Meeting.{any_in_range}
use Rattle.block_cells.proofs.Marks.{marked-marks_of, in_mask-bit}
use Rattle.redirect_map.specs.Index.{IsIndex, IsRecordOf}
use Rattle.logger.specs.Lanes.{IsLane, IsHeld, IsSameLane, CutDown, GaveUp, held_in, taken_in, lane_owner, logger_of, segments_in, pool_of}
use Rattle.logger.specs.declared.lane.HeldSegment.{HeldSegment}
use Rattle.logger.specs.declared.lane.Lane.{Lane}
use Rattle.log_segment.specs.declared.free.FreeSegment.{FreeSegment}
use Rattle.manager.specs.Reclaim.{given_of, with_kept}
use Rattle.manager.specs.Seen.{parts_of, seen, all_held, all_taken, down_of}
use Rattle.manager.specs.Stands.{Keeps, IsReadyLane, entries_at}
use Rattle.manager.specs.declared.base.ManagerBase.{ManagerBase}
use Rattle.manager.specs.declared.manager.Manager.{Manager}
use Rattle.volume_parts.proofs.Entries.{count-cons, lies_there, none_here, At, kept_marks, keep_within, keeps_is, given_list}
use Rattle.manager.proofs.DropPiece.{Piece, piece, was_lane, was_held, with_records, set_mid}
use Rattle.volume_parts.proofs.Elements.{all_both, all_at, get_set}
use Rattle.manager.proofs.DropReady.{none_left, nothing_kept as nothing_is_kept}
use Rattle.volume_parts.proofs.Lanes.{held_as, InLanes, in_lanes, image_is_log, untaken_set}
use Rattle.manager.proofs.Putting.{Pieces}
use Rattle.manager.proofs.ReadContent.{unbroken, upholds_up}
use Rattle.volume_parts.proofs.Vanishes.{vanishes}

-- ---- records that keep a block

-- a record whose mask isn't 0 keeps a block
valid_of_mask : (owner : ℕ) (q : Record) → IsNamed owner q → q.head.mask ≢ 0 → IsValid (extent_of q).cover
valid_of_mask owner q named some =
    let h = named.in_range in
    let wide : q.head.mask < 2 ^ 128 = (let more = pow-le-pow_right {n = 2} (omega arith) h.count.1 in let k = h.kept in omega arith) in
    let bit = some_bit q.head.mask (omega arith) wide in
    (q.head.first + bit.0, marked-marks_of q.head.first q.head.count q.head.mask (q.head.first + bit.0) h.kept ∙ in_mask-bit q.head.first q.head.mask bit.0 ∙ bit.1)

-- and one whose mask is 0 keeps none
empty_of_mask : (owner : ℕ) (q : Record) → IsNamed owner q → q.head.mask ≡ 0 → CoversNothing (extent_of q)
empty_of_mask owner q named none b = marked-marks_of q.head.first q.head.count q.head.mask b named.in_range.kept ∙ ap (λ (m : ℕ). in_mask q.head.first m b) none ∙ nothing (leb q.head.first b)
  where
    nothing : (t : Bool) → (t && has_bit 0 (b - q.head.first)) ≡ false
    nothing true = has_bit-zero _
    nothing false = refl

-- one of some records keeps a block
pub some_valid : (owner : ℕ) (rs : List Record) → AllByRecursion (IsNamed owner) rs → 0 < count_valid rs → (q : Record) × Contains rs q × IsValid (extent_of q).cover
some_valid owner [] named some = absurd (omega arith)
some_valid owner (q ∷ rs) named some = ⊎_elim
    (λ none. let c = count-cons (λ (x : Record). not (eqb x.head.mask 0)) q rs in
    let z : cond {A = ℕ} (not (eqb q.head.mask 0)) 1 0 ≡ 0 = ap (λ (t : Bool). cond {A = ℕ} (not t) 1 0) (eq-eqb q.head.mask 0 none) in
    let rest = some_valid owner rs named.1 (omega (arith, c, z)) in (rest.0, member_behind q rs rest.0 rest.1, rest.2))
    (λ one. (q, (0, omega arith, refl), valid_of_mask owner q named.0 one))
    (cases_eq q.head.mask 0)

-- none of them does
pub none_valid : (owner : ℕ) (rs : List Record) → AllByRecursion (IsNamed owner) rs → count_valid rs ≡ 0 → AreEmpty rs
none_valid owner [] named none = tt
none_valid owner (q ∷ rs) named none = ⊎_elim
    (λ zero_. let c = count-cons (λ (x : Record). not (eqb x.head.mask 0)) q rs in
    (empty_of_mask owner q named.0 zero_, none_valid owner rs named.1 (omega (arith, c))))
    (λ one. absurd (let c = count-cons (λ (x : Record). not (eqb x.head.mask 0)) q rs in let z : cond {A = ℕ} (not (eqb q.head.mask 0)) 1 0 ≡ 1 = ap (λ (t : Bool). cond {A = ℕ} (not t) 1 0) (ne_eqb q.head.mask 0 one) in omega (arith, c, z)))
    (cases_eq q.head.mask 0)

pub named_trimmed : (owner keep : ℕ) (fs : List Record) (q : Record) (gs : List Record) → keep < 2 ^ q.head.count → AllByRecursion (IsNamed owner) (fs ++ q ∷ gs) → AllByRecursion (IsNamed owner) (fs ++ trimmed q keep ∷ gs)
named_trimmed owner keep fs q gs within all = all_swap (IsNamed owner) (IsNamed owner) (λ x is. is) fs q (trimmed q keep) gs
    (λ is. let h = is.in_range in record { in_range = record { owner = h.owner; version = h.version; count = h.count; range = h.range; kept = within; form = inl refl }; owned = is.owned; counted = is.counted }) all

-- what an index keeps and what its record keeps
module _ {P : Type 0} (es : List Indexed) (s : Held P) (j : ℕ) (q : Record) (e : Indexed) (its : IsEntryOf s j q e) (keep : ℕ) (kept : (keeping (listed_in es) e.listed).keep ≡ marks_of q.head.count keep) where
  covers_same : (b : ℕ) → (cover_of (keeping (listed_in es) e.listed)).covers b ≡ (extent_of (trimmed q keep)).cover.covers b
  covers_same b = λ i. marked (its.first i) (kept i) b

  pub valid_where : keeps_a_block (keeping (listed_in es) e.listed) ≡ true → IsValid (extent_of (trimmed q keep)).cover
  valid_where keeps =
      let found = any_found (cover_of (keeping (listed_in es) e.listed)).covers (block_numbers (keeping (listed_in es) e.listed)) keeps in
      (found.item, sym (covers_same found.item) ∙ found.passes)

  pub gone_where : keeps_a_block (keeping (listed_in es) e.listed) ≡ false → IsValid (extent_of (trimmed q keep)).cover → ⊥
  gone_where none valid =
      let covers = covers_same valid.0 ∙ valid.1 in
      let range = marked_within e.listed.first (keeping (listed_in es) e.listed).keep valid.0 covers in
      false≢true (sym none ∙ any_in_range (cover_of (keeping (listed_in es) e.listed)).covers e.listed.first (length (keeping (listed_in es) e.listed).keep) valid.0 range.0 range.1 covers)

-- ---- the call

module _ {D : Type 0} (tells : Bool) (state : D → State) (m : Manager D) (b : ManagerBase) (notes : List Noted) (kp : Keeps tells state m b notes) (up : m.down ≡ None)
    (k : ℕ) (old new : Lane D) (lane : slice_get m.lanes.items k ≡ Some old) (is_lane : IsLane state new) (same : IsSameLane old new) (untaken : taken_in new ≡ None)
    (version : ℕ) (e : Indexed) (index : IsIndex m.index.entries) (at : At m.index.entries version e) (few : length e.listed.keep ≤ 128) (lane_is : e.listed.lane ≡ k) (r : Rec) (rec : IsRecordOf e r)
    (given : ℕ) (fits : given < 2 ^ 128) (bits : IsMask e.listed.first (goes (listed_in m.index.entries) e.listed) given)
    (i : ℕ) (o : HeldSegment D) (there : slice_get (held_in old) i ≡ Some o) (index_is : e.index ≡ o.index) where
  abbrev keep : ℕ
  keep = bit_and r.keep (bit_not w128 given)

  abbrev R : HeldSegment D → List Record → Type 0
  R h rs = IsTrue tells → m.down ≡ None → Holds state h.segment rs

  abbrev es : List Indexed
  es = m.index.entries

  marks : (n : ℕ) → n ≡ r.count → (keeping (listed_in m.index.entries) e.listed).keep ≡ marks_of n (bit_and r.keep (bit_not w128 given))
  marks n same_count = kept_marks m.index.entries e r rec few given fits bits ∙ ap (λ (c : ℕ). marks_of c (bit_and r.keep (bit_not w128 given))) (sym same_count)

  -- the entry without what goes, as the steps of the promise have it
  kept_is : with_kept m.index.entries e ≡ record e { listed = keeping (listed_in (at.front ++ e ∷ at.back)) e.listed }
  kept_is = ap (λ (l : List Indexed). with_kept l e) at.is

  decide : (t : Bool) → keeps_a_block (keeping (listed_in m.index.entries) e.listed) ≡ t → (keeps_a_block (keeping (listed_in m.index.entries) e.listed) ≡ true) ⊎ (keeps_a_block (keeping (listed_in m.index.entries) e.listed) ≡ false)
  decide true is = inl is
  decide false is = inr is

  pub split : InLanes R k 0 m.lanes.items kp.logs k i old o
  split = in_lanes R k 0 m.lanes.items kp.logs k i old o (omega arith) lane there kp.held

  pub p : Piece tells state m b notes kp.logs kp.ready (upholds_up tells state m b notes kp up) up k old lane i o there version e at lane_is index_is r rec split.front split.records split.back split.is split.here
  p = piece tells state m b notes kp.logs kp.ready (upholds_up tells state m b notes kp up) up k old lane i o there version e at lane_is index_is r rec split.front split.records split.back split.is split.here

  -- ---- the segment stays

  module _ {T E : Type 0} (x : T) (n : HeldSegment D) (held : held_in new ≡ slice_set (held_in old) i n) (cut : CutDown {T = T} {E = E} state o n r.pos (record { form = 2; owner = m.id; version = version; first = r.lbn; count = r.count; mask = r.keep }) (bit_and r.keep (bit_not w128 given)) (Ok x)) where
    abbrev after_ : List Record
    after_ = p.fs ++ trimmed p.it keep ∷ p.gs

    holds : IsTrue tells → Holds state n.segment (p.fs ++ trimmed p.it (bit_and r.keep (bit_not w128 given)) ∷ p.gs)
    holds told = subst (Holds state n.segment) (set_mid p.fs p.it (trimmed p.it keep) p.gs) (cut.ok (p.fs ++ p.it ∷ p.gs) (length p.fs) p.it (p.holds told) (p.head_at told))

    now_held : IsHeld state (logger_of new) (lane_owner new) (segments_in new) (pool_of new) n
    now_held = all_at (IsHeld state (logger_of new) (lane_owner new) (segments_in new) (pool_of new)) (held_in new) i n (ap (λ (hs : List (HeldSegment D)). slice_get hs i) held ∙ get_set (held_in old) i o n there) is_lane.each

    wl : IsReadyLane state m.id m.most old
    wl = was_lane tells state m b notes kp.logs kp.ready (upholds_up tells state m b notes kp up) up k old lane i o there version e at lane_is index_is r rec split.front split.records split.back split.is split.here

    wh : IsHeld state (logger_of old) (lane_owner old) (segments_in old) (pool_of old) o
    wh = was_held tells state m b notes kp.logs kp.ready (upholds_up tells state m b notes kp up) up k old lane i o there version e at lane_is index_is r rec split.front split.records split.back split.is split.here

    size : (disk_of state n.segment).size ≡ (disk_of state o.segment).size
    size = now_held.shape.size ∙ cut.same.blocks ∙ sym wh.shape.size

    owner : owner_of n.segment ≡ b.volume.began.owner
    owner = now_held.owned ∙ same.owner ∙ wl.owner ∙ kp.locks.owner

    logs : (bs : List Block) → (parts_of tells state).may_be (part_of n.segment) bs → IsLog bs b.volume.began.owner (p.fs ++ trimmed p.it (bit_and r.keep (bit_not w128 given)) ∷ p.gs)
    logs bs is = subst (λ (v : ℕ). IsLog bs v after_) owner (image_is_log state n.segment after_ bs (holds is.0) is.1)

    kept_now : (keeping (listed_in (at.front ++ e ∷ at.back)) e.listed).keep ≡ marks_of p.it.head.count (bit_and r.keep (bit_not w128 given))
    kept_now = subst (λ (l : List Indexed). (keeping (listed_in l) e.listed).keep ≡ marks_of p.it.head.count keep) at.is (marks p.it.head.count p.count_is)

    abbrev now_ : Held (Spun D)
    now_ = record { part = part_of n.segment; lane = k; index = o.index; broken = false; records = after_ }

    abbrev U : List Indexed → Type 0
    U l = Upholds (parts_of tells state) b.volume.began (record (seen m kp.logs) { held = split.front ++ now_ ∷ split.back; indexed = l }) notes (writes (entries_of notes)) None

    upheld : U (given_of version m.index.entries)
    upheld = ⊎_elim
        (λ keeps. subst U ((λ j. at.front ++ sym kept_is j ∷ at.back) ∙ sym (given_list m.index.entries version e index at true keeps))
        (trims (parts_of tells state) b.volume.began (record (seen m kp.logs) { held = split.front ++ with_records tells state m b notes kp.logs kp.ready (upholds_up tells state m b notes kp up) up k old lane i o there version e at lane_is index_is r rec split.front split.records split.back split.is split.here (p.fs ++ p.it ∷ p.gs) ∷ split.back })
        notes (writes (entries_of notes)) p.upheld (ap down_of up) split.front (part_of o.segment) (part_of n.segment) k o.index split.back p.fs p.it p.gs keep at.front e at.back refl at.is size cut.same.volume logs p.its kept_now
        (valid_where m.index.entries (with_records tells state m b notes kp.logs kp.ready (upholds_up tells state m b notes kp up) up k old lane i o there version e at lane_is index_is r rec split.front split.records split.back split.is split.here (p.fs ++ p.it ∷ p.gs)) (length p.fs) p.it e p.its keep (marks p.it.head.count p.count_is) keeps)))
        (λ none. subst U (sym (given_list m.index.entries version e index at false none))
        (drops (parts_of tells state) b.volume.began (record (seen m kp.logs) { held = split.front ++ with_records tells state m b notes kp.logs kp.ready (upholds_up tells state m b notes kp up) up k old lane i o there version e at lane_is index_is r rec split.front split.records split.back split.is split.here (p.fs ++ p.it ∷ p.gs) ∷ split.back })
        notes (writes (entries_of notes)) p.upheld (ap down_of up) split.front (part_of o.segment) (part_of n.segment) k o.index split.back p.fs p.it p.gs keep at.front e at.back refl at.is size cut.same.volume logs p.its kept_now
        (gone_where m.index.entries (with_records tells state m b notes kp.logs kp.ready (upholds_up tells state m b notes kp up) up k old lane i o there version e at lane_is index_is r rec split.front split.records split.back split.is split.here (p.fs ++ p.it ∷ p.gs)) (length p.fs) p.it e p.its keep (marks p.it.head.count p.count_is) none)))
        (decide (keeps_a_block (keeping (listed_in m.index.entries) e.listed)) refl)

    held_is : all_held 0 (slice_set m.lanes.items k new) (split.lists (p.fs ++ trimmed p.it (bit_and r.keep (bit_not w128 given)) ∷ p.gs)) ≡ split.front ++ now_ ∷ split.back
    held_is = split.then_is new n after_ held ∙ (λ j. split.front ++ record { part = part_of n.segment; lane = k; index = cut.index j; broken = cut.whole j; records = after_ } ∷ split.back)

    abbrev Used : Held (Spun D) → Type 0
    Used v = (q : Record) × Contains v.records q × IsValid (extent_of q).cover

    pub stays : Pieces tells state m b notes (slice_set m.lanes.items k new) (given_of version m.index.entries) m.next (slice_set m.ups.items k true) m.down
    stays = record {
      logs = split.lists after_;
      held = split.then_all R (λ h rs holds. holds) new n after_ held (λ told _. holds told);
      upholds = subst (λ (q : ManagerSeen (Spun D)). Upholds (parts_of tells state) b.volume.began q notes (writes (entries_of notes)) (flight_of (entries_of notes))) seen_is
          (subst (Upholds (parts_of tells state) b.volume.began (record (seen m kp.logs) { held = split.front ++ now_ ∷ split.back; indexed = given_of version m.index.entries; ups = slice_set m.ups.items k true }) notes (writes (entries_of notes))) (sym (unbroken tells state m b notes kp up))
          (other_flags (parts_of tells state) b.volume.began (record (seen m kp.logs) { held = split.front ++ now_ ∷ split.back; indexed = given_of version m.index.entries }) m.home_up (slice_set m.ups.items k true) notes (writes (entries_of notes)) None upheld (length-set m.ups.items k true)));
      in_use = λ told is. subst AreInUse (sym held_is) (all_swap Used Used (λ v used. used) split.front (held_as k o split.records) now_ split.back
          (λ _. some_valid (owner_of n.segment) after_ (holds told).disk.log.named (let v = cut.valid in let c = (holds told).valid in omega arith)) (subst AreInUse split.is (kp.in_use told up)));
    }
      where
        seen_is : record (seen m kp.logs) { held = split.front ++ now_ ∷ split.back; indexed = given_of version m.index.entries; ups = slice_set m.ups.items k true }
            ≡ record { home = m.home; held = all_held 0 (slice_set m.lanes.items k new) (split.lists after_); taken = all_taken 0 (slice_set m.lanes.items k new); indexed = given_of version m.index.entries; next = m.next; home_up = m.home_up; ups = slice_set m.ups.items k true; down = down_of m.down }
        seen_is = λ j. record { home = m.home; held = sym held_is j; taken = untaken_set state m.id m.most m.lanes.items k new kp.ready.ready.each untaken j; indexed = given_of version m.index.entries; next = m.next; home_up = m.home_up; ups = slice_set m.ups.items k true; down = down_of m.down }

  -- ---- the segment went to the pool

  module _ (blocks : ℕ) (free : FreeSegment D) (held : held_in new ≡ remove (held_in old) i) (gave : GaveUp state o blocks free r.pos (record { form = 2; owner = m.id; version = version; first = r.lbn; count = r.count; mask = r.keep }) (bit_and r.keep (bit_not w128 given))) where
    nothing_kept : bit_and r.keep (bit_not w128 given) ≡ 0
    nothing_kept = nothing_is_kept state m kp.ready up k old lane version e index at few lane_is r rec given fits bits i o there index_is new is_lane same untaken held gave.fewer

    keeps_none : keeps_a_block (keeping (listed_in m.index.entries) e.listed) ≡ false
    keeps_none = sym (keeps_is m.index.entries e r rec few given fits bits) ∙ ap not (eq-eqb keep 0 nothing_kept)

    -- no other entry lies there
    each_else : AllByRecursion (λ (d : Indexed). (eqb d.listed.lane k && eqb d.index o.index) ≡ false) (at.front ++ at.back)
    each_else = none_here (λ (d : Indexed). eqb d.listed.lane k && eqb d.index o.index) (at.front ++ at.back)
        (ap (entries_at k o.index) (sym (given_list m.index.entries version e index at false keeps_none)) ∙ none_left state m kp.ready up k old lane version e index at few lane_is r rec given fits bits i o there index_is new is_lane same untaken held gave.fewer)

    abbrev s' : Held (Spun D)
    s' = with_records tells state m b notes kp.logs kp.ready (upholds_up tells state m b notes kp up) up k old lane i o there version e at lane_is index_is r rec split.front split.records split.back split.is split.here (p.fs ++ p.it ∷ p.gs)

    elsewhere : AllByRecursion (IsPlaced (parts_of tells state) (split.front ++ split.back)) (at.front ++ at.back)
    elsewhere =
        let all = subst (AllByRecursion (IsPlaced (parts_of tells state) (split.front ++ s' ∷ split.back))) at.is (p.upheld.calm refl).placed in
        all_both (IsPlaced (parts_of tells state) (split.front ++ s' ∷ split.back)) (λ (d : Indexed). (eqb d.listed.lane k && eqb d.index o.index) ≡ false) (IsPlaced (parts_of tells state) (split.front ++ split.back)) moved (at.front ++ at.back)
        (all_joined (IsPlaced (parts_of tells state) (split.front ++ s' ∷ split.back)) at.front at.back (all_front (IsPlaced (parts_of tells state) (split.front ++ s' ∷ split.back)) at.front (e ∷ at.back) all) (all_back (IsPlaced (parts_of tells state) (split.front ++ s' ∷ split.back)) at.front (e ∷ at.back) all).1)
        each_else
      where
        moved : (d : Indexed) → IsPlaced (parts_of tells state) (split.front ++ s' ∷ split.back) d → (eqb d.listed.lane k && eqb d.index o.index) ≡ false → IsPlaced (parts_of tells state) (split.front ++ split.back) d
        moved d is other = ⊎_elim
            (λ has. record { segment = is.segment; is_held = has; lane = is.lane; index = is.index; behind = is.behind; within = is.within })
            (λ here. absurd (false≢true (sym other ∙ lies_there k o.index d (is.lane ∙ ap (λ (v : Held (Spun D)). v.lane) (sym here)) (is.index ∙ ap (λ (v : Held (Spun D)). v.index) (sym here)))))
            (member_without split.front s' split.back is.segment is.is_held)

    pub empty_after : IsTrue tells → AreEmpty (p.fs ++ trimmed p.it (bit_and r.keep (bit_not w128 given)) ∷ p.gs)
    empty_after told = none_valid (owner_of o.segment) (p.fs ++ trimmed p.it keep ∷ p.gs)
        (named_trimmed (owner_of o.segment) keep p.fs p.it p.gs (subst (λ (n : ℕ). keep < 2 ^ n) (sym p.count_is) (keep_within m.index.entries e r rec few given fits bits)) (p.holds told).disk.log.named)
        (ap count_valid (sym (set_mid p.fs p.it (trimmed p.it keep) p.gs)) ∙ gave.bare (p.fs ++ p.it ∷ p.gs) (length p.fs) p.it (p.holds told) (p.head_at told))

    kept_less : (keeping (listed_in (at.front ++ e ∷ at.back)) e.listed).keep ≡ marks_of p.it.head.count (bit_and r.keep (bit_not w128 given))
    kept_less = subst (λ (l : List Indexed). (keeping (listed_in l) e.listed).keep ≡ marks_of p.it.head.count keep) at.is (marks p.it.head.count p.count_is)

    upheld_less : Upholds (parts_of tells state) b.volume.began (record (seen m kp.logs) { held = split.front ++ split.back; indexed = given_of version m.index.entries }) notes (writes (entries_of notes)) None
    upheld_less = subst (λ (l : List Indexed). Upholds (parts_of tells state) b.volume.began (record (seen m kp.logs) { held = split.front ++ split.back; indexed = l }) notes (writes (entries_of notes)) None) (sym (given_list m.index.entries version e index at false keeps_none))
        (vanishes (parts_of tells state) b.volume.began (record (seen m kp.logs) { held = split.front ++ s' ∷ split.back }) notes (writes (entries_of notes)) p.upheld (ap down_of up) split.front (part_of o.segment) k o.index split.back p.fs p.it p.gs keep at.front e at.back refl at.is p.its kept_less
        empty_after (gone_where m.index.entries s' (length p.fs) p.it e p.its keep (marks p.it.head.count p.count_is) keeps_none) elsewhere)

    held_less : all_held 0 (slice_set m.lanes.items k new) split.rest ≡ split.front ++ split.back
    held_less = split.rest_is new held

    abbrev Used' : Held (Spun D) → Type 0
    Used' v = (q : Record) × Contains v.records q × IsValid (extent_of q).cover

    pub leaves : Pieces tells state m b notes (slice_set m.lanes.items k new) (given_of version m.index.entries) m.next (slice_set m.ups.items k true) m.down
    leaves = record {
      logs = split.rest;
      held = split.rest_all R (λ h rs holds. holds) new held;
      upholds = subst (λ (q : ManagerSeen (Spun D)). Upholds (parts_of tells state) b.volume.began q notes (writes (entries_of notes)) (flight_of (entries_of notes))) seen_is
          (subst (Upholds (parts_of tells state) b.volume.began (record (seen m kp.logs) { held = split.front ++ split.back; indexed = given_of version m.index.entries; ups = slice_set m.ups.items k true }) notes (writes (entries_of notes))) (sym (unbroken tells state m b notes kp up))
          (other_flags (parts_of tells state) b.volume.began (record (seen m kp.logs) { held = split.front ++ split.back; indexed = given_of version m.index.entries }) m.home_up (slice_set m.ups.items k true) notes (writes (entries_of notes)) None upheld_less (length-set m.ups.items k true)));
      in_use = λ told is. subst AreInUse (sym held_less) (let all = subst AreInUse split.is (kp.in_use told up) in
          all_joined Used' split.front split.back (all_front Used' split.front (held_as k o split.records ∷ split.back) all) (all_back Used' split.front (held_as k o split.records ∷ split.back) all).1);
    }
      where
        seen_is : record (seen m kp.logs) { held = split.front ++ split.back; indexed = given_of version m.index.entries; ups = slice_set m.ups.items k true }
            ≡ record { home = m.home; held = all_held 0 (slice_set m.lanes.items k new) split.rest; taken = all_taken 0 (slice_set m.lanes.items k new); indexed = given_of version m.index.entries; next = m.next; home_up = m.home_up; ups = slice_set m.ups.items k true; down = down_of m.down }
        seen_is = λ j. record { home = m.home; held = sym held_less j; taken = untaken_set state m.id m.most m.lanes.items k new kp.ready.ready.each untaken j; indexed = given_of version m.index.entries; next = m.next; home_up = m.home_up; ups = slice_set m.ups.items k true; down = down_of m.down }
