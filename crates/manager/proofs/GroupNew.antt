-- A group of writes to a segment that was claimed for it: what the manager keeps up with its entry, and where it failed.
use Rattle.std.proofs.Common.{◌≡◌, ◌≢◌, ◌⊎◌, inl, inr, ⊎_elim, ◌<◌, ◌≤◌, ◌+◌, ◌-◌, ◌^◌, ℕ, Bool, true, false, sym, subst, ◌∙◌, arith, List, [], ◌∷◌, ◌++◌, length, map, take, None, Some, refl, ap, zero, suc}
use Rattle.std.specs.Prelude.{⊤, slice_get, slice_set, IsTrue}
use Rattle.std.specs.List.{AllByRecursion}
use Rattle.std.specs.Option.{option_to_list}
use Rattle.std.proofs.Math.ListN.{length-set}
use Rattle.std.proofs.lemmas.Grind.{flat_map-append}
use Rattle.std.proofs.lemmas.Option.{same_Some}
use Rattle.wol_disk.specs.Disk.{State, Block, IsDisk, LeavesOnly, Rose}
use Rattle.wol_disk.proofs.Calls.{now_leaves}
use Rattle.wol_model.specs.Blocks.{Write, AreApart}
use Rattle.wol_model.specs.Extents.{Extent, IsValid, covers_of, AreDistinct}
use Rattle.wol_model.specs.History.{Wrote, Broke, worker, writes, flight_of, IsCut}
use Rattle.wol_model.specs.Holding.{Holds as Holds_}
use Rattle.wol_model.specs.Index.{listed_in}
use Rattle.wol_model.specs.Log.{Record, IsLog, IsIdle, HasFirstOf, extent_of}
use Rattle.wol_model.proofs.Images.{kept, idle_none}
use Rattle.turn_lock.specs.LockIds.{LockId}
use Rattle.spin_model.specs.Spun.{state_of, volume_of}
use Rattle.spin_model.specs.declared.spun.Spun.{Spun}
use Rattle.seg_pool.specs.declared.base.PoolBase.{PoolBase}
use Rattle.log_segment.specs.Records.{group_of, count_of}
use Rattle.log_segment.specs.Segment.{IsSegment, IsSame, IsWhole, IsBroken, Holds, part_of, disk_of, free_disk, owner_of, segment_volume}
use Rattle.log_segment.specs.declared.free.FreeSegment.{FreeSegment}
use Rattle.log_segment.specs.declared.item.Item.{Item}
use Rattle.log_segment.specs.declared.segment.Segment.{Segment}
use Rattle.block_cells.specs.declared.record.Rec.{Rec}
use Rattle.wol_promise.specs.Manager.{Parts, Held, ManagerSeen, Base, SegmentPart, look_of, AreInUse, Recovers, SaysOwnerOrFree, WasWritten, extents_held, is_homed_in}
use Rattle.wol_promise.specs.Policy.{Look}
use Rattle.wol_promise.specs.Ruled.{Noted, entries_of, IsStep, last_look}
use Rattle.wol_promise.specs.Stands.{AreKnown, LieInHome, HasPlaces, Upholds, StandsFor, IsHeldBy, place_in, AreApartPlaces}
use Rattle.wol_promise.proofs.Broke.{broke_more}
use Rattle.wol_promise.proofs.ClaimBreaks.{broken_segment}
use Rattle.wol_promise.proofs.Claims.{empty_segment, with_empty, empty_more, places_insert}
use Rattle.wol_promise.proofs.HomeWrites.{lie_flying, known_flying}
use Rattle.wol_promise.proofs.Known.{all_below}
use Rattle.wol_promise.proofs.Lists.{all_front, all_back, all_insert, all_parts, member_mid, all_joined}
use Rattle.wol_promise.proofs.LogWrites.{says_owner, low_extents}
use Rattle.wol_promise.proofs.SoundSegments.{AreApartBetween, sound_log, sound_idle, one_sound}
use Rattle.logger.specs.Lanes.{IsLane, IsHeld, IsSameLane, held_in, taken_in, lane_owner, logger_of, segments_in, pool_of, pool_blocks}
use Rattle.logger.specs.declared.lane.HeldSegment.{HeldSegment}
use Rattle.logger.specs.declared.lane.Lane.{Lane}
use Rattle.manager.specs.Seen.{parts_of, may_be, seen, all_held, all_taken, down_of, Logs, held_with}
use Rattle.manager.specs.Stands.{Keeps}
use Rattle.manager.specs.declared.base.ManagerBase.{ManagerBase}
use Rattle.manager.specs.declared.manager.Manager.{Manager}
use Rattle.volume_parts.proofs.Lanes.{AtEnd, at_end, image_is_log}
use Rattle.manager.proofs.Putting.{is_up, old_lane, owner, logger, HasValid, Pieces, pieces_more, pieces_failed}
use Rattle.manager.proofs.ReadContent.{unbroken, upholds_up}
use Rattle.manager.proofs.WentHome.{risen}
use Rattle.manager.specs.Listing.{recs_at, entered_all}
use Rattle.manager.specs.Groups.{AreItemsOf, log_writes}
use Rattle.volume_parts.proofs.Groups.{group_distinct, group_stops, AreNew, FitBehind, written_as, indexed_by, extents_of_new, in_a_row, front_row, map_front, map_long, all_lie, all_lie_in_home, some_valid, group_more}
use Rattle.volume_parts.proofs.Records.{group_new, group_fits, group_written, group_long, group_nonempty, group_indexed}
use Rattle.manager.specs.declared.part.Part.TheVariants as part

-- ---- A new index is apart from all others of its lane, and no other lane has its place

pub apart_last : {D : Type 0} (hs : List (HeldSegment D)) (n : HeldSegment D) (rest : List ℕ) → AreApart (map (λ (h : HeldSegment D). h.index) (hs ++ n ∷ []) ++ rest) → AllByRecursion (λ (h : HeldSegment D). h.index ≢ n.index) hs
apart_last [] n rest apart = tt
apart_last {D} (h ∷ hs) n rest apart = (from hs apart.0, apart_last hs n rest apart.1)
  where
    from : (gs : List (HeldSegment D)) → AllByRecursion (λ w. h.index ≢ w) (map (λ (g : HeldSegment D). g.index) (gs ++ n ∷ []) ++ rest) → h.index ≢ n.index
    from [] all = all.0
    from (g ∷ gs) all = from gs all.1

module _ {D : Type 0} (place index : ℕ) where
  -- segments of another lane
  other_lane : (j : ℕ) (hs : List (HeldSegment D)) (ls : List (List Record)) → (j ≡ place → ⊥) → AllByRecursion (λ (v : Held (Spun D)). place_in v ≢ (place, index)) (held_with j hs ls)
  other_lane j [] ls other = tt
  other_lane j (h ∷ hs) [] other = tt
  other_lane j (h ∷ hs) (rs ∷ ls) other = ((λ e. other (ap (λ (p : ℕ × ℕ). p.0) e)), other_lane j hs ls other)

  same_lane : (j : ℕ) (hs : List (HeldSegment D)) (ls : List (List Record)) → AllByRecursion (λ (h : HeldSegment D). h.index ≢ index) hs → AllByRecursion (λ (v : Held (Spun D)). place_in v ≢ (place, index)) (held_with j hs ls)
  same_lane j [] ls apart = tt
  same_lane j (h ∷ hs) [] apart = tt
  same_lane j (h ∷ hs) (rs ∷ ls) apart = ((λ e. apart.0 (ap (λ (p : ℕ × ℕ). p.1) e)), same_lane j hs ls apart.1)

  later_lanes : (j : ℕ) (lanes : List (Lane D)) (logs : Logs) → place < j → AllByRecursion (λ (v : Held (Spun D)). place_in v ≢ (place, index)) (all_held j lanes logs)
  later_lanes j [] logs less = tt
  later_lanes j (l ∷ lanes) [] less = tt
  later_lanes j (l ∷ lanes) (ls ∷ logs) less = all_joined (λ (v : Held (Spun D)). place_in v ≢ (place, index)) (held_with j (held_in l) ls) (all_held (j + 1) lanes logs) (other_lane j (held_in l) ls (λ e. omega arith)) (later_lanes (j + 1) lanes logs (omega arith))

  pub new_place : (j : ℕ) (lanes : List (Lane D)) (logs : Logs) (k : ℕ) (old : Lane D) → place ≡ j + k → slice_get lanes k ≡ Some old → AllByRecursion (λ (h : HeldSegment D). h.index ≢ index) (held_in old)
      → AllByRecursion (λ (v : Held (Spun D)). place_in v ≢ (place, index)) (all_held j lanes logs)
  new_place j [] logs k old sum lane apart = tt
  new_place j (l ∷ lanes) [] k old sum lane apart = tt
  new_place j (l ∷ lanes) (ls ∷ logs) zero old sum lane apart = all_joined (λ (v : Held (Spun D)). place_in v ≢ (place, index)) (held_with j (held_in l) ls) (all_held (j + 1) lanes logs)
      (same_lane j (held_in l) ls (subst (λ (q : Lane D). AllByRecursion (λ (h : HeldSegment D). h.index ≢ index) (held_in q)) (sym (same_Some l old lane)) apart)) (later_lanes (j + 1) lanes logs (omega arith))
  new_place j (l ∷ lanes) (ls ∷ logs) (suc k) old sum lane apart = all_joined (λ (v : Held (Spun D)). place_in v ≢ (place, index)) (held_with j (held_in l) ls) (all_held (j + 1) lanes logs)
      (other_lane j (held_in l) ls (λ e. omega arith)) (new_place (j + 1) lanes logs k old (omega arith) lane apart)

-- ---- A claimed segment, as the promise sees it

module _ {P : Type 0} (parts : Parts P) (base : Base) (m : ManagerSeen P) (home_up : Bool) (ups : List Bool) (flags : length ups ≡ length m.ups) (notes : List Noted) (n : Noted)
    (front back : List (Held P)) (lane index : ℕ) (rs : List Record) (some : 1 ≤ length rs)
    (u : Upholds parts base m notes (writes (entries_of notes)) None) (none : flight_of (entries_of notes) ≡ None) (held : m.held ≡ front ++ back) (up : m.down ≡ None)
    (new_place : AllByRecursion (λ (v : Held P). place_in v ≢ (lane, index)) (front ++ back))
    (new : AreNew base.home_blocks m.next rs) (client : n.entry.pass ≡ worker) where
  abbrev ws : List Write
  ws = writes (entries_of notes)

  abbrev flight : List Write
  flight = written_as rs

  -- the segment as it is claimed, and then with the records
  module _ (claimed part : P) (by : IsHeldBy parts base (empty_segment claimed lane index)) (size : parts.size part ≡ parts.size claimed) (volume : parts.volume part ≡ parts.volume claimed)
      (before : (bs : List Block) → parts.may_be claimed bs → IsLog bs base.owner []) (logs : (bs : List Block) → parts.may_be part bs → IsLog bs base.owner rs)
      (room : m.next + length rs ≤ 2 ^ 63) (wrote : n.entry.operation ≡ Wrote flight) (fits : FitBehind (parts.size part) 1 rs) where
    abbrev s : Held P
    s = empty_segment claimed lane index

    abbrev pub claimed_group : ManagerSeen P
    claimed_group = record { home = m.home; held = front ++ record s { part = part; records = rs } ∷ back; taken = m.taken; indexed = indexed_by m.indexed s part rs; next = m.next + length rs; home_up = home_up; ups = ups; down = m.down }

    pub claimed_group_more : (IsTrue n.ruled → IsStep n n.entry.pass n.entry.operation (last_look base.look notes) n.look) → n.look ≡ look_of claimed_group → StandsFor parts base claimed_group (notes ++ n ∷ [])
    claimed_group_more = group_more parts base (with_empty parts base m notes ws front back claimed lane index u up held by new_place before) home_up ups flags notes n front s back part rs some
        (empty_more parts base m notes ws front back claimed lane index u up held by new_place before) none refl size volume new client logs room up wrote fits

  -- a call of it failed: it may be free, claimed, or have some first ones of the records
  module _ (part : P) (by : IsHeldBy parts base (broken_segment part lane index)) (images : (bs : List Block) → parts.may_be part bs → IsIdle bs ⊎ ((k : ℕ) × (k ≤ length rs) × IsLog bs base.owner (take k rs)))
      (broke : n.entry.operation ≡ Broke flight) (unruled : n.after_drain ≡ false) (logger : ℕ) (named : slice_get base.view lane ≡ Some logger) (rose : 0 < parts.faults part) where
    abbrev t : Held P
    t = broken_segment part lane index

    abbrev pub claimed_group_failed : ManagerSeen P
    claimed_group_failed = record m { held = front ++ t ∷ back; home_up = home_up; ups = ups; down = Some (SegmentPart logger index) }

    insert : (Q : Held P → Type 0) → Q t → AllByRecursion Q m.held → AllByRecursion Q (front ++ t ∷ back)
    insert Q here all = all_insert Q front t back here (subst (AllByRecursion Q) held all)

    same_extents : extents_held front ++ ([] ++ extents_held back) ≡ extents_held m.held
    same_extents = sym (flat_map-append (λ (v : Held P). map extent_of v.records) front back) ∙ ap extents_held (sym held)

    known : parts.told → AreKnown base m.next ws flight (front ++ t ∷ back)
    known told = let k = known_flying base m.next ws flight m.held (u.known told) in record {
      written = insert (λ (v : Held P). AllByRecursion (λ q. IsValid (extent_of q).cover → WasWritten (base.records ++ (ws ++ flight)) q) v.records) tt k.written;
      below = insert (λ (v : Held P). AllByRecursion (λ q. (IsValid (extent_of q).cover → ⊥) → q.head.version < m.next) v.records) tt k.below;
      within = insert (LieInHome base.home_blocks) tt k.within;
    }

    places : HasPlaces parts base m.home (front ++ t ∷ back) ups
    places = let p = u.places in record {
      flags = flags ∙ p.flags;
      few = p.few;
      home_blocks = p.home_blocks;
      most = p.most;
      home_size = p.home_size;
      home_volume = p.home_volume;
      each = insert (IsHeldBy parts base) by p.each;
      apart = places_insert front t back new_place (subst (λ (l : List (Held P)). AreApartPlaces (map place_in l)) held p.apart);
    }

    -- no record of the others is a twin of one of them
    apart : parts.told → (k : ℕ) → AreApartBetween base.owner base.home_blocks front back (take k rs)
    apart told k = group_distinct m.next (extents_held front) (extents_held back) (map extent_of (take k rs))
        (subst (λ (l : List Extent). AreDistinct (covers_of l)) (sym same_extents) ((u.calm refl).whole told).distinct)
        (subst (AllByRecursion (λ (x : Extent). x.cover.version < m.next)) (sym same_extents) (low_extents m.next m.held (all_below base m.next ws m.held u.versioned (u.known told))))
        (front_row base.home_blocks m.next k rs new)

    abbrev Logged : Held P → Type 0
    Logged v = (bs : List Block) → parts.may_be v.part bs → IsLog bs base.owner v.records

    pub claimed_group_breaks : StandsFor parts base claimed_group_failed (notes ++ n ∷ [])
    claimed_group_breaks = broke_more parts base m claimed_group_failed notes n ws flight (SegmentPart logger index) u refl none broke (λ other. absurd (other client)) unruled
        (lie_flying base.home_blocks base.records ws flight u.lie (all_lie base.home_blocks m.next rs new)) refl refl known places (part, (t, member_mid front t back, named, refl, refl), rose)
        (λ told. let whole = (u.calm refl).whole told in let logs = subst (AllByRecursion Logged) held whole.logs in let within = all_parts (LieInHome base.home_blocks) front t back (known told).within in
        one_sound (λ v. parts.may_be v.part) base.owner base.home_blocks front back t (all_front Logged front back logs) (all_back Logged front back logs) within.0 within.1
        (λ bs is. ⊎_elim (λ idle. sound_idle base.owner base.home_blocks front back bs [] idle (apart told 0))
        (λ first. sound_log base.owner base.home_blocks front back bs (take first.0 rs) first.2 (all_lie_in_home base.home_blocks m.next first.0 rs new) (apart told first.0)) (images bs is)))
        (λ told. let whole = (u.calm refl).whole told in let logs = subst (AllByRecursion Logged) held whole.logs in
        subst (λ (vs : List Write). Recovers (parts.may_be m.home) (λ v. parts.may_be v.part) base.owner (front ++ t ∷ back) (IsCut base.array ws vs)) (extents_of_new rs)
        (group_stops (parts.may_be m.home) (λ v. parts.may_be v.part) base.owner base.array ws m.next (is_homed_in m.indexed) front back t (all_front Logged front back logs) (all_back Logged front back logs) [] (map extent_of rs) (in_a_row base.home_blocks m.next rs new)
        (λ home is. subst (λ (l : List Extent). Holds_ base.array ws m.next home l (is_homed_in m.indexed)) (sym same_extents) (whole.holds home is))
        (λ bs is. ⊎_elim (λ idle. (0, omega arith, idle_none base.owner bs idle))
        (λ first. (first.0, (let e = map_long rs in let le = first.1 in omega arith), kept base.owner bs (take first.0 rs) first.2 ∙ map_front first.0 rs)) (images bs is))))

-- ---- A manager's

says_free : (owner : ℕ) (bs : List Block) → IsIdle bs → SaysOwnerOrFree owner bs
says_free id [] idle = absurd idle
says_free id (b ∷ bs) idle = inr idle

module _ {D : Type 0} (tells : Bool) (state : D → State) (m : Manager D) (b : ManagerBase) (notes : List Noted) (kp : Keeps tells state m b notes) (up : m.down ≡ None)
    (k : ℕ) (old new : Lane D) (lane : slice_get m.lanes.items k ≡ Some old) (is_lane : IsLane state new) (same : IsSameLane old new) (untaken_now : taken_in new ≡ None)
    (n : HeldSegment D) (held : held_in new ≡ held_in old ++ n ∷ []) where
  abbrev pub R : HeldSegment D → List Record → Type 0
  R h rs = IsTrue tells → m.down ≡ None → Holds state h.segment rs

  pub ends : AtEnd R k 0 m.lanes.items kp.logs k old
  ends = at_end R k 0 m.lanes.items kp.logs k old (omega arith) lane kp.held

  pub now_held : IsHeld state (logger_of new) (lane_owner new) (segments_in new) (pool_of new) n
  now_held = (all_back (IsHeld state (logger_of new) (lane_owner new) (segments_in new) (pool_of new)) (held_in old) (n ∷ []) (subst (AllByRecursion (IsHeld state (logger_of new) (lane_owner new) (segments_in new) (pool_of new))) held is_lane.each)).0

  volume : segment_volume n.segment ≡ logger_of old
  volume = now_held.volume ∙ same.logger

  owned : owner_of n.segment ≡ b.volume.began.owner
  owned = now_held.owned ∙ same.owner ∙ owner tells state m b notes kp k old lane

  size_is : (disk_of state n.segment).size ≡ pool_blocks old
  size_is = now_held.shape.size ∙ now_held.blocks ∙ ap (λ (q : LockId PoolBase). q.base.blocks) same.pool.0

  long_enough : b.volume.began.most + 2 ≤ (disk_of state n.segment).size
  long_enough = let size = size_is in let l = (old_lane tells state m b notes kp k old lane).long in let w = kp.locks.most_ in omega arith

  fresh : AllByRecursion (λ (h : HeldSegment D). h.index ≢ n.index) (held_in old)
  fresh = apart_last (held_in old) n (map (λ (t : ℕ × FreeSegment D). t.0) (option_to_list (taken_in new))) (subst (λ (hs : List (HeldSegment D)). AreApart (map (λ (h : HeldSegment D). h.index) hs ++ map (λ (t : ℕ × FreeSegment D). t.0) (option_to_list (taken_in new)))) held is_lane.apart)

  pub new_one : AllByRecursion (λ (v : Held (Spun D)). place_in v ≢ (k, n.index)) (ends.front ++ ends.back)
  new_one = subst (AllByRecursion (λ (v : Held (Spun D)). place_in v ≢ (k, n.index))) ends.is (new_place k n.index 0 m.lanes.items kp.logs k old (omega arith) lane fresh)

  by : (broken : Bool) (p : Spun D) → (state_of state p).size ≡ (disk_of state n.segment).size → volume_of p ≡ segment_volume n.segment → ((bs : List Block) → IsTrue tells × may_be state p bs → SaysOwnerOrFree b.volume.began.owner bs)
      → IsHeldBy (parts_of tells state) b.volume.began (record { part = p; lane = k; index = n.index; broken = broken; records = [] })
  by broken p size lies_on says = record {
    logger = logger tells state m b notes kp k old lane ∙ ap Some (sym (lies_on ∙ volume));
    room = subst (λ (z : ℕ). b.volume.began.most + 2 ≤ z) (sym size) long_enough;
    owned = says;
  }

  module _ (items : List Item) (some : 1 ≤ length items) (from : List Block) (are : AreItemsOf m.most (state_of state m.home).size items) (enough : count_of items ≤ length from) (space : count_of items + (length items - 1) + 2 ≤ pool_blocks old) (nt : Noted) (client : nt.entry.pass ≡ worker) where
    abbrev rs : List Record
    rs = group_of (lane_owner old) m.next items from

    abbrev ups : List Bool
    ups = slice_set m.ups.items k true

    -- it has them
    module _ (next_room : m.next + length items ≤ 2 ^ 63) (claimed : IsTrue tells → (s : Segment D) × IsSegment state s × IsSame s n.segment × Holds state s []) (ok : IsTrue tells → Holds state n.segment rs) (whole : IsWhole n.segment)
        (recs : List Rec) (recs_is : recs ≡ recs_at m.next items k n.index 1) (wrote : nt.entry.operation ≡ Wrote (log_writes m.next items from))
        (step : IsTrue nt.ruled → IsStep nt nt.entry.pass nt.entry.operation (last_look b.volume.began.look notes) nt.look)
        (look : nt.look ≡ (let l : Look = record { home_up = m.home_up; ups = ups; next = m.next + length items; listed = listed_in (entered_all m.index.entries recs); down = down_of m.down } in l)) where
      -- the part between its claim and its records, or any where content isn't told
      record Claim : Type 0 where
        part_ : Spun D
        size : (disk_of state n.segment).size ≡ (state_of state part_).size
        lies_on : segment_volume n.segment ≡ volume_of part_
        logs : (bs : List Block) → IsTrue tells × may_be state part_ bs → IsLog bs b.volume.began.owner []

      claim : Claim
      claim = at tells refl
        where
          at : (t : Bool) → tells ≡ t → Claim
          at true told = let c = claimed told in record {
            part_ = part_of c.0;
            size = now_held.shape.size ∙ c.2.blocks ∙ sym c.1.size;
            lies_on = c.2.volume;
            logs = λ bs is. subst (λ (v : ℕ). IsLog bs v []) (sym c.2.owner ∙ owned) (image_is_log state c.0 [] bs c.3 is.1);
          }
          at false untold = record { part_ = part_of n.segment; size = refl; lies_on = refl; logs = λ bs is. absurd (let no : false ≡ true = sym untold ∙ is.0 in cc) }

      abbrev unused : Held (Spun D)
      unused = empty_segment claim.part_ k n.index

      abbrev now : Held (Spun D)
      now = record { part = part_of n.segment; lane = k; index = n.index; broken = false; records = rs }

      now_is : all_held 0 (slice_set m.lanes.items k new) (ends.lists rs) ≡ ends.front ++ now ∷ ends.back
      now_is = ends.then_is new n rs held ∙ (λ t. ends.front ++ record { part = part_of n.segment; lane = k; index = n.index; broken = whole t; records = rs } ∷ ends.back)

      indexed_is : entered_all m.index.entries recs ≡ indexed_by m.index.entries unused (part_of n.segment) rs
      indexed_is = ap (entered_all m.index.entries) recs_is ∙ group_indexed (lane_owner old) m.next items from m.index.entries unused (part_of n.segment) enough

      next_is : m.next + length rs ≡ m.next + length items
      next_is = ap (λ (c : ℕ). m.next + c) (group_long (lane_owner old) m.next items from)

      abbrev with_all : ManagerSeen (Spun D)
      with_all = record { home = m.home; held = ends.front ++ now ∷ ends.back; taken = all_taken 0 m.lanes.items; indexed = indexed_by m.index.entries unused (part_of n.segment) rs; next = m.next + length rs; home_up = m.home_up; ups = ups; down = down_of m.down }

      stood : StandsFor (parts_of tells state) b.volume.began with_all (notes ++ nt ∷ [])
      stood = claimed_group_more (parts_of tells state) b.volume.began (seen m kp.logs) m.home_up ups (length-set m.ups.items k true) notes nt ends.front ends.back k n.index rs (group_nonempty (lane_owner old) m.next items from some)
          (upholds_up tells state m b notes kp up) (unbroken tells state m b notes kp up) ends.is (is_up tells state m b notes kp up) new_one (group_new (lane_owner old) m.next m.most (state_of state m.home).size b.volume.began.home_blocks items from are kp.upholds.places.home_size enough) client
          claim.part_ (part_of n.segment) (by false claim.part_ (sym claim.size) (sym claim.lies_on) (λ bs is. says_owner b.volume.began.owner bs [] (claim.logs bs is))) claim.size claim.lies_on claim.logs
          (λ bs is. subst (λ (v : ℕ). IsLog bs v rs) owned (image_is_log state n.segment rs bs (ok is.0) is.1))
          (let e = group_long (lane_owner old) m.next items from in omega arith) (wrote ∙ ap Wrote (sym (group_written (lane_owner old) m.next items from)))
          (group_fits (disk_of state n.segment).size 1 (lane_owner old) m.next items from (let z = size_is in omega (arith, z, space, some)))
          step (look ∙ (λ t. record { home_up = m.home_up; ups = ups; next = sym next_is t; listed = listed_in (indexed_is t); down = down_of m.down }))

      pub group_claimed : Pieces tells state m b (notes ++ nt ∷ []) (slice_set m.lanes.items k new) (entered_all m.index.entries recs) (m.next + length items) ups m.down
      group_claimed = pieces_more tells state m b notes (notes ++ nt ∷ []) kp k new untaken_now (ends.lists rs) (ends.front ++ now ∷ ends.back) _ _ indexed_is _ _ next_is ups
          (ends.then_all R (λ h qs holds. holds) new n rs held (λ told _. ok told)) now_is stood.upholds
          (λ told is. all_insert HasValid ends.front now ends.back (some_valid b.volume.began.home_blocks m.next rs (group_nonempty (lane_owner old) m.next items from some) (group_new (lane_owner old) m.next m.most (state_of state m.home).size b.volume.began.home_blocks items from are kp.upholds.places.home_size enough)) (subst AreInUse ends.is (kp.in_use told up)))

    -- a call of its disk failed
    module _ (sound : (d : D) → IsDisk (state d)) (f : FreeSegment D) (any_moment : IsTrue tells → LeavesOnly (free_disk state f) (disk_of state n.segment) (λ c. IsIdle c ⊎ HasFirstOf c (lane_owner old) [] rs))
        (broken : IsBroken n.segment) (cause : Rose (free_disk state f).faults (disk_of state n.segment).faults) (broke : nt.entry.operation ≡ Broke (log_writes m.next items from)) (unruled : nt.after_drain ≡ false) where
      abbrev fallen : Held (Spun D)
      fallen = broken_segment (part_of n.segment) k n.index

      images : (bs : List Block) → IsTrue tells × may_be state (part_of n.segment) bs → IsIdle bs ⊎ ((c : ℕ) × (c ≤ length rs) × IsLog bs b.volume.began.owner (take c rs))
      images bs is = ⊎_elim (λ idle. inl idle) (λ first. inr (first.count, first.within, subst (λ (v : ℕ). IsLog bs v (take first.count rs)) (owner tells state m b notes kp k old lane) first.log))
          (now_leaves (any_moment is.0) (sound n.segment.part.inner) bs is.1)

      broken_is : all_held 0 (slice_set m.lanes.items k new) (ends.lists []) ≡ ends.front ++ fallen ∷ ends.back
      broken_is = ends.then_is new n [] held ∙ (λ i. ends.front ++ record { part = part_of n.segment; lane = k; index = n.index; broken = broken i; records = [] } ∷ ends.back)

      abbrev failed_one : ManagerSeen (Spun D)
      failed_one = record (seen m kp.logs) { held = ends.front ++ fallen ∷ ends.back; down = Some (SegmentPart (logger_of old) n.index) }

      fell : StandsFor (parts_of tells state) b.volume.began failed_one (notes ++ nt ∷ [])
      fell = claimed_group_breaks (parts_of tells state) b.volume.began (seen m kp.logs) m.home_up m.ups.items refl notes nt ends.front ends.back k n.index rs (group_nonempty (lane_owner old) m.next items from some)
          (upholds_up tells state m b notes kp up) (unbroken tells state m b notes kp up) ends.is (is_up tells state m b notes kp up) new_one (group_new (lane_owner old) m.next m.most (state_of state m.home).size b.volume.began.home_blocks items from are kp.upholds.places.home_size enough) client
          (part_of n.segment) (by true (part_of n.segment) refl refl (λ bs is. ⊎_elim (says_free b.volume.began.owner bs) (λ first. says_owner b.volume.began.owner bs (take first.0 rs) first.2) (images bs is))) images
          (broke ∙ ap Broke (sym (group_written (lane_owner old) m.next items from))) unruled (logger_of old) (logger tells state m b notes kp k old lane) (risen (free_disk state f).faults (disk_of state n.segment).faults cause)

      pub group_claim_failed : Pieces tells state m b (notes ++ nt ∷ []) (slice_set m.lanes.items k new) m.index.entries m.next m.ups.items (Some (part.Segment (logger_of old) n.index))
      group_claim_failed = pieces_failed tells state m b notes (notes ++ nt ∷ []) kp k new untaken_now (ends.lists []) (ends.front ++ fallen ∷ ends.back) m.ups.items (part.Segment (logger_of old) n.index)
          (ends.then_all (λ h qs. ⊤) (λ h qs holds. tt) new n [] held tt) broken_is fell.upholds
