-- A lane was offered a group: what the manager keeps up and stands for then.
use Rattle.std.proofs.Common.{◌≡◌, ◌≢◌, ◌⊎◌, inl, inr, ⊎_elim, ◌&&◌, cond, eqb, ◌<◌, ◌≤◌, ◌+◌, ◌-◌, ◌^◌, ℕ, suc, Bool, true, false, sym, subst, ◌∙◌, arith, List, [], ◌∷◌, ◌++◌, length, map, Option, None, Some, refl, ap, zero, take}
use Rattle.std.specs.Prelude.{Contains, slice_get, slice_set, IsTrue, Result, Ok, Err, is_some}
use Rattle.std.specs.List.{AllByRecursion}
use Rattle.std.specs.Option.{option_to_list}
use Rattle.std.specs.declared.alloc.Global.{Global}
use Rattle.std.specs.declared.vec.Vec.{Vec}
use Rattle.std.proofs.lemmas.Option.{same_Some}
use Rattle.std.proofs.lemmas.List.Elements.{Contains-push}
use Rattle.std.proofs.lemmas.List.Sums.{sum_by-cons, sum_by_push, sum_by-take-le}
use Rattle.std.proofs.lemmas.List.FromFn.{length-map-range_with_len}
use Rattle.std.proofs.Math.ListN.{length-set}
use Rattle.wol_disk.specs.Disk.{State, Block, IsDisk, TellsContent}
use Rattle.wol_disk.specs.declared.disk.Failed.{Failed}
use Rattle.wol_model.specs.Blocks.{AreApart}
use Rattle.wol_model.specs.History.{Wrote, Broke, worker, writes, flight_of}
use Rattle.wol_model.specs.Index.{Indexed, listed_in}
use Rattle.wol_model.specs.Log.{Record, has_bit}
use Rattle.spin_model.specs.Spun.{state_of}
use Rattle.turn_lock.specs.LockIds.{LockId}
use Rattle.turn_lock.specs.Passes.{pass_mine, pass_number}
use Rattle.seg_pool.specs.declared.base.PoolBase.{PoolBase}
use Rattle.log_segment.specs.Records.{group_of, count_of, AreItems}
use Rattle.log_segment.specs.Segment.{IsWhole, Holds, blocks_of, valid_of}
use Rattle.log_segment.specs.declared.free.FreeSegment.{FreeSegment}
use Rattle.log_segment.specs.declared.item.Item.{Item}
use Rattle.block_cells.specs.declared.record.Rec.{Rec}
use Rattle.redirect_map.specs.Index.{Contents, entry_of, unhomed, cover_at}
use Rattle.wol_model.specs.Extents.{Cover}
use Rattle.wol_promise.specs.Manager.{AreInUse}
use Rattle.wol_promise.specs.Policy.{Look}
use Rattle.wol_promise.specs.Ruled.{Noted, HasPassed, entries_of, IsStep, last_look}
use Rattle.wol_promise.specs.Stands.{Upholds}
use Rattle.wol_promise.proofs.Lists.{all_push, all_member, all_map, all_mapped, all_back, member_of}
use Rattle.wol_promise.proofs.OneMore.{last_more}
use Rattle.logger.specs.Lanes.{IsLane, HoldsAll, IsHeld, IsSameLane, AreWhole, HasNoRoom, held_in, taken_in, lane_owner, logger_of, segments_in, pool_of, pool_blocks, first_count}
use Rattle.logger.specs.declared.lane.HeldSegment.{HeldSegment}
use Rattle.logger.specs.declared.lane.Lane.{Lane}
use Rattle.logger.specs.declared.lane.Spot.{Spot}
use Rattle.logger.proofs.Indexes.{same_place}
use Rattle.manager.specs.Causes.{PartRoseOrClaimed}
use Rattle.manager.specs.Offers.{HasTakenWrite}
use Rattle.manager.specs.Puts.{PutIn, to_held, to_new}
use Rattle.manager.specs.Seen.{AllLanesHold, parts_of, all_held, all_taken, down_of, look_of_manager}
use Rattle.manager.specs.Stands.{Keeps, Stands, IsReady, IsReadyLane, IsUp, IsPlacedIn, IsInVolume, entries_at, Ready, Locks, nones_in, nones_at, takes_of, AreStill, takes_in}
use Rattle.manager.specs.Stops.{Stops}
use Rattle.manager.specs.declared.base.ManagerBase.{ManagerBase}
use Rattle.manager.specs.declared.manager.Manager.{Manager}
use Rattle.manager.specs.declared.part.Part.{Part}
use Rattle.volume_parts.proofs.Claims.{put_claimed}
use Rattle.volume_parts.proofs.Lanes.{counted_set, held_set, ready_set, placed_set, stays_set, stays_push, nones_some, takes_some}
use Rattle.volume_parts.proofs.Entries.{none_there, lies_there, not_there as lies_elsewhere, still_map, still_push}
use Rattle.volume_parts.proofs.Elements.{all_at, all_set, get_set, same_or_not}
use Rattle.volume_parts.proofs.Records.{entered, count_more, group_long, group_some, group_look_woken}
use Rattle.manager.proofs.Calm.{lane_since, segment_rose}
use Rattle.manager.proofs.Putting.{Pieces}
use Rattle.manager.proofs.ReadyLanes.{locks_set, takes_of_set}
use Rattle.manager.specs.Listing.{recs_at, entered_all}
use Rattle.manager.specs.Groups.{AreItemsOf, log_writes, IsItemOf, placed_all}
use Rattle.manager.proofs.GroupHeld.{group_put, group_put_failed}
use Rattle.manager.proofs.GroupNew.{group_claimed, group_claim_failed, apart_last}
use Rattle.manager.proofs.GroupStops.{group_held_stops, group_claim_stops}
use Rattle.seg_pool.specs.Holders.{Took}
use Rattle.std.proofs.lemmas.List.{length-take-le}
use Rattle.wol_model.specs.Placing.{Log}
use Rattle.manager.specs.Joining.{room_for}
use Rattle.manager.specs.declared.part.Part.TheVariants as part

-- ---- What a write asked of a pool

taken_same : {D : Type 0} (count : ℕ) (old new : Lane D) → HasTakenWrite count old new → nones_in (pass_mine (pool_of old)) ≤ nones_in (pass_mine (pool_of new))
taken_same count old new took = by took.pool
  where
    by : (pass_mine (pool_of new) ≡ pass_mine (pool_of old)) ⊎ ((index : ℕ) × (pass_mine (pool_of new) ≡ pass_mine (pool_of old) ++ (pass_number (pool_of old), Rattle.seg_pool.specs.Operations.operation_of (Took (Some index))) ∷ []) × HasNoRoom count (held_in old)) → nones_in (pass_mine (pool_of old)) ≤ nones_in (pass_mine (pool_of new))
    by (inl same) = let e = ap nones_in same in omega (arith, e)
    by (inr gave) = let e = ap nones_in gave.1 ∙ nones_some (pass_mine (pool_of old)) (pass_number (pool_of old)) gave.0 in omega (arith, e)

took_one : {D : Type 0} (count : ℕ) (old new : Lane D) → HasTakenWrite count old new → takes_in (pass_mine (pool_of new)) ≤ takes_in (pass_mine (pool_of old)) + 1
took_one count old new took = by took.pool
  where
    by : (pass_mine (pool_of new) ≡ pass_mine (pool_of old)) ⊎ ((index : ℕ) × (pass_mine (pool_of new) ≡ pass_mine (pool_of old) ++ (pass_number (pool_of old), Rattle.seg_pool.specs.Operations.operation_of (Took (Some index))) ∷ []) × HasNoRoom count (held_in old)) → takes_in (pass_mine (pool_of new)) ≤ takes_in (pass_mine (pool_of old)) + 1
    by (inl same) = let e = ap takes_in same in omega (arith, e)
    by (inr gave) = let e = ap takes_in gave.1 ∙ takes_some (pass_mine (pool_of old)) (pass_number (pool_of old)) gave.0 in omega (arith, e)

-- ---- The records as the index is given them

-- it is in this segment of this lane, within so many blocks, lies in a volume of this size, and has a version in between
pub record IsGood (lane segment blocks size low high : ℕ) (q : Rec) : Type 0 where
  pub lane_is : q.lane ≡ lane
  pub segment_is : q.segment ≡ segment
  pub behind : 1 ≤ q.pos
  pub within : q.pos + q.count < blocks
  pub lies : q.lbn + q.count ≤ size
  pub least : low ≤ q.version
  pub below : q.version < high

pub are_good : (most size blocks low high version : ℕ) (items : List Item) (lane segment pos : ℕ) → AreItemsOf most size items → 1 ≤ pos → pos + length items + count_of items ≤ blocks → low ≤ version → version + length items ≤ high
    → AllByRecursion (IsGood lane segment blocks size low high) (recs_at version items lane segment pos)
are_good most size blocks low high version [] lane segment pos are behind fits least below = tt
are_good most size blocks low high version (i ∷ items) lane segment pos are behind fits least below = (
  record { lane_is = refl; segment_is = refl; behind = behind; within = (let e = count_more i items in omega arith); lies = are.0.within; least = least; below = omega arith },
  are_good most size blocks low high (version + 1) items lane segment (pos + 1 + i.count) are.1 (omega arith) (let e = count_more i items in omega arith) (omega arith) (omega arith),
)

pub recs_long : (version : ℕ) (items : List Item) (lane segment pos : ℕ) → length (recs_at version items lane segment pos) ≡ length items
recs_long version [] lane segment pos = refl
recs_long version (i ∷ items) lane segment pos = ap suc (recs_long (version + 1) items lane segment (pos + 1 + i.count))

-- what holds of each entry before, and of each new one
all_entered : (Q : Indexed → Type 0) → ((c : Cover) (e : Indexed) → Q e → Q (unhomed c e)) → (es : List Indexed) (recs : List Rec) → AllByRecursion Q es → AllByRecursion (λ q. Q (entry_of q 0)) recs → AllByRecursion Q (entered_all es recs)
all_entered Q so es [] old new = old
all_entered Q so es (q ∷ recs) old new = all_entered Q so (entered es q) recs
    (all_push Q (map (unhomed (cover_at (entry_of q 0))) es) (entry_of q 0) (all_mapped Q (unhomed (cover_at (entry_of q 0))) es (all_map Q (λ e. Q (unhomed (cover_at (entry_of q 0)) e)) (so (cover_at (entry_of q 0))) es old)) new.0) new.1

keep_long : (q : Rec) → length (entry_of q 0).listed.keep ≡ q.count
keep_long q = length-map-range_with_len (has_bit q.keep) 0 q.count

-- how many there are in a segment
counts_one : (j index : ℕ) (es : List Indexed) (q : Rec) → entries_at j index (entered es q) ≡ entries_at j index es + cond (eqb q.lane j && eqb q.segment index) 1 0
counts_one j index es q = sum_by_push here (map (unhomed (cover_at (entry_of q 0))) es) (entry_of q 0) ∙ ap (λ (c : ℕ). c + cond (eqb q.lane j && eqb q.segment index) 1 0) (unhomed_count es)
  where
    here : Indexed → ℕ
    here e = cond (eqb e.listed.lane j && eqb e.index index) 1 0

    unhomed_count : (ds : List Indexed) → entries_at j index (map (unhomed (cover_at (entry_of q 0))) ds) ≡ entries_at j index ds
    unhomed_count [] = refl
    unhomed_count (e ∷ ds) = sum_by-cons here (unhomed (cover_at (entry_of q 0)) e) (map (unhomed (cover_at (entry_of q 0))) ds) ∙ ap (λ (n : ℕ). here e + n) (unhomed_count ds) ∙ sym (sum_by-cons here e ds)

module _ (k segment blocks size low high : ℕ) where
  -- in another one
  not_more : (j index : ℕ) → (k ≢ j) ⊎ (segment ≢ index) → (es : List Indexed) (recs : List Rec) → AllByRecursion (IsGood k segment blocks size low high) recs → entries_at j index (entered_all es recs) ≡ entries_at j index es
  not_more j index other es [] good = refl
  not_more j index other es (q ∷ recs) good = not_more j index other (entered es q) recs good.1
      ∙ (let e = counts_one j index es q in
      let z = ap (λ (t : Bool). cond {A = ℕ} t 1 0) (lies_elsewhere j index (entry_of q 0) (⊎_elim (λ ne. inl (λ e. ne (sym good.0.lane_is ∙ e))) (λ ne. inr (λ e. ne (sym good.0.segment_is ∙ e))) other)) in omega (arith, e, z))

  -- in this one
  more_there : (index : ℕ) → segment ≡ index → (es : List Indexed) (recs : List Rec) → AllByRecursion (IsGood k segment blocks size low high) recs → entries_at k index (entered_all es recs) ≡ entries_at k index es + length recs
  more_there index here es [] good = (let e : entries_at k index es ≡ entries_at k index es + 0 = omega arith in e)
  more_there index here es (q ∷ recs) good =
      let rest = more_there index here (entered es q) recs good.1 in let e = counts_one k index es q in
      let z = ap (λ (t : Bool). cond {A = ℕ} t 1 0) (lies_there k index (entry_of q 0) good.0.lane_is (good.0.segment_is ∙ here)) in omega (arith, rest, e, z)

-- they are new, and each other stands where it stood
still_entered : (places : List Indexed) (began version : ℕ) → began ≤ version → (items : List Item) (lane segment pos : ℕ) (es : List Indexed) → AreStill places began es → AreStill places began (entered_all es (recs_at version items lane segment pos))
still_entered places began version later [] lane segment pos es still = still
still_entered places began version later (i ∷ items) lane segment pos es still =
    let q : Rec = record { version = version; lbn = i.lbn; count = i.count; keep = 2 ^ i.count - 1; lane = lane; segment = segment; pos = pos } in
    still_entered places began (version + 1) (omega (arith, later)) items lane segment (pos + 1 + i.count) (entered es q)
    (still_push places began (map (unhomed (cover_at (entry_of q 0))) es) (entry_of q 0) later (still_map places began (unhomed (cover_at (entry_of q 0))) (λ d. record { version = refl; first = refl; lane = refl; index = refl; pos = refl }) es still))

-- ---- A lane that took the group

module _ {D : Type 0} (state : D → State) (m : Manager D) (k : ℕ) (old new : Lane D) (lane : slice_get m.lanes.items k ≡ Some old) (is_lane : IsLane state new) (same : IsSameLane old new) (all : HoldsAll old → HoldsAll new) (untaken : taken_in new ≡ None)
    (items : List Item) (some : 1 ≤ length items) (from : List Block) (are : AreItemsOf m.most (state_of state m.home).size items) (enough : count_of items ≤ length from) (space : count_of items + (length items - 1) + 2 ≤ pool_blocks old)
    (ready : IsReady state m) (up : m.down ≡ None) where
  abbrev news : List Record
  news = group_of (lane_owner old) m.next items from

  abbrev total : ℕ
  total = count_of items + (length items - 1)

  abbrev next' : ℕ
  next' = m.next + length items

  was_lane : IsReadyLane state m.id m.most old
  was_lane = all_at (IsReadyLane state m.id m.most) m.lanes.items k old lane ready.ready.each

  was_whole : AreWhole (held_in old)
  was_whole = all_at (λ (l : Lane D). AreWhole (held_in l)) m.lanes.items k old lane (ready.up up).whole

  blocks_same : (o n : HeldSegment D) (i : ℕ) → slice_get (held_in old) i ≡ Some o → held_in new ≡ slice_set (held_in old) i n → blocks_of n.segment ≡ blocks_of o.segment
  blocks_same o n i at held = now.blocks ∙ ap (λ (q : LockId PoolBase). q.base.blocks) same.pool.0 ∙ sym was.blocks
    where
      was : IsHeld state (logger_of old) (lane_owner old) (segments_in old) (pool_of old) o
      was = all_at (IsHeld state (logger_of old) (lane_owner old) (segments_in old) (pool_of old)) (held_in old) i o at was_lane.lane.each

      now : IsHeld state (logger_of new) (lane_owner new) (segments_in new) (pool_of new) n
      now = all_at (IsHeld state (logger_of new) (lane_owner new) (segments_in new) (pool_of new)) (held_in new) i n (ap (λ (hs : List (HeldSegment D)). slice_get hs i) held ∙ get_set (held_in old) i o n at) is_lane.each

  -- ---- Its records are listed

  module _ (spot : Spot) (put : PutIn state old new (first_count items) total news (Ok spot)) (recs : List Rec) (recs_is : recs ≡ recs_at m.next items k spot.segment spot.pos) where
    whole_then : PutIn state old new (first_count items) total news (Ok spot) → AreWhole (held_in new)
    whole_then (to_held i o n one at room held grown is) = subst AreWhole (sym held) (all_set (λ (h : HeldSegment D). IsWhole h.segment) (held_in old) i n was_whole grown.whole)
    whole_then (to_new f n none blank held claimed is) = subst AreWhole (sym held) (all_push (λ (h : HeldSegment D). IsWhole h.segment) (held_in old) n was_whole claimed.whole)

    stays : PutIn state old new (first_count items) total news (Ok spot) → (h : HeldSegment D) → Contains (held_in old) h → (n : HeldSegment D) × Contains (held_in new) n × (n.index ≡ h.index) × (blocks_of n.segment ≡ blocks_of h.segment)
    stays (to_held i o n one at room held grown is) h has =
        let s = stays_set (held_in old) i o n at grown.index (blocks_same o n i at held) h has in (s.0, subst (λ (hs : List (HeldSegment D)). Contains hs s.0) (sym held) s.1, s.2, s.3)
    stays (to_new f n none blank held claimed is) h has = let s = stays_push (held_in old) n h has in (s.0, subst (λ (hs : List (HeldSegment D)). Contains hs s.0) (sym held) s.1, s.2, s.3)

    -- the segment that has them
    record Its : Type 0 where
      segment : HeldSegment D
      there : Contains (held_in new) segment
      index : segment.index ≡ spot.segment
      behind : 1 ≤ spot.pos
      within : spot.pos + length items + count_of items ≤ blocks_of segment.segment

    its : PutIn state old new (first_count items) total news (Ok spot) → Its
    its (to_held i o n one at room held grown is) = record {
      segment = n;
      there = subst (λ (hs : List (HeldSegment D)). Contains hs n) (sym held) (member_of (slice_set (held_in old) i n) n i (get_set (held_in old) i o n at));
      index = grown.index ∙ sym is.0;
      behind = let p = was.shape.place.0 in let e = is.1 in omega arith;
      within = let e = is.1 in let b = blocks_same o n i at held in let c = group_some m.most (state_of state m.home).size items some are in let p = was.shape.place.0 in omega (arith, room, e, b, c, p, some);
    }
      where
        was : IsHeld state (logger_of old) (lane_owner old) (segments_in old) (pool_of old) o
        was = all_at (IsHeld state (logger_of old) (lane_owner old) (segments_in old) (pool_of old)) (held_in old) i o at was_lane.lane.each
    its (to_new f n none blank held claimed is) = record {
      segment = n;
      there = subst (λ (hs : List (HeldSegment D)). Contains hs n) (sym held) (Contains-push (held_in old) n);
      index = sym is.0;
      behind = let e = is.1 in omega arith;
      within = let e = is.1 in let b = now.blocks in let p = ap (λ (q : LockId PoolBase). q.base.blocks) same.pool.0 in omega (arith, space, e, b, p, some);
    }
      where
        now : IsHeld state (logger_of new) (lane_owner new) (segments_in new) (pool_of new) n
        now = (all_back (IsHeld state (logger_of new) (lane_owner new) (segments_in new) (pool_of new)) (held_in old) (n ∷ []) (subst (AllByRecursion (IsHeld state (logger_of new) (lane_owner new) (segments_in new) (pool_of new))) held is_lane.each)).0

    each_small : (h : HeldSegment D) → Contains (held_in new) h → blocks_of h.segment ≤ 65536
    each_small h has = (all_member (IsHeld state (logger_of new) (lane_owner new) (segments_in new) (pool_of new)) (held_in new) h is_lane.each has).shape.small.1

    -- they end within a segment
    pub group_position : spot.pos + length items + count_of items ≤ 65536
    group_position = let w = (its put).within in let s = each_small (its put).segment (its put).there in omega arith

    abbrev Good : Rec → Type 0
    Good = IsGood k spot.segment (blocks_of (its put).segment.segment) (state_of state m.home).size 1 next'

    good : AllByRecursion Good recs
    good = subst (AllByRecursion Good) (sym recs_is) (are_good m.most (state_of state m.home).size (blocks_of (its put).segment.segment) 1 next' m.next items k spot.segment spot.pos are (its put).behind (its put).within ready.next.0 (omega arith))

    long : length recs ≡ length items
    long = ap length recs_is ∙ recs_long m.next items k spot.segment spot.pos

    placed_one : (q : Rec) → Good q → IsPlacedIn (slice_set m.lanes.items k new) (entry_of q 0)
    placed_one q is = record {
      lane = new;
      segment = (its put).segment;
      lane_is = ap (slice_get (slice_set m.lanes.items k new)) is.lane_is ∙ get_set m.lanes.items k old new lane;
      held = (its put).there;
      index = (its put).index ∙ sym is.segment_is;
      behind = is.behind;
      within = let l = keep_long q in let w = is.within in omega arith;
    }

    was_counted : AllByRecursion (λ (h : HeldSegment D). valid_of h.segment ≡ entries_at k h.index m.index.entries) (held_in old)
    was_counted = (ready.up up).counted k old lane

    -- in another segment there are as many as before
    others : (i index : ℕ) → (k ≢ i) ⊎ (spot.segment ≢ index) → entries_at i index (entered_all m.index.entries recs) ≡ entries_at i index m.index.entries
    others i index other = not_more k spot.segment (blocks_of (its put).segment.segment) (state_of state m.home).size 1 next' i index other m.index.entries recs good

    -- and in theirs as many more
    theirs : (index : ℕ) → spot.segment ≡ index → entries_at k index (entered_all m.index.entries recs) ≡ entries_at k index m.index.entries + length items
    theirs index here = more_there k spot.segment (blocks_of (its put).segment.segment) (state_of state m.home).size 1 next' index here m.index.entries recs good ∙ ap (λ (c : ℕ). entries_at k index m.index.entries + c) long

    news_long : length news ≡ length items
    news_long = group_long (lane_owner old) m.next items from

    abbrev Counted : HeldSegment D → Type 0
    Counted h = valid_of h.segment ≡ entries_at k h.index (entered_all m.index.entries recs)

    abbrev Was : HeldSegment D → Type 0
    Was h = valid_of h.segment ≡ entries_at k h.index m.index.entries

    counted_then : PutIn state old new (first_count items) total news (Ok spot) → AllByRecursion Counted (held_in new)
    counted_then (to_held i o n one at room held grown is) = subst (AllByRecursion Counted) (sym held) (held_set Counted (held_in old) i n
        (λ l h other there. all_at Was (held_in old) l h there was_counted ∙ sym (others k h.index (inr (λ e. other (same_place (λ (g : HeldSegment D). g.index) (held_in old) (map (λ (t : ℕ × FreeSegment D). t.0) (option_to_list (taken_in old))) l i h o was_lane.lane.apart there at (sym e ∙ is.0))))))
        (let g : valid_of n.segment ≡ valid_of o.segment + length news = grown.valid in let w : valid_of o.segment ≡ entries_at k o.index m.index.entries = all_at Was (held_in old) i o at was_counted in
        let e : entries_at k n.index m.index.entries ≡ entries_at k o.index m.index.entries = ap (λ (x : ℕ). entries_at k x m.index.entries) grown.index in omega (arith, g, w, e, news_long, theirs n.index (is.0 ∙ sym grown.index))))
    counted_then (to_new f n none blank held claimed is) = subst (AllByRecursion Counted) (sym held) (all_push Counted (held_in old) n (olds (held_in old) fresh was_counted)
        (let v : valid_of n.segment ≡ length news = claimed.valid in let z = none_there (λ (e : Indexed). eqb e.listed.lane k && eqb e.index n.index) m.index.entries (all_map (IsPlacedIn m.lanes.items) (λ (e : Indexed). (eqb e.listed.lane k && eqb e.index n.index) ≡ false) elsewhere m.index.entries (ready.up up).placed) in
        omega (arith, v, z, news_long, theirs n.index is.0)))
      where
        fresh : AllByRecursion (λ (h : HeldSegment D). h.index ≢ n.index) (held_in old)
        fresh = apart_last (held_in old) n (map (λ (t : ℕ × FreeSegment D). t.0) (option_to_list (taken_in new))) (subst (λ (hs : List (HeldSegment D)). AreApart (map (λ (h : HeldSegment D). h.index) hs ++ map (λ (t : ℕ × FreeSegment D). t.0) (option_to_list (taken_in new)))) held is_lane.apart)

        olds : (hs : List (HeldSegment D)) → AllByRecursion (λ (h : HeldSegment D). h.index ≢ n.index) hs → AllByRecursion Was hs → AllByRecursion Counted hs
        olds [] apart was = tt
        olds (h ∷ hs) apart was = (was.0 ∙ sym (others k h.index (inr (λ e. apart.0 (sym e ∙ is.0)))), olds hs apart.1 was.1)

        elsewhere : (e : Indexed) → IsPlacedIn m.lanes.items e → (eqb e.listed.lane k && eqb e.index n.index) ≡ false
        elsewhere e p = lies_elsewhere k n.index e (⊎_elim
            (λ here. inr (λ same_index. let is_old : p.lane ≡ old = same_Some p.lane old (sym p.lane_is ∙ ap (slice_get m.lanes.items) here ∙ lane) in
            all_member (λ (h : HeldSegment D). h.index ≢ n.index) (held_in old) p.segment fresh (subst (λ (l : Lane D). Contains (held_in l) p.segment) is_old p.held) (p.index ∙ same_index)))
            (λ other. inl other) (same_or_not e.listed.lane k))

    up_then : IsUp (slice_set m.lanes.items k new) (entered_all m.index.entries recs)
    up_then = record {
      whole = all_set (λ (l : Lane D). AreWhole (held_in l)) m.lanes.items k new (ready.up up).whole (whole_then put);
      counted = counted_set m.lanes.items k old new m.index.entries (entered_all m.index.entries recs) lane (λ i index other. others i index (inl (λ e. other (sym e)))) (counted_then put) (ready.up up).counted;
      placed = all_entered (IsPlacedIn (slice_set m.lanes.items k new)) (λ c e q. record { lane = q.lane; segment = q.segment; lane_is = q.lane_is; held = q.held; index = q.index; behind = q.behind; within = q.within }) m.index.entries recs
          (all_map (IsPlacedIn m.lanes.items) (IsPlacedIn (slice_set m.lanes.items k new)) (placed_set m.lanes.items k old new lane (stays put)) m.index.entries (ready.up up).placed)
          (all_map Good (λ q. IsPlacedIn (slice_set m.lanes.items k new) (entry_of q 0)) placed_one recs good);
    }

    pub group_ready : (v : Vec (Lane D) Global) (index : Contents) (ups : List Bool) → v.items ≡ slice_set m.lanes.items k new → index.entries ≡ entered_all m.index.entries recs → ups ≡ slice_set m.ups.items k true → next' ≤ 2 ^ 63
        → IsReady state (record m { lanes = v; index = index; next = next'; ups = record { items = ups } })
    group_ready v index ups lanes entries flags room = record {
      ready = subst (λ (l : List (Lane D)). Ready state m.id m.most m.home m.spindle l ups m.rooms.items) (sym lanes) (ready_set state m.id m.most m.lanes.items k old new lane same ready.ready is_lane all untaken (ap length flags ∙ length-set m.ups.items k true));
      next = (omega arith, room);
      below = subst (AllByRecursion (λ (e : Indexed). e.listed.version < next')) (sym entries)
          (all_entered (λ (e : Indexed). e.listed.version < next') (λ c e lt. lt) m.index.entries recs (all_map (λ (e : Indexed). e.listed.version < m.next) (λ (e : Indexed). e.listed.version < next') (λ e lt. omega arith) m.index.entries ready.below)
          (all_map Good (λ q. q.version < next') (λ q is. is.below) recs good));
      ranges = subst (AllByRecursion (IsInVolume (state_of state m.home).size)) (sym entries)
          (all_entered (IsInVolume (state_of state m.home).size) (λ c e is. record { least = is.least; lies = is.lies }) m.index.entries recs ready.ranges
          (all_map Good (λ q. IsInVolume (state_of state m.home).size (entry_of q 0)) (λ q is. record { least = is.least; lies = let l = keep_long q in let w = is.lies in omega arith }) recs good));
      up = λ is. subst (λ (l : List (Lane D)). IsUp l index.entries) (sym lanes) (subst (IsUp (slice_set m.lanes.items k new)) (sym entries) up_then);
    }

  -- ---- What it stands for

  -- one segment more was taken at most
  took_few : {tells : Bool} (b : ManagerBase) (notes : List Noted) → Keeps tells state m b notes → (v : Vec (Lane D) Global) → v.items ≡ slice_set m.lanes.items k new → HasTakenWrite (first_count items) old new → (next : ℕ) (down : Option Part)
      → m.next + cond {A = ℕ} (is_some m.down) 1 0 + 1 ≤ next + cond {A = ℕ} (is_some down) 1 0 → takes_of v.items b.lanes + b.volume.began.next ≤ next + cond (is_some down) 1 0
  took_few b notes kp v lanes took next down most =
      let few = kp.taken in
      let s = takes_of_set m.lanes.items b.lanes k 1 old new lane (took_one (first_count items) old new took) in
      let e = ap (λ (l : List (Lane D)). takes_of l b.lanes) lanes in
      omega (arith, few, s, e, most)

  -- with these pieces the manager stands for the entries, where the last one left its look
  stands_so : (tells : Bool) (b : ManagerBase) (notes : List Noted) (nt : Noted) (kp : Keeps tells state m b notes) (v : Vec (Lane D) Global) (index : Contents) (next : ℕ) (ups : List Bool) (down : Option Part) → v.items ≡ slice_set m.lanes.items k new
      → nones_in (pass_mine (pool_of old)) ≤ nones_in (pass_mine (pool_of new)) → Pieces tells state m b (notes ++ nt ∷ []) (slice_set m.lanes.items k new) index.entries next ups down
      → IsReady state (record m { lanes = v; index = index; next = next; ups = record { items = ups }; down = down }) → HasPassed (nones_at v.items b.lanes) (notes ++ nt ∷ [])
      → takes_of v.items b.lanes + b.volume.began.next ≤ next + cond (is_some down) 1 0 → AreStill b.volume.places b.volume.began.next index.entries → nt.look ≡ look_of_manager (record m { lanes = v; index = index; next = next; ups = record { items = ups }; down = down })
      → Stands tells state (record m { lanes = v; index = index; next = next; ups = record { items = ups }; down = down }) b (notes ++ nt ∷ [])
  stands_so tells b notes nt kp v index next ups down lanes more pieces is_ready passed few still look = record {
    keeps = record {
      logs = pieces.logs;
      held = subst (λ (l : List (Lane D)). AllLanesHold (λ h rs. IsTrue tells → down ≡ None → Holds state h.segment rs) l pieces.logs) (sym lanes) pieces.held;
      upholds = subst (λ (l : List (Lane D)). Upholds (parts_of tells state) b.volume.began (record { home = m.home; held = all_held 0 l pieces.logs; taken = all_taken 0 l; indexed = index.entries; next = next; home_up = m.home_up; ups = ups; down = down_of down }) (notes ++ nt ∷ []) (writes (entries_of (notes ++ nt ∷ []))) (flight_of (entries_of (notes ++ nt ∷ []))))
          (sym lanes) pieces.upholds;
      in_use = λ told is. subst (λ (l : List (Lane D)). AreInUse (all_held 0 l pieces.logs)) (sym lanes) (pieces.in_use told is);
      passed = passed;
      taken = few;
      still = still;
      ready = is_ready;
      locks = subst (λ (l : List (Lane D)). Locks m.id m.most m.spindle l b) (sym lanes) (locks_set state m.id m.most m.lanes.items k old new lane same kp.locks more);
    };
    look = last_more b.volume.began.look notes nt ∙ look;
  }

  module _ (tells : Bool) (told : IsTrue tells → (d : D) → TellsContent (state d)) (sound : (d : D) → IsDisk (state d)) (room : next' ≤ 2 ^ 63) (took : HasTakenWrite (first_count items) old new)
      (b : ManagerBase) (notes : List Noted) (nt : Noted) (client : nt.entry.pass ≡ worker) (kp : Keeps tells state m b notes) where
    -- answered
    module _ (spot : Spot) (recs : List Rec) (recs_is : recs ≡ recs_at m.next items k spot.segment spot.pos) (wrote : nt.entry.operation ≡ Wrote (log_writes m.next items from)) (step : IsTrue nt.ruled → IsStep nt nt.entry.pass nt.entry.operation (last_look b.volume.began.look notes) nt.look)
        (look : nt.look ≡ (let l : Look = record { home_up = m.home_up; ups = slice_set m.ups.items k true; next = next'; listed = listed_in (entered_all m.index.entries recs); down = down_of m.down } in l)) where
      written_pieces : PutIn state old new (first_count items) total news (Ok spot) → Pieces tells state m b (notes ++ nt ∷ []) (slice_set m.lanes.items k new) (entered_all m.index.entries recs) next' (slice_set m.ups.items k true) m.down
      written_pieces (to_held i o n one at free held grown is) = group_put tells state m b notes kp up k old new lane is_lane same i o n at held grown.index items some from are enough nt client untaken free room grown.ok grown.whole
          (all_at (λ (h : HeldSegment D). IsWhole h.segment) (held_in old) i o at was_whole) recs (recs_is ∙ (λ t. recs_at m.next items k (is.0 t) (is.1 t))) wrote step look
      written_pieces (to_new f n none blank held claimed is) = group_claimed tells state m b notes kp up k old new lane is_lane same untaken n held items some from are enough space nt client room
          (λ t. let c = claimed.claimed (told t f.part.inner).0 (told t f.part.inner).1 in (c.0, c.1, c.2, c.4)) (λ t. claimed.ok (told t f.part.inner).0 (told t f.part.inner).1) claimed.whole
          recs (recs_is ∙ (λ t. recs_at m.next items k (is.0 t) (is.1 t))) wrote step look

      pub group_stands : PutIn state old new (first_count items) total news (Ok spot) → (v : Vec (Lane D) Global) (index : Contents) (ups : List Bool) → v.items ≡ slice_set m.lanes.items k new → index.entries ≡ entered_all m.index.entries recs → ups ≡ slice_set m.ups.items k true
          → IsReady state (record m { lanes = v; index = index; next = next'; ups = record { items = ups } }) → HasPassed (nones_at v.items b.lanes) (notes ++ nt ∷ [])
          → Stands tells state (record m { lanes = v; index = index; next = next'; ups = record { items = ups } }) b (notes ++ nt ∷ [])
      group_stands put v index ups lanes entries flags is_ready passed = stands_so tells b notes nt kp v index next' ups m.down lanes (taken_same (first_count items) old new took)
          (subst (λ (u : List Bool). Pieces tells state m b (notes ++ nt ∷ []) (slice_set m.lanes.items k new) index.entries next' u m.down) (sym flags)
          (subst (λ (es : List Indexed). Pieces tells state m b (notes ++ nt ∷ []) (slice_set m.lanes.items k new) es next' (slice_set m.ups.items k true) m.down) (sym entries) (written_pieces put)))
          is_ready passed (took_few b notes kp v lanes took next' m.down (omega (arith, some)))
          (subst (AreStill b.volume.places b.volume.began.next) (sym entries) (subst (λ (rs : List Rec). AreStill b.volume.places b.volume.began.next (entered_all m.index.entries rs)) (sym recs_is)
          (still_entered b.volume.places b.volume.began.next m.next (let few = kp.taken in let none = ap (λ (o : Option Part). cond {A = ℕ} (is_some o) 1 0) up in omega (arith, few, none)) items k spot.segment spot.pos m.index.entries kp.still)))
          (look ∙ (λ t. record { home_up = m.home_up; ups = sym flags t; next = next'; listed = listed_in (sym entries t); down = down_of m.down }))

    -- a call failed
    module _ (refusal : ℕ × Failed) (broke : nt.entry.operation ≡ Broke (log_writes m.next items from)) (unruled : nt.after_drain ≡ false) where
      failed_pieces : PutIn state old new (first_count items) total news (Err refusal) → Pieces tells state m b (notes ++ nt ∷ []) (slice_set m.lanes.items k new) m.index.entries m.next m.ups.items (Some (part.Segment (logger_of old) refusal.0))
      failed_pieces (to_held i o n one at free held grown is) = subst (λ (x : ℕ). Pieces tells state m b (notes ++ nt ∷ []) (slice_set m.lanes.items k new) m.index.entries m.next m.ups.items (Some (part.Segment (logger_of old) x))) (sym is)
          (group_put_failed tells state m b notes kp up k old new lane is_lane same i o n at held grown.index items some from are enough nt client untaken sound grown.any_moment grown.broken grown.cause broke unruled)
      failed_pieces (to_new f n none blank held claimed is) = subst (λ (x : ℕ). Pieces tells state m b (notes ++ nt ∷ []) (slice_set m.lanes.items k new) m.index.entries m.next m.ups.items (Some (part.Segment (logger_of old) x))) (sym is)
          (group_claim_failed tells state m b notes kp up k old new lane is_lane same untaken n held items some from are enough space nt client sound f (λ t. claimed.any_moment (told t f.part.inner).0 (told t f.part.inner).1) claimed.broken claimed.cause broke unruled)

      pub group_stands_failed : PutIn state old new (first_count items) total news (Err refusal) → (v : Vec (Lane D) Global) → v.items ≡ slice_set m.lanes.items k new
          → IsReady state (record m { lanes = v; down = Some (part.Segment (logger_of old) refusal.0) }) → HasPassed (nones_at v.items b.lanes) (notes ++ nt ∷ []) → nt.look ≡ look_of_manager (record m { down = Some (part.Segment (logger_of old) refusal.0) })
          → Stands tells state (record m { lanes = v; down = Some (part.Segment (logger_of old) refusal.0) }) b (notes ++ nt ∷ [])
      group_stands_failed put v lanes is_ready passed look = stands_so tells b notes nt kp v m.index m.next m.ups.items (Some (part.Segment (logger_of old) refusal.0)) lanes (taken_same (first_count items) old new took) (failed_pieces put) is_ready passed
          (took_few b notes kp v lanes took m.next (Some (part.Segment (logger_of old) refusal.0)) (let none = ap (λ (o : Option Part). cond {A = ℕ} (is_some o) 1 0) up in omega (arith, none))) kp.still look

  -- ---- Stopped at any moment, and why it failed

  pub group_stops_put : {res : Result Spot (ℕ × Failed)} (tells : Bool) (told : IsTrue tells → (d : D) → TellsContent (state d)) (sound : (d : D) → IsDisk (state d)) → (put : PutIn state old new (first_count items) total news res) → (m' : Manager D) → m'.lanes.items ≡ slice_set m.lanes.items k new → m'.home ≡ m.home
      → IsTrue tells → (b : ManagerBase) (notes : List Noted) → Keeps tells state m b notes → Stops state m m' (put_claimed put) b notes (log_writes m.next items from)
  group_stops_put tells told sound (to_held i o n one at free held grown is) m' lanes home t b notes kp = group_held_stops tells state sound t m b notes kp up k old new lane m' lanes home is_lane same items from are enough i o n at held grown.index grown.any_moment
  group_stops_put tells told sound (to_new f n none blank held claimed is) m' lanes home t b notes kp = group_claim_stops tells state sound t m b notes kp up k old new lane m' lanes home is_lane same items from are enough untaken f n held (claimed.any_moment (told t f.part.inner).0 (told t f.part.inner).1)

  pub group_cause : (refusal : ℕ × Failed) → PutIn state old new (first_count items) total news (Err refusal) → (m' : Manager D) → m'.lanes.items ≡ slice_set m.lanes.items k new → PartRoseOrClaimed state m m' (part.Segment (logger_of old) refusal.0)
  group_cause refusal (to_held i o n one at free held grown is) m' lanes = inl (segment_rose state m.lanes.items m'.lanes.items k i old new o n lane lanes at held _ _ refl is grown.cause)
  group_cause refusal (to_new f n none blank held claimed is) m' lanes = inr (record {
    lane = lane_since m.lanes.items m'.lanes.items k old new (logger_of old) lane lanes refl;
    free = f;
    segment = n;
    was_apart = subst (λ (x : ℕ). AllByRecursion (λ (h : HeldSegment D). h.index ≢ x) (held_in old)) (sym is)
        (apart_last (held_in old) n (map (λ (t : ℕ × FreeSegment D). t.0) (option_to_list (taken_in new))) (subst (λ (hs : List (HeldSegment D)). AreApart (map (λ (h : HeldSegment D). h.index) hs ++ map (λ (t : ℕ × FreeSegment D). t.0) (option_to_list (taken_in new)))) held is_lane.apart));
    is_there = subst (λ (hs : List (HeldSegment D)). Contains hs n) (sym held) (Contains-push (held_in old) n);
    named = is;
    volume = sym claimed.volume;
    rose = claimed.cause;
  })

pub all_taken_front : {X : Type 0} (P : X → Type 0) (n : ℕ) (xs : List X) → AllByRecursion P xs → AllByRecursion P (take n xs)
all_taken_front P zero xs all = tt
all_taken_front P (suc n) [] all = tt
all_taken_front P (suc n) (x ∷ xs) all = (all.0, all_taken_front P n xs all.1)

-- items of a volume are those that a log takes
pub items_small : (most size : ℕ) → most ≤ 128 → size ≤ 2 ^ 32 → (items : List Item) → AreItemsOf most size items → AreItems items
items_small most size few small [] are = tt
items_small most size few small (i ∷ items) are = ((are.0.some, (let f = are.0.few in omega arith), (let w = are.0.within in omega arith)), items_small most size few small items are.1)

pub first_few : (most size : ℕ) (items : List Item) → AreItemsOf most size items → first_count items ≤ most
first_few most size [] are = omega arith
first_few most size (i ∷ items) are = are.0.few

module _ {D : Type 0} (state : D → State) (m : Manager D) (k : ℕ) (old new : Lane D) (lane : slice_get m.lanes.items k ≡ Some old) (is_lane : IsLane state new) (same : IsSameLane old new) (all : HoldsAll old → HoldsAll new) (untaken : taken_in new ≡ None)
    (ready : IsReady state m) where
  pub offered_unready : (v : Vec (Lane D) Global) → v.items ≡ slice_set m.lanes.items k new → (p : Part) → IsReady state (record m { lanes = v; down = Some p })
  offered_unready v lanes p = record {
    ready = subst (λ (l : List (Lane D)). Ready state m.id m.most m.home m.spindle l m.ups.items m.rooms.items) (sym lanes) (ready_set state m.id m.most m.lanes.items k old new lane same ready.ready is_lane all untaken refl);
    next = ready.next;
    below = ready.below;
    ranges = ready.ranges;
    up = λ is. absurd (let no : Some p ≡ None = is in cc);
  }

  module _ (items : List Item) (n : ℕ) (one : 1 ≤ n) (le : n ≤ length items) (from : List Block) (are : AreItemsOf m.most (state_of state m.home).size items) (enough : count_of items ≤ length from)
      (space : room_for (take n items) + 2 ≤ pool_blocks old) (up : m.down ≡ None) where
    abbrev gs : List Item
    gs = take n items

    gs_long : length gs ≡ n
    gs_long = length-take-le n items le

    some : 1 ≤ length gs
    some = let l = gs_long in omega arith

    are_gs : AreItemsOf m.most (state_of state m.home).size gs
    are_gs = all_taken_front (IsItemOf m.most (state_of state m.home).size) n items are

    enough_gs : count_of gs ≤ length from
    enough_gs = let l = sum_by-take-le (λ (i : Item). i.count) items n in omega arith

    abbrev offered_news : List Record
    offered_news = group_of (lane_owner old) m.next gs from

    pub offered_position : (spot : Spot) → PutIn state old new (first_count gs) (room_for gs) offered_news (Ok spot) → spot.pos + length gs + count_of gs ≤ 65536
    offered_position spot put = group_position state m k old new lane is_lane same all untaken gs some from are_gs enough_gs space ready up spot put (recs_at m.next gs k spot.segment spot.pos) refl

    -- the manager with n versions more
    abbrev then_ : (v : Vec (Lane D) Global) (index : Contents) (ups : List Bool) → ℕ → Manager D
    then_ v index ups count = record m { lanes = v; index = index; next = m.next + count; ups = record { items = ups } }

    module _ (spot : Spot) (put : PutIn state old new (first_count gs) (room_for gs) offered_news (Ok spot)) (v : Vec (Lane D) Global) (index : Contents) (ups : List Bool) (lanes : v.items ≡ slice_set m.lanes.items k new)
        (entries : index.entries ≡ entered_all m.index.entries (recs_at m.next gs k spot.segment spot.pos)) (flags : ups ≡ slice_set m.ups.items k true) (room : m.next + n ≤ 2 ^ 63) where
      ready_long : IsReady state (then_ v index ups (length gs))
      ready_long = group_ready state m k old new lane is_lane same all untaken gs some from are_gs enough_gs space ready up spot put (recs_at m.next gs k spot.segment spot.pos) refl v index ups lanes entries flags (let l = gs_long in omega arith)

      pub offered_ready : IsReady state (then_ v index ups n)
      offered_ready = subst (λ (c : ℕ). IsReady state (then_ v index ups c)) gs_long ready_long

      pub offered_look : look_of_manager (then_ v index ups n) ≡ placed_all (Log k) (look_of_manager m) (log_writes m.next gs from)
      offered_look = (λ i. record { home_up = m.home_up; ups = flags i; next = m.next + sym gs_long i; listed = listed_in (entries i); down = down_of m.down })
          ∙ group_look_woken m.next gs from m.index.entries m.home_up m.ups.items (down_of m.down) k spot.segment spot.pos some enough_gs

      pub offered_stands : (tells : Bool) (told : IsTrue tells → (d : D) → TellsContent (state d)) (sound : (d : D) → IsDisk (state d)) (took : HasTakenWrite (first_count gs) old new)
          (b : ManagerBase) (notes : List Noted) (nt : Noted) → nt.entry.pass ≡ worker → Keeps tells state m b notes → nt.entry.operation ≡ Wrote (log_writes m.next gs from)
          → (IsTrue nt.ruled → IsStep nt nt.entry.pass nt.entry.operation (last_look b.volume.began.look notes) nt.look) → nt.look ≡ look_of_manager (then_ v index ups n) → HasPassed (nones_at v.items b.lanes) (notes ++ nt ∷ [])
          → Stands tells state (then_ v index ups n) b (notes ++ nt ∷ [])
      offered_stands tells told sound took b notes nt client kp wrote step look passed = subst (λ (c : ℕ). Stands tells state (then_ v index ups c) b (notes ++ nt ∷ [])) gs_long
          (group_stands state m k old new lane is_lane same all untaken gs some from are_gs enough_gs space ready up tells told sound (let l = gs_long in omega arith) took b notes nt client kp
          spot (recs_at m.next gs k spot.segment spot.pos) refl wrote step
          (look ∙ (λ i. record { home_up = m.home_up; ups = flags i; next = m.next + sym gs_long i; listed = listed_in (entries i); down = down_of m.down }))
          put v index ups lanes entries flags ready_long passed)

    module _ (tells : Bool) (told : IsTrue tells → (d : D) → TellsContent (state d)) (sound : (d : D) → IsDisk (state d)) where
      pub offered_failed : (room : m.next + n ≤ 2 ^ 63) (took : HasTakenWrite (first_count gs) old new) (b : ManagerBase) (notes : List Noted) (nt : Noted) → nt.entry.pass ≡ worker → Keeps tells state m b notes
          → (refusal : ℕ × Failed) → nt.entry.operation ≡ Broke (log_writes m.next gs from) → nt.after_drain ≡ false → PutIn state old new (first_count gs) (room_for gs) offered_news (Err refusal)
          → (v : Vec (Lane D) Global) → v.items ≡ slice_set m.lanes.items k new → HasPassed (nones_at v.items b.lanes) (notes ++ nt ∷ []) → nt.look ≡ look_of_manager (record m { down = Some (part.Segment (logger_of old) refusal.0) })
          → Stands tells state (record m { lanes = v; down = Some (part.Segment (logger_of old) refusal.0) }) b (notes ++ nt ∷ [])
      offered_failed room took b notes nt client kp refusal broke unruled put v lanes passed look =
          group_stands_failed state m k old new lane is_lane same all untaken gs some from are_gs enough_gs space ready up tells told sound (let l = gs_long in omega arith) took b notes nt client kp
          refusal broke unruled put v lanes (offered_unready v lanes (part.Segment (logger_of old) refusal.0)) passed look

      pub offered_stops : {res : Result Spot (ℕ × Failed)} → (put : PutIn state old new (first_count gs) (room_for gs) offered_news res) → (m' : Manager D) → m'.lanes.items ≡ slice_set m.lanes.items k new → m'.home ≡ m.home
          → IsTrue tells → (b : ManagerBase) (notes : List Noted) → Keeps tells state m b notes → Stops state m m' (put_claimed put) b notes (log_writes m.next gs from)
      offered_stops put m' lanes home = group_stops_put state m k old new lane is_lane same all untaken gs some from are_gs enough_gs space ready up tells told sound put m' lanes home

    pub offered_cause : (refusal : ℕ × Failed) → PutIn state old new (first_count gs) (room_for gs) offered_news (Err refusal) → (m' : Manager D) → m'.lanes.items ≡ slice_set m.lanes.items k new → PartRoseOrClaimed state m m' (part.Segment (logger_of old) refusal.0)
    offered_cause = group_cause state m k old new lane is_lane same all untaken gs some from are_gs enough_gs space ready up
