-- A record gave up what goes: what holds of the manager between its calls then, whether its segment stays in the lane or went to the pool.
use Rattle.std.proofs.Common.{◌≡◌, ◌≢◌, ◌⊎◌, inl, inr, ⊎_elim, ◌<◌, ◌≤◌, ◌+◌, ◌-◌, ◌^◌, ℕ, Bool, true, false, cond, not, ◌&&◌, List, ◌∷◌, ◌++◌, map, length, None, Some, refl, sym, ap, subst, ◌∙◌, arith, eqb, bit_and}
use Rattle.std.specs.Prelude.{Contains, slice_get, slice_set, remove}
use Rattle.std.specs.Int.{bit_not, w128}
use Rattle.std.specs.List.{AllByRecursion, count_by}
use Rattle.std.specs.Option.{option_to_list}
use Rattle.std.specs.Vec.{with_item}
use Rattle.std.proofs.Math.ListN.{length-set}
use Rattle.std.proofs.lemmas.Bool.{eq-eqb, ne_eqb, cases_eq}
use Rattle.turn_lock.specs.LockIds.{LockId}
use Rattle.seg_pool.specs.declared.base.PoolBase.{PoolBase}
use Rattle.wol_disk.specs.Disk.{State}
use Rattle.wol_model.specs.Index.{Indexed, listed_in, goes}
use Rattle.wol_promise.proofs.Lists.{all_map}
use Rattle.spin_model.specs.Spun.{state_of}
use Rattle.log_segment.specs.Segment.{IsWhole, blocks_of, valid_of}
use Rattle.log_segment.specs.declared.free.FreeSegment.{FreeSegment}
use Rattle.block_cells.specs.Masks.{IsMask}
use Rattle.block_cells.specs.declared.record.Rec.{Rec}
use Rattle.redirect_map.specs.Index.{Contents, IsIndex, IsRecordOf}
use Rattle.logger.specs.Lanes.{IsLane, HoldsAll, IsHeld, IsSameLane, AreWhole, held_in, taken_in, lane_owner, logger_of, segments_in, pool_of}
use Rattle.logger.specs.declared.lane.HeldSegment.{HeldSegment}
use Rattle.logger.specs.declared.lane.Lane.{Lane}
use Rattle.logger.proofs.Indexes.{same_place}
use Rattle.manager.specs.Reclaim.{given_of, with_kept}
use Rattle.manager.specs.Stands.{IsReady, IsReadyLane, IsUp, IsPlacedIn, IsInVolume, entries_at}
use Rattle.manager.specs.declared.manager.Manager.{Manager}
use Rattle.manager.specs.declared.part.Part.{Part}
use Rattle.volume_parts.proofs.Entries.{count_mid, one_there, lies_there, not_there as lies_elsewhere, At, among, keeps_is, given_list, none_here, all_given, long_kept, nothing_of}
use Rattle.manager.proofs.GoneSegment.{up_without}
use Rattle.volume_parts.proofs.Lanes.{counted_set, held_set, ready_set, placed_set, stays_set}
use Rattle.volume_parts.proofs.Elements.{all_at, all_set, get_set}

-- ---- the call

module _ {D : Type 0} (state : D → State) (m : Manager D) (ready : IsReady state m) (up : m.down ≡ None) (k : ℕ) (old : Lane D) (lane : slice_get m.lanes.items k ≡ Some old)
    (version : ℕ) (e : Indexed) (index : IsIndex m.index.entries) (at : At m.index.entries version e) (few : length e.listed.keep ≤ 128) (lane_is : e.listed.lane ≡ k) (r : Rec) (rec : IsRecordOf e r)
    (given : ℕ) (fits : given < 2 ^ 128) (bits : IsMask e.listed.first (goes (listed_in m.index.entries) e.listed) given)
    (i : ℕ) (o : HeldSegment D) (there : slice_get (held_in old) i ≡ Some o) (index_is : e.index ≡ o.index) where
  abbrev keep : ℕ
  keep = bit_and r.keep (bit_not w128 given)

  was_lane : IsReadyLane state m.id m.most old
  was_lane = all_at (IsReadyLane state m.id m.most) m.lanes.items k old lane ready.ready.each

  was_held : IsHeld state (logger_of old) (lane_owner old) (segments_in old) (pool_of old) o
  was_held = all_at (IsHeld state (logger_of old) (lane_owner old) (segments_in old) (pool_of old)) (held_in old) i o there was_lane.lane.each

  -- ---- how many entries each segment has then

  counts_then : (j x : ℕ) → entries_at j x (given_of version m.index.entries) + cond (eqb (bit_and r.keep (bit_not w128 given)) 0) (cond (eqb e.listed.lane j && eqb e.index x) 1 0) 0 ≡ entries_at j x m.index.entries
  counts_then j x = by (eqb keep 0) refl
    where
      test : Indexed → Bool
      test d = eqb d.listed.lane j && eqb d.index x

      was : count_by (λ (d : Indexed). eqb d.listed.lane j && eqb d.index x) m.index.entries ≡ count_by (λ (d : Indexed). eqb d.listed.lane j && eqb d.index x) (at.front ++ at.back) + cond (eqb e.listed.lane j && eqb e.index x) 1 0
      was = ap (count_by (λ (d : Indexed). eqb d.listed.lane j && eqb d.index x)) at.is ∙ count_mid (λ (d : Indexed). eqb d.listed.lane j && eqb d.index x) at.front e at.back

      by : (t : Bool) → eqb (bit_and r.keep (bit_not w128 given)) 0 ≡ t → entries_at j x (given_of version m.index.entries) + cond t (cond (eqb e.listed.lane j && eqb e.index x) 1 0) 0 ≡ entries_at j x m.index.entries
      by true none =
          let g : entries_at j x (given_of version m.index.entries) ≡ entries_at j x (at.front ++ at.back) = ap (entries_at j x) (given_list m.index.entries version e index at false (sym (keeps_is m.index.entries e r rec few given fits bits) ∙ ap not none)) in
          ap (λ (c : ℕ). c + cond (eqb e.listed.lane j && eqb e.index x) 1 0) g ∙ sym was
      by false some =
          let g : entries_at j x (given_of version m.index.entries) ≡ entries_at j x (at.front ++ with_kept m.index.entries e ∷ at.back) = ap (entries_at j x) (given_list m.index.entries version e index at true (sym (keeps_is m.index.entries e r rec few given fits bits) ∙ ap not some)) in
          let mid : entries_at j x (at.front ++ with_kept m.index.entries e ∷ at.back) ≡ entries_at j x (at.front ++ at.back) + cond (eqb e.listed.lane j && eqb e.index x) 1 0 = count_mid (λ (d : Indexed). eqb d.listed.lane j && eqb d.index x) at.front (with_kept m.index.entries e) at.back in
          let w : entries_at j x m.index.entries ≡ entries_at j x (at.front ++ at.back) + cond (eqb e.listed.lane j && eqb e.index x) 1 0 = was in
          omega (arith, g, mid, w)

  counts_elsewhere : (j x : ℕ) → (e.listed.lane ≢ j) ⊎ (e.index ≢ x) → entries_at j x (given_of version m.index.entries) ≡ entries_at j x m.index.entries
  counts_elsewhere j x other =
      let c = counts_then j x in
      let z : cond (eqb (bit_and r.keep (bit_not w128 given)) 0) (cond (eqb e.listed.lane j && eqb e.index x) 1 0) 0 ≡ 0 = ap (λ (t : Bool). cond (eqb (bit_and r.keep (bit_not w128 given)) 0) (cond {A = ℕ} t 1 0) 0) (lies_elsewhere j x e other) ∙ nothing_of (eqb (bit_and r.keep (bit_not w128 given)) 0) in
      omega (arith, c, z)

  counts_here : entries_at k o.index (given_of version m.index.entries) + cond (eqb (bit_and r.keep (bit_not w128 given)) 0) 1 0 ≡ entries_at k o.index m.index.entries
  counts_here = ap (λ (t : Bool). entries_at k o.index (given_of version m.index.entries) + cond (eqb (bit_and r.keep (bit_not w128 given)) 0) (cond {A = ℕ} t 1 0) 0) (sym (lies_there k o.index e lane_is index_is)) ∙ counts_then k o.index

  was_counted : AllByRecursion (λ (h : HeldSegment D). valid_of h.segment ≡ entries_at k h.index m.index.entries) (held_in old)
  was_counted = (ready.up up).counted k old lane

  was_valid : valid_of o.segment ≡ entries_at k o.index m.index.entries
  was_valid = all_at (λ (h : HeldSegment D). valid_of h.segment ≡ entries_at k h.index m.index.entries) (held_in old) i o there was_counted

  pub one_valid : 1 ≤ valid_of o.segment
  one_valid = let one = one_there (λ (d : Indexed). eqb d.listed.lane k && eqb d.index o.index) m.index.entries e (among at) (lies_there k o.index e lane_is index_is) in let w = was_valid in omega (arith, w, one)

  was_whole : AreWhole (held_in old)
  was_whole = all_at (λ (l : Lane D). AreWhole (held_in l)) m.lanes.items k old lane (ready.up up).whole

  -- each entry has the place that it had
  placed_as : (lanes : List (Lane D)) (d : Indexed) → IsPlacedIn lanes d → IsPlacedIn lanes (with_kept m.index.entries d)
  placed_as lanes d p = record {
    lane = p.lane;
    segment = p.segment;
    lane_is = p.lane_is;
    held = p.held;
    index = p.index;
    behind = p.behind;
    within = subst (λ (n : ℕ). d.pos + n < blocks_of p.segment.segment) (sym (long_kept m.index.entries d)) p.within;
  }

  module _ (new : Lane D) (is_lane : IsLane state new) (same : IsSameLane old new) (untaken : taken_in new ≡ None) where
    -- ---- the segment stays in the lane

    module _ (n : HeldSegment D) (held : held_in new ≡ slice_set (held_in old) i n) (same_index : n.index ≡ o.index) (whole : IsWhole n.segment)
        (fewer : valid_of n.segment ≡ valid_of o.segment - cond (eqb (bit_and r.keep (bit_not w128 given)) 0) 1 0) where
      now_held : IsHeld state (logger_of new) (lane_owner new) (segments_in new) (pool_of new) n
      now_held = all_at (IsHeld state (logger_of new) (lane_owner new) (segments_in new) (pool_of new)) (held_in new) i n (ap (λ (hs : List (HeldSegment D)). slice_get hs i) held ∙ get_set (held_in old) i o n there) is_lane.each

      same_blocks : blocks_of n.segment ≡ blocks_of o.segment
      same_blocks = now_held.blocks ∙ ap (λ (q : LockId PoolBase). q.base.blocks) same.pool.0 ∙ sym was_held.blocks

      -- as many as the index has
      pub valid_now : valid_of n.segment ≡ entries_at k o.index (given_of version m.index.entries)
      valid_now = let h = counts_here in let w = was_valid in let f = fewer in omega (arith, h, w, f)

      counted_now : AllByRecursion (λ (h : HeldSegment D). valid_of h.segment ≡ entries_at k h.index (given_of version m.index.entries)) (held_in new)
      counted_now = subst (AllByRecursion (λ (h : HeldSegment D). valid_of h.segment ≡ entries_at k h.index (given_of version m.index.entries))) (sym held)
          (held_set (λ (h : HeldSegment D). valid_of h.segment ≡ entries_at k h.index (given_of version m.index.entries)) (held_in old) i n
          (λ j h other is. all_at (λ (h : HeldSegment D). valid_of h.segment ≡ entries_at k h.index m.index.entries) (held_in old) j h is was_counted
          ∙ sym (counts_elsewhere k h.index (inr (λ (x : e.index ≡ h.index). other (same_place (λ (g : HeldSegment D). g.index) (held_in old) (map (λ (t : ℕ × FreeSegment D). t.0) (option_to_list (taken_in old))) j i h o was_lane.lane.apart is there (sym x ∙ index_is))))))
          (valid_now ∙ ap (λ (x : ℕ). entries_at k x (given_of version m.index.entries)) (sym same_index)))

      stays : (h : HeldSegment D) → Contains (held_in old) h → (t : HeldSegment D) × Contains (held_in new) t × (t.index ≡ h.index) × (blocks_of t.segment ≡ blocks_of h.segment)
      stays h has = let s = stays_set (held_in old) i o n there same_index same_blocks h has in (s.0, subst (λ (hs : List (HeldSegment D)). Contains hs s.0) (sym held) s.1, s.2, s.3)

      pub up_in_place : IsUp (slice_set m.lanes.items k new) (given_of version m.index.entries)
      up_in_place = record {
        whole = all_set (λ (l : Lane D). AreWhole (held_in l)) m.lanes.items k new (ready.up up).whole (subst AreWhole (sym held) (all_set (λ (h : HeldSegment D). IsWhole h.segment) (held_in old) i n was_whole whole));
        placed = all_given (IsPlacedIn (slice_set m.lanes.items k new)) version m.index.entries (placed_as (slice_set m.lanes.items k new))
            (all_map (IsPlacedIn m.lanes.items) (IsPlacedIn (slice_set m.lanes.items k new)) (placed_set m.lanes.items k old new lane stays) m.index.entries (ready.up up).placed);
        counted = counted_set m.lanes.items k old new m.index.entries (given_of version m.index.entries) lane (λ j x other. counts_elsewhere j x (inl (λ (is : e.listed.lane ≡ j). other (sym is ∙ lane_is)))) counted_now (ready.up up).counted;
      }

    -- ---- the segment went to the pool

    module _ (held : held_in new ≡ remove (held_in old) i) (fewer : valid_of o.segment - cond (eqb (bit_and r.keep (bit_not w128 given)) 0) 1 0 ≡ 0) where
      pub nothing_kept : bit_and r.keep (bit_not w128 given) ≡ 0
      nothing_kept = ⊎_elim (λ is. is)
          (λ not_. absurd (let z : cond (eqb (bit_and r.keep (bit_not w128 given)) 0) 1 0 ≡ 0 = ap (λ (t : Bool). cond {A = ℕ} t 1 0) (ne_eqb (bit_and r.keep (bit_not w128 given)) 0 not_) in let f = fewer in let one = one_valid in omega (arith, z, f, one)))
          (cases_eq (bit_and r.keep (bit_not w128 given)) 0)

      -- the index has no entry there then
      pub none_left : entries_at k o.index (given_of version m.index.entries) ≡ 0
      none_left =
          let z : cond (eqb (bit_and r.keep (bit_not w128 given)) 0) 1 0 ≡ 1 = ap (λ (t : Bool). cond {A = ℕ} t 1 0) (eq-eqb (bit_and r.keep (bit_not w128 given)) 0 nothing_kept) in
          let h = counts_here in let w = was_valid in let f = fewer in omega (arith, z, h, w, f)

      pub up_less : IsUp (slice_set m.lanes.items k new) (given_of version m.index.entries)
      up_less = up_without state m ready up k old new lane i o there held (given_of version m.index.entries)
          (λ j x other. counts_elsewhere j x (⊎_elim (λ lane'. inl (λ is. lane' (sym is ∙ lane_is))) (λ index'. inr (λ is. index' (sym is ∙ index_is))) other))
          (all_given (IsPlacedIn m.lanes.items) version m.index.entries (placed_as m.lanes.items) (ready.up up).placed) (none_here (λ (d : Indexed). eqb d.listed.lane k && eqb d.index o.index) (given_of version m.index.entries) none_left)

-- ---- ready again

module _ {D : Type 0} (state : D → State) (m : Manager D) (ready : IsReady state m) (k : ℕ) (old new : Lane D) (lane : slice_get m.lanes.items k ≡ Some old) (is_lane : IsLane state new) (same : IsSameLane old new) (all : HoldsAll old → HoldsAll new) (untaken : taken_in new ≡ None)
    (ups : List Bool) (flags : ups ≡ slice_set m.ups.items k true) where
  -- with the index that gave up what goes
  pub ready_given : (version : ℕ) (index : Contents) → index.entries ≡ given_of version m.index.entries → IsUp (slice_set m.lanes.items k new) (given_of version m.index.entries)
      → IsReady state (record m { lanes = with_item m.lanes k new; index = index; ups = record { items = ups } })
  ready_given version index entries is_up = record {
    ready = ready_set state m.id m.most m.lanes.items k old new lane same ready.ready is_lane all untaken (ap length flags ∙ length-set m.ups.items k true);
    next = ready.next;
    below = subst (AllByRecursion (λ (d : Indexed). d.listed.version < m.next)) (sym entries) (all_given (λ (d : Indexed). d.listed.version < m.next) version m.index.entries (λ d lt. lt) ready.below);
    ranges = subst (AllByRecursion (IsInVolume (state_of state m.home).size)) (sym entries) (all_given (IsInVolume (state_of state m.home).size) version m.index.entries
        (λ d is. record { least = is.least; lies = subst (λ (n : ℕ). d.listed.first + n ≤ (state_of state m.home).size) (sym (long_kept m.index.entries d)) is.lies }) ready.ranges);
    up = λ none. subst (IsUp (slice_set m.lanes.items k new)) (sym entries) is_up;
  }

  -- after a call that failed
  pub ready_broken : (p : Part) → IsReady state (record m { lanes = with_item m.lanes k new; ups = record { items = ups }; down = Some p })
  ready_broken p = record {
    ready = ready_set state m.id m.most m.lanes.items k old new lane same ready.ready is_lane all untaken (ap length flags ∙ length-set m.ups.items k true);
    next = ready.next;
    below = ready.below;
    ranges = ready.ranges;
    up = λ is. absurd (let no : Some p ≡ None = is in cc);
  }
