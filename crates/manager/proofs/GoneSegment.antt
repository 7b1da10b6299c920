-- A segment is gone from its lane: what holds of the others, and of entries that lie in them.
use Rattle.std.proofs.Common.{◌≡◌, ◌≢◌, ◌⊎◌, inl, inr, ⊎_elim, ℕ, false, ◌&&◌, List, map, None, sym, ap, subst, ◌∙◌, eqb}
use Rattle.std.specs.Prelude.{Contains, slice_get, slice_set, remove, Some}
use Rattle.std.specs.List.{AllByRecursion}
use Rattle.std.specs.Option.{option_to_list}
use Rattle.std.proofs.lemmas.Bool.{false≢true}
use Rattle.std.proofs.lemmas.Option.{same_Some}
use Rattle.wol_disk.specs.Disk.{State}
use Rattle.wol_model.specs.Index.{Indexed}
use Rattle.log_segment.specs.Segment.{IsWhole, valid_of}
use Rattle.log_segment.specs.declared.free.FreeSegment.{FreeSegment}
use Rattle.logger.specs.Lanes.{AreWhole, held_in, taken_in}
use Rattle.logger.specs.declared.lane.HeldSegment.{HeldSegment}
use Rattle.logger.specs.declared.lane.Lane.{Lane}
use Rattle.logger.proofs.Indexes.{lacks_removed}
use Rattle.manager.specs.Stands.{IsReady, IsReadyLane, IsUp, IsPlacedIn, entries_at}
use Rattle.manager.specs.declared.manager.Manager.{Manager}
use Rattle.volume_parts.proofs.Entries.{lies_there}
use Rattle.volume_parts.proofs.Lanes.{counted_set}
use Rattle.volume_parts.proofs.Elements.{all_at, all_set, get_set, get_other, same_or_not, all_removed, member_removed, all_both}

-- another index, which has as many entries in each other segment and none in this one
module _ {D : Type 0} (state : D → State) (m : Manager D) (ready : IsReady state m) (up : m.down ≡ None) (k : ℕ) (old new : Lane D) (lane : slice_get m.lanes.items k ≡ Some old)
    (i : ℕ) (o : HeldSegment D) (there : slice_get (held_in old) i ≡ Some o) (held : held_in new ≡ remove (held_in old) i) (left : List Indexed)
    (counts : (j x : ℕ) → (j ≢ k) ⊎ (x ≢ o.index) → entries_at j x left ≡ entries_at j x m.index.entries) where
  others_indexed : AllByRecursion (λ (h : HeldSegment D). h.index ≢ o.index) (remove (held_in old) i)
  others_indexed = (lacks_removed (λ (g : HeldSegment D). g.index) (held_in old) (map (λ (t : ℕ × FreeSegment D). t.0) (option_to_list (taken_in old))) i o
      (all_at (IsReadyLane state m.id m.most) m.lanes.items k old lane ready.ready.each).lane.apart there).0

  counted_less : AllByRecursion (λ (h : HeldSegment D). valid_of h.segment ≡ entries_at k h.index left) (held_in new)
  counted_less = subst (AllByRecursion (λ (h : HeldSegment D). valid_of h.segment ≡ entries_at k h.index left)) (sym held)
      (all_both (λ (h : HeldSegment D). h.index ≢ o.index) (λ (h : HeldSegment D). valid_of h.segment ≡ entries_at k h.index m.index.entries) (λ (h : HeldSegment D). valid_of h.segment ≡ entries_at k h.index left)
      (λ h other was. was ∙ sym (counts k h.index (inr other))) (remove (held_in old) i) others_indexed
      (all_removed (λ (h : HeldSegment D). valid_of h.segment ≡ entries_at k h.index m.index.entries) (held_in old) i ((ready.up up).counted k old lane)))

  -- an entry that lies elsewhere has its place still
  placed_less : (d : Indexed) → IsPlacedIn m.lanes.items d → (eqb d.listed.lane k && eqb d.index o.index) ≡ false → IsPlacedIn (slice_set m.lanes.items k new) d
  placed_less d p not_there = ⊎_elim
      (λ (here : d.listed.lane ≡ k). moved here)
      (λ (other : d.listed.lane ≡ k → ⊥). record { lane = p.lane; segment = p.segment; lane_is = get_other m.lanes.items k d.listed.lane new other ∙ p.lane_is; held = p.held; index = p.index; behind = p.behind; within = p.within })
      (same_or_not d.listed.lane k)
    where
      moved : d.listed.lane ≡ k → IsPlacedIn (slice_set m.lanes.items k new) d
      moved here =
          let is_old : p.lane ≡ old = same_Some p.lane old (sym p.lane_is ∙ ap (slice_get m.lanes.items) here ∙ lane) in
          record {
            lane = new;
            segment = p.segment;
            lane_is = ap (slice_get (slice_set m.lanes.items k new)) here ∙ get_set m.lanes.items k old new lane;
            held = ⊎_elim
                (λ stays. subst (λ (hs : List (HeldSegment D)). Contains hs p.segment) (sym held) stays)
                (λ (is_o : o ≡ p.segment). absurd (false≢true (sym not_there ∙ lies_there k o.index d here (sym p.index ∙ ap (λ (h : HeldSegment D). h.index) (sym is_o)))))
                (member_removed (held_in old) i o p.segment there (subst (λ (l : Lane D). Contains (held_in l) p.segment) is_old p.held));
            index = p.index;
            behind = p.behind;
            within = p.within;
          }

  pub up_without : AllByRecursion (IsPlacedIn m.lanes.items) left → AllByRecursion (λ (d : Indexed). (eqb d.listed.lane k && eqb d.index o.index) ≡ false) left → IsUp (slice_set m.lanes.items k new) left
  up_without placed elsewhere = let u = ready.up up in record {
    whole = all_set (λ (l : Lane D). AreWhole (held_in l)) m.lanes.items k new u.whole
        (subst AreWhole (sym held) (all_removed (λ (h : HeldSegment D). IsWhole h.segment) (held_in old) i (all_at (λ (l : Lane D). AreWhole (held_in l)) m.lanes.items k old lane u.whole)));
    placed = all_both (IsPlacedIn m.lanes.items) (λ (d : Indexed). (eqb d.listed.lane k && eqb d.index o.index) ≡ false) (IsPlacedIn (slice_set m.lanes.items k new)) placed_less left placed elsewhere;
    counted = counted_set m.lanes.items k old new m.index.entries left lane (λ j x other. counts j x (inl other)) counted_less u.counted;
  }
