-- Calls in which no count of faults rose, and in which a segment's did.
use Rattle.std.proofs.Common.{◌≡◌, ⊎_elim, ℕ, List, Some, sym, ap, subst, ◌∙◌}
use Rattle.std.specs.Prelude.{slice_get, slice_set}
use Rattle.std.specs.List.{AllZip}
use Rattle.std.proofs.lemmas.Option.{same_Some}
use Rattle.wol_disk.specs.Disk.{State, Rose}
use Rattle.wol_promise.proofs.Lists.{member_of}
use Rattle.spin_model.specs.Spun.{state_of}
use Rattle.spin_model.specs.declared.spun.Spun.{Spun}
use Rattle.log_segment.specs.Segment.{disk_of}
use Rattle.logger.specs.Lanes.{IsLane, held_in, logger_of}
use Rattle.logger.specs.declared.lane.HeldSegment.{HeldSegment}
use Rattle.logger.specs.declared.lane.Lane.{Lane}
use Rattle.manager.specs.Causes.{AreCalm, LaneSince, NoneRose, SegmentRose}
use Rattle.manager.specs.Reading.{LaneRead, SegmentRead, IsReadThrough}
use Rattle.manager.specs.Stands.{IsReady, IsReadyLane}
use Rattle.manager.specs.declared.manager.Manager.{Manager}
use Rattle.volume_parts.proofs.Elements.{all_at, get_set, get_other, zip_get, get_of, same_or_not}
use Rattle.volume_parts.proofs.Calm.{calm_self}

-- ---- segments

module _ {D : Type 0} (state : D → State) where
  -- ---- managers

  pub lane_at : (m : Manager D) → IsReady state m → (k : ℕ) (l : Lane D) → slice_get m.lanes.items k ≡ Some l → IsLane state l
  lane_at m ready k l at = (all_at (IsReadyLane state m.id m.most) m.lanes.items k l at ready.ready.each).lane

  -- home alone was used
  pub none_home : (m n : Manager D) → IsReady state m → (state_of state n.home).faults ≡ (state_of state m.home).faults → n.lanes.items ≡ m.lanes.items → NoneRose state m n
  none_home m n ready home lanes = record {
    home = home;
    held = λ k o l was is. subst (λ (q : Lane D). AreCalm state (held_in o) (held_in q)) (same_Some o l (sym was ∙ (ap (λ (ls : List (Lane D)). slice_get ls k) (sym lanes) ∙ is))) ((calm_self state) o (lane_at m ready k o was));
  }

  -- one lane alone was used
  pub none_lane : (m n : Manager D) → IsReady state m → n.home ≡ m.home → (k : ℕ) (o l : Lane D) → slice_get m.lanes.items k ≡ Some o → n.lanes.items ≡ slice_set m.lanes.items k l → AreCalm state (held_in o) (held_in l) → NoneRose state m n
  none_lane m n ready home k o l at lanes calm = record {
    home = ap (λ (p : Spun D). (state_of state p).faults) home;
    held = λ j a b was is_.
        let is : slice_get (slice_set m.lanes.items k l) j ≡ Some b = ap (λ (ls : List (Lane D)). slice_get ls j) (sym lanes) ∙ is_ in
        ⊎_elim
        (λ here.
        let old : o ≡ a = same_Some o a (sym at ∙ (ap (slice_get m.lanes.items) (sym here) ∙ was)) in
        let new : l ≡ b = same_Some l b (sym (get_set m.lanes.items k o l at) ∙ (ap (slice_get (slice_set m.lanes.items k l)) (sym here) ∙ is)) in
        subst (λ (q : Lane D). AreCalm state (held_in q) (held_in b)) old (subst (λ (q : Lane D). AreCalm state (held_in o) (held_in q)) new calm))
        (λ other. subst (λ (q : Lane D). AreCalm state (held_in a) (held_in q)) (same_Some a b (sym was ∙ (sym (get_other m.lanes.items k j l other) ∙ is))) ((calm_self state) a (lane_at m ready j a was)))
        (same_or_not j k);
  }

  -- one read after others
  pub none_then : (k l m : Manager D) → IsReadThrough state k l → NoneRose state k l → NoneRose state l m → NoneRose state k m
  none_then k l m read first then_ = record {
    home = then_.home ∙ first.home;
    held = λ j o n was is s t has_s has_t same.
        let mid = zip_get (LaneRead state) k.lanes.items l.lanes.items j o read.lanes was in
        let at = get_of (held_in o) s has_s in
        let u = zip_get (SegmentRead state) (held_in o) (held_in mid.0) at.0 s mid.2.held at.1 in
        let has_u = member_of (held_in mid.0) u.0 at.0 u.1 in
        then_.held j mid.0 n mid.1 is u.0 t has_u has_t (same ∙ sym u.2.index) ∙ first.held j o mid.0 was mid.1 s u.0 has_s has_u u.2.index;
  }

  -- a write after lanes were asked in vain
  pub none_asked_before : (old now new : Manager D) → now.home ≡ old.home → AllZip (λ (o : Lane D) (n : Lane D). held_in n ≡ held_in o) old.lanes.items now.lanes.items → NoneRose state now new → NoneRose state old new
  none_asked_before old now new home lanes none = record {
    home = none.home ∙ ap (λ (p : Spun D). (state_of state p).faults) home;
    held = λ j o n was is.
        let mid = zip_get (λ (a : Lane D) (b : Lane D). held_in b ≡ held_in a) old.lanes.items now.lanes.items j o lanes was in
        subst (λ (hs : List (HeldSegment D)). AreCalm state hs (held_in n)) mid.2 (none.held j mid.0 n mid.1 is);
  }

-- ---- Where one rose

-- a lane is another in a call
abbrev pub lane_since : {D : Type 0} (lanes lanes' : List (Lane D)) (k : ℕ) (old new : Lane D) (logger : ℕ) → slice_get lanes k ≡ Some old → lanes' ≡ slice_set lanes k new → logger ≡ logger_of old → LaneSince lanes lanes' logger
lane_since lanes lanes' k old new logger was set logger_is = record {
  place = k;
  before = old;
  after = new;
  was = was;
  is = ap (λ ls. slice_get ls k) set ∙ get_set lanes k old new was;
  named = logger_is;
}

-- a segment of one lane took the place of another, and its count rose
pub segment_rose : {D : Type 0} (state : D → State) (lanes lanes' : List (Lane D)) (k i : ℕ) (old new : Lane D) (o n : HeldSegment D) → slice_get lanes k ≡ Some old → lanes' ≡ slice_set lanes k new → slice_get (held_in old) i ≡ Some o → held_in new ≡ slice_set (held_in old) i n
    → (volume index : ℕ) → volume ≡ logger_of old → index ≡ o.index → Rose (disk_of state o.segment).faults (disk_of state n.segment).faults → SegmentRose state lanes lanes' volume index
segment_rose state lanes lanes' k i old new o n lane set there held volume index volume_is index_is rose = record {
  lane = lane_since lanes lanes' k old new volume lane set volume_is;
  place = i;
  old_segment = o;
  new_segment = n;
  was_there = there;
  is_there = ap (λ hs. slice_get hs i) held ∙ get_set (held_in old) i o n there;
  named = index_is;
  rose = rose;
}
