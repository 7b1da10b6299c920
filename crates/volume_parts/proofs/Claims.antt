-- What a write claimed.
use Rattle.std.proofs.Common.{◌≡◌, ⊎_elim, ℕ, Bool, List, [], ◌∷◌, ◌++◌, map, Option, None, Some, Result, Ok, Err, OnOk, sym, ap, ◌∙◌}
use Rattle.std.specs.Prelude.{slice_get, slice_set, IsTrue, IsOk}
use Rattle.std.specs.List.{AllZip}
use Rattle.std.proofs.lemmas.Bool.{false≢true}
use Rattle.std.proofs.lemmas.Option.{same_Some}
use Rattle.wol_disk.specs.Disk.{State, TellsContent}
use Rattle.wol_disk.specs.declared.disk.Failed.{Failed}
use Rattle.wol_model.specs.Log.{Record}
use Rattle.spin_model.specs.declared.spun.Spun.{Spun}
use Rattle.log_segment.specs.Segment.{free_part}
use Rattle.logger.specs.Lanes.{held_in}
use Rattle.logger.specs.declared.lane.HeldSegment.{HeldSegment}
use Rattle.logger.specs.declared.lane.Lane.{Lane}
use Rattle.logger.specs.declared.lane.Spot.{Spot}
use Rattle.volume_parts.specs.Puts.{PutIn, to_held, to_new}
use Rattle.volume_parts.specs.Claims.{HoldNoMore, TellsClaim}
use Rattle.volume_parts.proofs.Elements.{get_set, get_other, map_set, zip_get, zip_back, same_or_not}

module _ {D : Type 0} where
  -- the same lanes
  pub no_more_same : (old new : List (Lane D)) → new ≡ old → HoldNoMore old new
  no_more_same old new same k o n was is = ap (λ (l : Lane D). map (λ (h : HeldSegment D). h.index) (held_in l)) (sym (same_Some o n (sym was ∙ (ap (λ (ls : List (Lane D)). slice_get ls k) (sym same) ∙ is))))

  -- one lane is another, with these indexes still
  pub no_more_set : (old : List (Lane D)) (k : ℕ) (o n : Lane D) (new : List (Lane D)) → slice_get old k ≡ Some o → new ≡ slice_set old k n → map (λ (h : HeldSegment D). h.index) (held_in n) ≡ map (λ (h : HeldSegment D). h.index) (held_in o) → HoldNoMore old new
  no_more_set old k o n new at set same j a b was is_ =
      let is : slice_get (slice_set old k n) j ≡ Some b = ap (λ (ls : List (Lane D)). slice_get ls j) (sym set) ∙ is_ in
      let indexes : Lane D → List ℕ = λ l. map (λ (h : HeldSegment D). h.index) (held_in l) in
      ⊎_elim
      (λ here. ap indexes (sym (same_Some n b (sym (get_set old k o n at) ∙ (ap (slice_get (slice_set old k n)) (sym here) ∙ is)))) ∙ (same ∙ ap indexes (same_Some o a (sym at ∙ (ap (slice_get old) (sym here) ∙ was)))))
      (λ other. ap indexes (sym (same_Some a b (sym was ∙ (sym (get_other old k j n other) ∙ is)))))
      (same_or_not j k)

  module _ (tells : Bool) (state : D → State) where
    -- what lanes held before is what they held before they were asked
    pub claim_before : (done : Type 0) (old now new : List (Lane D)) (claimed : Option (Spun D)) → AllZip (λ (o : Lane D) (n : Lane D). held_in n ≡ held_in o) old now → TellsClaim tells state done now new claimed → TellsClaim tells state done old new claimed
    claim_before done old now new None lanes none = λ k o n was is.
        let mid = zip_get (λ (a : Lane D) (b : Lane D). held_in b ≡ held_in a) old now k o lanes was in
        none k mid.0 n mid.1 is ∙ ap (map (λ (h : HeldSegment D). h.index)) mid.2
    claim_before done old now new (Some part) lanes c =
        let was = zip_back (λ (o : Lane D) (n : Lane D). held_in n ≡ held_in o) old now c.place c.before lanes c.was_lane in record {
          place = c.place;
          before = was.0;
          after = c.after;
          segment = c.segment;
          was_lane = was.1;
          is_lane = c.is_lane;
          held = c.held ∙ ap (λ (hs : List (HeldSegment D)). hs ++ c.segment ∷ []) was.2;
          free = c.free;
          volume = c.volume;
          earlier = c.earlier;
          calm = c.calm;
        }

done_so : {T E P : Type 0} (r : Result T E) → OnOk r P → IsOk r → P
done_so (Ok x) p done = p
done_so (Err e) p done = absurd (false≢true done)

-- the part that a write claimed, if it claimed one
abbrev pub put_claimed : {D : Type 0} {state : D → State} {old new : Lane D} {first count : ℕ} {added : List Record} {res : Result Spot (ℕ × Failed)} → PutIn state old new first count added res → Option (Spun D)
put_claimed (to_held i o n one at space held grown is) = None
put_claimed (to_new f n none blank held claimed is) = Some (free_part f)

module _ {D : Type 0} (tells : Bool) (state : D → State) (told : IsTrue tells → (d : D) → TellsContent (state d)) where
  pub put_tells : {first : ℕ} (lanes : List (Lane D)) (k : ℕ) (old new : Lane D) → slice_get lanes k ≡ Some old → (count : ℕ) (added : List Record) (res : Result Spot (ℕ × Failed)) (put : PutIn state old new first count added res)
      → (lanes' : List (Lane D)) → lanes' ≡ slice_set lanes k new → TellsClaim tells state (IsOk res) lanes lanes' (put_claimed put)
  put_tells lanes k old new lane count added res (to_held i o n one at space held grown is) lanes' set =
      no_more_set lanes k old new lanes' lane set (ap (map (λ (h : HeldSegment D). h.index)) held ∙ map_set (λ (h : HeldSegment D). h.index) (held_in old) i o n at grown.index)
  put_tells lanes k old new lane count added res (to_new f n none blank held claimed is) lanes' set = record {
    place = k;
    before = old;
    after = new;
    segment = n;
    was_lane = lane;
    is_lane = ap (λ (l : List (Lane D)). slice_get l k) set ∙ get_set lanes k old new lane;
    held = held;
    free = blank.free.idle;
    volume = sym claimed.volume;
    earlier = λ t. (claimed.any_moment (told t f.part.inner).0 (told t f.part.inner).1).later;
    calm = done_so res claimed.calm;
  }
