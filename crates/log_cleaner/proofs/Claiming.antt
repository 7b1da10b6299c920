-- Which segments calls claimed.
use Rattle.std.proofs.Common.{◌≡◌, ℕ, zero, suc, Bool, List, [], ◌∷◌, map, length, Option, None, Some, refl, sym, ap, subst, ◌∙◌}
use Rattle.std.specs.Prelude.{Contains, slice_get}
use Rattle.std.specs.List.{AllByRecursion, AllZip}
use Rattle.std.proofs.lemmas.Option.{none-some, same_Some}
use Rattle.wol_disk.specs.Disk.{State}
use Rattle.spin_model.specs.declared.spun.Spun.{Spun}
use Rattle.logger.specs.Lanes.{held_in}
use Rattle.logger.specs.declared.lane.HeldSegment.{HeldSegment}
use Rattle.logger.specs.declared.lane.Lane.{Lane}
use Rattle.manager.specs.Reading.{LaneRead, SegmentRead}
use Rattle.manager.specs.Stops.{HoldNoMore, TellsClaim}
use Rattle.log_cleaner.specs.Copies.{Claims, HoldFewer, indexes_of}
use Rattle.log_cleaner.specs.Cleans.{HasKept}
use Rattle.log_cleaner.proofs.Lists.{each_is_member}
use Rattle.wol_promise.proofs.Lists.{member_map}

pub members : (xs : List ℕ) → AllByRecursion (λ (i : ℕ). Contains xs i) xs
members xs = each_is_member (λ (i : ℕ). Contains xs i) xs (λ x has. has)

-- segments that were held and weren't given back are held still
abbrev pub HoldsOn : {D : Type 0} → (old new : List (Lane D)) → Type 0
HoldsOn {D} old new = (k : ℕ) (o n : Lane D) → slice_get old k ≡ Some o → slice_get new k ≡ Some n → (h : HeldSegment D) → Contains (held_in o) h → HasKept h.index o n → Contains (indexes_of n) h.index

-- so it is where a lane's indexes are the same, and where it holds the same
pub holds_indexes : {D : Type 0} (o n : Lane D) → indexes_of n ≡ indexes_of o → (h : HeldSegment D) → Contains (held_in o) h → Contains (indexes_of n) h.index
holds_indexes {D} o n same h has = subst (λ (xs : List ℕ). Contains xs h.index) (sym same) (member_map (λ (g : HeldSegment D). g.index) (held_in o) h has)

pub holds_same : {D : Type 0} (o n : Lane D) → held_in n ≡ held_in o → (h : HeldSegment D) → Contains (held_in o) h → Contains (indexes_of n) h.index
holds_same {D} o n same h has = holds_indexes o n (ap (λ (hs : List (HeldSegment D)). map (λ (g : HeldSegment D). g.index) hs) same) h has

pub holds_no_more : {D : Type 0} (old new : List (Lane D)) → HoldNoMore old new → HoldsOn old new
holds_no_more old new same k o n was is h has kept = holds_indexes o n (same k o n was is) h has

module _ {D : Type 0} where
  -- the same indexes are no more
  pub fewer_same : (old new : List (Lane D)) → length new ≡ length old → HoldNoMore old new → HoldFewer old new
  fewer_same old new long same = (long, λ k o n was is. subst (λ (xs : List ℕ). AllByRecursion (λ (i : ℕ). Contains (indexes_of o) i) xs) (sym (same k o n was is)) (members (indexes_of o)))

  pub claims_of : (tells : Bool) (state : D → State) (done : Type 0) (old new : List (Lane D)) (claimed : Option (Spun D)) → length new ≡ length old → TellsClaim tells state done old new claimed → Claims tells state old new claimed
  claims_of tells state done old new None long none = fewer_same old new long none
  claims_of tells state done old new (Some part) long c = record {
    place = c.place;
    before = c.before;
    after = c.after;
    segment = c.segment;
    was_lane = c.was_lane;
    is_lane = c.is_lane;
    held = c.held;
    free = c.free;
    volume = c.volume;
    earlier = c.earlier;
    calm = λ no. absurd no;
  }

  -- ---- Reads

  same_indexes : (state : D → State) (os ns : List (HeldSegment D)) → AllZip (SegmentRead state) os ns → map (λ (h : HeldSegment D). h.index) ns ≡ map (λ (h : HeldSegment D). h.index) os
  same_indexes state [] [] zip = refl
  same_indexes state [] (n ∷ ns) zip = absurd zip
  same_indexes state (o ∷ os) [] zip = absurd zip
  same_indexes state (o ∷ os) (n ∷ ns) zip = ap (λ (i : ℕ). i ∷ map (λ (h : HeldSegment D). h.index) ns) zip.0.index ∙ ap (λ (is : List ℕ). o.index ∷ is) (same_indexes state os ns zip.1)

  long_read : (state : D → State) (old new : List (Lane D)) → AllZip (LaneRead state) old new → length new ≡ length old
  long_read state [] [] zip = refl
  long_read state [] (n ∷ ns) zip = absurd zip
  long_read state (o ∷ os) [] zip = absurd zip
  long_read state (o ∷ os) (n ∷ ns) zip = ap suc (long_read state os ns zip.1)

  no_more_read : (state : D → State) (old new : List (Lane D)) → AllZip (LaneRead state) old new → HoldNoMore old new
  no_more_read state [] ns zip k o n was is = absurd (none-some o was)
  no_more_read state (a ∷ old) [] zip k o n was is = absurd zip
  no_more_read state (a ∷ old) (b ∷ new) zip zero o n was is =
      ap (λ (l : Lane D). indexes_of l) (sym (same_Some b n is)) ∙ same_indexes state (held_in a) (held_in b) zip.0.held ∙ ap (λ (l : Lane D). indexes_of l) (same_Some a o was)
  no_more_read state (a ∷ old) (b ∷ new) zip (suc k) o n was is = no_more_read state old new zip.1 k o n was is

  pub holds_read : (state : D → State) (old new : List (Lane D)) → AllZip (LaneRead state) old new → HoldsOn old new
  holds_read state old new zip = holds_no_more old new (no_more_read state old new zip)

  pub fewer_read : (state : D → State) (old new : List (Lane D)) → AllZip (LaneRead state) old new → HoldFewer old new
  fewer_read state old new zip = fewer_same old new (long_read state old new zip) (no_more_read state old new zip)
