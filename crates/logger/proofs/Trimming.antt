-- Blocks given up, and what became of the segment.
use Rattle.std.proofs.Common.{◌≡◌, ◌<◌, inl, inr, ⊎_elim, ℕ, false, List, ◌++◌, map, set, slice_get, Option, Some, None, Result, Ok, Err, IfOk, IsErr, is_ok, refl, sym, ap, subst, arith, ◌∙◌}
use Rattle.std.specs.Prelude.{◌-◌, ◌==◌, if◌then◌else◌}
use Rattle.std.specs.List.{AllByRecursion}
use Rattle.std.proofs.lemmas.Option.{none-some}
use Rattle.wol_disk.specs.Disk.{State}
use Rattle.wol_disk.specs.declared.disk.Failed.{Failed}
use Rattle.wol_disk.proofs.Moments.{widened}
use Rattle.wol_model.specs.Blocks.{AreApart}
use Rattle.wol_model.specs.Heads.{RecordHead}
use Rattle.turn_lock.specs.Passes.{pass_mine}
use Rattle.turn_lock.specs.declared.pass.PassOf.{PassOf}
use Rattle.seg_pool.specs.declared.base.PoolBase.{PoolBase}
use Rattle.seg_pool.specs.declared.pool.Pool.{Pool}
use Rattle.log_segment.specs.Records.{IsProperPart}
use Rattle.log_segment.specs.Segment.{IsSegment, IsSame, blocks_of, valid_of}
use Rattle.log_segment.specs.declared.free.FreeSegment.{FreeSegment}
use Rattle.log_segment.proofs.Headed.{valid_trimmed}
use Rattle.logger.specs.Lanes.{IsHeld, CutDown, GaveUp, Stayed, Trimmed, in_place, not_freed, IsBareAfter, held_in, pool_of}
use Rattle.logger.specs.Trims.{Freed, NotFreed, StaysAt, Cut, stays, freed, could_not}
use Rattle.logger.specs.declared.lane.HeldSegment.{HeldSegment}
use Rattle.logger.specs.declared.lane.Lane.{Lane}
use Rattle.logger.specs.declared.lane.Spot.{Spot}
use Rattle.logger.proofs.Held.{all_get, all_set, map-set}
use Rattle.logger.proofs.Uses.{held_same}

-- what a trim freed
abbrev pub freed_of : {F E : Type 0} → Result (Option F) E → Option F
freed_of (Ok o) = o
freed_of (Err e) = None

pub kept_none : {F E : Type 0} (res : Result (Option F) E) → IfOk res (λ x. x ≡ None) → freed_of res ≡ None
kept_none (Ok x) none = none
kept_none (Err x) none = refl

pub none_of_err : {F E : Type 0} (res : Result (Option F) E) → IsErr res → freed_of res ≡ None
none_of_err (Ok x) err = cc
none_of_err (Err x) err = refl

module _ {D : Type 0} (state : D → State) where
  -- a segment whose last record that keeps a block gives up its last one
  pub bare_after : (o : HeldSegment D) (pos : ℕ) (head : RecordHead) (keep : ℕ) → IsProperPart keep head.mask → valid_of o.segment - (if keep == 0 then 1 else 0) ≡ 0 → IsBareAfter state o.segment pos head keep
  bare_after o pos head keep part none rs j r h at =
      let mask : keep < r.head.mask = subst (λ (m : ℕ). keep < m) (ap (λ (x : RecordHead). x.mask) at.same_head) part.fewer in
      omega (arith, valid_trimmed rs j r keep at.there mask, h.valid, none)

  pub gave_up : (o : HeldSegment D) (free : FreeSegment D) (pos : ℕ) (head : RecordHead) (keep : ℕ) → IsProperPart keep head.mask → valid_of o.segment - (if keep == 0 then 1 else 0) ≡ 0 → Freed state o free → GaveUp state o (blocks_of o.segment) free pos head keep
  gave_up o free pos head keep part none f = record {
    blank = f.blank;
    bare = bare_after o pos head keep part none;
    fewer = none;
    any_moment = λ rs j r h at. widened (f.any_moment rs h) (λ d is. ⊎_elim (λ log. inl (inl log)) (λ idle. inr idle) is);
    calm = f.calm;
  }

  pub stayed : (o after : HeldSegment D) (pos : ℕ) (head : RecordHead) (keep : ℕ) → IsProperPart keep head.mask → valid_of o.segment - (if keep == 0 then 1 else 0) ≡ 0 → NotFreed state o after → Stayed state o after pos head keep
  stayed o after pos head keep part none f = record {
    index = f.index;
    same = f.same;
    end = f.end;
    broken = f.broken;
    bare = bare_after o pos head keep part none;
    fewer = none;
    any_moment = λ rs j r h at. widened (f.any_moment rs h) (λ d is. ⊎_elim (λ log. inl (inl log)) (λ idle. inr idle) is);
    cause = f.cause;
  }

  -- what is said of one answer, said of another that is as good
  pub cut_as : {T E U F : Type 0} (o n : HeldSegment D) (pos : ℕ) (head : RecordHead) (keep : ℕ) (w : Result T E) (r : Result U F) → is_ok w ≡ is_ok r → CutDown state o n pos head keep w → CutDown state o n pos head keep r
  cut_as o n pos head keep (Ok x) (Ok y) same c = record { index = c.index; same = c.same; end = c.end; ok = c.ok; whole = c.whole; valid = c.valid; fewer = c.fewer; broken = c.broken; any_moment = c.any_moment; cause = c.cause; calm = c.calm }
  cut_as o n pos head keep (Ok x) (Err y) same c = cc
  cut_as o n pos head keep (Err x) (Ok y) same c = cc
  cut_as o n pos head keep (Err x) (Err y) same c = record { index = c.index; same = c.same; end = c.end; ok = c.ok; whole = c.whole; valid = c.valid; fewer = c.fewer; broken = c.broken; any_moment = c.any_moment; cause = c.cause; calm = c.calm }

  -- the segment that is still held
  pub record IsChanged (hs hs' : List (HeldSegment D)) (place : ℕ) : Type 0 where
    pub old : HeldSegment D
    pub new : HeldSegment D
    pub there : slice_get hs place ≡ Some old
    pub held : hs' ≡ set hs place new
    pub shape : IsSegment state new.segment
    pub index : new.index ≡ old.index
    pub same : IsSame old.segment new.segment

  pub is_changed : (hs hs' : List (HeldSegment D)) (place pos : ℕ) (head : RecordHead) (keep : ℕ) (res : Result (Option (FreeSegment D)) Failed) → Cut state hs hs' place pos head keep res → freed_of res ≡ None → IsChanged hs hs' place
  is_changed hs hs' place pos head keep res (stays o n there held shape none cut) never = record { old = o; new = n; there = there; held = held; shape = shape; index = cut.index; same = cut.same }
  is_changed hs hs' place pos head keep res (freed o free there gone ok gave) never = absurd (none-some free (sym never ∙ ap freed_of ok))
  is_changed hs hs' place pos head keep res (could_not o n there held shape err st) never = record { old = o; new = n; there = there; held = held; shape = shape; index = st.index; same = st.same }

  -- what the call did to the lane
  pub trimmed_stays : {T E : Type 0} (old new : Lane D) (spot : Spot) (p : ℕ) (head : RecordHead) (keep : ℕ) (res : Result (Option (FreeSegment D)) Failed) (r : Result T E) → Cut state (held_in old) (held_in new) p spot.pos head keep res → is_ok res ≡ is_ok r
      → freed_of res ≡ None → ((o : HeldSegment D) → slice_get (held_in old) p ≡ Some o → o.index ≡ spot.segment) → pass_mine (pool_of new) ≡ pass_mine (pool_of old) → Trimmed state old new spot head keep r
  trimmed_stays old new spot p head keep res r (stays o n there held shape none cut) kind never named mine = in_place p o n there (named o there) held mine (cut_as o n spot.pos head keep res r kind cut)
  trimmed_stays old new spot p head keep res r (freed o free there gone ok gave) kind never named mine = absurd (none-some free (sym never ∙ ap freed_of ok))
  trimmed_stays old new spot p head keep res r (could_not o n there held shape err st) kind never named mine = not_freed p o n there (named o there) held mine (failed r (sym kind ∙ is_err_of res err)) st
    where
      is_err_of : (w : Result (Option (FreeSegment D)) Failed) → IsErr w → is_ok w ≡ false
      is_err_of (Ok x) err = cc
      is_err_of (Err x) err = refl

      failed : {T E : Type 0} (w : Result T E) → is_ok w ≡ false → IsErr w
      failed (Ok x) is = cc
      failed (Err x) is = refl

  pub changed_still : (hs hs' : List (HeldSegment D)) (place : ℕ) → StaysAt state hs hs' place → IsChanged hs hs' place
  changed_still hs hs' place st = record { old = st.segment; new = st.after; there = st.there; held = st.held; shape = st.stays.shape; index = st.stays.index; same = st.stays.same }

  -- the lane's segments where one of them changed
  pub each_changed : (logger owner m n : ℕ) (pool : PassOf (Pool (FreeSegment D)) PoolBase) (items items' : List (HeldSegment D)) (p : ℕ) → IsChanged items items' p → n ≡ m → AllByRecursion (IsHeld state logger owner m pool) items → AllByRecursion (IsHeld state logger owner n pool) items'
  each_changed logger owner m n pool items items' p ch room each =
      let held = all_get (IsHeld state logger owner m pool) items p ch.old each ch.there in
      subst (λ (k : ℕ). AllByRecursion (IsHeld state logger owner k pool) items') (sym room) (subst (AllByRecursion (IsHeld state logger owner m pool)) (sym ch.held) (all_set (IsHeld state logger owner m pool) items p ch.new each (held_same state logger owner m pool ch.old ch.new held ch.index ch.shape ch.same)))

  pub indexes_changed : (items items' : List (HeldSegment D)) (p : ℕ) → IsChanged items items' p → map (λ (h : HeldSegment D). h.index) items' ≡ map (λ (h : HeldSegment D). h.index) items
  indexes_changed items items' p ch = ap (map (λ (h : HeldSegment D). h.index)) ch.held ∙ map-set (λ (h : HeldSegment D). h.index) items p ch.old ch.new ch.there ch.index

  pub apart_changed : (items items' : List (HeldSegment D)) (ws : List ℕ) (p : ℕ) → IsChanged items items' p → AreApart (map (λ (h : HeldSegment D). h.index) items ++ ws) → AreApart (map (λ (h : HeldSegment D). h.index) items' ++ ws)
  apart_changed items items' ws p ch apart = subst (λ (is : List ℕ). AreApart (is ++ ws)) (sym (indexes_changed items items' p ch)) apart
