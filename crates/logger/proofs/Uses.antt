-- What a lane's passes made in a call, and what its segments are to it then.
use Rattle.std.proofs.Common.{◌≡◌, ◌≢◌, inl, inr, ◌<◌, ℕ, true, false, List, [], ◌∷◌, ◌++◌, map, vec_len, slice_index_or, Option, Some, None, IfSome, option_to_list, refl, sym, ap, subst, ◌∙◌, append_assoc}
use Rattle.std.specs.List.{AllByRecursion}
use Rattle.wol_disk.specs.Disk.{State}
use Rattle.turn_lock.specs.Histories.{Entry}
use Rattle.turn_lock.specs.LockIds.{LockId}
use Rattle.turn_lock.specs.Passes.{lock_id, pass_lock, pass_number, pass_mine, IsFree, IsSamePass}
use Rattle.turn_lock.specs.declared.pass.PassOf.{PassOf}
use Rattle.wol_model.specs.Journal.{Needed, Done}
use Rattle.spin_model.specs.Operations.{operation_of, has_token}
use Rattle.spin_model.specs.declared.spindle.Spindle.{Spindle}
use Rattle.spin_model.specs.declared.spindle.SpindleBase.{SpindleBase}
use Rattle.seg_pool.specs.Operations.{holds}
use Rattle.seg_pool.specs.declared.base.PoolBase.{PoolBase}
use Rattle.seg_pool.specs.declared.pool.Pool.{Pool}
use Rattle.log_segment.specs.Segment.{IsSegment, IsBlank, IsSame}
use Rattle.log_segment.specs.declared.free.FreeSegment.{FreeSegment}
use Rattle.logger.specs.Lanes.{AreAccesses, IsHeld, IsTaken, IsAt}
use Rattle.logger.specs.declared.lane.HeldSegment.{HeldSegment}
use Rattle.logger.specs.declared.lane.Lane.{Lane}
use Rattle.logger.specs.declared.shared.Shared.{Shared}

-- two entries, one after the other
pub two_entries : (old mid new : List Entry) (n m : ℕ) (needed done : List ℕ) → mid ≡ old ++ (n, needed) ∷ [] → m ≡ n → new ≡ mid ++ (m, done) ∷ [] → new ≡ old ++ (n, needed) ∷ (n, done) ∷ []
two_entries old mid new n m needed done first same second =
    second ∙ (ap (λ (es : List Entry). es ++ (m, done) ∷ []) first ∙ (append_assoc old ((n, needed) ∷ []) ((m, done) ∷ []) ∙ ap (λ k. old ++ (n, needed) ∷ (k, done) ∷ []) same))

-- a pass that needed its disk once more, and was done, has made accesses alone still
pub accesses_then : (old new : List Entry) (n : ℕ) → new ≡ old ++ (n, operation_of Needed) ∷ (n, operation_of Done) ∷ [] → AreAccesses old → AreAccesses new
accesses_then old new n is all = subst AreAccesses (sym is) (more old all)
  where
    more : (es : List Entry) → AreAccesses es → AreAccesses (es ++ (n, operation_of Needed) ∷ (n, operation_of Done) ∷ [])
    more [] all = (inl refl, (inr refl, tt))
    more (e ∷ es) all = (all.0, more es all.1)

pub accesses_over : (old mid new : List Entry) (n m : ℕ) → mid ≡ old ++ (n, operation_of Needed) ∷ [] → m ≡ n → new ≡ mid ++ (m, operation_of Done) ∷ [] → AreAccesses old → AreAccesses new
accesses_over old mid new n m first same second = accesses_then old new n (two_entries old mid new n m (operation_of Needed) (operation_of Done) first same second)

-- the spindle's pass after a call in which the disk was needed, and was done
pub record IsOver (old new : PassOf Spindle SpindleBase) : Type 0 where
  pub free : IsFree new
  pub same : IsSamePass old new
  pub settled : has_token (pass_mine new) ≡ false
  pub mine : pass_mine new ≡ pass_mine old ++ (pass_number old, operation_of Needed) ∷ (pass_number old, operation_of Done) ∷ []

pub over : (old mid new : PassOf Spindle SpindleBase) → IsSamePass old mid → pass_mine mid ≡ pass_mine old ++ (pass_number old, operation_of Needed) ∷ [] → IsFree new → IsSamePass mid new → has_token (pass_mine new) ≡ false → pass_mine new ≡ pass_mine mid ++ (pass_number mid, operation_of Done) ∷ []
    → IsOver old new
over old mid new same first free again settled second = record { free = free; same = (again.0 ∙ same.0, again.1 ∙ same.1); settled = settled; mine = two_entries _ _ _ _ _ _ _ first same.1 second }

-- a lane whose passes are of the same locks is where it was
pub at_passes : {D : Type 0} (shared : Shared D) (old new : Lane D) → new.logger ≡ old.logger → pass_lock new.pool ≡ pass_lock old.pool → pass_lock new.spindle ≡ pass_lock old.spindle → IsAt shared old → IsAt shared new
at_passes shared old new logger pool spindle at = record {
  pool_in = subst (λ n. n < vec_len shared.pools) (sym logger) at.pool_in;
  spindle_in = subst (λ n. n < vec_len shared.spindles) (sym logger) at.spindle_in;
  pool = λ d. pool ∙ (at.pool d ∙ ap (λ n. lock_id (slice_index_or shared.pools.items n d)) (sym logger));
  spindle = λ d. spindle ∙ (at.spindle d ∙ ap (λ n. lock_id (slice_index_or shared.spindles.items n d)) (sym logger));
}

module _ {D : Type 0} (state : D → State) (logger owner segments : ℕ) where
  -- a held segment that is the same in all that no call changes
  pub held_same : (p : PassOf (Pool (FreeSegment D)) PoolBase) (o n : HeldSegment D) → IsHeld state logger owner segments p o → n.index ≡ o.index → IsSegment state n.segment → IsSame o.segment n.segment → IsHeld state logger owner segments p n
  held_same p o n h index shape same = record {
    shape = shape;
    volume = same.volume ∙ h.volume;
    owned = same.owner ∙ h.owned;
    blocks = same.blocks ∙ h.blocks;
    below = subst (λ i. i < segments) (sym index) h.below;
    holding = subst (λ i. holds (pass_lock p).base (pass_number p) (pass_mine p) i ≡ true) (sym index) h.holding;
  }

  -- after a turn of the pool's lock in which the pass went on holding it
  pub held_on : (p q : PassOf (Pool (FreeSegment D)) PoolBase) (h : HeldSegment D) → IsSamePass p q → holds (pass_lock q).base (pass_number q) (pass_mine q) h.index ≡ true → IsHeld state logger owner segments p h → IsHeld state logger owner segments q h
  held_on p q h same has is = record {
    shape = is.shape;
    volume = is.volume;
    owned = is.owned;
    blocks = is.blocks ∙ sym (ap (λ (l : LockId PoolBase). l.base.blocks) same.0);
    below = is.below;
    holding = has;
  }

  pub taken_on : (p q : PassOf (Pool (FreeSegment D)) PoolBase) (t : ℕ × FreeSegment D) → IsSamePass p q → holds (pass_lock q).base (pass_number q) (pass_mine q) t.0 ≡ true → IsTaken state logger segments p t → IsTaken state logger segments q t
  taken_on p q t same has is = record {
    blank = subst (λ n. IsBlank state logger n t.1) (sym (ap (λ (l : LockId PoolBase). l.base.blocks) same.0)) is.blank;
    below = is.below;
    holding = has;
  }

  -- those that stay when the pass gave one back
  pub each_on : (p q : PassOf (Pool (FreeSegment D)) PoolBase) (index : ℕ) (items : List (HeldSegment D)) → IsSamePass p q
      → ((i : ℕ) → i ≢ index → holds (pass_lock p).base (pass_number p) (pass_mine p) i ≡ true → holds (pass_lock q).base (pass_number q) (pass_mine q) i ≡ true)
      → AllByRecursion (IsHeld state logger owner segments p) items → AllByRecursion (λ (h : HeldSegment D). h.index ≢ index) items → AllByRecursion (IsHeld state logger owner segments q) items
  each_on p q index [] same kept each others = tt
  each_on p q index (h ∷ items) same kept each others = (held_on p q h same (kept h.index others.0 each.0.holding) each.0, each_on p q index items same kept each.1 others.1)

  pub taken_still : (p q : PassOf (Pool (FreeSegment D)) PoolBase) (index : ℕ) (t : Option (ℕ × FreeSegment D)) → IsSamePass p q
      → ((i : ℕ) → i ≢ index → holds (pass_lock p).base (pass_number p) (pass_mine p) i ≡ true → holds (pass_lock q).base (pass_number q) (pass_mine q) i ≡ true)
      → IfSome t (IsTaken state logger segments p) → AllByRecursion (λ w. index ≢ w) (map (λ (u : ℕ × FreeSegment D). u.0) (option_to_list t)) → IfSome t (IsTaken state logger segments q)
  taken_still p q index None same kept is others = tt
  taken_still p q index (Some t) same kept is others = taken_on p q t same (kept t.0 (λ e. others.0 (sym e)) is.holding) is
