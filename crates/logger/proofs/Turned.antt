-- A lane after a call that used its spindle once, in which a held segment changed, or was freed and went to the pool.
use Rattle.std.proofs.Common.{◌≡◌, ◌≢◌, ◌++◌, ◌∷◌, [], ℕ, true, List, map, remove, length, slice_get, vec_capacity, Vec, Option, Some, IfSome, option_to_list, Result, ap, ◌∙◌, sym, subst, arith}
use Rattle.std.specs.declared.alloc.Global.{Global}
use Rattle.std.specs.List.{AllByRecursion}
use Rattle.std.proofs.lemmas.Option.{none-some, same_Some}
use Rattle.wol_disk.specs.Disk.{State}
use Rattle.wol_disk.specs.declared.disk.Failed.{Failed}
use Rattle.wol_model.specs.Blocks.{AreApart}
use Rattle.wol_model.specs.Heads.{RecordHead}
use Rattle.turn_lock.specs.LockIds.{LockId}
use Rattle.turn_lock.specs.Passes.{pass_lock, pass_mine, pass_number, IsFree, IsSamePass}
use Rattle.turn_lock.specs.declared.pass.PassOf.{PassOf}
use Rattle.spin_model.specs.declared.spindle.Spindle.{Spindle}
use Rattle.spin_model.specs.declared.spindle.SpindleBase.{SpindleBase}
use Rattle.seg_pool.specs.Holders.{Gave}
use Rattle.seg_pool.specs.Operations.{operation_of}
use Rattle.seg_pool.specs.declared.base.PoolBase.{PoolBase}
use Rattle.seg_pool.specs.declared.pool.Pool.{Pool}
use Rattle.log_segment.specs.Segment.{IsBlank, segment_volume, blocks_of}
use Rattle.log_segment.specs.declared.free.FreeSegment.{FreeSegment}
use Rattle.logger.specs.Lanes.{IsLane, IsHeld, IsTaken, HoldsAll, HasIndex, GaveUp}
use Rattle.logger.specs.Trims.{Freed, FreedAt, Cut, stays, freed, could_not}
use Rattle.logger.specs.declared.lane.HeldSegment.{HeldSegment}
use Rattle.logger.specs.declared.lane.Lane.{Lane}
use Rattle.logger.proofs.AllHeld.{has, HoldsIn, all_giving}
use Rattle.logger.proofs.Held.{all_get, all_remove}
use Rattle.logger.proofs.Indexes.{apart_remove, lacks_removed}
use Rattle.logger.proofs.Places.{has_index}
use Rattle.logger.proofs.Trimming.{IsChanged, freed_of, kept_none, none_of_err, each_changed, indexes_changed, apart_changed}
use Rattle.logger.proofs.Uses.{IsOver, accesses_then, each_on, taken_still}

module _ {D : Type 0} (state : D → State) (l : Lane D) (is : IsLane state l) where
  -- the lane where one of its segments changed
  pub lane_changed : (held : Vec (HeldSegment D) Global) (spindle : PassOf Spindle SpindleBase) (p : ℕ) → IsOver l.spindle spindle → vec_capacity held ≡ vec_capacity l.held → IsChanged state l.held.items held.items p → IsLane state (record l { held = held; spindle = spindle })
  lane_changed held spindle p over same ch = record {
    pool_free = is.pool_free;
    spindle_free = over.free;
    pool_volume = is.pool_volume;
    spindle_volume = ap (λ (i : LockId SpindleBase). i.base.volume) over.same.0 ∙ is.spindle_volume;
    settled = over.settled;
    accesses = accesses_then _ _ _ over.mine is.accesses;
    each = each_changed state l.logger l.owner (vec_capacity l.held) (vec_capacity held) l.pool l.held.items held.items p ch same is.each;
    unclaimed = subst (λ (n : ℕ). IfSome l.taken (IsTaken state l.logger n l.pool)) (sym same) is.unclaimed;
    apart = apart_changed state l.held.items held.items (map (λ (u : ℕ × FreeSegment D). u.0) (option_to_list l.taken)) p ch is.apart;
    room = (let room = is.room in omega (arith, room, same));
    handing = (is.handing.0, (let room = is.handing.1 in omega (arith, room, same)));
  }

  -- its segments are those of its pass still
  pub all_changed : (items : List (HeldSegment D)) (p : ℕ) → IsChanged state l.held.items items p → HoldsAll l → HoldsIn l.pool (map (λ (h : HeldSegment D). h.index) items ++ map (λ (u : ℕ × FreeSegment D). u.0) (option_to_list l.taken))
  all_changed items p ch all = subst (λ (is : List ℕ). HoldsIn l.pool (is ++ map (λ (u : ℕ × FreeSegment D). u.0) (option_to_list l.taken))) (sym (indexes_changed state l.held.items items p ch)) all

  -- the segment of this index was taken out, of which this is said
  pub record Removed (items : List (HeldSegment D)) (p index : ℕ) (W : HeldSegment D → Type 0) : Type 0 where
    pub segment : HeldSegment D
    pub there : slice_get l.held.items p ≡ Some segment
    pub named : segment.index ≡ index
    pub held : IsHeld state l.logger l.owner (vec_capacity l.held) l.pool segment
    pub gone : items ≡ remove l.held.items p
    pub said : W segment

  removed : (hs items : List (HeldSegment D)) (p index : ℕ) (W : HeldSegment D → Type 0) (o : HeldSegment D) → hs ≡ l.held.items → HasIndex hs p index → slice_get l.held.items p ≡ Some o → items ≡ remove l.held.items p → W o → Removed items p index W
  removed hs items p index W o are at there gone said = record {
    segment = o;
    there = there;
    named = has_index hs l.held.items p index o are at there;
    held = all_get (IsHeld state l.logger l.owner (vec_capacity l.held) l.pool) l.held.items p o is.each there;
    gone = gone;
    said = said;
  }

  pub freed_removed : (hs items : List (HeldSegment D)) (p index : ℕ) (f : FreeSegment D) → hs ≡ l.held.items → HasIndex hs p index → FreedAt state l.held.items items p f → Removed items p index (λ o. Freed state o f)
  freed_removed hs items p index f are at fr = removed hs items p index (λ o. Freed state o f) fr.segment are at fr.there fr.gone fr.freed

  pub cut_removed : (hs items : List (HeldSegment D)) (p index : ℕ) (f : FreeSegment D) (pos : ℕ) (head : RecordHead) (keep : ℕ) (res : Result (Option (FreeSegment D)) Failed) → hs ≡ l.held.items → HasIndex hs p index → Cut state l.held.items items p pos head keep res → freed_of res ≡ Some f
      → Removed items p index (λ o. GaveUp state o (blocks_of o.segment) f pos head keep)
  cut_removed hs items p index f pos head keep res are at (stays o n there held shape none cut) gave = absurd (none-some f (sym (kept_none res none) ∙ gave))
  cut_removed hs items p index f pos head keep res are at (freed o free there gone ok up) gave =
      removed hs items p index (λ o. GaveUp state o (blocks_of o.segment) f pos head keep) o are at there gone (subst (λ (x : FreeSegment D). GaveUp state o (blocks_of o.segment) x pos head keep) (same_Some free f (sym (ap freed_of ok) ∙ gave)) up)
  cut_removed hs items p index f pos head keep res are at (could_not o n there held shape err st) gave = absurd (none-some f (sym (none_of_err res err) ∙ gave))

  module _ {W : HeldSegment D → Type 0} {items : List (HeldSegment D)} {p index : ℕ} (r : Removed items p index W) where
    -- the pool's pass held it, and it is one of the pool's
    pub removed_holding : has l.pool index ≡ true
    removed_holding = subst (λ (i : ℕ). has l.pool i ≡ true) r.named r.held.holding

    pub removed_blank : (f : FreeSegment D) → IsBlank state (segment_volume r.segment.segment) (blocks_of r.segment.segment) f → IsBlank state (pass_lock l.pool).base.volume (pass_lock l.pool).base.blocks f
    removed_blank f blank = subst (λ (v : ℕ). IsBlank state v (pass_lock l.pool).base.blocks f) (r.held.volume ∙ sym is.pool_volume) (subst (λ (k : ℕ). IsBlank state (segment_volume r.segment.segment) k f) r.held.blocks blank)

    -- the lane where the pool has it
    pub lane_gave : (held : Vec (HeldSegment D) Global) (pool : PassOf (Pool (FreeSegment D)) PoolBase) (spindle : PassOf Spindle SpindleBase) → held.items ≡ items → IsOver l.spindle spindle → vec_capacity held ≡ vec_capacity l.held → IsFree pool → IsSamePass l.pool pool
        → ((i : ℕ) → i ≢ index → has l.pool i ≡ true → has pool i ≡ true) → IsLane state (record l { held = held; pool = pool; spindle = spindle })
    lane_gave held pool spindle are over same free pass kept =
        let hs = l.held.items in let n = vec_capacity l.held in let o = r.segment in
        let others = lacks_removed (λ (h : HeldSegment D). h.index) hs (map (λ (u : ℕ × FreeSegment D). u.0) (option_to_list l.taken)) p o is.apart r.there in
        let on = λ (i : ℕ) (ne : i ≢ o.index) (holding : has l.pool i ≡ true). kept i (λ e. ne (e ∙ sym r.named)) holding in
        let each = each_on state l.logger l.owner n l.pool pool o.index (remove hs p) pass on (all_remove (IsHeld state l.logger l.owner n l.pool) hs p is.each) others.0 in
        let holders : length (pass_lock pool).base.holders ≡ length (pass_lock l.pool).base.holders = ap (λ (i : LockId PoolBase). length i.base.holders) pass.0 in record {
          pool_free = free;
          spindle_free = over.free;
          pool_volume = ap (λ (i : LockId PoolBase). i.base.volume) pass.0 ∙ is.pool_volume;
          spindle_volume = ap (λ (i : LockId SpindleBase). i.base.volume) over.same.0 ∙ is.spindle_volume;
          settled = over.settled;
          accesses = accesses_then _ _ _ over.mine is.accesses;
          each = subst (λ (m : ℕ). AllByRecursion (IsHeld state l.logger l.owner m pool) held.items) (sym same) (subst (AllByRecursion (IsHeld state l.logger l.owner n pool)) (sym (are ∙ r.gone)) each);
          unclaimed = subst (λ (m : ℕ). IfSome l.taken (IsTaken state l.logger m pool)) (sym same) (taken_still state l.logger l.owner n l.pool pool o.index l.taken pass on is.unclaimed others.1);
          apart = subst (λ (xs : List (HeldSegment D)). AreApart (map (λ (h : HeldSegment D). h.index) xs ++ map (λ (u : ℕ × FreeSegment D). u.0) (option_to_list l.taken))) (sym (are ∙ r.gone)) (apart_remove (λ (h : HeldSegment D). h.index) hs (map (λ (u : ℕ × FreeSegment D). u.0) (option_to_list l.taken)) p is.apart);
          room = (let room = is.room in omega (arith, room, same, holders));
          handing = (is.handing.0, (let room = is.handing.1 in omega (arith, room, same)));
        }

    -- its segments are those of its pass still
    pub all_gave : (pool : PassOf (Pool (FreeSegment D)) PoolBase) → IsSamePass l.pool pool → pass_mine pool ≡ pass_mine l.pool ++ (pass_number l.pool, operation_of (Gave index)) ∷ [] → HoldsAll l
        → HoldsIn pool (map (λ (h : HeldSegment D). h.index) items ++ map (λ (u : ℕ × FreeSegment D). u.0) (option_to_list l.taken))
    all_gave pool pass mine all =
        let ts = map (λ (u : ℕ × FreeSegment D). u.0) (option_to_list l.taken) in
        subst (λ (xs : List (HeldSegment D)). HoldsIn pool (map (λ (h : HeldSegment D). h.index) xs ++ ts)) (sym r.gone) (all_giving l.pool pool l.held.items ts p r.segment index pass mine r.there r.named all)
