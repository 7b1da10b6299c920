-- What a manager is known to be when its turn comes.
use Rattle.std.proofs.Common.{◌≡◌, ◌≤◌, ℕ, Bool, List, [], ◌∷◌, sym, subst, ap, ◌∙◌, arith}
use Rattle.std.specs.List.{AllByRecursion}
use Rattle.std.specs.Prelude.{slice_index_or}
use Rattle.turn_lock.specs.LockIds.{LockId}
use Rattle.turn_lock.specs.Passes.{lock_id}
use Rattle.wol_disk.specs.Disk.{State}
use Rattle.spin_model.specs.Spun.{state_of}
use Rattle.wol_promise.specs.Ruled.{Noted}
use Rattle.logger.specs.Lanes.{IsAt}
use Rattle.logger.specs.declared.lane.Lane.{Lane}
use Rattle.logger.specs.declared.shared.Shared.{Shared}
use Rattle.manager.specs.Stands.{Keeps, IsHome, HasLocks, AreNamed, IsNamed, IsShared, IsLaneShared}
use Rattle.manager.specs.declared.base.LaneBase.{LaneBase}
use Rattle.manager.specs.declared.base.ManagerBase.{ManagerBase}
use Rattle.manager.specs.declared.manager.Manager.{Manager}
use Rattle.request_turns.specs.Full.{FitsVolume}
use Rattle.request_turns.specs.Tried.{CanBeAsked}

module _ {D : Type 0} (shared : Shared D) where
  lane_at : (l : Lane D) (b : LaneBase) → IsNamed l b → IsLaneShared shared b → IsAt shared l
  lane_at l b is at = record {
    pool_in = omega (arith, is.logger, at.pool_in);
    spindle_in = omega (arith, is.logger, at.spindle_in);
    pool = λ d. is.pool ∙ at.pool d ∙ ap (λ (k : ℕ). lock_id (slice_index_or shared.pools.items k d)) (sym is.logger);
    spindle = λ d. is.spindle ∙ at.spindle d ∙ ap (λ (k : ℕ). lock_id (slice_index_or shared.spindles.items k d)) (sym is.logger);
  }

  lanes_at : (lanes : List (Lane D)) (bs : List LaneBase) → AreNamed lanes bs → AllByRecursion (IsLaneShared shared) bs → AllByRecursion (IsAt shared) lanes
  lanes_at [] bs named at = tt
  lanes_at (l ∷ lanes) [] named at = absurd named
  lanes_at (l ∷ lanes) (b ∷ bs) named at = (lane_at l b named.0 at.0, lanes_at lanes bs named.1 at.1)

  is_home : (m : Manager D) (b : ManagerBase) → HasLocks m b → IsShared shared b → IsHome shared m
  is_home m b locks is = record {
    spindle_in = omega (arith, locks.owner, is.spindle_in);
    spindle_is = λ d. locks.pass ∙ is.spindle d ∙ ap (λ (k : ℕ). lock_id (slice_index_or shared.spindles.items k d)) (sym locks.owner);
    lanes_ = lanes_at m.lanes.items b.lanes locks.each is.lanes;
  }

  module _ (tells : Bool) (state : D → State) (m : Manager D) (l k : LockId ManagerBase) (notes : List Noted) (same : k ≡ l) (is : Keeps tells state m k.base notes) where
    -- the shared locks are the manager's
    pub home_at : IsShared shared l.base → IsHome shared m
    home_at sharing = is_home m k.base is.locks (subst (λ (i : LockId ManagerBase). IsShared shared i.base) (sym same) sharing)

    -- so many blocks are as many as it takes in one call
    pub few_at : (n : ℕ) → n ≤ l.base.volume.began.most → n ≤ m.most
    few_at n few = let e = is.locks.most_ in let f = ap (λ (i : LockId ManagerBase). i.base.volume.began.most) same in omega (arith, e, f, few)

    pub narrow : (n : ℕ) → n ≤ l.base.volume.began.most → n ≤ 128
    narrow n few = let a = few_at n few in let r = is.ready.ready.most_.1 in omega (arith, a, r)

    -- and they lie in its home
    pub fits_at : (n : ℕ) → n ≤ l.base.volume.began.home_blocks → n ≤ (state_of state m.home).size
    fits_at n fits = let e = is.upholds.places.home_size in let f = ap (λ (i : LockId ManagerBase). i.base.volume.began.home_blocks) same in omega (arith, e, f, fits)

    -- it can be asked for blocks that fit its volume
    pub can_be_asked : (first count : ℕ) → FitsVolume shared first count l.base → CanBeAsked state shared first count m
    can_be_asked first count fit = record { ready = is.ready; at = home_at fit.at; some = fit.some; few = few_at count fit.few; fits = fits_at _ fit.fits }

-- they fit it, by what its lock is known to have
pub fits_volume : {D : Type 0} (shared : Shared D) (first count : ℕ) (k l : LockId ManagerBase) → k ≡ l → FitsVolume shared first count l.base → FitsVolume shared first count k.base
fits_volume shared first count k l same = subst (λ (i : LockId ManagerBase). FitsVolume shared first count i.base) (sym same)
