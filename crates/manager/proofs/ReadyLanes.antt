-- What holds of a manager between its calls, where one of its lanes is another.
use Rattle.std.proofs.Common.{◌≡◌, ◌≤◌, ◌+◌, ℕ, zero, suc, sym, subst, ◌∙◌, arith, List, [], ◌∷◌, None, Some, refl, cond, Option}
use Rattle.std.specs.Prelude.{slice_get, slice_set, is_some}
use Rattle.std.proofs.lemmas.Option.{same_Some, none-some}
use Rattle.wol_disk.specs.Disk.{State}
use Rattle.turn_lock.specs.Passes.{pass_mine}
use Rattle.turn_lock.specs.declared.pass.PassOf.{PassOf}
use Rattle.spin_model.specs.declared.spindle.Spindle.{Spindle}
use Rattle.spin_model.specs.declared.spindle.SpindleBase.{SpindleBase}
use Rattle.logger.specs.Lanes.{IsAt, IsSameLane, pool_of, logger_of}
use Rattle.logger.specs.declared.lane.Lane.{Lane}
use Rattle.logger.specs.declared.shared.Shared.{Shared}
use Rattle.manager.specs.Stands.{At, IsHome, Locks, nones_in, nones_at, takes_in, takes_of}
use Rattle.manager.specs.declared.base.LaneBase.{LaneBase}
use Rattle.manager.specs.declared.base.ManagerBase.{ManagerBase}
use Rattle.manager.specs.declared.manager.Manager.{Manager}
use Rattle.volume_parts.proofs.Elements.{all_set, map_set}
use Rattle.manager.proofs.Lanes.{named_set}
pub use Rattle.volume_parts.proofs.Elements.{get_of}
pub use Rattle.volume_parts.proofs.Lanes.{nones_more}

-- ---- A pass of a pool that has made a turn more

-- a part that is down counts once
pub down_counts : {X : Type 0} (o : Option X) → cond {A = ℕ} (is_some o) 1 0 ≤ 1
down_counts None = omega arith
down_counts (Some x) = omega arith

-- where one lane's pass took so many more, so did all at most
pub takes_of_set : {D : Type 0} (lanes : List (Lane D)) (bs : List LaneBase) (k d : ℕ) (old new : Lane D) → slice_get lanes k ≡ Some old → takes_in (pass_mine (pool_of new)) ≤ takes_in (pass_mine (pool_of old)) + d
    → takes_of (slice_set lanes k new) bs ≤ takes_of lanes bs + d
takes_of_set [] bs k d old new lane le = absurd (none-some old lane)
takes_of_set (l ∷ lanes) [] zero d old new lane le = omega arith
takes_of_set (l ∷ lanes) [] (suc k) d old new lane le = omega arith
takes_of_set {D} (l ∷ lanes) (b ∷ bs) zero d old new lane le = let P : Lane D → Type 0 = λ q. takes_in (pass_mine (pool_of new)) ≤ takes_in (pass_mine (pool_of q)) + d in let more = subst P (sym (same_Some l old lane)) le in omega arith
takes_of_set (l ∷ lanes) (b ∷ bs) (suc k) d old new lane le = let rest = takes_of_set lanes bs k d old new lane le in omega (arith, rest)

nones_unnamed : {D : Type 0} (lanes : List (Lane D)) (j : ℕ) → nones_at lanes [] j ≡ 0
nones_unnamed [] j = refl
nones_unnamed (l ∷ lanes) zero = refl
nones_unnamed (l ∷ lanes) (suc j) = nones_unnamed lanes j

-- where a lane was found empty no less often, so was each
pub nones_at_set : {D : Type 0} (lanes : List (Lane D)) (bs : List LaneBase) (k : ℕ) (old new : Lane D) → slice_get lanes k ≡ Some old → nones_in (pass_mine (pool_of old)) ≤ nones_in (pass_mine (pool_of new)) → (j : ℕ) → nones_at lanes bs j ≤ nones_at (slice_set lanes k new) bs j
nones_at_set [] bs k old new lane le j = absurd (none-some old lane)
nones_at_set (l ∷ lanes) [] k old new lane le j = omega (arith, nones_unnamed (l ∷ lanes) j)
nones_at_set {D} (l ∷ lanes) (b ∷ bs) zero old new lane le zero = let P : Lane D → Type 0 = λ q. nones_in (pass_mine (pool_of q)) ≤ nones_in (pass_mine (pool_of new)) in let more = subst P (sym (same_Some l old lane)) le in omega arith
nones_at_set (l ∷ lanes) (b ∷ bs) zero old new lane le (suc j) = omega arith
nones_at_set (l ∷ lanes) (b ∷ bs) (suc k) old new lane le zero = omega arith
nones_at_set (l ∷ lanes) (b ∷ bs) (suc k) old new lane le (suc j) = nones_at_set lanes bs k old new lane le j

module _ {D : Type 0} (state : D → State) (id most : ℕ) (lanes : List (Lane D)) (k : ℕ) (old new : Lane D) (lane : slice_get lanes k ≡ Some old) (same : IsSameLane old new) where
  pub locks_set : {spindle : PassOf Spindle SpindleBase} {b : ManagerBase} → Locks id most spindle lanes b → nones_in (pass_mine (pool_of old)) ≤ nones_in (pass_mine (pool_of new)) → Locks id most spindle (slice_set lanes k new) b
  locks_set {spindle} {b} l more = record {
    pass = l.pass;
    number = l.number;
    each = named_set lanes b.lanes k old new lane (λ c is. record { logger = same.logger ∙ is.logger; pool = same.pool.0 ∙ is.pool; pool_number = same.pool.1 ∙ is.pool_number; spindle = same.spindle.0 ∙ is.spindle; spindle_number = same.spindle.1 ∙ is.spindle_number; nones = let was = is.nones in omega arith }) l.each;
    owner = l.owner;
    most_ = l.most_;
    view = map_set logger_of lanes k old new lane same.logger ∙ l.view;
  }

-- a manager is at its locks with another lane that is
pub at_lane : {D : Type 0} {shared : Shared D} (m : Manager D) (k : ℕ) (new : Lane D) → IsHome shared m → IsAt shared new → At shared m.id m.spindle (slice_set m.lanes.items k new)
at_lane {shared = shared} m k new at is = record { spindle_in = at.spindle_in; spindle_is = at.spindle_is; lanes_ = all_set (IsAt shared) m.lanes.items k new at.lanes_ is }
