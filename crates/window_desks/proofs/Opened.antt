-- The volumes of a floor's keepers.
use Rattle.std.proofs.Common.{◌≡◌, ◌≤◌, ◌<◌, ℕ, List, [], ◌∷◌, length, slice_index_or, inl, inr, sym, ap, subst, ◌∙◌, arith}
use Rattle.std.specs.Prelude.{vec_len}
use Rattle.std.proofs.lemmas.Bool.{cases_lt}
use Rattle.std.specs.List.{AllByRecursion}
use Rattle.turn_lock.specs.Passes.{pass_lock}
use Rattle.logger.specs.declared.shared.Shared.{Shared}
use Rattle.manager.specs.declared.base.LaneBase.{LaneBase}
use Rattle.manager.specs.Stands.{IsLaneShared}
use Rattle.window_desks.specs.Floors.{IsFloor, IsOn}
use Rattle.request_turns.specs.Turns.{ManagerPass}
use Rattle.window_desks.specs.declared.floor.Floor.{Floor}
use Rattle.request_turns.proofs.Flagged.{there_is}

module _ {D : Type 0} (shared : Shared D) (n : ℕ) where
  below : vec_len shared.spindles ≡ n → (bs : List LaneBase) → AllByRecursion (IsLaneShared shared) bs → AllByRecursion (λ (b : LaneBase). b.logger < n) bs
  below is [] each = tt
  below is (b ∷ bs) each = ((let lt = each.0.spindle_in in omega (arith, lt, is)), below is bs each.1)

-- there are no more volumes than spindles
pub counted : {D : Type 0} (f : Floor D) (fl : IsFloor f) (shared : Shared D) (n : ℕ) → IsOn shared f.locks.now → vec_len shared.spindles ≡ n → length f.keepers.items ≤ n
counted f fl shared n on is = elim (cases_lt n (length f.keepers.items)) [
  | inl more ↦ absurd (
      let inside : n < length f.locks.now = (let same = fl.keepers in omega (arith, same, more)) in
      let l = there_is f.locks.now n inside in
      let own = fl.owners n l.0 inside in
      let lt = (on n l.0 inside).spindle_in in omega (arith, own, lt, is))
  | inr le ↦ le
]

module _ {D : Type 0} (f : Floor D) (fl : IsFloor f) (k : ℕ) (d : ManagerPass D) (within : k < length f.keepers.items) where
  pub owned : (pass_lock (slice_index_or f.keepers.items k d)).base.volume.began.owner ≡ k
  owned =
      let inside : k < length f.locks.now = (let same = fl.keepers in omega (arith, same, within)) in
      let l = there_is f.locks.now k inside in
      ap (λ i. i.base.volume.began.owner) (fl.keep k l.0 d within).own ∙ fl.owners k l.0 inside

  pub viewed : (shared : Shared D) (n : ℕ) → IsOn shared f.locks.now → vec_len shared.spindles ≡ n → AllByRecursion (λ (b : LaneBase). b.logger < n) (pass_lock (slice_index_or f.keepers.items k d)).base.lanes
  viewed shared n on is =
      let inside : k < length f.locks.now = (let same = fl.keepers in omega (arith, same, within)) in
      let l = there_is f.locks.now k inside in
      subst (λ i. AllByRecursion (λ (b : LaneBase). b.logger < n) i.base.lanes) (sym (fl.keep k l.0 d within).own) (below shared n is _ (on k l.0 inside).lanes)
