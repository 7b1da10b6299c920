-- No step of a drain tells of fewer pools that were found empty.
use Rattle.std.proofs.Common.{◌≡◌, ⊎_elim, ◌≤◌, ◌+◌, ℕ, List, [], ◌∷◌, ◌++◌, Result, Ok, Err, refl, sym, ap, subst, ◌∙◌, arith}
use Rattle.std.specs.Prelude.{IsOk}
use Rattle.std.proofs.lemmas.Bool.{cases_eq, false≢true}
use Rattle.wol_disk.specs.Disk.{State}
use Rattle.turn_lock.specs.Histories.{Entry}
use Rattle.turn_lock.specs.Passes.{pass_mine, pass_number}
use Rattle.seg_pool.specs.Holders.{Gave}
use Rattle.seg_pool.specs.Operations.{operation_of}
use Rattle.logger.specs.Lanes.{pool_of}
use Rattle.logger.specs.declared.lane.Lane.{Lane}
use Rattle.manager.specs.Offers.{ChangesLane}
use Rattle.wol_model.specs.Index.{Indexed}
use Rattle.manager.specs.Reclaim.{HasDropped, HasDroppedSegment, HasFetched, IsTrimmedLane}
use Rattle.manager.specs.Stands.{nones_in, nones_at, entries_at}
use Rattle.manager.specs.declared.base.LaneBase.{LaneBase}
use Rattle.manager.specs.declared.manager.Manager.{Manager}
use Rattle.manager.proofs.ReadyLanes.{nones_more, nones_at_set}
use Rattle.manager.specs.declared.part.StepFault.{StepFault}

nones_gave : (es : List Entry) (pass index : ℕ) → nones_in (es ++ (pass, operation_of (Gave index)) ∷ []) ≡ nones_in es
nones_gave es pass index = nones_more es (pass, operation_of (Gave index)) ∙ (let e : nones_in es + 0 ≡ nones_in es = omega arith in e)

same_pool : {D : Type 0} (old new : Lane D) → pass_mine (pool_of new) ≡ pass_mine (pool_of old) → nones_in (pass_mine (pool_of old)) ≤ nones_in (pass_mine (pool_of new))
same_pool old new is = let e = ap nones_in is in omega arith

module _ {D : Type 0} (bs : List LaneBase) where
  changed_lane : (Change : Lane D → Lane D → Type 0) → ((o n : Lane D) → Change o n → nones_in (pass_mine (pool_of o)) ≤ nones_in (pass_mine (pool_of n))) → (k : ℕ) (old new : List (Lane D)) → ChangesLane Change k old new → (j : ℕ) → nones_at old bs j ≤ nones_at new bs j
  changed_lane Change less k old new c j = subst (λ (l : List (Lane D)). nones_at old bs j ≤ nones_at l bs j) (sym c.set) (nones_at_set old bs k c.before c.after c.there (less c.before c.after c.change) j)

  pub fetched_no_fewer : (lane : ℕ) (old new : Manager D) → HasFetched lane old new → (j : ℕ) → nones_at old.lanes.items bs j ≤ nones_at new.lanes.items bs j
  fetched_no_fewer lane old new f j = changed_lane _ (λ o n used. same_pool o n used.pool) lane old.lanes.items new.lanes.items f.lanes j

  trimmed_no_fewer : (index left : ℕ) (o n : Lane D) → IsTrimmedLane index (left ≡ 0) o n → nones_in (pass_mine (pool_of o)) ≤ nones_in (pass_mine (pool_of n))
  trimmed_no_fewer index left o n t = ⊎_elim
      (λ none. let e = ap nones_in (t.gave none).0 ∙ nones_gave (pass_mine (pool_of o)) (pass_number (pool_of o)) index in omega arith)
      (λ some. same_pool o n (t.kept some).0)
      (cases_eq left 0)

  pub dropped_no_fewer : {T : Type 0} (version : ℕ) (e : Indexed) (old new : Manager D) (res : Result T StepFault) → HasDropped version e old new res → (j : ℕ) → nones_at old.lanes.items bs j ≤ nones_at new.lanes.items bs j
  dropped_no_fewer version e old new res dropped j = changed_lane _ (λ o n t. trimmed_no_fewer e.index (entries_at e.listed.lane e.index new.index.entries) o n t) e.listed.lane old.lanes.items new.lanes.items dropped.lanes j

  retired_no_fewer : {T : Type 0} (index : ℕ) (res : Result T StepFault) (o n : Lane D) → IsTrimmedLane index (IsOk res) o n → nones_in (pass_mine (pool_of o)) ≤ nones_in (pass_mine (pool_of n))
  retired_no_fewer index (Ok x) o n t = let e = ap nones_in (t.gave refl).0 ∙ nones_gave (pass_mine (pool_of o)) (pass_number (pool_of o)) index in omega arith
  retired_no_fewer index (Err fault) o n t = same_pool o n (t.kept (λ ok. absurd (false≢true ok))).0

  pub whole_no_fewer : {T : Type 0} (lane index : ℕ) (old new : Manager D) (res : Result T StepFault) → HasDroppedSegment lane index old new res → (j : ℕ) → nones_at old.lanes.items bs j ≤ nones_at new.lanes.items bs j
  whole_no_fewer lane index old new res dropped j = changed_lane _ (λ o n t. retired_no_fewer index res o n t) lane old.lanes.items new.lanes.items dropped.lanes j
