-- The segment that the loop over owned segments looks at next, from what the code reads of it.
use Rattle.std.proofs.Common.{◌≡◌, ◌-◌, ◌<◌, ℕ, suc, true, false, eqb, List, length, None, Some, sym, ap, subst, ◌∙◌}
use Rattle.std.specs.Prelude.{slice_get, position, slice_index_or}
use Rattle.std.specs.List.{AllZip}
use Rattle.std.proofs.lemmas.Option.{same_Some, none-some, slice_get_within}
use Rattle.wol_disk.specs.Disk.{State, IsDisk}
use Rattle.spin_model.specs.Spun.{state_of}
use Rattle.spin_model.specs.declared.spun.Spun.{Spun}
use Rattle.log_scan.specs.declared.Scan.{Scan}
use Rattle.logger.specs.Lanes.{logger_of}
use Rattle.logger.specs.declared.lane.Lane.{Lane}
use Rattle.logger.specs.declared.shared.Shared.{Shared}
use Rattle.manager_recovery.specs.Opening.{IsOpeningLane, IsHeldIn}
use Rattle.manager_recovery.specs.Refused.{IsNamesAnswer}
use Rattle.manager_recovery.specs.Scanned.{IsScanned, has_some}
use Rattle.manager_recovery.specs.declared.opening.Opening.{Opening}
use Rattle.manager_recovery.specs.declared.opening.OwnedPart.{OwnedPart}
use Rattle.manager_recovery.proofs.Places.{read_at}
use Rattle.manager_recovery.proofs.Thinning as thinning

-- the segments from place k on were looked at, and there is one before them
pub record Facing {D : Type 0} (state : D → State) (shared : Shared D) (o n : Opening D) (was is : List Scan) (k : ℕ) : Type 0 where
  pub looked : thinning.IsRetiredTo state shared o n was is k
  pub more : 0 < k
  pub scanned : AllZip (IsScanned state o.want.id o.want.home) o.owned.items was
  pub sound : (p : Spun D) → IsDisk (state_of state p)

pub facing : {D : Type 0} {state : D → State} {shared : Shared D} {o n : Opening D} {was is : List Scan} {k : ℕ} → thinning.IsRetiredTo state shared o n was is k → 0 < k
    → AllZip (IsScanned state o.want.id o.want.home) o.owned.items was → ((p : Spun D) → IsDisk (state_of state p)) → Facing state shared o n was is k
facing looked more scanned sound = record { looked = looked; more = more; scanned = scanned; sound = sound }

module _ {D : Type 0} {state : D → State} {shared : Shared D} {o n : Opening D} {was is : List Scan} {k : ℕ} (f : Facing state shared o n was is k) where
  pub still : thinning.IsRetiredTo state shared o n was is (suc (k - 1))
  still = thinning.lowered state shared f.sound o was o.want.home f.scanned n is k f.more f.looked

  -- the segment and its scan
  pub segment : thinning.IsNext state shared f.sound o was o.want.home f.scanned n is (k - 1)
  segment = thinning.next state shared f.sound o was o.want.home f.scanned n is (k - 1) still

  pub part_within : k - 1 < length n.owned.items
  part_within = slice_get_within n.owned.items (k - 1) segment.part segment.part_at

  pub scan_within : k - 1 < length is
  scan_within = slice_get_within is (k - 1) segment.scan segment.scan_at

  -- the scan that was read
  module _ (scan : Scan) (read : scan ≡ slice_index_or is (k - 1) scan) where
    pub scan_same : scan ≡ segment.scan
    scan_same = read_at is (k - 1) scan segment.scan segment.scan_at read

    -- it has a record that keeps a block
    pub stays_here : has_some scan ≡ true → thinning.IsRetiredTo state shared o n was is (k - 1)
    stays_here some = thinning.stays state shared f.sound o was o.want.home f.scanned n is (k - 1) still segment (ap has_some (sym scan_same) ∙ some)

    -- it has none
    pub none_kept : has_some scan ≡ false → has_some segment.scan ≡ false
    none_kept none = ap has_some (sym scan_same) ∙ none

    -- it is that of the segment
    pub scanned_here : (p : OwnedPart D) → slice_get n.owned.items (k - 1) ≡ Some p → (home : ℕ) × IsScanned state n.want.id home p scan
    scanned_here p there = (
      o.want.home,
      subst (λ (q : Opening D). IsScanned state q.want.id o.want.home p scan) (sym f.looked.same)
          (subst (λ (q : OwnedPart D). IsScanned state o.want.id o.want.home q scan) (same_Some segment.part p (sym segment.part_at ∙ there))
          (subst (λ (q : Scan). IsScanned state o.want.id o.want.home segment.part q) (sym scan_same) segment.scanned_)),
    )

  -- the place of its logger in the view
  module _ (named : IsNamesAnswer o None) (part : OwnedPart D) (read : part ≡ slice_index_or n.owned.items (k - 1) part) (ids : List ℕ) (ids_are : ids ≡ n.view) where
    moved : position (λ (id : ℕ). eqb id part.logger) ids ≡ position (λ (id : ℕ). eqb id segment.part.logger) n.view
    moved = λ i. position (λ (id : ℕ). eqb id (read_at n.owned.items (k - 1) part segment.part segment.part_at read i).logger) (ids_are i)

    pub never_missing : None ≡ position (λ (id : ℕ). eqb id part.logger) ids → ⊥
    never_missing none = let place = thinning.part_place state shared f.sound o was o.want.home f.scanned n is (k - 1) still segment named in none-some place.0 (none ∙ moved ∙ place.1)

    module _ (place : ℕ) (found : Some place ≡ position (λ (id : ℕ). eqb id part.logger) ids) where
      pub lane_within : place < length n.lanes.items
      lane_within = let w = thinning.part_lane state shared f.sound o was o.want.home f.scanned n is (k - 1) still segment named place (sym moved ∙ sym found) in slice_get_within n.lanes.items place w.0 w.1

      -- the lane at it
      pub lane_here : (l : Lane D) → l ≡ slice_index_or n.lanes.items place l → (slice_get n.lanes.items place ≡ Some l) × (logger_of l ≡ segment.part.logger)
      lane_here l is_l = thinning.lane_read state shared f.sound o was o.want.home f.scanned n is (k - 1) still segment named place (sym moved ∙ sym found) l is_l

  module _ (place : ℕ) (l : Lane D) (there : slice_get n.lanes.items place ≡ Some l) where
    pub lane_ready : IsOpeningLane state shared n.want.id n.most l
    lane_ready = thinning.is_ready state shared f.sound o was o.want.home f.scanned n is (k - 1) still segment place l there

    pub held_here : logger_of l ≡ segment.part.logger → (p : OwnedPart D) → slice_get n.owned.items (k - 1) ≡ Some p → IsHeldIn state p l
    held_here = thinning.is_held state shared f.sound o was o.want.home f.scanned n is (k - 1) still segment place l there
