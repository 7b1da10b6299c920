-- The segment that comes into the hands of its lane next, from what the code reads of it.
use Rattle.std.proofs.Common.{◌≡◌, ◌<◌, ℕ, eqb, List, [], ◌∷◌, ◌++◌, length, None, Some, sym, ap, subst, ◌∙◌}
use Rattle.std.specs.Prelude.{position, slice_index_or}
use Rattle.std.specs.List.{AllZip}
use Rattle.std.proofs.lemmas.Option.{none-some}
use Rattle.wol_disk.specs.Disk.{State}
use Rattle.log_scan.specs.declared.Scan.{Scan}
use Rattle.logger.specs.declared.lane.Lane.{Lane}
use Rattle.logger.specs.declared.shared.Shared.{Shared}
use Rattle.manager_recovery.specs.Opening.{CanOpen}
use Rattle.manager_recovery.specs.Refused.{IsNamesAnswer}
use Rattle.manager_recovery.specs.Scanned.{IsScanned}
use Rattle.manager_recovery.specs.declared.opening.Opening.{Opening}
use Rattle.manager_recovery.specs.declared.opening.OwnedPart.{OwnedPart}
use Rattle.manager_recovery.proofs.Places.{read_at}
use Rattle.manager_recovery.proofs.Held as held

-- the first k segments are held, and this one is taken next
pub record Coming {D : Type 0} (state : D → State) (shared : Shared D) (o n : Opening D) (scans : List Scan) (k : ℕ) (x : OwnedPart D) (rest : List (OwnedPart D)) : Type 0 where
  pub so_far : held.IsHeldTo state shared o n scans k
  pub can : CanOpen state shared o
  pub named : IsNamesAnswer o None
  pub scanned : AllZip (IsScanned state o.want.id o.want.home) o.owned.items scans
  pub popped : n.owned.items ≡ rest ++ x ∷ []

pub coming : {D : Type 0} {state : D → State} {shared : Shared D} {o n : Opening D} {scans : List Scan} {k : ℕ} → held.IsHeldTo state shared o n scans k → CanOpen state shared o → IsNamesAnswer o None
    → AllZip (IsScanned state o.want.id o.want.home) o.owned.items scans → (x : OwnedPart D) (rest : List (OwnedPart D)) → n.owned.items ≡ rest ++ x ∷ [] → Coming state shared o n scans k x rest
coming so_far can named scanned x rest popped = record { so_far = so_far; can = can; named = named; scanned = scanned; popped = popped }

module _ {D : Type 0} {state : D → State} {shared : Shared D} {o n : Opening D} {scans : List Scan} {k : ℕ} {x : OwnedPart D} {rest : List (OwnedPart D)} (f : Coming state shared o n scans k x rest) where
  pub next : held.IsNextPart state shared o f.can f.named scans f.scanned n k x rest
  next = held.next_part state shared o f.can f.named scans f.scanned n k x rest f.so_far f.popped

  -- its scan, as it was read
  pub scan_same : (scan : Scan) → scan ≡ slice_index_or scans k scan → scan ≡ next.scan
  scan_same scan read = read_at scans k scan next.scan next.scan_is read

  pub scanned_here : (scan : Scan) → scan ≡ slice_index_or scans k scan → IsScanned state o.want.id o.want.home x scan
  scanned_here scan read = subst (IsScanned state o.want.id o.want.home x) (sym (scan_same scan read)) next.scanned_

  -- the place of its logger in the view
  module _ (ids : List ℕ) (ids_are : ids ≡ n.view) where
    pub never_missing : None ≡ position (λ (id : ℕ). eqb id x.logger) ids → ⊥
    never_missing none =
        let place = held.held_place state shared o f.can f.named scans f.scanned n k x rest f.so_far next in
        none-some place.0 (none ∙ ap (position (λ (id : ℕ). eqb id x.logger)) ids_are ∙ place.1)

    module _ (place : ℕ) (found : Some place ≡ position (λ (id : ℕ). eqb id x.logger) ids) where
      found_here : position (λ (id : ℕ). eqb id x.logger) n.view ≡ Some place
      found_here = ap (position (λ (id : ℕ). eqb id x.logger)) (sym ids_are) ∙ sym found

      pub lane_within : place < length n.lanes.items
      lane_within = held.place_within state shared o f.can f.named scans f.scanned n k x rest f.so_far next place found_here

      pub lane_here : (l : Lane D) → l ≡ slice_index_or n.lanes.items place l → held.IsLaneOf state shared o f.can f.named scans f.scanned n k x rest f.so_far next place l
      lane_here l read = held.lane_of state shared o f.can f.named scans f.scanned n k x rest f.so_far next place found_here l read
