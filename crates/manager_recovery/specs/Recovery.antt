-- A volume that was read back.
use Rattle.std.specs.Prelude.{⊤, ◌≡◌, ℕ, map, true, Bool, List, None, option_map, filter, IsTrue}
use Rattle.std.specs.List.{AllByRecursion, AllZip}
use Rattle.wol_disk.specs.Disk.{State, settled}
use Rattle.wol_model.specs.Index.{Indexed}
use Rattle.spin_model.specs.Spun.{state_of}
use Rattle.log_scan.specs.declared.Scan.{Scan}
use Rattle.logger.specs.declared.shared.Shared.{Shared}
use Rattle.manager_recovery.specs.Owned.{AreFirstTwins}
use Rattle.manager_recovery.specs.Left.{IsSameOwned}
use Rattle.manager_recovery.specs.Opening.{CanOpen}
use Rattle.manager_recovery.specs.Refused.{IsNamesAnswer, IsRecoverable, head_at}
use Rattle.manager_recovery.specs.Scanned.{IsScanned, IsSettledPart, AreSorted, all_found, entries_from, has_some, head_of, next_of, thinned}
use Rattle.manager_recovery.specs.declared.listing.FoundRecord.{FoundRecord}
use Rattle.manager_recovery.specs.declared.opening.Opening.{Opening}
use Rattle.manager_recovery.specs.declared.opening.OwnedPart.{OwnedPart}
use Rattle.manager_recovery.specs.declared.refusal.OpenRefusal.{OpenRefusal}
use Rattle.manager_recovery.specs.declared.refusal.OpenRefusal.TheVariants.{LabelDiffers, LoggerMissing, OutsideView, Damaged, Twins, DiskFault, NoMemory}
use Rattle.manager_recovery.specs.declared.volume.Recovered.{Recovered}

-- the index lists the records that were found, by rising version
pub record IsIndexOf (found : List FoundRecord) (entries : List Indexed) : Type 0 where
  pub sorted : List FoundRecord
  pub are_sorted : AreSorted found sorted
  pub is : entries ≡ entries_from sorted

-- why there is no index of them
abbrev pub IsIndexRefusal : (found : List FoundRecord) → OpenRefusal → Type 0
IsIndexRefusal found LabelDiffers = ⊥
IsIndexRefusal found (LoggerMissing id) = ⊥
IsIndexRefusal found (OutsideView logger segment) = ⊥
IsIndexRefusal found (Damaged volume block) = ⊥
IsIndexRefusal found (Twins first_volume first second_volume second) =
    (version : ℕ) × AreFirstTwins (map head_of found) (head_at version first_volume first)
    (head_at version second_volume second)
IsIndexRefusal found (DiskFault part) = ⊥
IsIndexRefusal found NoMemory = ⊤

-- What was read back: the scans of the segments that are left, each with a record that keeps a
-- block, the index and the next version.
pub record IsRecovered {D : Type 0} (tells : Bool) (state : D → State) (shared : Shared D)
    (o n : Opening D) (r : Recovered) : Type 0 where
  pub named : IsNamesAnswer o None
  pub recoverable : IsTrue tells → IsRecoverable state o
  pub home : (state_of state n.home).values ≡ option_map settled (state_of state o.home).values
  pub home_calm : (state_of state n.home).faults ≡ (state_of state o.home).faults
  -- the segments as they were read, with their scans
  pub read : List (OwnedPart D)
  pub scans : List Scan
  pub same : AllZip (IsSameOwned state) o.owned.items read
  pub settled_ : AllZip (IsSettledPart state) o.owned.items read
  pub scanned : AllZip (IsScanned state o.want.id o.want.home) read scans
  pub next : r.next ≡ next_of 1 scans
  pub index : IsIndexOf (all_found o.view read scans) r.index.entries
  -- and those that are left
  pub open_ : CanOpen state shared n
  pub left : n.owned.items ≡ thinned read scans
  pub left_scans : r.scans.items ≡ filter has_some scans
  pub some : AllByRecursion (λ s. has_some s ≡ true) r.scans.items
