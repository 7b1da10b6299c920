-- Why a volume is refused: the first cause that applies.
use Rattle.std.specs.Prelude.{⊤, ◌≡◌, ◌≢◌, ◌⊎◌, ◌==◌, ℕ, Bool, false, not, List, map, find, take, is_some, position, slice_get, slice_index_or, Contains, Option, Some, None, IsTrue}
use Rattle.std.specs.List.{AllZip}
use Rattle.wol_disk.specs.Disk.{State, Rose}
use Rattle.spin_model.specs.Spun.{state_of}
use Rattle.manager.specs.declared.part.Part.TheVariants.{Home, Segment}
use Rattle.manager_recovery.specs.Left.{IsSameOwned}
use Rattle.manager_recovery.specs.Owned.{Head, all_owned, heads_in, AreIntact, IsFirstDamage, HaveNoTwins, AreFirstTwins}
use Rattle.manager_recovery.specs.Scanned.{IsSeenAgain}
use Rattle.manager_recovery.specs.declared.opening.Opening.{Opening}
use Rattle.manager_recovery.specs.declared.opening.OwnedPart.{OwnedPart}
use Rattle.manager_recovery.specs.declared.refusal.OpenRefusal.{OpenRefusal}
use Rattle.manager_recovery.specs.declared.refusal.OpenRefusal.TheVariants.{LabelDiffers, LoggerMissing, OutsideView, Damaged, Twins, DiskFault, NoMemory}

-- ---- Names

-- the first logger of a view whose image wasn't opened
abbrev pub first_missing : (view : List ℕ) → (present : List Bool) → Option ℕ
first_missing view present = find (λ id. not (slice_index_or present id false)) view

-- the view names the logger
abbrev pub is_named : (view : List ℕ) → (logger : ℕ) → Bool
is_named view logger = is_some (position (λ id. id == logger) view)

-- the first owned segment on a logger that the view doesn't name
abbrev pub first_outside : {D : Type 0} → (view : List ℕ) → List (OwnedPart D)
    → Option (OwnedPart D)
first_outside {D} view os = find (λ (o : OwnedPart D). not (is_named view o.logger)) os

-- what refuses a volume before a disk is read, if anything does
abbrev pub IsNamesAnswer : {D : Type 0} → Opening D → Option OpenRefusal → Type 0
IsNamesAnswer o None = (o.label ≡ o.want) × (first_missing o.view o.present.items ≡ None)
    × (first_outside o.view o.owned.items ≡ None)
IsNamesAnswer o (Some LabelDiffers) = o.label ≢ o.want
IsNamesAnswer o (Some (LoggerMissing id)) =
    (o.label ≡ o.want) × (first_missing o.view o.present.items ≡ Some id)
IsNamesAnswer {D} o (Some (OutsideView logger segment)) =
    (o.label ≡ o.want) × (first_missing o.view o.present.items ≡ None)
    × ((part : OwnedPart D) × (first_outside o.view o.owned.items ≡ Some part)
    × (logger ≡ part.logger) × (segment ≡ part.index))
IsNamesAnswer o (Some (Damaged volume block)) = ⊥
IsNamesAnswer o (Some (Twins first_volume first second_volume second)) = ⊥
IsNamesAnswer o (Some (DiskFault part)) = ⊥
IsNamesAnswer o (Some NoMemory) = ⊥

-- ---- Content

-- the two heads
abbrev pub head_at : (version volume block : ℕ) → Head
head_at version volume block = record { version = version; volume = volume; block = block }

-- no owned segment is damaged, and no two records that keep blocks have one version
abbrev pub IsRecoverable : {D : Type 0} → (D → State) → Opening D → Type 0
IsRecoverable state o = AreIntact o.want.id o.want.home (all_owned state o.owned.items)
    × HaveNoTwins (heads_in o.want.id (all_owned state o.owned.items))

-- two records have one version: the first two of the least such version
pub record IsTwins {D : Type 0} (state : D → State) (o : Opening D)
    (first_volume first second_volume second : ℕ) : Type 0 where
  pub intact : AreIntact o.want.id o.want.home (all_owned state o.owned.items)
  pub version : ℕ
  pub twins : AreFirstTwins (heads_in o.want.id (all_owned state o.owned.items))
      (head_at version first_volume first) (head_at version second_volume second)

-- The count of an owned segment rose, and none before it is damaged. While segments are read none
-- is written; they are freed only once all were read and nothing in them refuses the volume.
pub record SegmentRose {D : Type 0} (tells : Bool) (state : D → State) (o : Opening D)
    (new : List (OwnedPart D)) (logger index : ℕ) : Type 0 where
  pub k : ℕ
  pub before : OwnedPart D
  pub after : OwnedPart D
  pub was_there : slice_get o.owned.items k ≡ Some before
  pub is_there : Contains new after
  pub named : (logger ≡ before.logger) × (index ≡ before.index) × (logger ≡ after.logger)
      × (index ≡ after.index)
  pub rose : Rose (state_of state before.part).faults (state_of state after.part).faults
  pub intact : IsTrue tells
      → AreIntact o.want.id o.want.home (take k (all_owned state o.owned.items))
  pub read_or_last : AllZip (IsSeenAgain state) o.owned.items new
      ⊎ (IsTrue tells → IsRecoverable state o)

-- an owned segment lies in the image of this volume
abbrev pub IsOnLog : {D : Type 0} → List (OwnedPart D) → (volume : ℕ) → Type 0
IsOnLog {D} os volume = Contains (map (λ (o : OwnedPart D). o.logger) os) volume

-- the refusal is the first by the order of causes; of a failed call, that the part's count rose,
-- and nothing refused the volume before
abbrev pub Refuses : {D : Type 0} → (tells : Bool) → (D → State) → (o n : Opening D) → OpenRefusal
    → Type 0
Refuses tells state o n LabelDiffers = IsNamesAnswer o (Some LabelDiffers)
Refuses tells state o n (LoggerMissing id) = IsNamesAnswer o (Some (LoggerMissing id))
Refuses tells state o n (OutsideView logger segment) =
    IsNamesAnswer o (Some (OutsideView logger segment))
Refuses tells state o n (Damaged volume block) =
    IsNamesAnswer o None × (IsTrue tells
    → IsFirstDamage o.want.id o.want.home (all_owned state o.owned.items) volume block)
    × IsOnLog o.owned.items volume
Refuses tells state o n (Twins first_volume first second_volume second) =
    IsNamesAnswer o None × (IsTrue tells → IsTwins state o first_volume first second_volume second)
    × IsOnLog o.owned.items first_volume × IsOnLog o.owned.items second_volume
Refuses tells state o n (DiskFault (Home volume)) =
    IsNamesAnswer o None × (volume ≡ o.want.id)
    × Rose (state_of state o.home).faults (state_of state n.home).faults
    × (IsTrue tells → IsRecoverable state o)
Refuses tells state o n (DiskFault (Segment volume index)) =
    IsNamesAnswer o None × SegmentRose tells state o n.owned.items volume index
Refuses tells state o n NoMemory = IsNamesAnswer o None

-- ---- What a refusal leaves

-- after each refusal all owned segments are handed back, but where a call of a segment failed,
-- which may come after others were freed
abbrev pub HandsBackAll : {D : Type 0} → (D → State) → (o n : Opening D) → OpenRefusal → Type 0
HandsBackAll state o n LabelDiffers = AllZip (IsSameOwned state) o.owned.items n.owned.items
HandsBackAll state o n (LoggerMissing id) = AllZip (IsSameOwned state) o.owned.items n.owned.items
HandsBackAll state o n (OutsideView logger segment) =
    AllZip (IsSameOwned state) o.owned.items n.owned.items
HandsBackAll state o n (Damaged volume block) =
    AllZip (IsSameOwned state) o.owned.items n.owned.items
HandsBackAll state o n (Twins first_volume first second_volume second) =
    AllZip (IsSameOwned state) o.owned.items n.owned.items
HandsBackAll state o n (DiskFault (Home volume)) =
    AllZip (IsSameOwned state) o.owned.items n.owned.items
HandsBackAll state o n (DiskFault (Segment volume index)) = ⊤
HandsBackAll state o n NoMemory = AllZip (IsSameOwned state) o.owned.items n.owned.items
