-- Segments that were read back, and the records that were found in them.
use Rattle.std.specs.Prelude.{⊤, take, slice_get, ◌^◌, IsPermutation, ◌≡◌, ◌≢◌, ◌<◌, ◌≤◌, ◌+◌, ◌==◌, if◌then◌else◌, ℕ, Bool, not, List, [], ◌∷◌, ◌++◌, map, filter, position, unwrap_or, Some, option_map, Result, IfOk, IfErr, OnOk, slice_set, IsErrOf, IsTrue, max}
use Rattle.std.specs.List.{AllByRecursion, AllZip, list_any}
use Rattle.wol_disk.specs.Disk.{State, Block, Values, IsImageOf, LeavesOnly, Rose, only, reads, settled}
use Rattle.spin_model.specs.Spun.{state_of}
use Rattle.spin_model.specs.declared.spun.Spun.{Spun}
use Rattle.log_scan.specs.Scan.{IsScan, IsScanOf, IsDamaged, IsFirstFault}
use Rattle.log_scan.specs.declared.Found.{Found}
use Rattle.log_scan.specs.declared.Scan.{Scan}
use Rattle.log_scan.specs.declared.ScanFault.{ScanFault}
use Rattle.log_scan.specs.declared.ScanFault.TheVariants as fault
use Rattle.redirect_map.specs.Index.{entry_of}
use Rattle.wol_model.specs.Index.{Indexed, AreRising}
use Rattle.manager.specs.declared.part.Part.TheVariants as part
use Rattle.logger.specs.Lanes.{IsLane, IsAt, IsSameLane, logger_of, held_in, taken_in, pool_of}
use Rattle.logger.specs.declared.lane.HeldSegment.{HeldSegment}
use Rattle.logger.specs.declared.lane.Lane.{Lane}
use Rattle.logger.specs.declared.shared.Shared.{Shared}
use Rattle.log_segment.specs.Kept.{IsKeptOrIdle}
use Rattle.log_segment.specs.Segment.{IsSegment, IsWhole, IsFree, IsSame, Holds, part_of, disk_of, free_disk, free_volume, segment_volume, owner_of, valid_of}
use Rattle.log_segment.specs.declared.free.FreeSegment.{FreeSegment}
use Rattle.log_segment.specs.declared.segment.Segment.{Segment}
use Rattle.log_scan.specs.Adopted.{count_kept}
use Rattle.turn_lock.specs.Passes.{pass_mine}
use Rattle.wol_model.specs.Log.{Record, IsLog}
use Rattle.manager_recovery.specs.Owned.{Head, all_owned, owned_of, IsFault, AreIntact, IsIntact}
use Rattle.manager_recovery.specs.Opening.{CanOpen}
use Rattle.manager_recovery.specs.Left.{IsAsBefore, IsSameOwned, IsUsedLane, Fate, HasGiven, kept_of, AreFates}
use Rattle.manager_recovery.specs.declared.opening.Opening.{Opening}
use Rattle.manager_recovery.specs.declared.opening.OwnedPart.{OwnedPart}
use Rattle.manager_recovery.specs.declared.listing.FoundRecord.{FoundRecord}
use Rattle.manager_recovery.specs.declared.refusal.OpenRefusal.{OpenRefusal}
use Rattle.manager_recovery.specs.declared.refusal.OpenRefusal.TheVariants.{LabelDiffers, LoggerMissing, OutsideView, Damaged, Twins, DiskFault, NoMemory}

-- ---- One segment

-- what a scan of a part answers and leaves
pub record IsReadOf {D : Type 0} (state : D → State) (old new : Spun D)
    (res : Result Scan ScanFault) : Type 0 where
  pub as_before : IsAsBefore state old new
  pub shape : IfOk res (IsScan (state_of state old).size)
  pub scanned : (vs : List (Values Block)) → (state_of state old).values ≡ Some vs
      → IfOk res (IsScanOf (reads vs))
  pub damaged : (vs : List (Values Block)) (block : ℕ) → (state_of state old).values ≡ Some vs
      → IsErrOf res (fault.Damaged block) → IsDamaged (reads vs) × IsFirstFault (reads vs) block
  pub settled_ :
      OnOk res ((state_of state new).values ≡ option_map settled (state_of state old).values)
  pub cause : IsErrOf res fault.Failed
      → Rose (state_of state old).faults (state_of state new).faults
  pub calm : OnOk res ((state_of state new).faults ≡ (state_of state old).faults)

-- the scan is that of the part, which has one image, and its records lie in the volume
pub record IsScanned {D : Type 0} (state : D → State) (id home : ℕ) (o : OwnedPart D) (s : Scan) :
    Type 0 where
  pub shape : IsScan (state_of state o.part).size s
  pub owner : s.owner ≡ Some id
  pub scanned : (vs : List (Values Block)) → (state_of state o.part).values ≡ Some vs
      → (vs ≡ only (reads vs)) × IsScanOf (reads vs) s
  pub within : AllByRecursion (λ (f : Found). f.head.lbn + f.head.count ≤ home) s.records.items

-- what shows at this position that the segment isn't one of the volume: the head has another owner
-- or none, or the record is the first that passes the volume's end
pub data IsPastEnd (s : Scan) (id home pos : ℕ) : Type 0 where
  foreign : s.owner ≢ Some id → pos ≡ 0 → IsPastEnd s id home pos
  passes : (k : ℕ) (f : Found) → s.owner ≡ Some id → slice_get s.records.items k ≡ Some f
      → pos ≡ f.pos → home < f.head.lbn + f.head.count
      → AllByRecursion (λ (g : Found). g.head.lbn + g.head.count ≤ home) (take k s.records.items)
      → IsPastEnd s id home pos

-- why one segment is refused
abbrev pub SegmentRefuses : {D : Type 0} → (tells : Bool) → (D → State) → (id home : ℕ)
    → (o n : OwnedPart D) → OpenRefusal → Type 0
SegmentRefuses tells state id home o n LabelDiffers = ⊥
SegmentRefuses tells state id home o n (LoggerMissing missing) = ⊥
SegmentRefuses tells state id home o n (OutsideView logger segment) = ⊥
SegmentRefuses tells state id home o n (Damaged volume block) =
    (volume ≡ o.logger) × (IsTrue tells → IsFault id home (owned_of state o) block)
SegmentRefuses tells state id home o n (Twins first_volume first second_volume second) = ⊥
SegmentRefuses tells state id home o n (DiskFault (part.Home volume)) = ⊥
SegmentRefuses tells state id home o n (DiskFault (part.Segment volume index)) =
    (volume ≡ o.logger) × (index ≡ o.index)
    × Rose (state_of state o.part).faults (state_of state n.part).faults
SegmentRefuses tells state id home o n NoMemory = ⊤

-- ---- All segments

-- a segment whose part was at most read
pub record IsSeenAgain {D : Type 0} (state : D → State) (o n : OwnedPart D) : Type 0 where
  pub same : IsSameOwned state o n
  pub any_moment : LeavesOnly (state_of state o.part) (state_of state n.part)
      (IsImageOf (state_of state o.part).values)

-- the lane's pass did nothing at its pool
abbrev pub HasGivenNone : {D : Type 0} → (old new : Lane D) → Type 0
HasGivenNone old new = pass_mine (pool_of new) ≡ pass_mine (pool_of old)

-- after the segments were read, whatever came of it
pub record IsReadBack {D : Type 0} (state : D → State) (shared : Shared D) (o n : Opening D) :
    Type 0 where
  pub same : n ≡ record o { lanes = n.lanes; owned = n.owned }
  pub lanes : AllZip (IsUsedLane state shared o.want.id o.most) o.lanes.items n.lanes.items
  pub pools : AllZip HasGivenNone o.lanes.items n.lanes.items
  pub owned : AllZip (IsSeenAgain state) o.owned.items n.owned.items

-- a segment that was read back: it has one image, and no call of it failed
pub record IsSettledPart {D : Type 0} (state : D → State) (o n : OwnedPart D) : Type 0 where
  pub settled_ : (state_of state n.part).values ≡ option_map settled (state_of state o.part).values
  pub calm : (state_of state n.part).faults ≡ (state_of state o.part).faults

-- all of them were read back
pub record AreReadBack {D : Type 0} (tells : Bool) (state : D → State) (shared : Shared D)
    (o n : Opening D) (scans : List Scan) : Type 0 where
  pub open_ : CanOpen state shared n
  pub scans_ : AllZip (IsScanned state o.want.id o.want.home) n.owned.items scans
  pub settled_ : AllZip (IsSettledPart state) o.owned.items n.owned.items
  pub intact : IsTrue tells → AreIntact o.want.id o.want.home (all_owned state o.owned.items)

-- what the scan of the segment at place k leaves and answers
pub record IsScannedAt {D : Type 0} (tells : Bool) (state : D → State) (shared : Shared D)
    (o n : Opening D) (k : ℕ) (res : Result Scan OpenRefusal) : Type 0 where
  pub same : n ≡ record o { lanes = n.lanes; owned = n.owned }
  pub lanes : AllZip (IsUsedLane state shared o.want.id o.most) o.lanes.items n.lanes.items
  pub pools : AllZip HasGivenNone o.lanes.items n.lanes.items
  pub before : OwnedPart D
  pub after : OwnedPart D
  pub there : slice_get o.owned.items k ≡ Some before
  pub set : n.owned.items ≡ slice_set o.owned.items k after
  pub seen : IsSeenAgain state before after
  pub ok : IfOk res (λ s. CanOpen state shared n × IsScanned state o.want.id o.want.home after s
      × IsSettledPart state before after
      × (IsTrue tells → IsIntact o.want.id o.want.home (owned_of state before)))
  pub err : IfErr res (SegmentRefuses tells state o.want.id o.want.home before after)

-- ---- Records

-- the place of a logger in the view
abbrev pub lane_of : (view : List ℕ) → (logger : ℕ) → ℕ
lane_of view logger = unwrap_or (position (λ id. id == logger) view) 0

-- a record that was found in a segment on the lane at this place
abbrev pub record_in : {D : Type 0} → (lane : ℕ) → OwnedPart D → Found → FoundRecord
record_in lane o f = record {
  entry = record {
    version = f.head.version;
    lbn = f.head.lbn;
    count = f.head.count;
    keep = f.head.keep;
    lane = lane;
    segment = o.index;
    pos = f.pos;
  };
  volume = o.logger;
  block = o.first_block + f.pos;
}

abbrev pub keeps_some : Found → Bool
keeps_some f = not (f.head.keep == 0)

-- the records found in a segment that keep a block
abbrev pub found_in : {D : Type 0} → (view : List ℕ) → OwnedPart D → Scan → List FoundRecord
found_in view o s = map (record_in (lane_of view o.logger) o) (filter keeps_some s.records.items)

-- those of all segments, in order
abbrev pub all_found : {D : Type 0} → (view : List ℕ) → List (OwnedPart D) → List Scan
    → List FoundRecord
all_found view [] scans = []
all_found view (o ∷ os) [] = []
all_found view (o ∷ os) (s ∷ scans) = found_in view o s ++ all_found view os scans

-- the head of a record
abbrev pub head_of : FoundRecord → Head
head_of r = record { version = r.entry.version; volume = r.volume; block = r.block }

-- one above the greatest of these versions, and at least `next`
abbrev pub next_found : (next : ℕ) → List Found → ℕ
next_found next [] = next
next_found next (f ∷ fs) = next_found (max next (f.head.version + 1)) fs

abbrev pub next_of : (next : ℕ) → List Scan → ℕ
next_of next [] = next
next_of next (s ∷ scans) = next_of (next_found next s.records.items) scans

-- the entries of an index that was filled with these records
abbrev pub entries_from : List FoundRecord → List Indexed
entries_from rs = map (λ (r : FoundRecord). entry_of r.entry 0) rs

-- a record may go into an index
abbrev pub IsEntryInRange : FoundRecord → Type 0
IsEntryInRange r = (1 ≤ r.entry.count) × (r.entry.count ≤ 128)
    × (r.entry.lbn + r.entry.count ≤ 2 ^ 32) × (0 < r.entry.keep)
    × (r.entry.keep < 2 ^ r.entry.count) × (1 ≤ r.entry.version) × (r.entry.version < 2 ^ 63)

-- ---- What is left at last

-- a record of the segment keeps a block
abbrev pub has_some : Scan → Bool
has_some s = list_any keeps_some s.records.items

-- the segments that have such a record
abbrev pub thinned : {D : Type 0} → List (OwnedPart D) → List Scan → List (OwnedPart D)
thinned [] scans = []
thinned (o ∷ os) [] = []
thinned (o ∷ os) (s ∷ scans) = if has_some s then o ∷ thinned os scans else thinned os scans

-- a segment that was freed
pub record IsFreedOf {D : Type 0} (state : D → State) (old : Segment D) (f : FreeSegment D) :
    Type 0 where
  pub free : IsFree state f
  pub volume : free_volume f ≡ segment_volume old
  pub any_moment : (rs : List Record) → Holds state old rs
      → LeavesOnly (disk_of state old) (free_disk state f) (IsKeptOrIdle (owner_of old) rs)

-- a segment that could not be freed
pub record IsUnfreed {D : Type 0} (state : D → State) (old new : Segment D) : Type 0 where
  pub same : IsSame old new
  pub size : (disk_of state new).size ≡ (disk_of state old).size
  pub rose : Rose (disk_of state old).faults (disk_of state new).faults
  pub any_moment : (rs : List Record) → Holds state old rs
      → LeavesOnly (disk_of state old) (disk_of state new) (IsKeptOrIdle (owner_of old) rs)

-- what is left where segments that have nothing are freed, and of the segments that had one
pub record IsThinning {D : Type 0} (state : D → State) (shared : Shared D) (o n : Opening D) :
    Type 0 where
  pub same : n ≡ record o { lanes = n.lanes; owned = n.owned }
  pub lanes : AllZip (IsUsedLane state shared o.want.id o.most) o.lanes.items n.lanes.items
  pub fates : List (Fate D)
  pub owned : n.owned.items ≡ kept_of fates
  pub pools : AllZip (HasGiven o.owned.items fates) o.lanes.items n.lanes.items
  pub each : AreFates state o.want.id o.owned.items fates

-- ---- Held segments

-- the part of an owned segment as the segment that it is by its scan
pub record IsAdopted {D : Type 0} (state : D → State) (o : OwnedPart D) (s : Scan)
    (h : HeldSegment D) : Type 0 where
  pub index : h.index ≡ o.index
  pub part : part_of h.segment ≡ o.part
  pub shape : IsSegment state h.segment
  pub owner : Some (owner_of h.segment) ≡ s.owner
  pub whole : IsWhole h.segment
  pub valid : valid_of h.segment ≡ count_kept s.records.items
  pub holds_ : (vs : List (Values Block)) → (state_of state o.part).values ≡ Some vs
      → (rs : List Record) → IsLog (reads vs) (owner_of h.segment) rs → Holds state h.segment rs

abbrev pub AreAdopted : {D : Type 0} → (D → State) → List (OwnedPart D) → List Scan
    → List (HeldSegment D) → Type 0
AreAdopted state [] [] [] = ⊤
AreAdopted state [] [] (h ∷ hs) = ⊥
AreAdopted state [] (s ∷ scans) hs = ⊥
AreAdopted state (o ∷ os) [] hs = ⊥
AreAdopted state (o ∷ os) (s ∷ scans) [] = ⊥
AreAdopted state (o ∷ os) (s ∷ scans) (h ∷ hs) =
    IsAdopted state o s h × AreAdopted state os scans hs

-- those that lie on this logger
abbrev pub held_on : {D : Type 0} → (logger : ℕ) → List (OwnedPart D) → List (HeldSegment D)
    → List (HeldSegment D)
held_on logger [] hs = []
held_on logger (o ∷ os) [] = []
held_on logger (o ∷ os) (h ∷ hs) =
    if o.logger == logger then h ∷ held_on logger os hs else held_on logger os hs

-- a lane holds the segments of its logger, in order
pub record HoldsItsOwn {D : Type 0} (state : D → State) (shared : Shared D)
    (os : List (OwnedPart D)) (hs : List (HeldSegment D)) (old new : Lane D) : Type 0 where
  pub lane : IsLane state new
  pub at : IsAt shared new
  pub same : IsSameLane old new
  pub held : held_in new ≡ held_on (logger_of new) os hs
  pub taken : taken_in new ≡ taken_in old
  pub pool : HasGivenNone old new

-- all lanes do
pub record AreHeld {D : Type 0} (state : D → State) (shared : Shared D) (os : List (OwnedPart D))
    (scans : List Scan) (old new : List (Lane D)) : Type 0 where
  pub segments : List (HeldSegment D)
  pub adopted : AreAdopted state os scans segments
  pub each : AllZip (HoldsItsOwn state shared os segments) old new

-- ---- By version

-- no version is less than the one before it
abbrev pub AreSortedByVersion : List FoundRecord → Type 0
AreSortedByVersion [] = ⊤
AreSortedByVersion (r ∷ rs) = AllByRecursion
    (λ (q : FoundRecord). r.entry.version ≤ q.entry.version) rs × AreSortedByVersion rs

-- records of one version stand in the same order
abbrev pub IsStableByVersion : List FoundRecord → List FoundRecord → Type 0
IsStableByVersion old new = (v : ℕ) → filter (λ (r : FoundRecord). r.entry.version == v) new
    ≡ filter (λ (r : FoundRecord). r.entry.version == v) old

-- the records are those that were found, by rising version
pub record AreSorted (found sorted : List FoundRecord) : Type 0 where
  pub same : IsPermutation found sorted
  pub stable : IsStableByVersion found sorted
  pub rising : AreRising (map (λ (r : FoundRecord). r.entry.version) sorted)
