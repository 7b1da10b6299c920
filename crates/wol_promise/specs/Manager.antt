-- A manager of a volume as contracts see it.
use Rattle.std.specs.Prelude.{◌≡◌, ◌⊎◌, ℕ, Bool, List, [], ◌∷◌, map, Option, Some, Contains, slice_get}
use Rattle.std.specs.List.{AllByRecursion, AllZip, flat_map, filter_map, list_any}
use Rattle.wol_disk.specs.Disk.{Block}
use Rattle.wol_model.specs.Blocks.{Write}
use Rattle.wol_model.specs.Extents.{Extent, IsValid}
use Rattle.wol_model.specs.Heads.{free_block, owned_block}
use Rattle.wol_model.specs.Index.{Indexed, listed_in, is_homed, AreRising, IsListed}
use Rattle.wol_model.specs.Log.{Record, extent_of, marks_of, position_of}
use Rattle.wol_model.specs.Recovered.{recovered}
use Rattle.wol_promise.specs.Policy.{Look}
pub use Rattle.wol_promise.specs.Policy.{PartName, HomePart, SegmentPart}

-- What contracts see of parts of images: whether their content is told, which images each may have,
-- and the number of blocks, the volume and the count of faults of each.
pub record Parts (P : Type 0) : Type 1 where
  pub told : Type 0
  pub may_be : P → List Block → Type 0
  pub size : P → ℕ
  pub volume : P → ℕ
  pub faults : P → ℕ

-- a segment that the lane at this place of the view holds, with its records
pub record Held (P : Type 0) : Type 0 where
  pub part : P
  pub lane : ℕ
  pub index : ℕ
  pub broken : Bool
  pub records : List Record

-- a manager as contracts see it
pub record ManagerSeen (P : Type 0) : Type 0 where
  pub home : P
  pub held : List (Held P)
  -- segments that were taken from a pool and not written to yet: their lanes and indexes
  pub taken : List (ℕ × ℕ)
  pub indexed : List Indexed
  pub next : ℕ
  pub home_up : Bool
  pub ups : List Bool
  -- the part at which a disk call failed
  pub down : Option PartName

-- what a manager began with: array, records and next version at opening, and what never changes
pub record Base : Type 0 where
  pub array : List Block
  pub records : List Write
  pub next : ℕ
  pub owner : ℕ
  pub home_blocks : ℕ
  -- the most blocks of one write
  pub most : ℕ
  -- the loggers, by place
  pub view : List ℕ
  pub look : Look

-- the look of a manager: its flags, next version and listed records, and the part at which a call
-- failed
abbrev pub look_of : {P : Type 0} → ManagerSeen P → Look
look_of m = record {
  home_up = m.home_up;
  ups = m.ups;
  next = m.next;
  listed = listed_in m.indexed;
  down = m.down;
}

-- the part of this name
abbrev pub IsPartOf : {P : Type 0} → (view : List ℕ) → ManagerSeen P → PartName → P → Type 0
IsPartOf view m HomePart p = m.home ≡ p
IsPartOf {P} view m (SegmentPart logger index) p =
    (s : Held P) × Contains m.held s × (slice_get view s.lane ≡ Some logger) × (s.index ≡ index)
    × (s.part ≡ p)

-- the extents of the held segments, in order
abbrev pub extents_held : {P : Type 0} → List (Held P) → List Extent
extents_held held = flat_map (λ s. map extent_of s.records) held

-- each record of each held segment passes
abbrev pub AllRecords : {P : Type 0} → (Record → Type 0) → List (Held P) → Type 0
AllRecords Test held = AllByRecursion (λ s. AllByRecursion Test s.records) held

-- whatever images these parts have, this holds of the array that they stand for
abbrev pub Recovers : {P : Type 0} → (of_home : List Block → Type 0)
    → (of_held : Held P → List Block → Type 0) → (owner : ℕ) → List (Held P) → (List Block → Type 0)
    → Type 0
Recovers of_home of_held owner held Test =
    (home : List Block) (segments : List (List Block)) → of_home home → AllZip of_held held segments
    → Test (recovered owner home segments)

-- ---- The index

-- an index entry is that of record k of a held segment
pub record IsEntryOf {P : Type 0} (s : Held P) (k : ℕ) (r : Record) (e : Indexed) : Type 0 where
  pub version : e.listed.version ≡ r.head.version
  pub first : e.listed.first ≡ r.head.first
  pub keep : e.listed.keep ≡ marks_of r.head.count r.head.mask
  pub lane : e.listed.lane ≡ s.lane
  pub index : e.index ≡ s.index
  pub pos : e.pos ≡ position_of s.records k

-- a record of a held segment with its entry in the index
pub record IsFound {P : Type 0} (indexed : List Indexed) (s : Held P) (k : ℕ) (r : Record) :
    Type 0 where
  pub entry : Indexed
  pub listed : Contains indexed entry
  pub is_its : IsEntryOf s k r entry

-- an index entry with its record, which is valid
pub record IsBacked {P : Type 0} (held : List (Held P)) (e : Indexed) : Type 0 where
  pub segment : Held P
  pub is_held : Contains held segment
  pub k : ℕ
  pub record_ : Record
  pub is_there : slice_get segment.records k ≡ Some record_
  pub valid : IsValid (extent_of record_).cover
  pub is_its : IsEntryOf segment k record_ e

-- the index lists exactly the valid records of the held segments
pub record IsIndexOf {P : Type 0} (indexed : List Indexed) (held : List (Held P)) : Type 0 where
  pub each : AllByRecursion (λ s. (k : ℕ) (r : Record) → slice_get s.records k ≡ Some r
      → IsValid (extent_of r).cover → IsFound indexed s k r) held
  pub only : AllByRecursion (IsBacked held) indexed

-- by rising version, with marks of home for live blocks alone
pub record IsSorted (indexed : List Indexed) : Type 0 where
  pub rising : AreRising (map (λ e. e.listed.version) indexed)
  pub listed : AllByRecursion (λ e. IsListed (listed_in indexed) e.listed) indexed

-- each held segment has a valid record: so at the end of each turn, but not between a claim and the
-- record that it was for
abbrev pub AreInUse : {P : Type 0} → List (Held P) → Type 0
AreInUse held =
    AllByRecursion (λ s. (r : Record) × Contains s.records r × IsValid (extent_of r).cover) held

-- block b is homed by an entry of the index
abbrev pub is_homed_in : List Indexed → ℕ → Bool
is_homed_in indexed b = list_any (λ e. is_homed e.listed b) indexed

-- the first block says this owner, or free
abbrev pub SaysOwnerOrFree : (owner : ℕ) → List Block → Type 0
SaysOwnerOrFree owner [] = ⊥
SaysOwnerOrFree owner (b ∷ bs) = (b ≡ owned_block owner) ⊎ (b ≡ free_block)

-- the versions of writes to logs
abbrev pub versions : List Write → List ℕ
versions ws = filter_map (λ w. w.version) ws

-- a record is one of these writes
pub record IsWriteOf (r : Record) (w : Write) : Type 0 where
  pub version : w.version ≡ Some r.head.version
  pub first : w.first ≡ r.head.first
  pub blocks : w.blocks ≡ r.blocks

-- a record is among these writes
abbrev pub WasWritten : List Write → Record → Type 0
WasWritten ws r = (w : Write) × Contains ws w × IsWriteOf r w
