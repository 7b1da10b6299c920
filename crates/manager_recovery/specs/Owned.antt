-- The segments that a volume owns, as they read: what is wrong with them, and what the volume
-- recovers to.
use Rattle.std.specs.Prelude.{◌≡◌, ◌<◌, ◌≤◌, ◌+◌, ◌==◌, if◌then◌else◌, ℕ, not, List, [], ◌∷◌, ◌++◌, map, filter, take, length, slice_get, unwrap_or, Some, option_map, Contains}
use Rattle.std.specs.List.{AllByRecursion, flat_map}
use Rattle.wol_disk.specs.Disk.{Block, State, reads}
use Rattle.wol_model.specs.Index.{Listed}
use Rattle.wol_model.specs.Log.{Record, IsLog, position_of, extent_of, marks_of}
use Rattle.wol_model.specs.Recovered.{read_log, recovered}
use Rattle.wol_model.specs.Extents.{write_of}
use Rattle.wol_model.specs.Blocks.{Write}
use Rattle.log_scan.specs.Scan.{IsDamaged}
use Rattle.log_scan.specs.Scan as scan
use Rattle.spin_model.specs.Spun.{state_of}
use Rattle.manager_recovery.specs.declared.opening.OwnedPart.{OwnedPart}

-- what a disk reads as; nothing where it doesn't tell its content
abbrev pub read_of : State → List Block
read_of d = unwrap_or (option_map reads d.values) []

-- a segment that the volume owns: where it lies, and its blocks as they read
pub record Owned : Type 0 where
  pub logger : ℕ
  pub index : ℕ
  -- the place of its first block in the image of its logger
  pub first : ℕ
  pub blocks : List Block

abbrev pub owned_of : {D : Type 0} → (D → State) → OwnedPart D → Owned
owned_of state o = record {
  logger = o.logger;
  index = o.index;
  first = o.first_block;
  blocks = read_of (state_of state o.part);
}

abbrev pub all_owned : {D : Type 0} → (D → State) → List (OwnedPart D) → List Owned
all_owned state os = map (owned_of state) os

-- its records, none where it is no log of this volume
abbrev pub records_of : (id : ℕ) → Owned → List Record
records_of id s = unwrap_or (read_log id s.blocks) []

-- those of all segments, in order
abbrev pub records_in : (id : ℕ) → List Owned → List Record
records_in id ss = flat_map (records_of id) ss

-- ---- Damage

-- the record lies in a volume of so many blocks
abbrev pub LiesWithin : (home : ℕ) → Record → Type 0
LiesWithin home r = r.head.first + r.head.count ≤ home

-- the segment is a log of the volume, and its records lie in it
pub record IsIntact (id home : ℕ) (s : Owned) : Type 0 where
  pub records : List Record
  pub log : IsLog s.blocks id records
  pub within : AllByRecursion (LiesWithin home) records

-- record k passes the volume's end, and none before it does
pub record PassesEnd (home : ℕ) (rs : List Record) (k : ℕ) : Type 0 where
  pub record_ : Record
  pub there : slice_get rs k ≡ Some record_
  pub passes : home < record_.head.first + record_.head.count
  pub before : AllByRecursion (LiesWithin home) (take k rs)

-- this block of its logger's image is at fault: the first place of a head in the segment that has
-- none of its volume's, or the head of the first record that passes the volume's end
pub data IsFault (id home : ℕ) (s : Owned) (block : ℕ) : Type 0 where
  no_head : (p : ℕ) → IsDamaged s.blocks → scan.IsFirstFault s.blocks p → block ≡ s.first + p
      → IsFault id home s block
  past_end : (rs : List Record) (k : ℕ) → IsLog s.blocks id rs → PassesEnd home rs k
      → block ≡ s.first + position_of rs k → IsFault id home s block

abbrev pub AreIntact : (id home : ℕ) → List Owned → Type 0
AreIntact id home ss = AllByRecursion (IsIntact id home) ss

-- the first segment that isn't intact has its fault there
pub record IsFirstDamage (id home : ℕ) (ss : List Owned) (volume block : ℕ) : Type 0 where
  pub before : List Owned
  pub segment : Owned
  pub after : List Owned
  pub split : ss ≡ before ++ segment ∷ after
  pub intact : AreIntact id home before
  pub where_ : volume ≡ segment.logger
  pub fault : IsFault id home segment block

-- ---- Twins

-- the head of a record that keeps a block: its version, and where it stands
pub record Head : Type 0 where
  pub version : ℕ
  pub volume : ℕ
  pub block : ℕ

-- the heads of those records that keep a block, the first record's head being at this position of
-- the segment
abbrev pub heads_from : Owned → (pos : ℕ) → List Record → List Head
heads_from s pos [] = []
heads_from s pos (r ∷ rs) =
    let rest = heads_from s (pos + 1 + length r.blocks) rs in
    if r.head.mask == 0 then rest
    else record { version = r.head.version; volume = s.logger; block = s.first + pos } ∷ rest

abbrev pub heads_of : (id : ℕ) → Owned → List Head
heads_of id s = heads_from s 1 (records_of id s)

-- those of all segments, in order
abbrev pub heads_in : (id : ℕ) → List Owned → List Head
heads_in id ss = flat_map (heads_of id) ss

-- those of one version, in order
abbrev pub with_version : (version : ℕ) → List Head → List Head
with_version v hs = filter (λ (h : Head). h.version == v) hs

-- no two have one version
abbrev pub HaveNoTwins : List Head → Type 0
HaveNoTwins hs = (v : ℕ) → length (with_version v hs) ≤ 1

-- these are the first two of their version, and no lesser version has two
pub record AreFirstTwins (hs : List Head) (one other : Head) : Type 0 where
  pub further : List Head
  pub first_two : with_version one.version hs ≡ one ∷ other ∷ further
  pub least : (v : ℕ) → v < one.version → length (with_version v hs) ≤ 1

-- ---- What is recovered

-- the records that keep a block
abbrev pub valid_in : (id : ℕ) → List Owned → List Record
valid_in id ss = filter (λ (r : Record). not (r.head.mask == 0)) (records_in id ss)

-- the writes that they came from
abbrev pub writes_in : (id : ℕ) → List Owned → List Write
writes_in id ss = map (λ r. write_of (extent_of r)) (valid_in id ss)

-- the array that home and the segments recover to as they read
abbrev pub recovered_of : (id : ℕ) → (home : List Block) → List Owned → List Block
recovered_of id home ss = recovered id home (map (λ (s : Owned). s.blocks) ss)

-- A listed record is one of an owned segment that lies on its lane's logger: it has the version,
-- the first block and the kept blocks of that record's head, and none of its blocks is home yet.
pub record IsListedOf (id : ℕ) (view : List ℕ) (ss : List Owned) (e : Listed) : Type 0 where
  pub segment : Owned
  pub owned : Contains ss segment
  pub lane : slice_get view e.lane ≡ Some segment.logger
  pub record_ : Record
  pub there : Contains (records_of id segment) record_
  pub version : e.version ≡ record_.head.version
  pub first : e.first ≡ record_.head.first
  pub keep : e.keep ≡ marks_of record_.head.count record_.head.mask
  pub homed : e.homed ≡ marks_of record_.head.count 0
