-- The spellings of labels, views, segment heads and record heads: the bytes of a value's fields,
-- and zeros up to 512. Numbers stand lowest byte first. Each value has one spelling, the form of a
-- record head included.
use Rattle.std.specs.Prelude.{⊤, ◌≡◌, ◌⊎◌, ◌<◌, ◌≤◌, ℕ, ◌+◌, ◌-◌, ◌^◌, List, ◌++◌, length, replicate, if◌then◌else◌, ◌==◌, codes}
use Rattle.std.specs.List.{flat_map, AllByRecursion}
use Rattle.byteorder.specs.Endian.{little_bytes}
use Rattle.wol_disk.specs.Disk.{Block}
use Rattle.wol_model.specs.Blocks.{AreApart}

-- bytes, and zeros up to 512
abbrev pub padded : List ℕ → Block
padded bytes = bytes ++ replicate (512 - length bytes) 0

-- ---- Label: whose image this is, and its sizes

-- the sizes of a volume: blocks of home, segments, and blocks of a segment
pub record Shape : Type 0 where
  pub home : ℕ
  pub segments : ℕ
  pub segment_blocks : ℕ

-- the sizes are in their ranges
pub record IsShape (s : Shape) : Type 0 where
  pub home : (1 ≤ s.home) × (s.home ≤ 2 ^ 32)
  pub segments : s.segments ≤ 1024
  pub segment_blocks : (4 ≤ s.segment_blocks) × (s.segment_blocks ≤ 65536)

-- the bytes of a label: name, id and sizes
unfoldable pub label_block : ℕ → Shape → Block
label_block id s =
    padded (codes "WOLVOL01" ++ (little_bytes 4 id
    ++ (little_bytes 8 s.home
    ++ (little_bytes 4 s.segments ++ little_bytes 4 s.segment_blocks))))

-- the block is the label of volume `id` with these sizes
pub record SpellsLabel (b : Block) (id : ℕ) (s : Shape) : Type 0 where
  pub id_in_range : id < 2 ^ 32
  pub in_range : IsShape s
  pub bytes : b ≡ label_block id s

-- ---- View: the loggers of a volume, in order

-- at most 16 ids, all different
pub record IsViewList (ids : List ℕ) : Type 0 where
  pub few : length ids ≤ 16
  pub in_range : AllByRecursion (λ id. id < 2 ^ 32) ids
  pub distinct : AreApart ids

-- the bytes of a view: name, number of ids, ids
unfoldable pub view_block : List ℕ → Block
view_block ids =
    padded (codes "WOLVIEW1" ++ (little_bytes 4 (length ids) ++ flat_map (little_bytes 4) ids))

-- the block is the view of these loggers
pub record SpellsView (b : Block) (ids : List ℕ) : Type 0 where
  pub in_range : IsViewList ids
  pub bytes : b ≡ view_block ids

-- ---- Segment head: free, or the volume that owns the segment

-- what the first block of a segment says
pub data SegmentHead : Type 0 where
  Free : SegmentHead
  Owned : (owner : ℕ) → SegmentHead

-- the owner is in its range
abbrev pub IsSegmentHead : SegmentHead → Type 0
IsSegmentHead Free = ⊤
IsSegmentHead (Owned owner) = owner < 2 ^ 32

-- the first block of a free segment
unfoldable pub free_block : Block
free_block = padded (codes "WOLSEGF1")

-- the first block of a segment that this volume owns
unfoldable pub owned_block : ℕ → Block
owned_block owner = padded (codes "WOLSEGO1" ++ little_bytes 4 owner)

-- the block of a segment head
abbrev pub segment_block : SegmentHead → Block
segment_block Free = free_block
segment_block (Owned owner) = owned_block owner

-- the block is this head of a segment
pub record SpellsSegment (b : Block) (h : SegmentHead) : Type 0 where
  pub in_range : IsSegmentHead h
  pub bytes : b ≡ segment_block h

-- ---- Record head

-- The head of a record. Form 1 keeps all blocks of the record or none; form 2 says for each block
-- whether it is kept.
pub record RecordHead : Type 0 where
  pub form : ℕ
  pub owner : ℕ
  pub version : ℕ
  pub first : ℕ
  pub count : ℕ
  -- bit i is set where block i of the record is kept
  pub mask : ℕ

-- what each form's mask may be
abbrev pub IsMaskOfForm : ℕ → ℕ → ℕ → Type 0
IsMaskOfForm form count mask = (form ≡ 2) ⊎ ((form ≡ 1) × ((mask ≡ 0) ⊎ (mask ≡ 2 ^ count - 1)))

-- the fields are in their ranges
pub record IsRecordHead (h : RecordHead) : Type 0 where
  pub owner : h.owner < 2 ^ 32
  pub version : (1 ≤ h.version) × (h.version < 2 ^ 63)
  pub count : (1 ≤ h.count) × (h.count ≤ 128)
  pub range : h.first + h.count ≤ 2 ^ 32
  pub kept : h.mask < 2 ^ h.count
  pub form : IsMaskOfForm h.form h.count h.mask

-- the fields that both forms have, from byte 12 on
abbrev pub span_bytes : RecordHead → List ℕ
span_bytes h = little_bytes 4 h.owner
    ++ (little_bytes 8 h.version ++ (little_bytes 8 h.first ++ little_bytes 4 h.count))

-- form 1 has a state: 1 valid, 2 invalid
unfoldable pub head_block : RecordHead → Block
head_block h =
    if h.form == 1
    then padded (codes "WOLREC01"
    ++ (little_bytes 4 (if h.mask == 0 then 2 else 1) ++ span_bytes h))
    else padded (codes "WOLREC02" ++ (little_bytes 4 0 ++ (span_bytes h ++ little_bytes 16 h.mask)))

-- the block is this head of a record
pub record SpellsRecord (b : Block) (h : RecordHead) : Type 0 where
  pub in_range : IsRecordHead h
  pub bytes : b ≡ head_block h

-- ---- Gate: what stands behind the last record

-- 512 zeros
unfoldable pub gate_block : Block
gate_block = replicate 512 0
