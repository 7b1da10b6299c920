-- Segments: idle ones, and logs of records.
use Rattle.std.specs.Prelude.{⊤, ◌≡◌, ◌⊎◌, ◌<◌, ◌≤◌, ◌^◌, ◌+◌, ◌==◌, ℕ, Bool, List, [], ◌∷◌, ◌++◌, map, length, take}
use Rattle.std.specs.List.{flat_map, AllByRecursion, range_with_len}
use Rattle.std.specs.Int.{bit_at}
use Rattle.wol_disk.specs.Disk.{Block}
use Rattle.wol_model.specs.Heads.{RecordHead, IsRecordHead, head_block, free_block, owned_block, gate_block}
use Rattle.wol_model.specs.Extents.{Extent, marked}

-- a record as it is written: its head, and its blocks behind it
pub record Record : Type 0 where
  pub head : RecordHead
  pub blocks : List Block

-- the blocks of a record as it is written
abbrev pub written : Record → List Block
written r = head_block r.head ∷ r.blocks

-- the segment's first block says that it is free
abbrev pub IsIdle : List Block → Type 0
IsIdle [] = ⊥
IsIdle (b ∷ bs) = b ≡ free_block

-- a head has its fields in their ranges, and names its owner and the number of its blocks
pub record IsNamed (owner : ℕ) (r : Record) : Type 0 where
  pub in_range : IsRecordHead r.head
  pub owned : r.head.owner ≡ owner
  pub counted : length r.blocks ≡ r.head.count

-- nothing, or a gate and whatever stands behind it
abbrev pub EndsLog : List Block → Type 0
EndsLog [] = ⊤
EndsLog (b ∷ bs) = b ≡ gate_block

-- bs is a head that owner owns, each record's head and blocks, and a rest
pub record IsLog (bs : List Block) (owner : ℕ) (rs : List Record) : Type 0 where
  pub known : owner < 2 ^ 32
  pub rest : List Block
  pub joined : bs ≡ owned_block owner ∷ (flat_map written rs ++ rest)
  pub named : AllByRecursion (IsNamed owner) rs
  pub ends : EndsLog rest

-- the position in its segment of the head of record k
abbrev pub position_of : List Record → (k : ℕ) → ℕ
position_of rs k = 1 + length (flat_map written (take k rs))

-- the position behind the last record
abbrev pub end_of : List Record → ℕ
end_of rs = 1 + length (flat_map written rs)

-- in front of block p there stand an owned head and whole records
pub record StandsBehind (bs : List Block) (p owner : ℕ) (rs : List Record) : Type 0 where
  pub known : owner < 2 ^ 32
  pub named : AllByRecursion (IsNamed owner) rs
  pub front : take p bs ≡ owned_block owner ∷ flat_map written rs
  pub within : p ≤ length bs

-- a log of these records and of some first ones of a group
pub record HasFirstOf (bs : List Block) (owner : ℕ) (rs group : List Record) : Type 0 where
  pub count : ℕ
  pub within : count ≤ length group
  pub log : IsLog bs owner (rs ++ take count group)

-- ---- What a record keeps

-- block i of a record is in the mask
abbrev pub has_bit : (mask i : ℕ) → Bool
has_bit mask i = bit_at mask i == 1

-- a mask's bits, as marks of its first `count` blocks
abbrev pub marks_of : (count mask : ℕ) → List Bool
marks_of count mask = map (has_bit mask) (range_with_len 0 count)

-- the extent that a record stands for: it covers the blocks of its mask
abbrev pub extent_of : Record → Extent
extent_of r = record {
  cover = record {
    version = r.head.version;
    covers = marked r.head.first (marks_of r.head.count r.head.mask);
  };
  first = r.head.first;
  blocks = r.blocks;
}
