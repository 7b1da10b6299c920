-- What a scan finds.
use Rattle.std.specs.Prelude.{◌≡◌, ◌≢◌, ◌⊎◌, ◌<◌, ◌≤◌, ◌+◌, ℕ, List, [], ◌∷◌, length, drop, slice_get, MatchOption, Some, Result, OnOk, IsErrOf}
use Rattle.std.specs.List.{AllByRecursion}
use Rattle.wol_disk.specs.Disk.{Block, State, LeavesOnly, Rose, IsImageOf}
use Rattle.wol_model.specs.Heads.{RecordHead, IsRecordHead, SegmentHead, SpellsRecord, SpellsSegment, gate_block}
use Rattle.wol_model.specs.Log.{Record, IsIdle, IsLog, StandsBehind, position_of, end_of}
use Rattle.spin_model.specs.Spun.{volume_of, state_of}
use Rattle.spin_model.specs.declared.spun.Spun.{Spun}
use Rattle.log_layout.specs.Values.{record_head}
use Rattle.log_scan.specs.declared.Found.{Found}
use Rattle.log_scan.specs.declared.Scan.{Scan}
use Rattle.log_scan.specs.declared.ScanFault.{ScanFault}
use Rattle.log_scan.specs.declared.ScanFault.TheVariants.{Damaged, Failed}

-- this is the head of record k, and its position
pub record IsFoundAt (rs : List Record) (k : ℕ) (f : Found) : Type 0 where
  pub whose : Record
  pub there : slice_get rs k ≡ Some whose
  pub pos : f.pos ≡ position_of rs k
  pub head : record_head f.head ≡ whose.head

-- these are the heads of all these records, in order
pub record AreFound (rs : List Record) (found : List Found) : Type 0 where
  pub each : (k : ℕ) (f : Found) → slice_get found k ≡ Some f → IsFoundAt rs k f
  pub all : length found ≡ length rs

-- the scan of these blocks: they are free, or a log of just these records
abbrev pub IsScanOf : List Block → Scan → Type 0
IsScanOf bs s =
    MatchOption s.owner (IsIdle bs × (s.records.items ≡ []) × (s.end ≡ 1))
    (λ owner. (rs : List Record) × IsLog bs owner rs × AreFound rs s.records.items
    × (s.end ≡ end_of rs))

-- a head of this owner behind the segment's own, whose blocks end within the segment
pub record IsInside (blocks owner : ℕ) (f : Found) : Type 0 where
  pub behind : 1 ≤ f.pos
  pub in_range : IsRecordHead (record_head f.head)
  pub owned : f.head.owner ≡ owner
  pub fits : f.pos + 1 + f.head.count ≤ blocks

-- What holds of each scan of a segment of so many blocks, also where its disk doesn't tell its
-- content.
pub record IsScan (blocks : ℕ) (s : Scan) : Type 0 where
  pub place : (1 ≤ s.end) × (s.end ≤ blocks)
  pub few : length s.records.items < s.end
  pub heads : MatchOption s.owner (s.records.items ≡ [])
      (λ owner. AllByRecursion (IsInside blocks owner) s.records.items)

-- ---- Reads

-- What calls that only read leave of a part, whatever they answer: its images as they were. Its
-- count of failed calls stays where they give something, and rose where they tell a failed call;
-- where memory is out, nothing is said of it.
pub record ReadsOnly {D T : Type 0} (state : D → State) (old new : Spun D)
    (res : Result T ScanFault) : Type 0 where
  pub values : (state_of state new).values ≡ (state_of state old).values
  pub size : (state_of state new).size ≡ (state_of state old).size
  pub volume : volume_of new ≡ volume_of old
  pub cause : IsErrOf res Failed
      → Rose (state_of state old).faults (state_of state new).faults
  pub calm : OnOk res ((state_of state new).faults ≡ (state_of state old).faults)
  pub quiet : (block : ℕ) → IsErrOf res (Damaged block)
      → (state_of state new).faults ≡ (state_of state old).faults
  pub any_moment : LeavesOnly (state_of state old) (state_of state new)
      (IsImageOf (state_of state old).values)

-- ---- Damage

-- the blocks are neither free nor a log
pub record IsDamaged (bs : List Block) : Type 0 where
  pub no_log : (owner : ℕ) (rs : List Record) → IsLog bs owner rs → ⊥
  pub not_idle : IsIdle bs → ⊥

-- the first block is no head of a segment
abbrev pub HasNoHead : List Block → Type 0
HasNoHead [] = ⊥
HasNoHead (b ∷ bs) = (h : SegmentHead) → SpellsSegment b h → ⊥

-- block p is no gate, and no head of a record of this owner that ends within the segment
pub record IsFaultAt (bs : List Block) (owner p : ℕ) : Type 0 where
  pub block : Block
  pub rest : List Block
  pub here : drop p bs ≡ block ∷ rest
  pub no_gate : block ≢ gate_block
  pub no_head : (h : RecordHead) → SpellsRecord block h → h.owner ≡ owner → h.count ≤ length rest
      → ⊥

-- block p is at fault, and each head in front of it is whole
abbrev pub IsFirstFault : List Block → (p : ℕ) → Type 0
IsFirstFault bs p = ((p ≡ 0) × HasNoHead bs)
    ⊎ ((owner : ℕ) × (rs : List Record) × StandsBehind bs p owner rs × IsFaultAt bs owner p)
