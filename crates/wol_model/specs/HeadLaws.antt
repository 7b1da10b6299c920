-- Laws of spellings: a block spells at most one value of each kind, and a log is of one list of
-- records.
use Rattle.std.specs.Prelude.{◌≡◌, ◌↔◌, ℕ, List, Some}
use Rattle.wol_disk.specs.Disk.{Block}
use Rattle.wol_model.specs.Heads.{Shape, SegmentHead, RecordHead, SpellsLabel, SpellsView, SpellsSegment, SpellsRecord, gate_block}
use Rattle.wol_model.specs.Log.{Record, IsIdle, IsLog}
use Rattle.wol_model.specs.Recovered.{spelled_head, read_log}

-- a block is the label of at most one volume, with one shape
abbrev pub OneLabel : Type 0
OneLabel = (b : Block) (id other : ℕ) (s t : Shape) → SpellsLabel b id s → SpellsLabel b other t
    → (id ≡ other) × (s ≡ t)

-- a block is at most one view
abbrev pub OneView : Type 0
OneView = (b : Block) (ids others : List ℕ) → SpellsView b ids → SpellsView b others → ids ≡ others

-- a block is at most one head of a segment
abbrev pub OneSegmentHead : Type 0
OneSegmentHead = (b : Block) (h g : SegmentHead) → SpellsSegment b h → SpellsSegment b g → h ≡ g

-- a block is at most one head of a record
abbrev pub OneRecordHead : Type 0
OneRecordHead = (b : Block) (h g : RecordHead) → SpellsRecord b h → SpellsRecord b g → h ≡ g

-- a gate is no head
abbrev pub GateIsNoHead : Type 0
GateIsNoHead = (h : RecordHead) → SpellsRecord gate_block h → ⊥

-- the reader gives the head that a block spells
abbrev pub ReadingHeads : Type 0
ReadingHeads = (b : Block) (h : RecordHead) → SpellsRecord b h ↔ (spelled_head b ≡ Some h)

-- the reader gives the records of a log
abbrev pub ReadingLogs : Type 0
ReadingLogs = (bs : List Block) (owner : ℕ) (rs : List Record) → IsLog bs owner rs
    ↔ (read_log owner bs ≡ Some rs)

-- so a segment is a log of one owner and of one list of records
abbrev pub OneLog : Type 0
OneLog = (bs : List Block) (owner other : ℕ) (rs ss : List Record) → IsLog bs owner rs
    → IsLog bs other ss → (owner ≡ other) × (rs ≡ ss)

-- no log is idle
abbrev pub NotBoth : Type 0
NotBoth = (bs : List Block) (owner : ℕ) (rs : List Record) → IsIdle bs → IsLog bs owner rs → ⊥
