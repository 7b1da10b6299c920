-- Segments as callers see them.
use Rattle.std.specs.Prelude.{◌≡◌, ◌<◌, ◌≤◌, ◌-◌, ℕ, true, false, List, Result, Ok, Err}
use Rattle.wol_disk.specs.Disk.{State}
use Rattle.wol_disk.specs.declared.disk.Failed.{Failed}
use Rattle.spin_model.specs.Spun.{state_of, volume_of}
use Rattle.spin_model.specs.declared.spun.Spun.{Spun}
use Rattle.wol_model.specs.Log.{Record, end_of}
use Rattle.log_segment.specs.Records.{count_valid}
use Rattle.log_segment.specs.Kept.{Keeps, IsFreeInAll}
use Rattle.log_segment.specs.declared.segment.Segment.{Segment}
use Rattle.log_segment.specs.declared.free.FreeSegment.{FreeSegment}

-- the part that a segment is
abbrev pub part_of : {D : Type 0} → Segment D → Spun D
part_of seg = seg.part

-- the state of a segment's disk
abbrev pub disk_of : {D : Type 0} → (D → State) → Segment D → State
disk_of state seg = state_of state seg.part

-- the volume in whose image it lies
abbrev pub segment_volume : {D : Type 0} → Segment D → ℕ
segment_volume seg = volume_of seg.part

-- the volume whose records it has
abbrev pub owner_of : {D : Type 0} → Segment D → ℕ
owner_of seg = seg.owner

abbrev pub blocks_of : {D : Type 0} → Segment D → ℕ
blocks_of seg = seg.blocks

-- the position behind its last record
abbrev pub place_of : {D : Type 0} → Segment D → ℕ
place_of seg = seg.end

-- how many of its records keep a block
abbrev pub valid_of : {D : Type 0} → Segment D → ℕ
valid_of seg = seg.valid

-- the blocks that one more record may have
abbrev pub room_of : {D : Type 0} → Segment D → ℕ
room_of seg = seg.blocks - seg.end - 1

-- a call of it failed, or none did
abbrev pub IsBroken : {D : Type 0} → Segment D → Type 0
IsBroken seg = seg.broken ≡ true

abbrev pub IsWhole : {D : Type 0} → Segment D → Type 0
IsWhole seg = seg.broken ≡ false

-- What holds of each segment, also where its disk doesn't tell its content.
pub record IsSegment {D : Type 0} (state : D → State) (seg : Segment D) : Type 0 where
  pub size : (disk_of state seg).size ≡ seg.blocks
  pub small : (4 ≤ seg.blocks) × (seg.blocks ≤ 65536)
  pub place : (1 ≤ seg.end) × (seg.end ≤ seg.blocks)
  pub few : seg.valid < seg.end

-- What no call changes.
pub record IsSame {D : Type 0} (old new : Segment D) : Type 0 where
  pub volume : segment_volume new ≡ segment_volume old
  pub owner : owner_of new ≡ owner_of old
  pub blocks : blocks_of new ≡ blocks_of old

-- A call failed: the segment is broken, and has no more and no fewer records than before.
pub record Breaks {D : Type 0} (old new : Segment D) : Type 0 where
  pub broken : IsBroken new
  pub place : place_of new ≡ place_of old
  pub valid : valid_of new ≡ valid_of old

-- The segment's disk keeps these records.
pub record Holds {D : Type 0} (state : D → State) (seg : Segment D) (rs : List Record) :
    Type 0 where
  pub disk : Keeps (disk_of state seg) (owner_of seg) rs
  pub place : place_of seg ≡ end_of rs
  pub valid : valid_of seg ≡ count_valid rs

-- the segment that a claim gives, whatever it answers
abbrev pub given_by : {D : Type 0} → Result (Segment D) (Failed × Segment D) → Segment D
given_by (Ok seg) = seg
given_by (Err refusal) = refusal.1

-- ---- Free segments

abbrev pub free_part : {D : Type 0} → FreeSegment D → Spun D
free_part seg = seg.part

abbrev pub free_disk : {D : Type 0} → (D → State) → FreeSegment D → State
free_disk state seg = state_of state seg.part

abbrev pub free_volume : {D : Type 0} → FreeSegment D → ℕ
free_volume seg = volume_of seg.part

abbrev pub free_blocks : {D : Type 0} → FreeSegment D → ℕ
free_blocks seg = seg.blocks

-- What holds of each free segment: it says so in each image.
pub record IsFree {D : Type 0} (state : D → State) (seg : FreeSegment D) : Type 0 where
  pub size : (free_disk state seg).size ≡ seg.blocks
  pub small : (4 ≤ seg.blocks) × (seg.blocks ≤ 65536)
  pub idle : IsFreeInAll (free_disk state seg)

-- It is free, of this volume, and with this number of blocks.
pub record IsBlank {D : Type 0} (state : D → State) (volume blocks : ℕ) (seg : FreeSegment D) :
    Type 0 where
  pub free : IsFree state seg
  pub of : free_volume seg ≡ volume
  pub long : free_blocks seg ≡ blocks
