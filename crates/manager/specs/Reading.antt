-- What reads make of a manager and its parts: none of them has other records or an image that it
-- didn't have.
use Rattle.std.specs.Prelude.{◌≡◌, ◌≤◌, ◌+◌, ℕ, Bool, IsTrue, List, Option, Some, Result, OnOk, slice_get, slice_range}
use Rattle.std.specs.List.{AllZip, count_by, range_with_len}
use Rattle.turn_lock.specs.Passes.{IsSamePass}
use Rattle.wol_disk.specs.Disk.{State, Block}
use Rattle.spin_model.specs.Spun.{state_of}
use Rattle.wol_model.specs.Blocks.{after}
use Rattle.wol_model.specs.History.{writes}
use Rattle.wol_model.specs.Index.{Indexed, listed_in, is_covered}
use Rattle.wol_promise.specs.Policy.{woken}
use Rattle.wol_promise.specs.Ruled.{Noted, entries_of}
use Rattle.block_cells.specs.declared.record.Rec.{Rec}
use Rattle.logger.specs.Lanes.{spindle_of}
use Rattle.logger.specs.declared.lane.Lane.{Lane}
use Rattle.logger.specs.declared.shared.Shared.{Shared}
use Rattle.manager.specs.Seen.{look_of_manager}
use Rattle.manager.specs.Stands.{Keeps, CanServe, IsReady, IsHome, IsSameManager}
use Rattle.manager.specs.declared.base.ManagerBase.{ManagerBase}
use Rattle.manager.specs.declared.manager.Manager.{Manager}
use Rattle.manager.specs.declared.part.Part.{Part}
use Rattle.manager.specs.declared.part.Sources.{Sources}
pub use Rattle.volume_parts.specs.Entries.{IsSource, reads_home, reads_lane}
pub use Rattle.volume_parts.specs.Reads.{needs_of, HasNeeded, NeedsWhere, Counted, HomeRead, SegmentRead, LaneRead}

-- ---- Waking

-- Home is needed exactly where a block of the range isn't covered, and a logger exactly where it
-- has the newest record of a block.
pub record NeedsSources {D : Type 0} (old new : Manager D) (first count : ℕ) : Type 0 where
  pub home : NeedsWhere old.spindle new.spindle
      (reads_home (listed_in old.index.entries) first count)
  pub lanes : (k : ℕ) (o n : Lane D) → slice_get old.lanes.items k ≡ Some o
      → slice_get new.lanes.items k ≡ Some n
      → NeedsWhere (spindle_of o) (spindle_of n)
      (reads_lane (listed_in old.index.entries) k first count)

-- so it is for some first blocks of the range
pub record NeedsFirstOf {D : Type 0} (old new : Manager D) (first count : ℕ) : Type 0 where
  pub blocks : ℕ
  pub within : blocks ≤ count
  pub needs : NeedsSources old new first blocks

-- ---- Parts

-- a manager before and after reads: but for its flags, what it tells is as it was
pub record IsReadThrough {D : Type 0} (state : D → State) (old new : Manager D) : Type 0 where
  pub same : IsSameManager old new
  pub home : HomeRead state old.home new.home
  pub spindle : IsSamePass old.spindle new.spindle
  pub lanes : AllZip (LaneRead state) old.lanes.items new.lanes.items
  pub index : new.index ≡ old.index
  pub next : new.next ≡ old.next
  pub rooms : new.rooms ≡ old.rooms
  pub down : new.down ≡ old.down

-- so it is, but for the part at fault that it tells after
abbrev pub HasOnlyRead : {D : Type 0} → (D → State) → (old new : Manager D) → Type 0
HasOnlyRead state old new = IsReadThrough state old (record new { down = old.down })

-- ---- Blocks

-- the blocks of an answer are those of the volume's array with all acknowledged writes
abbrev pub ReadsBlocks : {D T : Type 0} → (tells : Bool) → (D → State) → Manager D
    → (first count : ℕ) → (out : List Block) → Result T Part → Type 0
ReadsBlocks tells state m first count out answer =
    IsTrue tells → (b : ManagerBase) (notes : List Noted) → Keeps tells state m b notes
    → OnOk answer (out ≡ slice_range
    (after b.volume.began.array (writes (entries_of notes))) first (first + count))

-- so many of the blocks come from logs as records cover, and the others from home
abbrev pub TellsSources : List Indexed → (first count : ℕ) → Sources → Type 0
TellsSources es first count sources =
    (sources.logged ≡ count_by (is_covered (listed_in es)) (range_with_len first count))
    × (sources.home + sources.logged ≡ count)

-- ---- Runs

-- what a read of some blocks with this one source needs of the manager
pub record CanReadRun {D : Type 0} (state : D → State) (shared : Shared D) (m : Manager D)
    (first count : ℕ) (only : Option Rec) : Type 0 where
  pub serves : CanServe state shared m
  pub some : 1 ≤ count
  pub fits : first + count ≤ (state_of state m.home).size
  pub source : IsSource m.index.entries first count only

-- What it leaves, answered or not: a manager that is ready and has only read; a part that failed
-- isn't told as down yet. No disk but that of the source was needed, and it counts as awake.
pub record HasReadRun {D : Type 0} (state : D → State) (shared : Shared D) (first count : ℕ)
    (old new : Manager D) : Type 0 where
  pub ready : IsReady state new
  pub at : IsHome shared new
  pub read : IsReadThrough state old new
  pub look : look_of_manager new ≡ woken (look_of_manager old) first count
  pub needs : NeedsSources old new first count
