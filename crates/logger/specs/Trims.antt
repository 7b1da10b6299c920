-- The steps of giving up blocks of a held segment, whose lane is in the midst of a call.
use Rattle.std.specs.Prelude.{◌≡◌, ◌<◌, ◌∷◌, ◌++◌, ℕ, List, [], slice_get, slice_set, remove, Option, None, Some, Result, Ok, IfOk, IsOk, IsErr}
use Rattle.wol_disk.specs.Disk.{State, LeavesOnly, Rose}
use Rattle.wol_disk.specs.declared.disk.Failed.{Failed}
use Rattle.wol_model.specs.Heads.{RecordHead}
use Rattle.wol_model.specs.Log.{Record}
use Rattle.turn_lock.specs.Passes.{pass_mine, pass_number}
use Rattle.seg_pool.specs.Holders.{Gave}
use Rattle.seg_pool.specs.Operations as pool
use Rattle.log_segment.specs.Kept.{IsKeptOrIdle}
use Rattle.log_segment.specs.Segment.{IsSegment, IsWhole, IsBroken, IsBlank, IsSame, Holds, disk_of, free_disk, segment_volume, owner_of, blocks_of, place_of, valid_of}
use Rattle.log_segment.specs.declared.free.FreeSegment.{FreeSegment}
use Rattle.logger.specs.Lanes.{CutDown, GaveUp, Stayed, held_in, pool_of}
use Rattle.logger.specs.declared.lane.HeldSegment.{HeldSegment}
use Rattle.logger.specs.declared.lane.Lane.{Lane}

module _ {D : Type 0} (state : D → State) where
  -- the segment at this place is of this volume, and no call of it failed
  pub record IsWholeAt (on : ℕ) (hs : List (HeldSegment D)) (place : ℕ) : Type 0 where
    pub segment : HeldSegment D
    pub there : slice_get hs place ≡ Some segment
    pub shape : IsSegment state segment.segment
    pub whole : IsWhole segment.segment
    pub volume : segment_volume segment.segment ≡ on

  -- a held segment that was freed
  pub record Freed (old : HeldSegment D) (free : FreeSegment D) : Type 0 where
    pub blank : IsBlank state (segment_volume old.segment) (blocks_of old.segment) free
    pub any_moment : (rs : List Record) → Holds state old.segment rs
        → LeavesOnly (disk_of state old.segment) (free_disk state free)
        (IsKeptOrIdle (owner_of old.segment) rs)
    pub calm : (free_disk state free).faults ≡ (disk_of state old.segment).faults

  -- it was taken out of these
  pub record FreedAt (hs hs' : List (HeldSegment D)) (place : ℕ) (free : FreeSegment D) :
      Type 0 where
    pub segment : HeldSegment D
    pub there : slice_get hs place ≡ Some segment
    pub gone : hs' ≡ remove hs place
    pub freed : Freed segment free

  -- a held segment that could not be freed, and is broken
  pub record NotFreed (old new : HeldSegment D) : Type 0 where
    pub index : new.index ≡ old.index
    pub shape : IsSegment state new.segment
    pub same : IsSame old.segment new.segment
    pub end : place_of new.segment ≡ place_of old.segment
    pub broken : IsBroken new.segment
    pub any_moment : (rs : List Record) → Holds state old.segment rs
        → LeavesOnly (disk_of state old.segment) (disk_of state new.segment)
        (IsKeptOrIdle (owner_of old.segment) rs)
    pub cause : Rose (disk_of state old.segment).faults (disk_of state new.segment).faults

  -- it is at its place among these
  pub record StaysAt (hs hs' : List (HeldSegment D)) (place : ℕ) : Type 0 where
    pub segment : HeldSegment D
    pub there : slice_get hs place ≡ Some segment
    pub after : HeldSegment D
    pub held : hs' ≡ slice_set hs place after
    pub stays : NotFreed segment after

  -- the segment at this place is of this volume and owner, whole, and has this position
  pub record IsCuttable (on : ℕ) (hs : List (HeldSegment D)) (place pos owner : ℕ) : Type 0 where
    pub segment : HeldSegment D
    pub there : slice_get hs place ≡ Some segment
    pub shape : IsSegment state segment.segment
    pub whole : IsWhole segment.segment
    pub volume : segment_volume segment.segment ≡ on
    pub owned : owner_of segment.segment ≡ owner
    pub fits : pos < blocks_of segment.segment

  -- a record of it was trimmed: it stays, or it was freed, or it could not be
  pub data Cut (hs hs' : List (HeldSegment D)) (place pos : ℕ) (head : RecordHead) (keep : ℕ)
      (res : Result (Option (FreeSegment D)) Failed) : Type 0 where
    stays : (o n : HeldSegment D) → slice_get hs place ≡ Some o → hs' ≡ slice_set hs place n
        → IsSegment state n.segment → IfOk res (λ freed. freed ≡ None)
        → CutDown state o n pos head keep res → Cut hs hs' place pos head keep res
    freed : (o : HeldSegment D) (free : FreeSegment D) → slice_get hs place ≡ Some o
        → hs' ≡ remove hs place → res ≡ Ok (Some free)
        → GaveUp state o (blocks_of o.segment) free pos head keep
        → Cut hs hs' place pos head keep res
    could_not : (o n : HeldSegment D) → slice_get hs place ≡ Some o → hs' ≡ slice_set hs place n
        → IsSegment state n.segment → IsErr res → Stayed state o n pos head keep
        → Cut hs hs' place pos head keep res

-- ---- A segment that is given up with all its records

-- the segment of this index is held, and no call of it failed
pub record IsRetirable {D : Type 0} (l : Lane D) (index : ℕ) : Type 0 where
  pub place : ℕ
  pub segment : HeldSegment D
  pub there : slice_get (held_in l) place ≡ Some segment
  pub named : segment.index ≡ index
  pub whole : IsWhole segment.segment

-- so many records of the held segment of this index keep a block
pub record KeepsSoMany {D : Type 0} (l : Lane D) (index count : ℕ) : Type 0 where
  pub place : ℕ
  pub segment : HeldSegment D
  pub there : slice_get (held_in l) place ≡ Some segment
  pub named : segment.index ≡ index
  pub counted : count ≡ valid_of segment.segment

-- What giving up a segment did: it went to the pool; or it could not be freed, and is held still.
pub data Retired {D T E : Type 0} (state : D → State) (old new : Lane D) (index : ℕ)
    (res : Result T E) : Type 0 where
  gone : (k : ℕ) (o : HeldSegment D) (given : FreeSegment D) → slice_get (held_in old) k ≡ Some o
      → o.index ≡ index → held_in new ≡ remove (held_in old) k
      → pass_mine (pool_of new) ≡ pass_mine (pool_of old)
      ++ (pass_number (pool_of old), pool.operation_of (Gave index)) ∷ [] → IsOk res
      → Freed state o given → Retired state old new index res
  held_still : (k : ℕ) (o n : HeldSegment D) → slice_get (held_in old) k ≡ Some o → o.index ≡ index
      → held_in new ≡ slice_set (held_in old) k n
      → pass_mine (pool_of new) ≡ pass_mine (pool_of old)
      → IsErr res → NotFreed state o n → Retired state old new index res
