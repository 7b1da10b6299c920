-- What became of lanes: of one that was offered a write, of each of them in a write, and of one
-- that gave up blocks.
use Rattle.std.specs.Prelude.{◌≡◌, ◌⊎◌, ◌∷◌, ◌++◌, ℕ, List, [], slice_get, slice_set, None, Some, not, filter, length, slice_index_or, ◌==◌, Bool, true, false, map}
use Rattle.std.specs.List.{range_with_len}
use Rattle.turn_lock.specs.Passes.{pass_number, pass_mine}
use Rattle.seg_pool.specs.Holders.{Took, Gave}
use Rattle.seg_pool.specs.Operations.{operation_of}
use Rattle.logger.specs.Lanes.{IsSameLane, HasUsed, HasNoRoom, IsFirstWithRoom, held_in, taken_in, pool_of, spindle_of}
use Rattle.logger.specs.declared.lane.HeldSegment.{HeldSegment}
use Rattle.logger.specs.declared.lane.Lane.{Lane}
use Rattle.offload_policy.specs.Placing.{may_hold}
use Rattle.offload_policy.specs.declared.Room.{Room}
use Rattle.offload_policy.specs.declared.Room.TheVariants.{Unknown, Yes, No}
use Rattle.wol_model.specs.Placing.{Home as AtHome, Log as InLog, Full as Nowhere}
use Rattle.wol_model.specs.Placing as placing

-- It has no room for so many blocks: no held segment has it, and its pool was asked in one turn and
-- was empty. Else it is as it was.
pub record IsTurnedAway {D : Type 0} (count : ℕ) (old new : Lane D) : Type 0 where
  pub full : HasNoRoom count (held_in old)
  pub same : IsSameLane old new
  pub held : held_in new ≡ held_in old
  pub taken : taken_in new ≡ taken_in old
  pub spindle : pass_mine (spindle_of new) ≡ pass_mine (spindle_of old)
  pub pool : pass_mine (pool_of new)
      ≡ pass_mine (pool_of old) ++ (pass_number (pool_of old), operation_of (Took None)) ∷ []

-- It took the write, whatever its disk answered: its spindle was needed once, and its pool wasn't
-- asked, or gave a segment since no held one has room for so many blocks. Where some have it, the
-- first of these alone changed.
pub record HasTakenWrite {D : Type 0} (count : ℕ) (old new : Lane D) : Type 0 where
  pub same : IsSameLane old new
  pub used : HasUsed old new
  pub pool : (pass_mine (pool_of new) ≡ pass_mine (pool_of old))
      ⊎ ((index : ℕ) × (pass_mine (pool_of new)
      ≡ pass_mine (pool_of old)
      ++ (pass_number (pool_of old), operation_of (Took (Some index))) ∷ [])
      × HasNoRoom count (held_in old))
  pub first : (k : ℕ) → IsFirstWithRoom count (held_in old) k
      → (h : HeldSegment D) × (held_in new ≡ slice_set (held_in old) k h)

-- of these lanes the one at place k changed so, and no other
pub record ChangesLane {D : Type 0} (Change : Lane D → Lane D → Type 0) (k : ℕ)
    (old new : List (Lane D)) : Type 0 where
  pub before : Lane D
  pub after : Lane D
  pub there : slice_get old k ≡ Some before
  pub set : new ≡ slice_set old k after
  pub change : Change before after

-- the places of the view whose pools answered in the last write that they are empty
abbrev pub passed_in : List Room → List ℕ
passed_in rooms =
    filter (λ k. not (may_hold (slice_index_or rooms k Unknown))) (range_with_len 0 (length rooms))

-- whether home took the write
abbrev pub is_at_home : placing.Place → Bool
is_at_home AtHome = true
is_at_home (InLog lane) = false
is_at_home Nowhere = false

-- whether the logger at this place of the view took it
abbrev pub is_in_log : (k : ℕ) → placing.Place → Bool
is_in_log k AtHome = false
is_in_log k (InLog lane) = lane == k
is_in_log k Nowhere = false

-- What became of a lane in a write: it took the write, or it was turned away exactly where that is
-- noted, or it is as it was.
abbrev pub HasAnswered : {D : Type 0} → (count : ℕ) → (took : Bool) → Room → (old new : Lane D)
    → Type 0
HasAnswered count true r old new = (r ≡ Unknown) × HasTakenWrite count old new
HasAnswered count false No old new = IsTurnedAway count old new
HasAnswered count false Unknown old new = new ≡ old
HasAnswered count false Yes old new = ⊥

-- each lane by what is noted of its room
pub record HaveAnswered {D : Type 0} (count : ℕ) (took : ℕ → Bool) (rooms : List Room)
    (old new : List (Lane D)) : Type 0 where
  pub noted : length rooms ≡ length old
  pub same : length new ≡ length old
  pub each : (k : ℕ) (r : Room) (o n : Lane D) → slice_get rooms k ≡ Some r
      → slice_get old k ≡ Some o → slice_get new k ≡ Some n → HasAnswered count (took k) r o n

-- the lane's spindle was needed once, and its pool wasn't asked
pub record IsUsed {D : Type 0} (old new : Lane D) : Type 0 where
  pub same : IsSameLane old new
  pub used : HasUsed old new
  pub pool : pass_mine (pool_of new) ≡ pass_mine (pool_of old)

-- The lane's spindle was needed once; and the segment of this index was given to its pool, or the
-- pool wasn't asked.
pub record IsTrimmedLane {D : Type 0} (index : ℕ) (given : Type 0) (old new : Lane D) : Type 0 where
  pub same : IsSameLane old new
  pub used : HasUsed old new
  pub kept : (given → ⊥) → (pass_mine (pool_of new) ≡ pass_mine (pool_of old))
      × (map (λ h. h.index) (held_in new) ≡ map (λ h. h.index) (held_in old))
  pub gave : given → (pass_mine (pool_of new)
      ≡ pass_mine (pool_of old) ++ (pass_number (pool_of old), operation_of (Gave index)) ∷ [])
      × (map (λ h. h.index) (held_in new)
      ≡ filter (λ i. not (i == index)) (map (λ h. h.index) (held_in old)))
