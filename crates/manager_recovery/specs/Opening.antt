-- What a volume may be opened of.
use Rattle.std.specs.Prelude.{⊤, ◌≡◌, ◌⊎◌, ◌<◌, ◌≤◌, ◌^◌, ◌+◌, ◌-◌, ℕ, true, false, List, [], ◌∷◌, map, filter, slice_index_or, Contains, None, Some}
use Rattle.std.specs.List.{AllByRecursion}
use Rattle.wol_disk.specs.Disk.{State, Block, Values, reads}
use Rattle.wol_model.specs.Heads.{IsShape, owned_block}
use Rattle.turn_lock.specs.Passes.{pass_lock, pass_number, pass_mine, IsFree}
use Rattle.spin_model.specs.Operations.{has_token}
use Rattle.spin_model.specs.Spun.{state_of, volume_of}
use Rattle.seg_pool.specs.Operations.{holds}
use Rattle.log_layout.specs.Values.{shape_of}
use Rattle.logger.specs.Lanes.{IsLane, AreAccesses, IsAt, logger_of, lane_owner, held_in, taken_in, pool_of, pool_blocks, segments_in}
use Rattle.logger.specs.declared.lane.Lane.{Lane}
use Rattle.logger.specs.declared.shared.Shared.{Shared}
use Rattle.manager.specs.Stands.{At}
use Rattle.manager_recovery.specs.declared.opening.Opening.{Opening}
use Rattle.manager_recovery.specs.declared.opening.OwnedPart.{OwnedPart}

-- a lane of the volume that holds nothing yet, with segments that have room for any write
pub record IsOpeningLane {D : Type 0} (state : D → State) (shared : Shared D) (id most : ℕ)
    (l : Lane D) : Type 0 where
  pub lane : IsLane state l
  pub at : IsAt shared l
  pub owner : lane_owner l ≡ id
  pub bare : held_in l ≡ []
  pub untaken : taken_in l ≡ None
  pub long : most + 2 ≤ pool_blocks l

-- the pool's pass of the lane holds the segment, which is one of the pool's
pub record IsHeldIn {D : Type 0} (state : D → State) (o : OwnedPart D) (l : Lane D) : Type 0 where
  pub volume : volume_of o.part ≡ logger_of l
  pub blocks : (state_of state o.part).size ≡ pool_blocks l
  pub below : o.index < segments_in l
  pub holding : holds (pass_lock (pool_of l)).base (pass_number (pool_of l)) (pass_mine (pool_of l))
      o.index ≡ true

-- an owned segment has its size, lies in an image, and is held by the lane of its logger where
-- there is one
pub record IsOwned {D : Type 0} (state : D → State) (lanes : List (Lane D)) (o : OwnedPart D) :
    Type 0 where
  pub size : (4 ≤ (state_of state o.part).size) × ((state_of state o.part).size ≤ 65536)
  pub last : o.first_block + (state_of state o.part).size ≤ 2 ^ 64 - 1
  pub held : AllByRecursion (λ (l : Lane D). logger_of l ≡ o.logger → IsHeldIn state o l) lanes

-- a logger and an index stand before another logger and index
abbrev pub IsBefore : (ℕ × ℕ) → (ℕ × ℕ) → Type 0
IsBefore p q = (p.0 < q.0) ⊎ ((p.0 ≡ q.0) × (p.1 < q.1))

-- by rising logger and index, no two of them the same
abbrev pub AreInOrder : List (ℕ × ℕ) → Type 0
AreInOrder [] = ⊤
AreInOrder (p ∷ ps) = AllByRecursion (IsBefore p) ps × AreInOrder ps

-- the logger and the index of an owned segment
abbrev pub place_of : {D : Type 0} → OwnedPart D → ℕ × ℕ
place_of o = (o.logger, o.index)

-- each segment that the lane's pass of its pool holds is among the owned ones
abbrev pub HoldsOwned : {D : Type 0} → List (OwnedPart D) → Lane D → Type 0
HoldsOwned os l = (index : ℕ) → holds (pass_lock (pool_of l)).base (pass_number (pool_of l))
    (pass_mine (pool_of l)) index ≡ true → Contains (map place_of os) (logger_of l, index)

-- the first block reads as owned by the volume
abbrev pub SaysOwner : {D : Type 0} → (D → State) → (id : ℕ) → OwnedPart D → Type 0
SaysOwner state id o = (vs : List (Values Block)) → (state_of state o.part).values ≡ Some vs
    → (rest : List Block) × (reads vs ≡ owned_block id ∷ rest)

-- the whole condition: sizes, locks, lanes and segments
pub record CanOpen {D : Type 0} (state : D → State) (shared : Shared D) (o : Opening D) :
    Type 0 where
  pub want : IsShape (shape_of o.want)
  pub home_volume : volume_of o.home ≡ o.want.id
  pub home_size : (state_of state o.home).size ≡ o.want.home
  pub spindle_volume : (pass_lock o.spindle).base.volume ≡ o.want.id
  pub spindle_free : IsFree o.spindle
  pub settled : has_token (pass_mine o.spindle) ≡ false
  pub accesses : AreAccesses (pass_mine o.spindle)
  pub at : At shared o.want.id o.spindle o.lanes.items
  pub lanes : AllByRecursion (IsOpeningLane state shared o.want.id o.most) o.lanes.items
  -- one for each logger of the view that is present, in view order
  pub loggers : map logger_of o.lanes.items
      ≡ filter (λ id. slice_index_or o.present.items id false) o.view
  pub most : (1 ≤ o.most) × (o.most ≤ 128)
  pub in_order : AreInOrder (map place_of o.owned.items)
  pub owned : AllByRecursion (IsOwned state o.lanes.items) o.owned.items
  pub all : AllByRecursion (HoldsOwned o.owned.items) o.lanes.items
  pub heads : AllByRecursion (SaysOwner state o.want.id) o.owned.items
