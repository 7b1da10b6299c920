-- What the rest of a rack keeps: parts of images, and passes. `state` is that of a part's disk.
use Rattle.std.specs.Prelude.{◌≡◌, ◌≢◌, ◌↔◌, ◌⊎◌, ◌<◌, ◌≤◌, ◌+◌, ℕ, true, false, List, [], length, map, vec_capacity, Option, None, Some, IfSome, option_and_then, slice_get, slice_index_or, Contains, IsSome, All, ⊤, ◌∷◌}
use Rattle.std.specs.List.{flat_map}
use Rattle.std.specs.declared.alloc.Global.{Global}
use Rattle.std.specs.declared.vec.Vec.{Vec}
use Rattle.wol_disk.specs.Disk.{State}
use Rattle.wol_model.specs.Blocks.{AreApart}
use Rattle.wol_model.specs.Heads.{Shape}
use Rattle.wol_config.specs.declared.config.Config.{Config}
use Rattle.turn_lock.specs.Passes.{lock_id, lock_passes, pass_lock, pass_number, pass_mine, IsPassAt}
use Rattle.turn_lock.specs.declared.lock.TurnLock.{TurnLock}
use Rattle.turn_lock.specs.declared.pass.PassOf.{PassOf}
use Rattle.spin_model.specs.Operations.{has_token}
use Rattle.spin_model.specs.Spun.{state_of, volume_of}
use Rattle.spin_model.specs.declared.spun.Spun.{Spun}
use Rattle.spin_model.specs.declared.spindle.Spindle.{Spindle}
use Rattle.spin_model.specs.declared.spindle.SpindleBase.{SpindleBase}
use Rattle.seg_pool.specs.Holders.{holder}
use Rattle.seg_pool.specs.Operations.{holds}
use Rattle.seg_pool.specs.declared.base.Holder.TheVariants.{Elsewhere, HeldBy}
use Rattle.seg_pool.specs.declared.base.PoolBase.{PoolBase}
use Rattle.seg_pool.specs.declared.pool.Pool.{Pool}
use Rattle.log_segment.specs.declared.free.FreeSegment.{FreeSegment}
use Rattle.logger.specs.Lanes.{AreAccesses}
use Rattle.logger.specs.declared.shared.Shared.{Shared}
use Rattle.manager.specs.declared.base.ManagerBase.{ManagerBase}
use Rattle.volume_images.specs.Volumes.{shapes_of, shape_in}
use Rattle.rack_parts.specs.declared.rack.ImageRest.{ImageRest}
use Rattle.rack_parts.specs.declared.rack.Rest.{Rest}
use Rattle.rack_parts.specs.declared.rack.Rooms.{Rooms}
use Rattle.rack_parts.specs.declared.rack.VolumePasses.{VolumePasses}
use Rattle.wol_bay.specs.Bay.{Name}
use Rattle.wol_bay.specs.Refusals.{refusal}
use Rattle.wol_bay.specs.declared.fault.BayFault.TheVariants as bay
use Rattle.wol_config.specs.declared.config.VolumeConf.{VolumeConf}
use Rattle.manager_recovery.specs.declared.refusal.OpenRefusal.{OpenRefusal}
use Rattle.manager_recovery.specs.declared.refusal.OpenRefusal.TheVariants as open_refusal
use Rattle.volume_images.specs.Formatted.{part_sizes}
use Rattle.volume_images.specs.declared.opening.ImageRefusal.{ImageRefusal}
use Rattle.volume_images.specs.declared.opening.ImageRefusal.TheVariants as image_refusal
use Rattle.volume_images.specs.declared.reading.ImageFault.{ImageFault}
use Rattle.volume_images.specs.declared.reading.ImageFault.TheVariants as fault

-- ---- What is where

module _ {D : Type 0} where
  -- what is here of the image of volume k, where it is out
  abbrev pub image_here : List (Option (ImageRest D)) → (k : ℕ) → Option (ImageRest D)
  image_here images k = slice_index_or images k None

  -- the image of volume k is out
  abbrev pub IsImageOut : List (Option (ImageRest D)) → (k : ℕ) → Type 0
  IsImageOut images k = IsSome (image_here images k)

  -- segment i of an image, where it is here
  abbrev pub segment_here : ImageRest D → (i : ℕ) → Option (Spun D)
  segment_here r i = slice_index_or r.segments.items i None

  -- the pass of volume v at the pool of volume k, where it is here
  abbrev pub pool_pass : Rest D → (v k : ℕ) → Option (PassOf (Pool (FreeSegment D)) PoolBase)
  pool_pass r v k =
      option_and_then (λ p. slice_index_or p.pools.items k None) (slice_get r.passes.items v)

  -- the same at the spindle of volume k
  abbrev pub spindle_pass : Rest D → (v k : ℕ) → Option (PassOf Spindle SpindleBase)
  spindle_pass r v k =
      option_and_then (λ p. slice_index_or p.spindles.items k None) (slice_get r.passes.items v)

  -- the list of a row at this place, or an empty one
  abbrev pub list_of : Option (Vec (ℕ × Spun D) Global) → List (ℕ × Spun D)
  list_of None = []
  list_of (Some list) = list.items

  -- the segments of volume k that a lane of volume v had, with their indexes, where the lane came
  -- back
  abbrev pub held_here : Rest D → (v k : ℕ) → List (ℕ × Spun D)
  held_here r v k =
      list_of (option_and_then (λ p. slice_get p.held.items k) (slice_get r.passes.items v))

  -- their indexes
  abbrev pub indexes_here : Rest D → (v k : ℕ) → List ℕ
  indexes_here r v k = map (λ (h : ℕ × Spun D). h.0) (held_here r v k)

-- segment i of volume k is here, in its place or in a lane's list
abbrev pub IsSegmentHere : {D : Type 0} → Rest D → (k i : ℕ) → Spun D → Type 0
IsSegmentHere {D} r k i p = ((image : ImageRest D) × (image_here r.images.items k ≡ Some image)
    × (segment_here image i ≡ Some p)) ⊎ ((v : ℕ) × Contains (held_here r v k) (i, p))

-- What is away from a rest.
pub record Away : Type 0 where
  -- the volumes whose homes are away
  pub homes : List ℕ
  -- the lanes, each by its volume and its logger
  pub lanes : List (ℕ × ℕ)
  -- the segments whose passes are here, each by its volume and its index
  pub owed : List (ℕ × ℕ)

-- what the managers with these bases have
abbrev pub away_with : List ManagerBase → Away
away_with bases = record {
  homes = map (λ (b : ManagerBase). b.volume.began.owner) bases;
  lanes = flat_map lanes_of bases;
  owed = [];
}
  where
    lanes_of : ManagerBase → List (ℕ × ℕ)
    lanes_of b = map (λ k. (b.volume.began.owner, k)) b.volume.began.view

-- the names that are out for the images which are, in order, with the sizes of their parts
abbrev pub out_names : {D : Type 0} → Config → List VolumeConf → List (Option (ImageRest D))
    → List (Name × List ℕ)
out_names config [] images = []
out_names config (v ∷ vs) [] = []
out_names config (v ∷ vs) (None ∷ images) = out_names config vs images
out_names config (v ∷ vs) (Some i ∷ images) =
    (v.name, part_sizes (shape_in config v)) ∷ out_names config vs images

-- ---- The parts

-- a part of the image of volume k, with so many blocks
pub record IsPart {D : Type 0} (state : D → State) (k size : ℕ) (p : Spun D) : Type 0 where
  pub of_volume : volume_of p ≡ k
  pub sized : (state_of state p).size ≡ size

-- the parts that are here of the image of volume k, and the room for all of them
pub record IsImageRest {D : Type 0} (state : D → State) (k : ℕ) (s : Shape) (r : ImageRest D) :
    Type 0 where
  pub label : IsPart state k 2 r.label
  pub home : IfSome r.home (IsPart state k s.home)
  pub count : length r.segments.items ≡ s.segments
  pub segments : (i : ℕ) (p : Spun D) → segment_here r i ≡ Some p
      → IsPart state k s.segment_blocks p
  pub row : (r.row.items ≡ []) × (s.segments ≤ vec_capacity r.row)
  pub room : (r.room.items ≡ []) × (2 + s.segments ≤ vec_capacity r.room)

abbrev pub AreImageRests : {D : Type 0} → (D → State) → Config → List (Option (ImageRest D))
    → Type 0
AreImageRests {D} state config images =
    (length images ≡ length (shapes_of config))
    × ((k : ℕ) (s : Shape) (r : ImageRest D) → slice_get (shapes_of config) k ≡ Some s
    → image_here images k ≡ Some r → IsImageRest state k s r)

-- ---- The locks

-- the lock of the pool of volume k among so many: a pass for each volume
pub record IsPoolLock {D : Type 0} (volumes k : ℕ) (s : Shape)
    (l : TurnLock (Pool (FreeSegment D)) PoolBase) : Type 0 where
  pub passes : lock_passes l ≡ volumes
  pub volume : (lock_id l).base.volume ≡ k
  pub blocks : (lock_id l).base.blocks ≡ s.segment_blocks
  pub room : length (lock_id l).base.holders ≡ s.segments

-- the lock of its spindle: a pass for each volume, and behind them the keeper's
pub record IsSpindleLock (volumes k timeout : ℕ) (l : TurnLock Spindle SpindleBase) : Type 0 where
  pub passes : lock_passes l ≡ volumes + 1
  pub volume : (lock_id l).base.volume ≡ k
  pub timeout_is : (lock_id l).base.timeout ≡ timeout

-- a lock of each for every volume of the configuration
pub record AreLocks {D : Type 0} (config : Config) (shared : Shared D) : Type 0 where
  pub pool_count : length shared.pools.items ≡ length (shapes_of config)
  pub spindle_count : length shared.spindles.items ≡ length (shapes_of config)
  pub pools : (k : ℕ) (s : Shape) (l : TurnLock (Pool (FreeSegment D)) PoolBase)
      → slice_get (shapes_of config) k ≡ Some s → slice_get shared.pools.items k ≡ Some l
      → IsPoolLock (length (shapes_of config)) k s l
  pub spindles : (k : ℕ) (l : TurnLock Spindle SpindleBase)
      → slice_get shared.spindles.items k ≡ Some l
      → IsSpindleLock (length (shapes_of config)) k config.timeout l

-- ---- The passes

-- the row of a volume has a place for each of so many
pub record IsRow {D : Type 0} (volumes : ℕ) (p : VolumePasses D) : Type 0 where
  pub pools : length p.pools.items ≡ volumes
  pub spindles : length p.spindles.items ≡ volumes
  pub held : length p.held.items ≡ volumes

-- Each volume's pass at each pool is here but where its lane is away; it has the number of its
-- volume.
pub record ArePoolPasses {D : Type 0} (shared : Shared D) (away : Away) (r : Rest D) : Type 0 where
  pub here : (v k : ℕ) → v < length r.passes.items → k < length shared.pools.items
      → IsSome (pool_pass r v k) ↔ (Contains away.lanes (v, k) → ⊥)
  pub each : (v k : ℕ) (l : TurnLock (Pool (FreeSegment D)) PoolBase)
      (p : PassOf (Pool (FreeSegment D)) PoolBase) → slice_get shared.pools.items k ≡ Some l
      → pool_pass r v k ≡ Some p
      → IsPassAt l v p

-- the pass of volume v at the spindle of volume k is away: with a lane, or with the volume's home
abbrev pub IsSpindleAway : Away → (v k : ℕ) → Type 0
IsSpindleAway away v k = Contains away.lanes (v, k) ⊎ ((v ≡ k) × Contains away.homes v)

-- The same at the spindles; of its own a volume's manager uses its home. No token is out.
pub record AreSpindlePasses {D : Type 0} (shared : Shared D) (away : Away) (r : Rest D) :
    Type 0 where
  pub here : (v k : ℕ) → v < length r.passes.items → k < length shared.spindles.items
      → IsSome (spindle_pass r v k) ↔ (IsSpindleAway away v k → ⊥)
  pub each : (v k : ℕ) (l : TurnLock Spindle SpindleBase) (p : PassOf Spindle SpindleBase)
      → slice_get shared.spindles.items k ≡ Some l → spindle_pass r v k ≡ Some p
      → IsPassAt l v p
  pub settled : (v k : ℕ) (p : PassOf Spindle SpindleBase) → spindle_pass r v k ≡ Some p
      → has_token (pass_mine p) ≡ false

-- the passes of spindles made accesses only
abbrev pub OnlyAccess : {D : Type 0} → Rest D → Type 0
OnlyAccess r = (v k : ℕ) (p : PassOf Spindle SpindleBase) → spindle_pass r v k ≡ Some p
    → AreAccesses (pass_mine p)

-- ---- The segments: each is in one place

-- the pass of volume v is here and holds segment i of volume k
abbrev pub IsHolding : {D : Type 0} → Rest D → (v k i : ℕ) → Type 0
IsHolding {D} r v k i = (p : PassOf (Pool (FreeSegment D)) PoolBase) × (pool_pass r v k ≡ Some p)
    × (holds (pass_lock p).base (pass_number p) (pass_mine p) i ≡ true)

-- a pass that is here holds segment i of volume k, and no lane had it
abbrev pub IsHeldHere : {D : Type 0} → Rest D → (k i : ℕ) → Type 0
IsHeldHere r k i = (v : ℕ) × IsHolding r v k i × (Contains (indexes_here r v k) i → ⊥)

-- the segments that came back with a lane: each once, and its pass is here and holds it
pub record AreHandedBack {D : Type 0} (state : D → State) (config : Config) (r : Rest D) :
    Type 0 where
  pub held : (v k i : ℕ) → Contains (indexes_here r v k) i → IsHolding r v k i
  pub once : (v k : ℕ) → AreApart (indexes_here r v k)
  pub parts : (v k : ℕ) (s : Shape) → slice_get (shapes_of config) k ≡ Some s
      → All (λ (h : ℕ × Spun D). IsPart state k s.segment_blocks h.1) (held_here r v k)
  pub out : (v k : ℕ) → image_here r.images.items k ≡ None → held_here r v k ≡ []

-- Each segment of an image that is out is a pass's or free from the beginning. It is in its place
-- here exactly where a pass that is here holds it, but where it is owed or a lane had it.
pub record ArePlaced {D : Type 0} (shared : Shared D) (away : Away) (r : Rest D) : Type 0 where
  pub known : (k i : ℕ) (l : TurnLock (Pool (FreeSegment D)) PoolBase) (image : ImageRest D)
      → slice_get shared.pools.items k ≡ Some l → image_here r.images.items k ≡ Some image
      → i < length image.segments.items → holder (lock_id l).base.holders i ≢ Elsewhere
  -- and who holds one is a pass of the lock
  pub known_passes : (k i n : ℕ) (l : TurnLock (Pool (FreeSegment D)) PoolBase)
      → slice_get shared.pools.items k ≡ Some l → holder (lock_id l).base.holders i ≡ HeldBy n
      → n < lock_passes l
  pub here : (k i : ℕ) (image : ImageRest D) → image_here r.images.items k ≡ Some image
      → i < length image.segments.items
      → IsSome (segment_here image i) ↔ (IsHeldHere r k i × (Contains away.owed (k, i) → ⊥))
  -- no segment of another volume is known
  pub others : (k i : ℕ) (l : TurnLock (Pool (FreeSegment D)) PoolBase)
      → slice_get shared.pools.items k ≡ Some l → image_here r.images.items k ≡ None
      → holder (lock_id l).base.holders i ≡ Elsewhere

-- ---- The whole

-- empty lists with room for the passes of all locks, and for all spindles
pub record AreRooms {D : Type 0} (volumes stations : ℕ) (rooms : Rooms D) : Type 0 where
  pub pool_count : length rooms.pools.items ≡ volumes
  pub pools : All (λ row. (row.items ≡ []) × (volumes ≤ vec_capacity row)) rooms.pools.items
  pub spindle_count : length rooms.spindles.items ≡ volumes
  pub spindles :
      All (λ row. (row.items ≡ []) × (volumes + 1 ≤ vec_capacity row)) rooms.spindles.items
  pub manager_count : length rooms.managers.items ≡ stations
  pub managers : All (λ row. (row.items ≡ []) × (3 ≤ vec_capacity row)) rooms.managers.items
  pub closed : (rooms.closed.items ≡ []) × (volumes ≤ vec_capacity rooms.closed)

-- What is here where this is away. Home is here exactly where it isn't away.
pub record IsRestBut {D : Type 0} (state : D → State) (config : Config) (shared : Shared D)
    (away : Away) (r : Rest D) : Type 0 where
  pub images : AreImageRests state config r.images.items
  pub homes : (k : ℕ) (image : ImageRest D) → image_here r.images.items k ≡ Some image
      → IsSome image.home ↔ (Contains away.homes k → ⊥)
  pub count : length r.passes.items ≡ length (shapes_of config)
  pub rows : All (λ p. IsRow (length (shapes_of config)) p) r.passes.items
  pub pools : ArePoolPasses shared away r
  pub spindles : AreSpindlePasses shared away r
  pub returned : AreHandedBack state config r
  pub placed : ArePlaced shared away r

-- What is here where volumes have managers with these bases.
pub record IsRest {D : Type 0} (state : D → State) (config : Config) (shared : Shared D)
    (bases : List ManagerBase) (r : Rest D) : Type 0 where
  pub parts : IsRestBut state config shared (away_with bases) r
  pub rooms : AreRooms (length (shapes_of config)) (length bases) r.rooms
