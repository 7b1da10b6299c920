-- What a rack is made of, before its volumes are opened.
use Rattle.std.specs.Prelude.{◌≡◌, ◌≤◌, ◌<◌, ◌+◌, ◌∷◌, ◌++◌, ℕ, List, [], length, vec_capacity, Option, None, Some, Result, Ok, Err, slice_index_or, All, ⊤, ◌-◌, map, take, slice_get}
use Rattle.turn_lock.specs.declared.pass.PassOf.{PassOf}
use Rattle.spin_model.specs.declared.spindle.Spindle.{Spindle}
use Rattle.spin_model.specs.declared.spindle.SpindleBase.{SpindleBase}
use Rattle.logger.specs.declared.shared.Shared.{Shared}
use Rattle.rack_parts.specs.declared.heads_said.Said.{Said}
use Rattle.rack.specs.declared.images.Images.{Images}
use Rattle.rack_parts.specs.declared.volume_fault.VolumeFault.{VolumeFault}
use Rattle.rack.specs.declared.lists.Lists.{Lists}
use Rattle.rack_parts.specs.declared.locks.Issued.{Issued}
use Rattle.rack_parts.specs.declared.rack.ImageRest.{ImageRest}
use Rattle.rack_parts.specs.declared.rack.Rooms.{Rooms}
use Rattle.rack_parts.specs.declared.rack.VolumePasses.{VolumePasses}
use Rattle.std.specs.List.{AllZip}
use Rattle.std.specs.declared.alloc.Global.{Global}
use Rattle.std.specs.declared.vec.Vec.{Vec}
use Rattle.seg_pool.specs.declared.base.PoolBase.{PoolBase}
use Rattle.seg_pool.specs.declared.pool.Pool.{Pool}
use Rattle.log_segment.specs.declared.free.FreeSegment.{FreeSegment}
use Rattle.rack_parts.specs.Rests.{IsRow, AreRooms, pool_pass, spindle_pass, held_here}
use Rattle.rack_parts.specs.declared.rack.Rack.{Rack}

-- ---- Empty lists with room

pub record IsEmptyShared {D : Type 0} (volumes : ℕ) (s : Shared D) : Type 0 where
  pub pools : (s.pools.items ≡ []) × (volumes ≤ vec_capacity s.pools)
  pub spindles : (s.spindles.items ≡ []) × (volumes ≤ vec_capacity s.spindles)

-- room for the rows of so many volumes
pub record AreNewRooms {D : Type 0} (volumes : ℕ) (r : Rooms D) : Type 0 where
  pub pools : (r.pools.items ≡ []) × (volumes ≤ vec_capacity r.pools)
  pub spindles : (r.spindles.items ≡ []) × (volumes ≤ vec_capacity r.spindles)
  pub managers : (r.managers.items ≡ []) × (volumes ≤ vec_capacity r.managers)
  pub closed : (r.closed.items ≡ []) × (volumes ≤ vec_capacity r.closed)

-- room for a volume's pass of each lock
pub record AreEmptyPasses {D : Type 0} (volumes : ℕ) (p : VolumePasses D) : Type 0 where
  pub pools : (p.pools.items ≡ []) × (volumes ≤ vec_capacity p.pools)
  pub spindles : (p.spindles.items ≡ []) × (volumes ≤ vec_capacity p.spindles)
  pub held_count : length p.held.items ≡ volumes
  pub held : All (λ list. list.items ≡ []) p.held.items

pub record AreLists {D : Type 0} (volumes : ℕ) (l : Lists D) : Type 0 where
  pub shared : IsEmptyShared volumes l.shared
  pub keepers : (l.keepers.items ≡ []) × (volumes ≤ vec_capacity l.keepers)
  pub stations : (l.stations.items ≡ []) × (volumes ≤ vec_capacity l.stations)
  pub count : length l.passes.items ≡ volumes
  pub passes : All (AreEmptyPasses volumes) l.passes.items
  pub rooms : AreNewRooms volumes l.rooms

-- ---- A rack before a volume is opened

-- the locks of the spindles and their rows of passes are there, but the keepers' passes stand in a
-- list of their own
pub record PutsSpindles {D : Type 0} (spindles : List (Issued Spindle SpindleBase))
    (old new : Lists D) : Type 0 where
  pub locks : new.shared.spindles.items ≡ map (λ (i : Issued Spindle SpindleBase). i.lock) spindles
  pub keepers : AllZip (λ (i : Issued Spindle SpindleBase) p.
      slice_get i.passes.items (length spindles) ≡ Some p) spindles new.keepers.items
  pub rows : AllZip
      (λ (i : Issued Spindle SpindleBase) (row : Vec (PassOf Spindle SpindleBase) Global).
      (row.items ≡ take (length spindles) i.passes.items)
      × (length spindles + 1 ≤ vec_capacity row)) spindles new.rooms.spindles.items
  pub pools : new.shared.pools ≡ old.shared.pools
  pub stations : new.stations ≡ old.stations
  pub passes : new.passes ≡ old.passes
  pub pool_rooms : new.rooms.pools ≡ old.rooms.pools
  pub managers : new.rooms.managers ≡ old.rooms.managers
  pub closed : new.rooms.closed ≡ old.rooms.closed

-- the locks of the pools and their rows of passes are there
pub record PutsPools {D : Type 0} (pools : List (Issued (Pool (FreeSegment D)) PoolBase))
    (old new : Lists D) : Type 0 where
  pub locks : new.shared.pools.items
      ≡ map (λ (i : Issued (Pool (FreeSegment D)) PoolBase). i.lock) pools
  pub rows : new.rooms.pools.items
      ≡ map (λ (i : Issued (Pool (FreeSegment D)) PoolBase). i.passes) pools
  pub spindles : new.shared.spindles ≡ old.shared.spindles
  pub keepers : new.keepers ≡ old.keepers
  pub stations : new.stations ≡ old.stations
  pub passes : new.passes ≡ old.passes
  pub spindle_rooms : new.rooms.spindles ≡ old.rooms.spindles
  pub managers : new.rooms.managers ≡ old.rooms.managers
  pub closed : new.rooms.closed ≡ old.rooms.closed

-- the last element of a row
abbrev pub last_of : {T : Type 0} → Vec T Global → Option T
last_of row = slice_get row.items (length row.items - 1)

-- each row lost its last element
pub record ArePopped {T : Type 0} (old new : List (Vec T Global)) : Type 0 where
  pub count : length new ≡ length old
  pub each : (k : ℕ) (d : Vec T Global) → k < length old
      → (slice_index_or new k d).items
      ≡ take (length (slice_index_or old k d).items - 1) (slice_index_or old k d).items
  pub rooms : (k : ℕ) (d : Vec T Global) → k < length old
      → vec_capacity (slice_index_or new k d) ≡ vec_capacity (slice_index_or old k d)

-- each row has a pass for each volume, and there is room for it
pub record CanDeal {D : Type 0} (l : Lists D) : Type 0 where
  pub pools : All (λ row. length row.items ≡ length l.passes.items) l.rooms.pools.items
  pub pool_count : length l.rooms.pools.items ≡ length l.passes.items
  pub spindles : All (λ row. length row.items ≡ length l.passes.items) l.rooms.spindles.items
  pub spindle_count : length l.rooms.spindles.items ≡ length l.passes.items
  pub passes : All (AreEmptyPasses (length l.passes.items)) l.passes.items

-- the rows are empty, and have the room that they had
pub record AreEmptied {T : Type 0} (old new : List (Vec T Global)) : Type 0 where
  pub count : length new ≡ length old
  pub empty : All (λ row. row.items ≡ []) new
  pub rooms : (k : ℕ) (d : Vec T Global) → k < length old
      → vec_capacity (slice_index_or new k d) ≡ vec_capacity (slice_index_or old k d)

-- volume v has the pass at place v of each row, and the rows are empty
pub record Deals {D : Type 0} (old new : Lists D) : Type 0 where
  pub count : length new.passes.items ≡ length old.passes.items
  pub pools : (v : ℕ) (p : VolumePasses D) → slice_get new.passes.items v ≡ Some p
      → p.pools.items ≡ map (λ (row : Vec (PassOf (Pool (FreeSegment D)) PoolBase) Global).
      slice_get row.items v) old.rooms.pools.items
  pub spindles : (v : ℕ) (p : VolumePasses D) → slice_get new.passes.items v ≡ Some p
      → p.spindles.items ≡ map (λ (row : Vec (PassOf Spindle SpindleBase) Global).
      slice_get row.items v) old.rooms.spindles.items
  pub held : (v : ℕ) (p q : VolumePasses D) → slice_get old.passes.items v ≡ Some p
      → slice_get new.passes.items v ≡ Some q → q.held ≡ p.held
  pub pool_rows : AreEmptied old.rooms.pools.items new.rooms.pools.items
  pub spindle_rows : AreEmptied old.rooms.spindles.items new.rooms.spindles.items
  pub shared : new.shared ≡ old.shared
  pub keepers : new.keepers ≡ old.keepers
  pub stations : new.stations ≡ old.stations
  pub managers : new.rooms.managers ≡ old.rooms.managers
  pub closed : new.rooms.closed ≡ old.rooms.closed

-- the locks, passes and rooms stand where they belong, and no volume is open
pub record IsSetUp {D : Type 0} (spindles : List (Issued Spindle SpindleBase))
    (pools : List (Issued (Pool (FreeSegment D)) PoolBase)) (volumes : ℕ) (r : Rack D) :
    Type 0 where
  pub pool_locks : r.shared.pools.items
      ≡ map (λ (i : Issued (Pool (FreeSegment D)) PoolBase). i.lock) pools
  pub spindle_locks : r.shared.spindles.items
      ≡ map (λ (i : Issued Spindle SpindleBase). i.lock) spindles
  pub keeper_count : length r.keepers.items ≡ volumes
  pub keepers : (k : ℕ) (i : Issued Spindle SpindleBase) → slice_get spindles k ≡ Some i
      → slice_get r.keepers.items k ≡ slice_get i.passes.items volumes
  pub stations : (r.stations.items ≡ []) × (volumes ≤ vec_capacity r.stations)
  pub count : length r.rest.passes.items ≡ volumes
  pub rows : All (λ p. IsRow volumes p) r.rest.passes.items
  pub pool_passes : (v k : ℕ) (i : Issued (Pool (FreeSegment D)) PoolBase) → v < volumes
      → slice_get pools k ≡ Some i → pool_pass r.rest v k ≡ slice_get i.passes.items v
  pub spindle_passes : (v k : ℕ) (i : Issued Spindle SpindleBase) → v < volumes
      → slice_get spindles k ≡ Some i → spindle_pass r.rest v k ≡ slice_get i.passes.items v
  pub held : (v k : ℕ) → held_here r.rest v k ≡ []
  pub rooms : AreRooms volumes 0 r.rest.rooms
  pub managers : volumes ≤ vec_capacity r.rest.rooms.managers

-- ---- Images that were taken out

pub record AreNewImages {D : Type 0} (volumes : ℕ) (i : Images D) : Type 0 where
  pub said : (i.said.items ≡ []) × (volumes ≤ vec_capacity i.said)
  pub out : (i.out.items ≡ []) × (volumes ≤ vec_capacity i.out)
  pub faults : (i.faults.items ≡ []) × (volumes ≤ vec_capacity i.faults)

-- there is room for one more
pub record HasRoom {D : Type 0} (i : Images D) : Type 0 where
  pub said : length i.said.items < vec_capacity i.said
  pub out : length i.out.items < vec_capacity i.out
  pub faults : length i.faults.items < vec_capacity i.faults

-- what is one more: the image, or why it was refused
abbrev pub said_by : {D : Type 0} → Result (Said × ImageRest D) VolumeFault → Option Said
said_by (Ok pair) = Some pair.0
said_by (Err fault) = None

abbrev pub image_by : {D : Type 0} → Result (Said × ImageRest D) VolumeFault → Option (ImageRest D)
image_by (Ok pair) = Some pair.1
image_by (Err fault) = None

abbrev pub fault_by : {D : Type 0} → Result (Said × ImageRest D) VolumeFault → Option VolumeFault
fault_by (Ok pair) = None
fault_by (Err fault) = Some fault

pub record PushesImage {D : Type 0} (old new : Images D)
    (opened : Result (Said × ImageRest D) VolumeFault) : Type 0 where
  pub said : (new.said.items ≡ old.said.items ++ said_by opened ∷ [])
      × (vec_capacity new.said ≡ vec_capacity old.said)
  pub out : (new.out.items ≡ old.out.items ++ image_by opened ∷ [])
      × (vec_capacity new.out ≡ vec_capacity old.out)
  pub faults : (new.faults.items ≡ old.faults.items ++ fault_by opened ∷ [])
      × (vec_capacity new.faults ≡ vec_capacity old.faults)
