-- What the leaves of opening and closing do: a pool is filled and emptied, and parts and passes go
-- out of a rest and come back.
use Rattle.std.specs.Prelude.{⊤, ◌≡◌, ◌≢◌, ◌==◌, ◌<◌, ◌≤◌, ◌+◌, ◌-◌, ◌∷◌, ◌++◌, ℕ, Bool, true, false, List, [], length, map, filter, count_by, sum_by, vec_capacity, Option, None, Some, MatchOption, is_some, slice_get, slice_set, slice_index_or, Contains, All, AllPairs, IsSome}
use Rattle.wol_disk.specs.Disk.{State}
use Rattle.wol_model.specs.Blocks.{AreApart}
use Rattle.wol_model.specs.Heads.{Shape}
use Rattle.wol_config.specs.declared.config.Config.{Config}
use Rattle.turn_lock.specs.Passes.{lock_id, lock_passes, pass_lock, pass_mine, AreNewPasses, IsFree}
use Rattle.turn_lock.specs.declared.pass.PassOf.{PassOf}
use Rattle.spin_model.specs.Operations.{has_token}
use Rattle.spin_model.specs.Spun.{state_of, disk_of}
use Rattle.spin_model.specs.declared.spindle.Spindle.{Spindle}
use Rattle.spin_model.specs.declared.spindle.SpindleBase.{SpindleBase}
use Rattle.spin_model.specs.declared.spun.Spun.{Spun}
use Rattle.seg_pool.specs.Holders.{holder}
use Rattle.seg_pool.specs.Pools.{IsEmptyPool, item_at, note_at, room_of, volume_of, blocks_of, base_of, StandsFor}
use Rattle.seg_pool.specs.declared.base.Holder.{Holder}
use Rattle.seg_pool.specs.declared.base.Holder.TheVariants.{Elsewhere, InPool, HeldBy}
use Rattle.seg_pool.specs.declared.base.PoolBase.{PoolBase}
use Rattle.seg_pool.specs.declared.pool.Pool.{Pool}
use Rattle.log_segment.specs.Kept.{IsFreeInAll}
use Rattle.log_segment.specs.Segment.{free_part, part_of, IsBlank}
use Rattle.log_segment.specs.declared.free.FreeSegment.{FreeSegment}
use Rattle.log_layout.specs.Values.{shape_of}
use Rattle.log_layout.specs.declared.segment.SegHead.{SegHead}
use Rattle.log_layout.specs.declared.segment.SegHead.TheVariants.{Free, Owned}
use Rattle.logger.specs.Lanes.{IsLane, AreAccesses, logger_of, lane_owner, held_in, taken_in, pool_of, spindle_of, segments_in}
use Rattle.logger.specs.declared.lane.HeldSegment.{HeldSegment}
use Rattle.logger.specs.declared.lane.Lane.{Lane}
use Rattle.manager.specs.declared.manager.ManagerParts.{ManagerParts}
use Rattle.manager_recovery.specs.Opening.{AreInOrder, place_of}
use Rattle.manager_recovery.specs.declared.opening.Opening.{Opening}
use Rattle.manager_recovery.specs.declared.opening.OwnedPart.{OwnedPart}
use Rattle.volume_images.specs.Accepted.{head_place}
use Rattle.volume_images.specs.Volumes.{shapes_of}
use Rattle.volume_images.specs.declared.attach.OutImage.{OutImage}
use Rattle.rack_parts.specs.Rests.{IsPart, IsPoolLock, IsRow, image_here, segment_here, pool_pass, spindle_pass, held_here, indexes_here}
use Rattle.rack_parts.specs.declared.heads_said.Said.{Said}
use Rattle.rack_parts.specs.declared.locks.Issued.{Issued}
use Rattle.rack_parts.specs.declared.rack.ImageRest.{ImageRest}
use Rattle.rack_parts.specs.declared.rack.Rest.{Rest}
use Rattle.wol_config.specs.Configs.{most_of}

-- ---- An image is laid out, and put together

-- all parts of an image that went out are here
pub record IsLaidOut {D : Type 0} (o : OutImage D) (said : Said) (r : ImageRest D) : Type 0 where
  pub view : said.view ≡ o.view
  pub heads : said.heads ≡ o.heads
  pub label : r.label ≡ o.parts.image.label
  pub home : r.home ≡ Some o.parts.image.home
  pub segments : r.segments.items ≡ map (λ (p : Spun D). Some p) o.parts.image.segments.items
  pub row : (r.row.items ≡ []) × (length o.parts.image.segments.items ≤ vec_capacity r.row)
  pub room : r.room ≡ o.parts.room

-- all parts of an image are here, and there is room for them
pub record IsAllHere {D : Type 0} (r : ImageRest D) : Type 0 where
  pub home : IsSome r.home
  pub segments : (i : ℕ) → i < length r.segments.items → IsSome (segment_here r i)
  pub row : (r.row.items ≡ []) × (length r.segments.items ≤ vec_capacity r.row)
  pub room : (r.room.items ≡ []) × (2 + length r.segments.items ≤ vec_capacity r.room)

-- these are the disks of its parts, in the order of the bay
pub record IsTogether {D : Type 0} (r : ImageRest D) (disks : List D) : Type 0 where
  pub home : Spun D
  pub segments : List (Spun D)
  pub home_is : r.home ≡ Some home
  pub segments_are : r.segments.items ≡ map (λ (p : Spun D). Some p) segments
  pub disks_are : disks ≡ disk_of r.label ∷ disk_of home ∷ map (λ (p : Spun D). disk_of p) segments

-- ---- Parts that come back

-- the segment with this index came back
pub record IsFilled {D : Type 0} (old new : ImageRest D) (index : ℕ) (part : Spun D) : Type 0 where
  pub label : new.label ≡ old.label
  pub home : new.home ≡ old.home
  pub segments : new.segments.items ≡ slice_set old.segments.items index (Some part)
  pub row : new.row ≡ old.row
  pub room : new.room ≡ old.room

-- ---- Pools

-- a segment that says in each image that it is free, of this volume and with this number of blocks
pub record IsBlankPart {D : Type 0} (state : D → State) (volume blocks : ℕ) (p : Spun D) :
    Type 0 where
  pub part : IsPart state volume blocks p
  pub idle : IsFreeInAll (state_of state p)

-- who has a segment with this head, when the pool's lock is made
abbrev pub holder_said : SegHead → Holder
holder_said Free = InPool
holder_said (Owned owner) = HeldBy owner

-- an empty pool whose segments may be given to it, or noted as held
pub record MayBeFilled {D : Type 0} (state : D → State) (pool : Pool (FreeSegment D)) : Type 0 where
  pub few : room_of pool ≤ 1024
  pub blocks : (4 ≤ blocks_of pool) × (blocks_of pool ≤ 65536)
  pub empty : IsEmptyPool pool
  pub notes : (index : ℕ) → note_at pool index ≡ None
  pub stands : StandsFor (IsBlank state) pool (base_of pool) []

-- all segments are here, and those with a free head are blank
pub record AreFillable {D : Type 0} (state : D → State) (volume blocks : ℕ) (heads : List SegHead)
    (segments : List (Option (Spun D))) : Type 0 where
  pub count : length segments ≡ length heads
  pub here : (i : ℕ) → i < length heads → IsSome (slice_index_or segments i None)
  pub blank : (i : ℕ) (p : Spun D) → slice_get heads i ≡ Some Free
      → slice_get segments i ≡ Some (Some p) → IsBlankPart state volume blocks p

-- what is left in the place of a segment with this head
abbrev pub left_by : {D : Type 0} → SegHead → Option (Spun D) → Option (Spun D)
left_by Free part = None
left_by (Owned owner) part = part

-- the segments with a free head are gone
pub record TakesFree {D : Type 0} (heads : List SegHead) (old new : List (Option (Spun D))) :
    Type 0 where
  pub count : length new ≡ length old
  pub each : (i : ℕ) (h : SegHead) → slice_get heads i ≡ Some h
      → slice_index_or new i None ≡ left_by h (slice_index_or old i None)

-- the pool has them, and its notes are the owners
pub record IsFilledPool {D : Type 0} (heads : List SegHead) (before : List (Option (Spun D)))
    (p : Pool (FreeSegment D)) : Type 0 where
  pub room : room_of p ≡ length heads
  pub holders : (i : ℕ) (h : SegHead) → slice_get heads i ≡ Some h
      → holder (base_of p).holders i ≡ holder_said h
  pub items : (i : ℕ) (f : FreeSegment D) → item_at p i ≡ Some f
      → (slice_get heads i ≡ Some Free) × (slice_get before i ≡ Some (Some (free_part f)))

-- the slot of this index has the segment that had this head, or its owner's note; the others are as
-- they were
pub record FillsSlot {D : Type 0} (index : ℕ) (head : SegHead) (segment : Option (Spun D))
    (old new : Pool (FreeSegment D)) : Type 0 where
  pub holder_is : holder (base_of new).holders index ≡ holder_said head
  pub item : (f : FreeSegment D) → item_at new index ≡ Some f
      → (head ≡ Free) × (segment ≡ Some (free_part f))
  pub items : (i : ℕ) → i ≢ index → item_at new i ≡ item_at old i
  pub notes : (i : ℕ) → i ≢ index → note_at new i ≡ note_at old i
  pub holders : (i : ℕ) → i ≢ index
      → holder (base_of new).holders i ≡ holder (base_of old).holders i

-- an item of a pool, as the part that it is
abbrev pub item_part : {D : Type 0} → Option (FreeSegment D) → Option (Spun D)
item_part None = None
item_part (Some f) = Some (free_part f)

-- the first of two that is there
abbrev pub either_part : {D : Type 0} → Option (Spun D) → Option (Spun D) → Option (Spun D)
either_part None other = other
either_part (Some p) other = Some p

-- where the pool has an item, there is an empty place for it
pub record HasPlaces {D : Type 0} (p : Pool (FreeSegment D)) (r : ImageRest D) : Type 0 where
  pub within : (i : ℕ) → IsSome (item_at p i) → i < length r.segments.items
  pub empty : (i : ℕ) → IsSome (item_at p i) → segment_here r i ≡ None

-- only segments of an image came or went
pub record IsSameBut {D : Type 0} (old new : ImageRest D) : Type 0 where
  pub label : new.label ≡ old.label
  pub home : new.home ≡ old.home
  pub count : length new.segments.items ≡ length old.segments.items
  pub row : new.row ≡ old.row
  pub room : new.room ≡ old.room

-- the items of the pool stand in their places
pub record IsRefilled {D : Type 0} (p : Pool (FreeSegment D)) (old new : ImageRest D) : Type 0 where
  pub same : IsSameBut old new
  pub segments : (i : ℕ)
      → segment_here new i ≡ either_part (item_part (item_at p i)) (segment_here old i)

abbrev pub EmptiesInto : {D : Type 0} → Pool (FreeSegment D) → (old new : Option (ImageRest D))
    → Type 0
EmptiesInto {D} p old new =
    MatchOption old (new ≡ None) (λ r. (n : ImageRest D) × (new ≡ Some n) × IsRefilled p r n)

-- a pool may be made of an image that says this
pub record CanFill {D : Type 0} (state : D → State) (volumes id : ℕ) (s : Shape) (said : Said)
    (r : ImageRest D) : Type 0 where
  pub count : length said.heads.items ≡ s.segments
  pub segments : AreFillable state id s.segment_blocks said.heads.items r.segments.items
  pub owners : (i owner : ℕ) → slice_get said.heads.items i ≡ Some (Owned owner) → owner < volumes

-- the same where the image is out; where it isn't, it says nothing
abbrev pub CanIssue : {D : Type 0} → (D → State) → (volumes id : ℕ) → Shape → Option Said
    → Option (ImageRest D) → Type 0
CanIssue state volumes id s None None = ⊤
CanIssue state volumes id s None (Some r) = ⊥
CanIssue state volumes id s (Some said) None = ⊥
CanIssue state volumes id s (Some said) (Some r) = CanFill state volumes id s said r

-- the same where there is a head
abbrev pub of_head : Option SegHead → Holder
of_head None = Elsewhere
of_head (Some h) = holder_said h

-- who has a segment when the lock is made, by what the image says
abbrev pub holder_by : Option Said → (i : ℕ) → Holder
holder_by None i = Elsewhere
holder_by (Some said) i = of_head (slice_get said.heads.items i)

-- a pool's lock with a new pass for each volume
pub record IsIssuedPool {D : Type 0} (volumes id : ℕ) (s : Shape) (said : Option Said)
    (i : Issued (Pool (FreeSegment D)) PoolBase) : Type 0 where
  pub lock : IsPoolLock volumes id s i.lock
  pub count : length i.passes.items ≡ volumes
  pub passes : AreNewPasses i.lock i.passes.items
  pub holders : (index : ℕ) → holder (lock_id i.lock).base.holders index ≡ holder_by said index

-- the segments that a pool was given are gone from the image
abbrev pub Supplies : {D : Type 0} → Option Said → (old new : Option (ImageRest D)) → Type 0
Supplies None old new = new ≡ old
Supplies (Some said) None new = new ≡ None
Supplies (Some said) (Some r) None = ⊥
Supplies (Some said) (Some r) (Some n) =
    IsSameBut r n × TakesFree said.heads.items r.segments.items n.segments.items

-- in each place with a free head stands a blank segment again, and the others are as they were
pub record IsRestored {D : Type 0} (state : D → State) (id blocks : ℕ) (said : Said)
    (old new : ImageRest D) : Type 0 where
  pub same : IsSameBut old new
  pub free : (i : ℕ) → slice_get said.heads.items i ≡ Some Free
      → (p : Spun D) × (segment_here new i ≡ Some p) × IsBlankPart state id blocks p
  pub owned : (i owner : ℕ) → slice_get said.heads.items i ≡ Some (Owned owner)
      → segment_here new i ≡ segment_here old i

abbrev pub Restores : {D : Type 0} → (D → State) → (id blocks : ℕ) → Option Said
    → (old new : Option (ImageRest D)) → Type 0
Restores state id blocks None old new = new ≡ old
Restores state id blocks (Some said) None new = new ≡ None
Restores state id blocks (Some said) (Some r) None = ⊥
Restores state id blocks (Some said) (Some r) (Some n) = IsRestored state id blocks said r n

-- an empty pool of these sizes may get the segments of an image that says this
pub record MaySupply {D : Type 0} (state : D → State) (p : Pool (FreeSegment D))
    (said : Option Said) (image : Option (ImageRest D)) : Type 0 where
  pub volumes : ℕ
  pub shape : Shape
  pub room : room_of p ≡ shape.segments
  pub blocks : blocks_of p ≡ shape.segment_blocks
  pub may : CanIssue state volumes (volume_of p) shape said image

-- the pool has the free segments of the image, each of which has its place there, and the notes of
-- the others
pub record IsSupplied {D : Type 0} (state : D → State) (said : Option Said)
    (old new : Option (ImageRest D)) (p : Pool (FreeSegment D)) : Type 0 where
  pub holders : (index : ℕ) → holder (base_of p).holders index ≡ holder_by said index
  pub supplies : Supplies said old new
  pub places : MatchOption new (IsEmptyPool p) (HasPlaces p)
  -- where the pool is emptied again, all is restored
  pub restorable : (last : Option (ImageRest D)) → EmptiesInto p new last
      → Restores state (volume_of p) (blocks_of p) said old last

-- the lock may be ended: all of its new passes are here, and each free segment has its place in the
-- image
pub record CanEnd {D : Type 0} (i : Issued (Pool (FreeSegment D)) PoolBase)
    (image : Option (ImageRest D)) : Type 0 where
  pub count : length i.passes.items ≡ lock_passes i.lock
  pub passes : AreNewPasses i.lock i.passes.items
  pub places : (index : ℕ) → holder (lock_id i.lock).base.holders index ≡ InPool
      → (r : ImageRest D) × (image ≡ Some r) × (index < length r.segments.items)
      × (segment_here r index ≡ None)

-- its free segments, which are blank, are in their places
pub record IsEndedInto {D : Type 0} (state : D → State) (b : PoolBase) (old new : ImageRest D) :
    Type 0 where
  pub same : IsSameBut old new
  pub free : (i : ℕ) → holder b.holders i ≡ InPool
      → (p : Spun D) × (segment_here new i ≡ Some p) × IsBlankPart state b.volume b.blocks p
  pub others : (i : ℕ) → holder b.holders i ≢ InPool → segment_here new i ≡ segment_here old i

abbrev pub EndsInto : {D : Type 0} → (D → State) → PoolBase → (old new : Option (ImageRest D))
    → Type 0
EndsInto {D} state b old new =
    MatchOption old (new ≡ None) (λ r. (n : ImageRest D) × (new ≡ Some n) × IsEndedInto state b r n)

-- ---- Parts and passes go out of a rest and come back

-- how many segments a volume of this shape has
abbrev pub segment_count : Option Shape → ℕ
segment_count None = 0
segment_count (Some s) = s.segments

-- those of volume k
abbrev pub segments_of : Config → (k : ℕ) → ℕ
segments_of config k = segment_count (slice_get (shapes_of config) k)

-- a place whose head names the owner v
abbrev pub IsOwnedPlace : (said : List (Option Said)) → (v k i : ℕ) → Type 0
IsOwnedPlace said v k i =
    (s : Said) × (slice_get said k ≡ Some (Some s)) × (slice_get s.heads.items i ≡ Some (Owned v))

-- whether the head is of the owner v
abbrev pub is_owned_by : ℕ → SegHead → Bool
is_owned_by v Free = false
is_owned_by v (Owned owner) = owner == v

-- how many heads are of the owner v
abbrev pub count_owners : (v : ℕ) → List SegHead → ℕ
count_owners v heads = count_by (is_owned_by v) heads

-- how many segments with the owner v an image says
abbrev pub owned_count : (v : ℕ) → Said → ℕ
owned_count v said = count_owners v said.heads.items

-- the same where it says something
abbrev pub owned_in : (v : ℕ) → Option Said → ℕ
owned_in v None = 0
owned_in v (Some s) = owned_count v s

-- how many all images say
abbrev pub owned_total : (v : ℕ) → List (Option Said) → ℕ
owned_total v said = sum_by (owned_in v) said

module _ {D : Type 0} where
  -- what a volume has at a logger is as it was
  pub record KeepsPlace (old new : Rest D) (v k : ℕ) : Type 0 where
    pub pool : pool_pass new v k ≡ pool_pass old v k
    pub spindle : spindle_pass new v k ≡ spindle_pass old v k
    pub held : held_here new v k ≡ held_here old v k

  -- there are as many rows, and each has its places
  pub record KeepsRows (old new : Rest D) : Type 0 where
    pub count : length new.passes.items ≡ length old.passes.items
    pub rows : (n : ℕ) → All (λ p. IsRow n p) old.passes.items
        → All (λ p. IsRow n p) new.passes.items

  -- volume v has a row with a place for k
  pub record HasPlace (r : Rest D) (v k : ℕ) : Type 0 where
    pub row : v < length r.passes.items
    pub volumes : ℕ
    pub rows : All (λ p. IsRow volumes p) r.passes.items
    pub within : k < volumes

  -- neither of the passes is here, and no segment came back
  pub record IsBarePlace (r : Rest D) (v k : ℕ) : Type 0 where
    pub place : HasPlace r v k
    pub pool : pool_pass r v k ≡ None
    pub spindle : spindle_pass r v k ≡ None
    pub held : held_here r v k ≡ []

  -- a held segment of a lane, as it comes back
  abbrev pub held_parts : Lane D → List (ℕ × Spun D)
  held_parts l = map (λ (h : HeldSegment D). (h.index, part_of h.segment)) (held_in l)

  -- what a lane of volume v had is here
  pub record HasBack (r : Rest D) (v : ℕ) (l : Lane D) : Type 0 where
    pub pool : pool_pass r v (logger_of l) ≡ Some (pool_of l)
    pub spindle : spindle_pass r v (logger_of l) ≡ Some (spindle_of l)
    pub held : held_here r v (logger_of l) ≡ held_parts l

  -- a lane of volume v came back
  pub record PutsLane (old new : Rest D) (v : ℕ) (l : Lane D) : Type 0 where
    pub images : new.images ≡ old.images
    pub rooms : new.rooms ≡ old.rooms
    pub rows : KeepsRows old new
    pub back : HasBack new v l
    pub others : (w k : ℕ) → (w ≡ v → k ≢ logger_of l) → KeepsPlace old new w k

  -- lanes of volume v came back
  pub record PutsLanes (old new : Rest D) (v : ℕ) (lanes : List (Lane D)) : Type 0 where
    pub images : new.images ≡ old.images
    pub rooms : new.rooms ≡ old.rooms
    pub rows : KeepsRows old new
    pub back : All (HasBack new v) lanes
    pub others : (w k : ℕ) → (w ≡ v → All (λ l. k ≢ logger_of l) lanes) → KeepsPlace old new w k

  -- lanes that may come back: each is whole, and its place is bare
  pub record CanPutLanes (state : D → State) (r : Rest D) (v : ℕ) (lanes : List (Lane D)) :
      Type 0 where
    pub whole : All (λ l. IsLane state l × (taken_in l ≡ None)) lanes
    pub bare : All (λ l. IsBarePlace r v (logger_of l)) lanes
    pub apart : AllPairs (λ l m. logger_of l ≢ logger_of m) lanes

  -- the home of volume v is away, with the pass of its spindle
  pub record IsHomeAway (r : Rest D) (v : ℕ) : Type 0 where
    pub place : HasPlace r v v
    pub image : ImageRest D
    pub out : image_here r.images.items v ≡ Some image
    pub home : image.home ≡ None
    pub spindle : spindle_pass r v v ≡ None

  -- what becomes of the image of volume v where this home comes back
  abbrev pub with_home : Option (Spun D) → Option (ImageRest D) → Option (ImageRest D)
  with_home home None = None
  with_home home (Some r) = Some (record r { home = home })

  -- the home of volume v is this, and the pass of its spindle this; all else is as it was
  pub record ChangesHome (old new : Rest D) (v : ℕ) (home : Option (Spun D))
      (spindle : Option (PassOf Spindle SpindleBase)) : Type 0 where
    pub count : length new.images.items ≡ length old.images.items
    pub image : image_here new.images.items v ≡ with_home home (image_here old.images.items v)
    pub images : (k : ℕ) → k ≢ v → image_here new.images.items k ≡ image_here old.images.items k
    pub rooms : new.rooms ≡ old.rooms
    pub rows : KeepsRows old new
    pub spindle_here : spindle_pass new v v ≡ spindle
    pub pools : (w k : ℕ) → pool_pass new w k ≡ pool_pass old w k
    pub held : (w k : ℕ) → held_here new w k ≡ held_here old w k
    pub spindles : (w k : ℕ) → (w ≡ v → k ≢ v) → spindle_pass new w k ≡ spindle_pass old w k

  -- what a volume was opened with came back: its home, and its lanes
  pub record PutsManager (old new : Rest D) (v : ℕ) (parts : ManagerParts D) : Type 0 where
    pub count : length new.images.items ≡ length old.images.items
    pub image : image_here new.images.items v
        ≡ with_home (Some parts.home) (image_here old.images.items v)
    pub images : (k : ℕ) → k ≢ v → image_here new.images.items k ≡ image_here old.images.items k
    pub rooms : new.rooms ≡ old.rooms
    pub rows : KeepsRows old new
    pub spindle : spindle_pass new v v ≡ Some parts.spindle
    pub back : All (HasBack new v) parts.lanes.items
    pub others : (w k : ℕ) → (w ≡ v → (k ≢ v) × All (λ l. k ≢ logger_of l) parts.lanes.items)
        → KeepsPlace old new w k
    pub own_pool : pool_pass new v v ≡ pool_pass old v v
    pub own_held : held_here new v v ≡ held_here old v v

  -- the place of an owned segment is empty, in an image that is out
  pub record IsOwedPlace (r : Rest D) (o : OwnedPart D) : Type 0 where
    pub image : ImageRest D
    pub out : image_here r.images.items o.logger ≡ Some image
    pub within : o.index < length image.segments.items
    pub empty : segment_here image o.index ≡ None

  -- the image at k after a segment went or came: all but its segments is the same
  abbrev pub KeepsImage : (old new : Option (ImageRest D)) → Type 0
  KeepsImage old new =
      MatchOption old (new ≡ None) (λ r. (n : ImageRest D) × (new ≡ Some n) × IsSameBut r n)

  -- segment i of an image, where the image is out and it is here
  abbrev pub in_image : Option (ImageRest D) → ℕ → Option (Spun D)
  in_image None i = None
  in_image (Some r) i = segment_here r i

  -- the same of the image of volume k
  abbrev pub segment_in : Rest D → (k i : ℕ) → Option (Spun D)
  segment_in r k i = in_image (image_here r.images.items k) i

  -- owned segments came back to their places
  pub record PutsOwned (old new : Rest D) (os : List (OwnedPart D)) : Type 0 where
    pub passes : new.passes ≡ old.passes
    pub rooms : new.rooms ≡ old.rooms
    pub count : length new.images.items ≡ length old.images.items
    pub images : (k : ℕ)
        → KeepsImage (image_here old.images.items k) (image_here new.images.items k)
    pub back : All (λ (o : OwnedPart D). segment_in new o.logger o.index ≡ Some o.part) os
    pub others : (k i : ℕ) → All (λ (o : OwnedPart D). place_of o ≢ (k, i)) os
        → segment_in new k i ≡ segment_in old k i

  -- owned segments that may come back: the place of each is empty, and no two have one
  pub record CanPutOwned (r : Rest D) (os : List (OwnedPart D)) : Type 0 where
    pub places : All (IsOwedPlace r) os
    pub apart : AllPairs (λ (o p : OwnedPart D). place_of o ≢ place_of p) os

  -- the segments that came back with a lane of volume v at logger k may go to their places
  pub record CanPutHeld (r : Rest D) (v k : ℕ) : Type 0 where
    pub place : HasPlace r v k
    pub image : ImageRest D
    pub out : image_here r.images.items k ≡ Some image
    pub within : All (λ i. i < length image.segments.items) (indexes_here r v k)
    pub empty : All (λ i. segment_here image i ≡ None) (indexes_here r v k)
    pub apart : AreApart (indexes_here r v k)

  -- the last of them went out
  pub record PopsHeld (old new : Rest D) (v k : ℕ) (h : ℕ × Spun D) : Type 0 where
    pub images : new.images ≡ old.images
    pub rooms : new.rooms ≡ old.rooms
    pub rows : KeepsRows old new
    pub held : held_here old v k ≡ held_here new v k ++ h ∷ []
    pub held_others : (w j : ℕ) → (w ≡ v → j ≢ k) → held_here new w j ≡ held_here old w j
    pub pools : (w j : ℕ) → pool_pass new w j ≡ pool_pass old w j
    pub spindles : (w j : ℕ) → spindle_pass new w j ≡ spindle_pass old w j

  -- they are there
  pub record PutsHeld (old new : Rest D) (v k : ℕ) : Type 0 where
    pub rooms : new.rooms ≡ old.rooms
    pub rows : KeepsRows old new
    pub count : length new.images.items ≡ length old.images.items
    pub image : KeepsImage (image_here old.images.items k) (image_here new.images.items k)
    pub images : (j : ℕ) → j ≢ k → image_here new.images.items j ≡ image_here old.images.items j
    pub back : All (λ (h : ℕ × Spun D). segment_in new k h.0 ≡ Some h.1) (held_here old v k)
    pub others : (i : ℕ) → (Contains (indexes_here old v k) i → ⊥)
        → segment_in new k i ≡ segment_in old k i
    pub held : held_here new v k ≡ []
    pub held_others : (w j : ℕ) → (w ≡ v → j ≢ k) → held_here new w j ≡ held_here old w j
    pub pools : (w j : ℕ) → pool_pass new w j ≡ pool_pass old w j
    pub spindles : (w j : ℕ) → spindle_pass new w j ≡ spindle_pass old w j

  -- what a volume was to be opened of came back: home, lanes and owned segments, by way of these
  -- rests
  pub record PutsOpening (old new : Rest D) (v : ℕ) (o : Opening D) : Type 0 where
    pub with_home_ : Rest D
    pub home : ChangesHome old with_home_ v (Some o.home) (Some o.spindle)
    pub with_lanes : Rest D
    pub lanes : PutsLanes with_home_ with_lanes v o.lanes.items
    pub owned : PutsOwned with_lanes new o.owned.items

  -- ---- A volume's opening is taken out

  -- volume v has its passes at logger k, where both are of the logger's locks, in no turn, without
  -- a token
  pub record IsUsablePlace (r : Rest D) (v k segments : ℕ) : Type 0 where
    pub place : HasPlace r v k
    pub pool : PassOf (Pool (FreeSegment D)) PoolBase
    pub pool_here : pool_pass r v k ≡ Some pool
    pub pool_volume : (pass_lock pool).base.volume ≡ k
    pub room : length (pass_lock pool).base.holders ≤ segments
    pub pool_free : IsFree pool
    pub spindle : PassOf Spindle SpindleBase
    pub spindle_here : spindle_pass r v k ≡ Some spindle
    pub spindle_volume : (pass_lock spindle).base.volume ≡ k
    pub spindle_free : IsFree spindle
    pub settled : has_token (pass_mine spindle) ≡ false
    pub accesses : AreAccesses (pass_mine spindle)
    pub held : held_here r v k ≡ []

  -- a new lane of volume v with the passes that were here
  pub record IsNewLane (state : D → State) (r : Rest D) (v segments : ℕ) (l : Lane D) : Type 0 where
    pub lane : IsLane state l
    pub owner : lane_owner l ≡ v
    pub size : segments_in l ≡ segments
    pub bare : held_in l ≡ []
    pub untaken : taken_in l ≡ None
    pub pool : pool_pass r v (logger_of l) ≡ Some (pool_of l)
    pub spindle : spindle_pass r v (logger_of l) ≡ Some (spindle_of l)

  -- the passes of volume v at these loggers went out
  pub record TakesPasses (old new : Rest D) (v : ℕ) (loggers : List ℕ) : Type 0 where
    pub images : new.images ≡ old.images
    pub rooms : new.rooms ≡ old.rooms
    pub rows : KeepsRows old new
    pub gone : All (λ k. (pool_pass new v k ≡ None) × (spindle_pass new v k ≡ None)
        × (held_here new v k ≡ [])) loggers
    pub others : (w k : ℕ) → (w ≡ v → All (λ l. k ≢ l) loggers) → KeepsPlace old new w k

  -- nothing changed
  pub record IsSameRest (old new : Rest D) : Type 0 where
    pub images : new.images ≡ old.images
    pub rooms : new.rooms ≡ old.rooms
    pub rows : KeepsRows old new
    pub places : (v k : ℕ) → KeepsPlace old new v k

  -- the loggers of a view whose images are out
  abbrev pub loggers_out : Rest D → (view : List ℕ) → List ℕ
  loggers_out r view = filter (λ k. is_some (image_here r.images.items k)) view

  -- a lane for this logger went behind these, where it is out
  abbrev pub TakesOneLane : (D → State) → Config → (out : Bool) → (old new : Rest D) → (v k : ℕ)
      → (before after : List (Lane D)) → Type 0
  TakesOneLane state config false old new v k before after = (new ≡ old) × (after ≡ before)
  TakesOneLane state config true old new v k before after =
      (l : Lane D) × (after ≡ before ++ l ∷ []) × IsNewLane state old v (segments_of config k) l
      × (logger_of l ≡ k) × TakesPasses old new v (k ∷ [])

  -- lanes of volume v went out, one for each of these loggers, in order
  pub record TakesLanes (state : D → State) (config : Config) (old new : Rest D) (v : ℕ)
      (loggers : List ℕ) (lanes : List (Lane D)) : Type 0 where
    pub loggers_are : map logger_of lanes ≡ loggers
    pub each : All (λ l. IsNewLane state old v (segments_of config (logger_of l)) l) lanes
    pub passes : TakesPasses old new v loggers

  -- an owned segment of volume v, as it stood in its place
  pub record IsTakenOf (config : Config) (r : Rest D) (said : List (Option Said)) (v : ℕ)
      (o : OwnedPart D) : Type 0 where
    pub here : segment_in r o.logger o.index ≡ Some o.part
    pub saying : Said
    pub said_is : slice_get said o.logger ≡ Some (Some saying)
    pub head : slice_get saying.heads.items o.index ≡ Some (Owned v)
    pub first : (s : Shape) → slice_get (shapes_of config) o.logger ≡ Some s
        → o.first_block ≡ head_place s o.index

  -- each segment with the owner v is in its place
  abbrev pub AreOwnersHere : ImageRest D → (v : ℕ) → List SegHead → Type 0
  AreOwnersHere r v heads = (i : ℕ) → slice_get heads i ≡ Some (Owned v) → IsSome (segment_here r i)

  -- the segment of index i went behind these of volume k, where it does
  abbrev pub TakesOne : Shape → (k : ℕ) → (taken : Bool) → (old new : ImageRest D) → (i : ℕ)
      → (before after : List (OwnedPart D)) → Type 0
  TakesOne s k false old new i before after = (new ≡ old) × (after ≡ before)
  TakesOne s k true old new i before after =
      (o : OwnedPart D) × (after ≡ before ++ o ∷ []) × (place_of o ≡ (k, i))
      × (o.first_block ≡ head_place s i) × (segment_here old i ≡ Some o.part)
      × IsSameBut old new × (new.segments.items ≡ slice_set old.segments.items i None)

  -- the segments with the owner v went out of the image of volume k, by rising index
  pub record TakesOwners (s : Shape) (old new : ImageRest D) (v k : ℕ) (heads : List SegHead)
      (os : List (OwnedPart D)) : Type 0 where
    pub same : IsSameBut old new
    pub in_order : AreInOrder (map place_of os)
    pub loggers : All (λ (o : OwnedPart D). o.logger ≡ k) os
    pub each : All (λ (o : OwnedPart D).
        (slice_get heads o.index ≡ Some (Owned v)) × (segment_here old o.index ≡ Some o.part))
        os
    pub first : All (λ (o : OwnedPart D). o.first_block ≡ head_place s o.index) os
    pub all : (i : ℕ) → slice_get heads i ≡ Some (Owned v) → Contains (map place_of os) (k, i)
    pub gone : (i : ℕ) → slice_get heads i ≡ Some (Owned v) → segment_here new i ≡ None
    pub others : (i : ℕ) → slice_get heads i ≢ Some (Owned v)
        → segment_here new i ≡ segment_here old i

  -- where the image of volume k says something it is out, and its segments with the owner v are in
  -- their places
  abbrev pub CanTakeOwnedOf : Rest D → (v k : ℕ) → Option Said → Type 0
  CanTakeOwnedOf r v k None = ⊤
  CanTakeOwnedOf r v k (Some said) = (image : ImageRest D)
      × (image_here r.images.items k ≡ Some image)
      × (length said.heads.items ≡ length image.segments.items)
      × (length said.heads.items ≤ 1024) × AreOwnersHere image v said.heads.items

  -- the owned segments of volume v in the image of volume k went out
  pub record TakesOwnedIn (config : Config) (old new : Rest D) (v k : ℕ) (said : Said)
      (os : List (OwnedPart D)) : Type 0 where
    pub passes : new.passes ≡ old.passes
    pub rooms : new.rooms ≡ old.rooms
    pub count : length new.images.items ≡ length old.images.items
    pub images : (j : ℕ) → j ≢ k → image_here new.images.items j ≡ image_here old.images.items j
    pub before : ImageRest D
    pub was : image_here old.images.items k ≡ Some before
    pub after : ImageRest D
    pub is : image_here new.images.items k ≡ Some after
    pub shape : Shape
    pub shape_is : slice_get (shapes_of config) k ≡ Some shape
    pub takes : TakesOwners shape before after v k said.heads.items os

  abbrev pub TakesOwnedOf : Config → (old new : Rest D) → (v k : ℕ) → Option Said
      → List (OwnedPart D) → Type 0
  TakesOwnedOf config old new v k None os = (new ≡ old) × (os ≡ [])
  TakesOwnedOf config old new v k (Some said) os = TakesOwnedIn config old new v k said os

  -- all owned segments of volume v went out, by rising logger and index
  pub record TakesOwned (config : Config) (old new : Rest D) (said : List (Option Said)) (v : ℕ)
      (os : List (OwnedPart D)) : Type 0 where
    pub passes : new.passes ≡ old.passes
    pub rooms : new.rooms ≡ old.rooms
    pub count : length new.images.items ≡ length old.images.items
    pub images : (k : ℕ)
        → KeepsImage (image_here old.images.items k) (image_here new.images.items k)
    pub in_order : AreInOrder (map place_of os)
    pub each : All (IsTakenOf config old said v) os
    pub all : (k i : ℕ) → IsOwnedPlace said v k i → Contains (map place_of os) (k, i)
    pub gone : (k i : ℕ) → Contains (map place_of os) (k, i) → segment_in new k i ≡ None
    pub others : (k i : ℕ) → (Contains (map place_of os) (k, i) → ⊥)
        → segment_in new k i ≡ segment_in old k i

  -- an image is out exactly where it says something, and each segment with an owner v is in its
  -- place
  pub record AreOwnedHere (r : Rest D) (said : List (Option Said)) (v : ℕ) : Type 0 where
    pub count : length said ≡ length r.images.items
    pub out : (k : ℕ) (s : Said) → slice_get said k ≡ Some (Some s)
        → (image : ImageRest D) × (image_here r.images.items k ≡ Some image)
        × (length s.heads.items ≡ length image.segments.items) × (length s.heads.items ≤ 1024)
    pub here : (k i : ℕ) → IsOwnedPlace said v k i → IsSome (segment_in r k i)

  -- what volume v may be opened of is here
  pub record CanTake (config : Config) (r : Rest D) (said : List (Option Said)) (v : ℕ)
      (view : List ℕ) : Type 0 where
    pub images : length r.images.items ≡ length (shapes_of config)
    pub own : HasPlace r v v
    pub image : ImageRest D
    pub out : image_here r.images.items v ≡ Some image
    pub home : IsSome image.home
    pub spindle : IsSome (spindle_pass r v v)
    pub others : Contains view v → ⊥
    pub lanes : All (λ k. IsUsablePlace r v k (segments_of config k)) (loggers_out r view)
    pub owned : AreOwnedHere r said v

  -- the opening of volume v was taken out, by way of these rests
  pub record TakesOpening (state : D → State) (config : Config) (old new : Rest D)
      (said : List (Option Said)) (v : ℕ) (view : List ℕ) (o : Opening D) : Type 0 where
    pub id : o.want.id ≡ v
    pub shape : slice_get (shapes_of config) v ≡ Some (shape_of o.want)
    pub label : o.label ≡ o.want
    pub view_is : o.view ≡ view
    -- which names each logger once
    pub distinct : AllPairs (λ j k. j ≢ k) view
    pub present : o.present.items ≡ map (λ (i : Option (ImageRest D)). is_some i) old.images.items
    pub most : o.most ≡ most_of config
    pub without_lanes : Rest D
    pub lanes : TakesLanes state config old without_lanes v (loggers_out old view) o.lanes.items
    pub without_owned : Rest D
    pub owned : TakesOwned config without_lanes without_owned said v o.owned.items
    pub home_was : (image : ImageRest D) → image_here old.images.items v ≡ Some image
        → image.home ≡ Some o.home
    pub spindle_was : spindle_pass old v v ≡ Some o.spindle
    pub home : ChangesHome without_owned new v None None
