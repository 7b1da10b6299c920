-- What closing a rack leaves. `state` is that of a part's disk.
use Rattle.std.specs.Prelude.{true, false, Bool, ◌≡◌, ◌==◌, ◌≢◌, ◌<◌, ◌≤◌, ◌+◌, ◌++◌, ◌⊎◌, ℕ, List, [], length, map, Option, None, Some, not, is_some, unwrap_or, slice_get, slice_index_or, slice_range, All, Contains, IsTrue, ⊤}
use Rattle.std.specs.List.{AllByRecursion, list_any}
use Rattle.wol_disk.specs.Disk.{Block, State, Rose, IsAmong, IsImageOf}
use Rattle.wol_model.specs.Blocks.{Write, after}
use Rattle.wol_model.specs.Extents.{AreDistinct, Extent, IsValid, covers_of}
use Rattle.wol_model.specs.Heads.{Shape}
use Rattle.wol_model.specs.History.{worker, helper, keeper, writes, flight_of, IsCut}
use Rattle.wol_model.specs.Images.{Images, image_of, accepted, all_segments, recovered_from, segment_of}
use Rattle.wol_model.specs.Index.{AreRising, Listed, cover_of}
use Rattle.wol_model.specs.Log.{Record, IsLog, IsIdle, extent_of}
use Rattle.wol_model.specs.Recovered.{extents_of}
use Rattle.wol_promise.specs.Manager.{SaysOwnerOrFree}
use Rattle.wol_promise.specs.Policy.{PartName, HomePart, SegmentPart}
use Rattle.wol_promise.specs.Ruled.{entries_of, last_look}
use Rattle.wol_promise.specs.Stands.{HasHistory, IsOpening}
use Rattle.wol_bay.specs.Bay.{Name, Told, BayState}
use Rattle.wol_config.specs.declared.config.Config.{Config}
use Rattle.wol_config.specs.declared.config.VolumeConf.{VolumeConf}
use Rattle.turn_lock.specs.Histories.{Entry, own}
use Rattle.turn_lock.specs.Passes.{lock_id, pass_number, pass_mine, IsPartOf}
use Rattle.turn_lock.specs.declared.lock.TurnLock.{TurnLock}
use Rattle.turn_lock.specs.declared.pass.PassOf.{PassOf}
use Rattle.spin_model.specs.Operations.{has_token}
use Rattle.spin_model.specs.Spindles.{SpindleView, StandsFor}
use Rattle.spin_model.specs.Spun.{state_of}
use Rattle.spin_model.specs.declared.spun.Spun.{Spun}
use Rattle.spin_model.specs.declared.spindle.Spindle.{Spindle}
use Rattle.spin_model.specs.declared.spindle.SpindleBase.{SpindleBase}
use Rattle.seg_pool.specs.Holders.{ArePoolUses}
use Rattle.seg_pool.specs.Operations.{uses_of}
use Rattle.seg_pool.specs.declared.base.PoolBase.{PoolBase}
use Rattle.seg_pool.specs.declared.pool.Pool.{Pool}
use Rattle.log_segment.specs.declared.free.FreeSegment.{FreeSegment}
use Rattle.logger.specs.Lanes.{logger_of, spindle_of}
use Rattle.logger.specs.declared.lane.Lane.{Lane}
use Rattle.manager.specs.Stands.{notes_of, HasLocks}
use Rattle.manager.specs.declared.manager.Manager.{Manager}
use Rattle.manager.specs.declared.part.Part.{Part}
use Rattle.manager.specs.declared.part.Part.TheVariants.{Home, Segment}
use Rattle.manager.specs.declared.station.Station.{Station}
use Rattle.volume_images.specs.Left.{IsTold}
use Rattle.volume_images.specs.Volumes.{shape_in, shapes_of, images_read, AreLeft}
use Rattle.rack_parts.specs.Rests.{image_here, pool_pass, spindle_pass, IsImageOut, IsSegmentHere}
use Rattle.rack_parts.specs.Racks.{KeepToViews, base_of_station}
use Rattle.rack_parts.specs.Closing.{IsAccessBut}
use Rattle.rack.specs.Owners.{recovered_but, KeepsLogs, RecoversSame, WasOpened}
use Rattle.rack.specs.PoolUses.{PassesEmpty, TakesFew}
use Rattle.rack_parts.specs.declared.rack.ImageRest.{ImageRest}
use Rattle.rack_parts.specs.declared.rack.Rack.{Rack}
use Rattle.rack_parts.specs.declared.rack.Rest.{Rest}

-- ---- Spindles

-- A manager with the locks of a station, at the spindle of volume k: of these entries those of the
-- station's volume are the ones that the manager's pass of that spindle had made, which is its own
-- one or that of a lane. It is known by these locks alone.
pub record MadeByManager {D : Type 0} (s : Station D) (k : ℕ) (entries : List Entry) : Type 0 where
  pub manager : Manager D
  pub locks : HasLocks manager (base_of_station s)
  pub at_home : k ≡ s.id → own s.id entries ≡ pass_mine manager.spindle
  pub at_lanes : All (λ (l : Lane D). logger_of l ≡ k → own s.id entries ≡ pass_mine (spindle_of l))
      manager.lanes.items

-- A spindle stands for all entries of its lock, among which are those of its keeper. The entries of
-- a pass are the ones that it had made, as it is in the rack where no manager had it; else those
-- that a manager with the locks of its station had made by it.
pub record IsClosedSpindle {D : Type 0} (r : Rack D) (k : ℕ) (s : SpindleView) : Type 0 where
  pub entries : List Entry
  pub stands : (l : TurnLock Spindle SpindleBase) → slice_get r.shared.spindles.items k ≡ Some l
      → StandsFor s (lock_id l).base entries
  pub keeper_part : (p : PassOf Spindle SpindleBase) → slice_get r.keepers.items k ≡ Some p
      → IsPartOf entries p
  pub made : (n : ℕ) (p : PassOf Spindle SpindleBase) → spindle_pass r.rest n k ≡ Some p
      → own n entries ≡ pass_mine p
  pub managed : All (λ (t : Station D). MadeByManager t k entries) r.stations.items
  -- each entry of another pass is one of an access
  pub accesses : (p : PassOf Spindle SpindleBase) → slice_get r.keepers.items k ≡ Some p
      → AllByRecursion (IsAccessBut (pass_number p)) entries
  -- and none has an access open at the end
  pub ended : (p : PassOf Spindle SpindleBase) → slice_get r.keepers.items k ≡ Some p → (n : ℕ)
      → n ≢ pass_number p → has_token (own n entries) ≡ false
  -- they are of its own volume and of those whose views name it
  pub users : (p : PassOf Spindle SpindleBase) → slice_get r.keepers.items k ≡ Some p
      → (views : ℕ → List ℕ) → KeepToViews views r
      → (n : ℕ) → n ≢ pass_number p → n ≢ k → (Contains (views n) k → ⊥) → own n entries ≡ []

-- ---- Volumes

-- what was in flight when a call of a disk failed
abbrev pub flight_in : List Entry → List Write
flight_in entries = unwrap_or (flight_of (entries_of (notes_of entries))) []

module _ {D : Type 0} where
  -- the image of volume k isn't out with these, so it gives no segments to what is recovered
  abbrev pub is_kept_home : List (Option (ImageRest D)) → (k : ℕ) → Bool
  is_kept_home out k = not (is_some (image_here out k))

  -- the segments of the images that are out with these
  abbrev pub segments_out : Config → List (Option (ImageRest D)) → Images → List (List Block)
  segments_out config out images =
      all_segments (shapes_of config) (accepted (is_kept_home out) images)

  -- what a volume recovers to of them
  abbrev pub recovered_out : Config → List (Option (ImageRest D)) → Images → (v : ℕ) → List Block
  recovered_out config out images v = recovered_but (shapes_of config) (is_kept_home out) images v

  -- no pass of a station made a Broke
  abbrev pub IsUnbroken : Station D → Type 0
  IsUnbroken s =
      (flight_of (entries_of (notes_of (pass_mine s.worker))) ≡ None)
      × (flight_of (entries_of (notes_of (pass_mine s.helper))) ≡ None)
      × (flight_of (entries_of (notes_of (pass_mine s.keeper))) ≡ None)

  -- no pass of a station wrote, and none had a write in flight
  abbrev pub IsQuiet : Station D → Type 0
  IsQuiet s =
      ((flight_in (pass_mine s.worker) ≡ []) × (flight_in (pass_mine s.helper) ≡ [])
      × (flight_in (pass_mine s.keeper) ≡ []))
      × ((writes (entries_of (notes_of (pass_mine s.worker))) ≡ [])
      × (writes (entries_of (notes_of (pass_mine s.helper))) ≡ [])
      × (writes (entries_of (notes_of (pass_mine s.keeper))) ≡ []))

-- the volume in whose image a part lies, and its place among the parts of that image
abbrev pub volume_in : Part → ℕ
volume_in (Home volume) = volume
volume_in (Segment volume index) = volume

abbrev pub place_in : Part → ℕ
place_in (Home volume) = 1
place_in (Segment volume index) = 2 + index

-- the part is one of these of images
abbrev pub IsFaultyPart : Config → Part → List (Name × ℕ) → Type 0
IsFaultyPart config name parts = (v : VolumeConf)
    × (slice_get config.volumes.items (volume_in name) ≡ Some v)
    × Contains parts (v.name, place_in name)

-- since the first it came back with a fault
abbrev pub CameBackFaulty : Config → Part → (old new : Told) → Type 0
CameBackFaulty config name old new =
    (more : List (Name × ℕ)) × (new.faulty ≡ old.faulty ++ more) × IsFaultyPart config name more

-- the part of volume v that has this name
abbrev pub part_named : (v : ℕ) → PartName → Part
part_named v HomePart = Home v
part_named v (SegmentPart logger index) = Segment logger index

-- whatever images a crash leaves, segment `index` of that of the volume says this owner or free
abbrev pub SaysOwnerIn : Config → (owner : ℕ) → Told → (volume : ℕ) → Shape → (index : ℕ) → Type 0
SaysOwnerIn config owner new volume s index =
    (images : Images) → AreLeft config new images
    → (c : List Block) × (image_of images volume ≡ Some c)
    × SaysOwnerOrFree owner (segment_of s c index)

-- a segment lies on a logger of the view, and a crash leaves of it only blocks that say this owner
-- or free; the home is the owner's
abbrev pub LiesInView : (tells : Bool) → Config → (owner : ℕ) → (view : List ℕ) → VolumeConf
    → PartName → Told → Type 0
LiesInView tells config owner view conf HomePart new = ⊤
LiesInView tells config owner view conf (SegmentPart logger index) new =
    Contains view logger
    × (IsTrue tells → SaysOwnerIn config owner new logger (shape_in config conf) index)

-- Since the first the bay's list of parts that came back with a fault gained the part of volume
-- `owner` of this name: its home, or a segment of its log.
pub record HasFaultyPart (tells : Bool) (config : Config) (owner : ℕ) (view : List ℕ)
    (name : PartName) (old new : Told) : Type 0 where
  pub more : List (Name × ℕ)
  pub more_is : new.faulty ≡ old.faulty ++ more
  pub conf : VolumeConf
  pub conf_is : slice_get config.volumes.items (volume_in (part_named owner name)) ≡ Some conf
  pub among : Contains more (conf.name, place_in (part_named owner name))
  pub lies : LiesInView tells config owner view conf name new

-- a listed record is that of this extent: of its version, with the blocks that it covers
pub record IsOfExtent (x : Extent) (e : Listed) : Type 0 where
  pub version : e.version ≡ x.cover.version
  pub first : e.first ≡ x.first
  pub keeps : (b : ℕ) → (cover_of e).covers b ≡ x.cover.covers b

-- the listed records are those of the extents that cover a block, by rising version
pub record AreListedOf (listed : List Listed) (extents : List Extent) : Type 0 where
  pub each : (x : Extent) → IsAmong extents x → IsValid x.cover
      → (e : Listed) × Contains listed e × IsOfExtent x e
  pub only : (e : Listed) → Contains listed e
      → (x : Extent) × IsAmong extents x × IsValid x.cover × IsOfExtent x e
  pub rising : AreRising (map (λ (e : Listed). e.version) listed)

-- the logger of its lane
pub record IsLoggerOf (shapes : List Shape) (view : List ℕ) (e : Listed) : Type 0 where
  pub logger : ℕ
  pub lane : slice_get view e.lane ≡ Some logger
  pub shape : Shape
  pub shape_is : slice_get shapes logger ≡ Some shape

-- a listed record of volume v lies on its lane's logger: a log of these images there has it
pub record IsOnLogger (shapes : List Shape) (images : Images) (v : ℕ) (view : List ℕ) (e : Listed) :
    Type 0 where
  pub its : IsLoggerOf shapes view e
  pub open its use *
  pub image : List Block
  pub there : image_of images logger ≡ Some image
  pub index : ℕ
  pub within : index < shape.segments
  pub records : List Record
  pub log : IsLog (segment_of shape image index) v records
  pub record_ : Record
  pub among : Contains records record_
  pub is_its : IsOfExtent (extent_of record_) e

-- What images a crash leaves of an open volume, by the entries of its passes: it recovers to what
-- was written to the array at opening, or to a cut of the writes in flight where a call of a disk
-- had failed; no two of its records in these images have one version; and where none had failed
-- those that keep a block are the ones that its last look lists, each on the logger of its lane.
pub record RecoversTo {D : Type 0} (config : Config) (out : List (Option (ImageRest D)))
    (s : Station D) (entries : List Entry) (new : Told) : Type 0 where
  pub cut : (images : Images) → AreLeft config new images
      → IsCut (base_of_station s).volume.began.array (writes (entries_of (notes_of entries)))
      (unwrap_or (flight_of (entries_of (notes_of entries))) [])
      (recovered_out config out images s.id)
  pub whole : (images : Images) → AreLeft config new images
      → flight_of (entries_of (notes_of entries)) ≡ None
      → recovered_out config out images s.id
      ≡ after (base_of_station s).volume.began.array (writes (entries_of (notes_of entries)))
  pub distinct : (images : Images) → AreLeft config new images
      → AreDistinct (covers_of (extents_of s.id (segments_out config out images)))
  pub listed : (images : Images) → AreLeft config new images
      → flight_of (entries_of (notes_of entries)) ≡ None
      → AreListedOf (last_look (base_of_station s).volume.began.look (notes_of entries)).listed
      (extents_of s.id (segments_out config out images))
  pub on_loggers : (images : Images) → AreLeft config new images
      → flight_of (entries_of (notes_of entries)) ≡ None → (e : Listed)
      → Contains (last_look (base_of_station s).volume.began.look (notes_of entries)).listed e
      → IsOnLogger (shapes_of config) images s.id (base_of_station s).volume.began.view e

-- whatever images a crash leaves, no segment of an image that is out is a log of volume v
abbrev pub LeavesNoLog : {D : Type 0} → Config → List (Option (ImageRest D)) → (v : ℕ) → Told
    → Type 0
LeavesNoLog config out v new = (images : Images) → AreLeft config new images
    → (k i : ℕ) (s : Shape) (c : List Block) (rs : List Record)
    → slice_get (shapes_of config) k ≡ Some s → IsImageOut out k
    → image_of images k ≡ Some c → i < s.segments → IsLog (segment_of s c i) v rs → ⊥

-- the entries of a volume, which are those of its passes, and what they leave
pub record IsClosedVolume {D : Type 0} (tells : Bool) (config : Config)
    (out : List (Option (ImageRest D))) (old new : BayState) (s : Station D) : Type 0 where
  pub entries : List Entry
  pub worker_part : IsPartOf entries s.worker
  pub helper_part : IsPartOf entries s.helper
  pub keeper_part : IsPartOf entries s.keeper
  pub no_more : (n : ℕ) → n ≢ worker → n ≢ helper → n ≢ keeper → own n entries ≡ []
  pub opening : IsOpening (base_of_station s).volume.began
  pub history : HasHistory (IsTrue tells) (base_of_station s).volume.began (notes_of entries)
  -- a failed call has its cause
  pub cause : (flight_of (entries_of (notes_of entries)) ≡ None → ⊥) → Rose old.faults new.faults
  -- the part that is down at the end came back with a fault
  pub faulty : (flight_of (entries_of (notes_of entries)) ≡ None → ⊥)
      → (name : PartName)
      × ((last_look (base_of_station s).volume.began.look (notes_of entries)).down ≡ Some name)
      × IsTold (HasFaultyPart tells config s.id (base_of_station s).volume.began.view name) old.told
      new.told
  pub recovers : IsTrue tells → IsTold (λ o n. RecoversTo config out s entries n) old.told new.told
  -- where no call failed and the last look lists no record, no log of the volume is left
  pub emptied : IsTrue tells → flight_of (entries_of (notes_of entries)) ≡ None
      → (last_look (base_of_station s).volume.began.look (notes_of entries)).listed ≡ []
      → IsTold (λ o n. LeavesNoLog config out s.id n) old.told new.told

-- The pools of a rack whose volumes were closed so: each has the entries of its lock, by the passes
-- of all volumes, in which each use could be made where it stands. The entries of a pass that no
-- manager had are the ones that it had made, and only configured volumes whose views name the pool
-- have any. No more of a volume's entries passed over a pool than its pass found that pool empty,
-- and where no call failed, its pass took no more segments than it wrote to logs.
pub record SharePools {D : Type 0} (tells : Bool) (config : Config) (old new : BayState)
    (r : Rack D) (all : All (IsClosedVolume tells config r.rest.images.items old new)
    r.stations.items) : Type 0 where
  pub pools : (k : ℕ) → List Entry
  pub legal : (k : ℕ) (l : TurnLock (Pool (FreeSegment D)) PoolBase)
      → slice_get r.shared.pools.items k ≡ Some l
      → ArePoolUses (lock_id l).base.holders (uses_of (pools k))
  pub made : (k : ℕ) (l : TurnLock (Pool (FreeSegment D)) PoolBase)
      → slice_get r.shared.pools.items k ≡ Some l
      → (n : ℕ) (p : PassOf (Pool (FreeSegment D)) PoolBase) → pool_pass r.rest n k ≡ Some p
      → own n (pools k) ≡ pass_mine p
  pub users : (k : ℕ) (l : TurnLock (Pool (FreeSegment D)) PoolBase)
      → slice_get r.shared.pools.items k ≡ Some l
      → (views : ℕ → List ℕ) → KeepToViews views r
      → (n : ℕ) → ((n < length config.volumes.items) × Contains (views n) k → ⊥)
      → own n (pools k) ≡ []
  pub passed : (n : ℕ) (d : Station D) (within : n < length r.stations.items)
      → PassesEmpty pools (base_of_station (slice_index_or r.stations.items n d)).volume.began
      (notes_of (all n d within).entries)
  pub taken : (n : ℕ) (d : Station D) (within : n < length r.stations.items)
      → TakesFew pools (base_of_station (slice_index_or r.stations.items n d)).volume.began
      (notes_of (all n d within).entries)

-- the volumes of a rack are closed, and so are the pools that they shared
abbrev pub AreClosedVolumes : {D : Type 0} → (tells : Bool) → Config → (old new : BayState) → Rack D
    → Type 0
AreClosedVolumes tells config old new r =
    (all : All (IsClosedVolume tells config r.rest.images.items old new) r.stations.items)
    × SharePools tells config old new r all

-- ---- The parts of images

module _ {D : Type 0} where
  -- the part is here: a label, a home or a segment
  abbrev pub IsPartHere : Rest D → Spun D → Type 0
  IsPartHere r p =
      ((k : ℕ) × (image : ImageRest D) × (image_here r.images.items k ≡ Some image)
      × ((image.label ≡ p) ⊎ (image.home ≡ Some p)))
      ⊎ ((k : ℕ) × (i : ℕ) × IsSegmentHere r k i p)

  -- one of them had a fault
  pub record HasFaultIn (state : D → State) (r : Rest D) : Type 0 where
    pub part : Spun D
    pub here : IsPartHere r part
    pub fault : 0 < (state_of state part).faults

-- the part of this name is here
abbrev pub IsNamedHere : {D : Type 0} → Rest D → Part → Spun D → Type 0
IsNamedHere {D} r (Home volume) p =
    (image : ImageRest D) × (image_here r.images.items volume ≡ Some image) × (image.home ≡ Some p)
IsNamedHere r (Segment volume index) p = IsSegmentHere r volume index p

-- and had a fault
pub record HasFaultAt {D : Type 0} (state : D → State) (r : Rest D) (name : Part) : Type 0 where
  pub part : Spun D
  pub here : IsNamedHere r name part
  pub fault : 0 < (state_of state part).faults

-- the parts that came back with a fault since the first, and among them each of these that had one
pub record ListsFaulty {D : Type 0} (state : D → State) (config : Config) (r : Rest D)
    (old new : Told) : Type 0 where
  pub more : List (Name × ℕ)
  pub more_is : new.faulty ≡ old.faulty ++ more
  pub each : (name : Part) → HasFaultAt state r name → IsFaultyPart config name more

-- a log of an open volume, whose records lie in it, on a logger of its view
pub record IsLogOfStation {D : Type 0} (s : Station D) (k : ℕ) (bs : List Block) : Type 0 where
  pub records : List Record
  pub log : IsLog bs s.id records
  pub within : AllByRecursion (λ (r : Record).
      r.head.first + r.head.count ≤ (base_of_station s).volume.began.home_blocks) records

-- Where an image of segment i of volume k comes from: the segment was here when the rack was
-- closed; or it wasn't, and was in its pool, or a manager had it.
pub data ComesFrom {D : Type 0} (state : D → State) (r : Rack D) (k i : ℕ) (bs : List Block) :
    Type 0 where
  from_here : (p : Spun D) → IsSegmentHere r.rest k i p → IsImageOf (state_of state p).values bs
      → ComesFrom state r k i bs
  from_pool : ((p : Spun D) → IsSegmentHere r.rest k i p → ⊥) → IsIdle bs → ComesFrom state r k i bs
  from_manager : ((p : Spun D) → IsSegmentHere r.rest k i p → ⊥) → (s : Station D)
      → Contains r.stations.items s → Contains (base_of_station s).volume.began.view k
      → IsIdle bs ⊎ IsLogOfStation s k bs → (IsUnbroken s → IsLogOfStation s k bs)
      → ComesFrom state r k i bs

-- The image that is left of volume k, by its parts: those that were here have images that they had.
pub record IsLeftOfParts {D : Type 0} (state : D → State) (s : Shape) (r : Rack D) (k : ℕ)
    (image : ImageRest D) (c : List Block) : Type 0 where
  pub sized : length c ≡ Rattle.wol_model.specs.Images.image_size s
  pub label : IsImageOf (state_of state image.label).values (slice_range c 0 2)
  pub home : (p : Spun D) → image.home ≡ Some p
      → IsImageOf (state_of state p).values (slice_range c 2 (2 + s.home))
  pub segments : (i : ℕ) → i < s.segments → ComesFrom state r k i (segment_of s c i)

-- the images that are left: those that were out have whole blocks, part by part
abbrev pub AreLeftOfParts : {D : Type 0} → (D → State) → Config → Rack D → Told → Type 0
AreLeftOfParts {D} state config r new =
    (images : Images) → AreLeft config new images → (k : ℕ) (s : Shape) (image : ImageRest D)
    → slice_get (shapes_of config) k ≡ Some s
    → image_here r.rest.images.items k ≡ Some image
    → (c : List Block) × (image_of images k ≡ Some c) × IsLeftOfParts state s r k image c

-- ---- Where nothing was written

-- whatever images a crash leaves, each open volume recovers to what the images at entry recovered
-- to as they read
abbrev pub LeavesOpen : {D : Type 0} → Config → Rack D → (entry new : Told) → Type 0
LeavesOpen config r entry new = (images : Images) → AreLeft config new images
    → All (λ s. recovered_out config r.rest.images.items images s.id
    ≡ recovered_out config r.rest.images.items (images_read config entry) s.id) r.stations.items

-- volume v has a station
abbrev pub has_station : {D : Type 0} → Rack D → (v : ℕ) → Bool
has_station {D} r v = list_any (λ (s : Station D). s.id == v) r.stations.items

-- the same of every volume: it recovers to what images that a crash might have left at entry
-- recover to
pub record LeavesVolumes {D : Type 0} (config : Config) (r : Rack D) (entry new : Told) :
    Type 0 where
  pub are_opened : (v : ℕ) → has_station r v ≡ true
      → WasOpened config (is_kept_home r.rest.images.items) entry v
  pub each : (images : Images) → AreLeft config new images → (v : ℕ)
      → (before : Images) × AreLeft config entry before
      × RecoversSame config (is_kept_home r.rest.images.items) (has_station r v) images before v
  -- and the logs of one that wasn't opened stay
  pub logs : (v : ℕ) → (has_station r v ≡ false) ⊎ (image_here r.rest.images.items v ≡ None)
      → KeepsLogs config v entry new

-- Whatever was written, whatever images a crash leaves: a volume without a station recovers to what
-- images that a crash might have left at entry recover to, and its logs stay.
pub record LeavesUnopened {D : Type 0} (config : Config) (r : Rack D) (entry new : Told) :
    Type 0 where
  pub recovers : (images : Images) → AreLeft config new images → (v : ℕ)
      → ((s : Station D) → Contains r.stations.items s → v ≢ s.id)
      → (before : Images) × AreLeft config entry before
      × (recovered_from (shapes_of config) images v ≡ recovered_from (shapes_of config) before v)
  pub logs : (v : ℕ) → ((s : Station D) → Contains r.stations.items s → v ≢ s.id)
      → KeepsLogs config v entry new
