-- What opening all volumes answers: why a volume is refused, what the others begin with, and what
-- is left of the images.
use Rattle.std.specs.Prelude.{⊤, ◌≡◌, ◌≢◌, ◌⊎◌, ◌<◌, ◌+◌, ◌++◌, ℕ, List, [], length, Contains, Bool, true, Option, None, Some, option_map, IfSome, slice_get, slice_range, All, IsTrue}
use Rattle.wol_disk.specs.Disk.{Block, State, Rose, IsImageOf, reads}
use Rattle.wol_model.specs.Heads.{SegmentHead, Shape, Free, Owned}
use Rattle.wol_model.specs.Log.{Record}
use Rattle.wol_bay.specs.Bay.{Name, Image, Told, BayState, at_name}
use Rattle.wol_bay.specs.Refusals.{refusal}
use Rattle.wol_bay.specs.declared.fault.BayFault.TheVariants as bay
use Rattle.wol_config.specs.declared.config.Config.{Config}
use Rattle.wol_config.specs.declared.config.VolumeConf.{VolumeConf}
use Rattle.turn_lock.specs.Passes.{lock_id}
use Rattle.turn_lock.specs.declared.lock.TurnLock.{TurnLock}
use Rattle.logger_view.specs.Stored.{HasView}
use Rattle.seg_pool.specs.declared.base.PoolBase.{PoolBase}
use Rattle.seg_pool.specs.declared.pool.Pool.{Pool}
use Rattle.log_segment.specs.declared.free.FreeSegment.{FreeSegment}
use Rattle.spin_model.specs.Spun.{state_of}
use Rattle.spin_model.specs.declared.spun.Spun.{Spun}
use Rattle.manager.specs.declared.part.Part.TheVariants.{Segment}
use Rattle.manager.specs.declared.station.Station.{Station}
use Rattle.manager_recovery.specs.Left.{IsLeftOf, HasNothing}
use Rattle.manager_recovery.specs.Refused.{Refuses}
use Rattle.manager_recovery.specs.declared.opening.Opening.{Opening}
use Rattle.manager_recovery.specs.declared.refusal.OpenRefusal.{OpenRefusal}
use Rattle.manager_recovery.specs.declared.refusal.OpenRefusal.TheVariants as open_refusal
use Rattle.volume_images.specs.Accepted.{HasHead, IsAccepted, IsImageFault, head_place}
use Rattle.volume_images.specs.Formatted.{part_sizes}
use Rattle.volume_images.specs.Refusals.{IsCallFault}
use Rattle.wol_model.specs.Images.{Images, image_of, image_size}
use Rattle.wol_promise.specs.Run.{KeepsSound}
use Rattle.volume_images.specs.Left.{IsTold}
use Rattle.volume_images.specs.Volumes.{images_read, shape_in, shapes_of, MayLeave, AreLeft}
use Rattle.rack_parts.specs.Rests.{image_here, segment_here, held_here, IsImageOut, IsSegmentHere}
use Rattle.rack_parts.specs.Racks.{base_of_station}
use Rattle.rack.specs.Owners.{images_taken, BeganInPlace, IsBegun, IsOpeningOf, KeepsLogs, RecoversSame, WasOpened}
use Rattle.rack.specs.PoolUses.{HadSegments}
use Rattle.volume_images.specs.declared.opening.ImageRefusal.{ImageRefusal}
use Rattle.volume_images.specs.declared.opening.ImageRefusal.TheVariants as image_refusal
use Rattle.rack_parts.specs.declared.rack.ImageRest.{ImageRest}
use Rattle.rack_parts.specs.declared.rack.Rack.{Rack}
use Rattle.volume_images.specs.declared.reading.ImageFault.{ImageFault}
use Rattle.volume_images.specs.declared.reading.ImageFault.TheVariants as fault
use Rattle.rack_parts.specs.declared.volume_fault.VolumeFault.{VolumeFault}
use Rattle.rack_parts.specs.declared.volume_fault.VolumeFault.TheVariants.{Absent, WrongLength, Refused, LabelFault, BayFailed}
use Rattle.wol_bay.specs.declared.fault.BayFault.TheVariants as bay
use Rattle.manager_recovery.specs.declared.refusal.OpenRefusal.TheVariants as open_refusal
use Rattle.volume_images.specs.declared.opening.ImageRefusal.TheVariants as image_refusal
use Rattle.volume_images.specs.declared.reading.ImageFault.TheVariants as fault

-- ---- Refusals

-- what volume `id` is refused for where its image is refused for this
abbrev pub fault_in_image : (id : ℕ) → ImageFault → VolumeFault
fault_in_image id (fault.Damaged block) = Refused (open_refusal.Damaged id block)
fault_in_image id fault.LabelDiffers = Refused open_refusal.LabelDiffers
fault_in_image id fault.LabelFault = LabelFault
fault_in_image id (fault.SegmentFault index) = Refused (open_refusal.DiskFault (Segment id index))

-- what it is refused for where its image wasn't opened; none for want of memory
abbrev pub fault_of_image : (id : ℕ) → ImageRefusal → Option VolumeFault
fault_of_image id image_refusal.Absent = Some Absent
fault_of_image id (image_refusal.WrongLength bytes) = Some (WrongLength bytes)
fault_of_image id image_refusal.BayFailed = Some BayFailed
fault_of_image id (image_refusal.Fault f) = Some (fault_in_image id f)
fault_of_image id image_refusal.NoMemory = None

-- the list of parts that came back with a fault only grew
abbrev pub HasFaulty : (old new : Told) → Type 0
HasFaulty old new = (more : List (Name × ℕ)) × (new.faulty ≡ old.faulty ++ more)

-- the part of this image a call of which failed is among these
abbrev pub IsFaultAmong : Name → ImageFault → List (Name × ℕ) → Type 0
IsFaultAmong name (fault.Damaged block) parts = ⊤
IsFaultAmong name fault.LabelDiffers parts = ⊤
IsFaultAmong name fault.LabelFault parts = Contains parts (name, 0)
IsFaultAmong name (fault.SegmentFault index) parts = Contains parts (name, 2 + index)

-- since the first it came back with a fault
pub record HasNewFault (name : Name) (f : ImageFault) (old new : Told) : Type 0 where
  pub more : List (Name × ℕ)
  pub more_is : new.faulty ≡ old.faulty ++ more
  pub among : IsFaultAmong name f more

-- the image itself is refused: it isn't out; it was there with the configured length, and said so
-- as it read; and where a call failed the bay's count rose, and the part that is named came back
-- with a fault
pub record RefusesImage {D : Type 0} (config : Config) (out : List (Option (ImageRest D)))
    (old new : BayState) (k : ℕ) (v : VolumeConf) (f : VolumeFault) : Type 0 where
  pub not_out : image_here out k ≡ None
  pub image_fault : ImageFault
  pub is_fault : f ≡ fault_in_image k image_fault
  pub said : (t : Told) → old.told ≡ Some t
      → (i : Image) × (at_name v.name t.images ≡ Some i) × (i.rest ≡ [])
      × (length i.blocks ≡ image_size (shape_in config v))
      × IsImageFault (length (shapes_of config)) k (shape_in config v) (reads i.blocks) image_fault
  pub cause : IsCallFault image_fault → Rose old.faults new.faults
  pub faulty : IsCallFault image_fault → IsTold (HasNewFault v.name image_fault) old.told new.told

-- the image is out, and the opening of its volume was refused: it was opened of what the images say
pub record RefusesOpening {D : Type 0} (tells : Bool) (state : D → State) (config : Config)
    (out : List (Option (ImageRest D))) (old : BayState) (k : ℕ) (r : OpenRefusal) : Type 0 where
  pub is_out : IsImageOut out k
  pub before : Opening D
  pub after : Opening D
  pub of : (t : Told) → IsTrue tells → old.told ≡ Some t
      → IsOpeningOf state config out (images_taken config out t) k before
  pub refuses : Refuses tells state before after r

-- the bay didn't hand the image out
abbrev pub RefusesBay : {D : Type 0} → Config → List (Option (ImageRest D)) → BayState → (k : ℕ)
    → VolumeConf → Option Rattle.wol_bay.specs.declared.fault.BayFault.BayFault → Type 0
RefusesBay config out old k v answer = (image_here out k ≡ None)
    × IfSome old.told (λ t. refusal v.name (part_sizes (shape_in config v)) t ≡ answer)

-- why volume k has no station: the first cause
abbrev pub RefusesVolume : {D : Type 0} → (tells : Bool) → (D → State) → Config
    → List (Option (ImageRest D)) → (old new : BayState) → (k : ℕ) → VolumeConf → VolumeFault
    → Type 0
RefusesVolume tells state config out old new k v Absent =
    RefusesBay config out old k v (Some bay.Absent)
RefusesVolume tells state config out old new k v (WrongLength bytes) =
    RefusesBay config out old k v (Some (bay.WrongLength bytes))
RefusesVolume tells state config out old new k v BayFailed =
    RefusesBay config out old k v None × Rose old.faults new.faults
RefusesVolume tells state config out old new k v LabelFault =
    RefusesImage config out old new k v LabelFault
RefusesVolume tells state config out old new k v (Refused r) =
    RefusesImage config out old new k v (Refused r) ⊎ RefusesOpening tells state config out old k r

-- ---- Images

-- each image of the part was one of these blocks of the image at entry
abbrev pub HadBefore : {D : Type 0} → (D → State) → Image → (first behind : ℕ) → Spun D → Type 0
HadBefore state i first behind p = (c : List Block) → IsImageOf (state_of state p).values c
    → IsImageOf (Some (slice_range i.blocks first behind)) c

-- each image of the part is what these blocks of the image at entry read
abbrev pub IsAsRead : {D : Type 0} → (D → State) → Image → (first behind : ℕ) → Spun D → Type 0
IsAsRead state i first behind p = (c : List Block) → IsImageOf (state_of state p).values c
    → c ≡ slice_range (reads i.blocks) first behind

-- each image of a segment was one, or where one was a log of a volume that has nothing, is a log of
-- the same records or free
abbrev pub HadSegmentBefore : {D : Type 0} → (D → State) → Image → (first behind : ℕ) → Spun D
    → Type 0
HadSegmentBefore state i first behind p =
    (c : List Block) → IsImageOf (state_of state p).values c
    → (owner : ℕ) × IsLeftOf owner (Some (slice_range i.blocks first behind)) c

-- the parts that are here of the image of a volume; label and view are as they read, since they
-- were synced
pub record IsLeftHere {D : Type 0} (state : D → State) (s : Shape) (before : Image)
    (r : ImageRest D) : Type 0 where
  pub label : IsAsRead state before 0 2 r.label
  pub home : (p : Spun D) → r.home ≡ Some p → HadBefore state before 2 (2 + s.home) p
  pub segments : (i : ℕ) (p : Spun D) → segment_here r i ≡ Some p
      → HadSegmentBefore state before (head_place s i) (head_place s (i + 1)) p

-- A segment that is not here any more: an image that it might have had at entry was free, or was
-- owned by a volume with a station, or was a log of records none of which keeps a block.
pub record IsGone {D : Type 0} (volumes : ℕ) (s : Shape) (before : Image)
    (stations : List (Station D)) (i : ℕ) : Type 0 where
  pub was : List Block
  pub had : IsImageOf (Some (slice_range before.blocks (head_place s i) (head_place s (i + 1)))) was
  pub said : HasHead volumes was Free ⊎ ((station : Station D) × Contains stations station
      × HasHead volumes was (Owned station.id))
      ⊎ ((owner : ℕ) × (rs : List Record) × HasNothing owner rs was)

-- images of names that aren't configured are as they were
abbrev pub KeepsOthers : Config → Told → Told → Type 0
KeepsOthers config old new = (name : Name)
    → ((k : ℕ) (v : VolumeConf) → slice_get config.volumes.items k ≡ Some v → name ≢ v.name)
    → at_name name new.images ≡ at_name name old.images

-- ---- Labels and views

-- the blocks of label and view of an image
abbrev pub front_of : List Block → List Block
front_of image = slice_range image 0 2

-- whatever images a crash leaves, label and view of volume v are as they were read
abbrev pub LeavesFront : Config → (v : ℕ) → (entry left : Told) → Type 0
LeavesFront config v entry left = (images : Images) → AreLeft config left images
    → option_map front_of (image_of images v)
    ≡ option_map front_of (image_of (images_read config entry) v)

-- so of each volume
abbrev pub LeavesFronts : Config → (entry left : Told) → Type 0
LeavesFronts config entry left =
    (v : ℕ) → v < length config.volumes.items → LeavesFront config v entry left

-- These blocks have the label and the view that the image at entry has as it reads; or a crash might
-- have left them of it.
abbrev pub KeepsFront : Option Image → List Block → Type 0
KeepsFront entry blocks = MayLeave entry (Some blocks)
    ⊎ ((image : Image) × (entry ≡ Some image) × (front_of blocks ≡ front_of (reads image.blocks)))

-- no label and no view was changed: so it is with each image that a crash leaves, of that at entry
abbrev pub KeepsViews : Config → (entry left : Told) → Type 0
KeepsViews config entry left = (images : Images) → AreLeft config left images
    → (k : ℕ) (v : VolumeConf) → slice_get config.volumes.items k ≡ Some v
    → (blocks : List Block) → image_of images k ≡ Some blocks
    → KeepsFront (at_name v.name entry.images) blocks

-- ---- The whole

-- What a rack began with, whatever its volumes were told since: each volume with a station begins
-- with what the images recovered to as they read, and the parts that are here have images that they
-- had.
pub record BeganWith {D : Type 0} (state : D → State) (config : Config) (t : Told) (r : Rack D) :
    Type 0 where
  pub stations : All (λ s. IsBegun config (images_taken config r.rest.images.items t)
      (base_of_station s).volume.began) r.stations.items
  -- its listed records stood where the images have them
  pub placed : All (λ s. BeganInPlace config (images_taken config r.rest.images.items t)
      (base_of_station s)) r.stations.items
  pub left : (k : ℕ) (v : VolumeConf) (before : Image) (image : ImageRest D)
      → slice_get config.volumes.items k ≡ Some v → at_name v.name t.images ≡ Some before
      → image_here r.rest.images.items k ≡ Some image
      → IsLeftHere state (shape_in config v) before image
  -- also those that came back with a lane
  pub held : (w k i : ℕ) (v : VolumeConf) (before : Image) (p : Spun D)
      → slice_get config.volumes.items k ≡ Some v → at_name v.name t.images ≡ Some before
      → Contains (held_here r.rest w k) (i, p)
      → HadSegmentBefore state before (head_place (shape_in config v) i)
      (head_place (shape_in config v) (i + 1)) p
  pub gone : (k i : ℕ) (v : VolumeConf) (before : Image) (image : ImageRest D)
      → slice_get config.volumes.items k ≡ Some v → at_name v.name t.images ≡ Some before
      → image_here r.rest.images.items k ≡ Some image → i < v.segments
      → ((p : Spun D) → IsSegmentHere r.rest k i p → ⊥)
      → IsGone (length (shapes_of config)) (shape_in config v) before r.stations.items i
  -- the pools of images that are out began with the segments that were free, and know who held the
  -- others
  pub pools : (k : ℕ) (v : VolumeConf) (l : TurnLock (Pool (FreeSegment D)) PoolBase)
      (image : ImageRest D) → slice_get config.volumes.items k ≡ Some v
      → slice_get r.shared.pools.items k ≡ Some l
      → image_here r.rest.images.items k ≡ Some image
      → HadSegments config t k v (lock_id l).base.holders

-- the image of volume k was there with the blocks of its parts, and as it reads it may be opened:
-- it has the volume's own label, a view and heads of segments
abbrev pub WasAccepted : Config → Told → (k : ℕ) → VolumeConf → Type 0
WasAccepted config t k v = (i : Image) × (at_name v.name t.images ≡ Some i) × (i.rest ≡ [])
    × (length i.blocks ≡ image_size (shape_in config v))
    × (view : List ℕ) × (heads : List SegmentHead)
    × IsAccepted (length (shapes_of config)) k (shape_in config v) (reads i.blocks) view heads

-- so was each image that is out
abbrev pub WereThere : {D : Type 0} → Config → List (Option (ImageRest D)) → Told → Type 0
WereThere config out t = (k : ℕ) (v : VolumeConf) → slice_get config.volumes.items k ≡ Some v
    → IsImageOut out k → WasAccepted config t k v

-- these are the views of the images that are out, as they read
abbrev pub AreViewsAsRead : {D : Type 0} → Config → List (Option (ImageRest D)) → Told
    → (views : ℕ → List ℕ) → Type 0
AreViewsAsRead config out t views =
    (k : ℕ) (v : VolumeConf) → slice_get config.volumes.items k ≡ Some v → IsImageOut out k
    → (i : Image) × (at_name v.name t.images ≡ Some i) × HasView (reads i.blocks) (views k)

-- each volume without a station is refused for its fault
abbrev pub AreRefused : {D : Type 0} → (tells : Bool) → (D → State) → Config → (old new : BayState)
    → Rack D → Type 0
AreRefused tells state config old new r =
    (k : ℕ) (v : VolumeConf) (f : VolumeFault) → slice_get config.volumes.items k ≡ Some v
    → slice_get r.faults.items k ≡ Some (Some f)
    → RefusesVolume tells state config r.rest.images.items old new k v f

-- a volume's image is there with the configured length
abbrev pub IsThere : List Shape → Images → (v : ℕ) → Type 0
IsThere shapes images v = (s : Shape) × (image : List Block) × (slice_get shapes v ≡ Some s)
    × (image_of images v ≡ Some image) × (length image ≡ image_size s)

-- Whatever images a crash leaves, each volume that is there recovers to what it might have
-- recovered to before: where the images that were refused give no segments, and also where they do,
-- but for an opened volume of which they have a log.
pub record LeavesAll {D : Type 0} (tells : Bool) (state : D → State) (config : Config)
    (b b' : BayState) (old new : Told) : Type 0 where
  pub refused : ℕ → Bool
  pub cause : (k : ℕ) (v : VolumeConf) → slice_get config.volumes.items k ≡ Some v
      → refused k ≡ true
      → (f : VolumeFault) × RefusesVolume {D = D} tells state config [] b b' k v f
  -- one that was refused, and one that couldn't be opened as it read, may be left only as before
  pub kept : (k : ℕ) (v : VolumeConf) → slice_get config.volumes.items k ≡ Some v
      → (refused k ≡ true) ⊎ (WasAccepted config old k v → ⊥)
      → (c : Option (List Block)) → MayLeave (at_name v.name new.images) c
      → MayLeave (at_name v.name old.images) c
  pub opened : ℕ → Bool
  pub are_opened : (v : ℕ) → opened v ≡ true → WasOpened config refused old v
  pub left : (images : Images) → AreLeft config new images → (v : ℕ)
      → IsThere (shapes_of config) images v
      → (before : Images) × AreLeft config old before
      × RecoversSame config refused (opened v) images before v
  -- of a volume whose image isn't there, or can't be opened, the logs on other images stay
  pub logs : (k : ℕ) (v : VolumeConf) → slice_get config.volumes.items k ≡ Some v
      → (refused k ≡ true) ⊎ (WasAccepted config old k v → ⊥) → KeepsLogs config k old new
  -- an image that was there, whatever a crash had left, is there
  pub there : (images : Images) → AreLeft config new images → (v : ℕ)
      → ((before : Images) → AreLeft config old before → IsThere (shapes_of config) before v)
      → IsThere (shapes_of config) images v

-- where all images that a crash might have left before were sound, all are
abbrev pub KeepsAllSound : Config → Told → Told → Type 0
KeepsAllSound config old new =
    KeepsSound (shapes_of config) (AreLeft config old) (AreLeft config new)
