-- What a bay is left with whose volumes were all opened and closed, whatever was done between: in
-- words of the images at entry, of those that a crash leaves, and of the entries of each volume that
-- was open.
use Rattle.std.specs.Prelude.{◌≡◌, ◌≢◌, ◌⊎◌, ◌<◌, ◌≤◌, ◌+◌, ℕ, Bool, true, false, List, [], length, Option, None, Some, option_map, slice_get, slice_range, Contains, IsTrue}
use Rattle.std.specs.List.{AllByRecursion}
use Rattle.wol_disk.specs.Disk.{Block, Values, IsImage, Rose, reads}
use Rattle.wol_model.specs.Extents.{AreDistinct, covers_of}
use Rattle.wol_model.specs.Heads.{Shape, Owned}
use Rattle.wol_model.specs.History.{in_flight, flight_of, writes, IsCut}
use Rattle.wol_model.specs.Images.{Images, accepted, all_segments, image_of, recovered_from, segment_of}
use Rattle.wol_model.specs.Index.{Listed}
use Rattle.wol_model.specs.Log.{Record, IsIdle, IsLog}
use Rattle.wol_model.specs.Recovered.{extents_of}
use Rattle.wol_promise.specs.Manager.{Base}
use Rattle.wol_promise.specs.Policy.{PartName}
use Rattle.wol_promise.specs.Ruled.{Noted, entries_of, last_look}
use Rattle.wol_promise.specs.Stands.{HasHistory, IsOpening}
use Rattle.wol_bay.specs.Bay.{BayState, Image, Told, at_name}
use Rattle.wol_config.specs.declared.config.Config.{Config}
use Rattle.wol_config.specs.declared.config.VolumeConf.{VolumeConf}
use Rattle.manager_recovery.specs.Left.{HasNothing}
use Rattle.turn_lock.specs.Histories.{Entry}
use Rattle.volume_images.specs.Accepted.{HasHead}
use Rattle.volume_images.specs.Left.{IsTold}
use Rattle.volume_images.specs.Volumes.{AreLeft, MayLeave, images_read, shape_in, shapes_of}
use Rattle.rack.specs.Closes.{AreListedOf, HasFaultyPart, IsOnLogger}
use Rattle.rack.specs.Opens.{IsThere, KeepsOthers, WasAccepted, front_of}
use Rattle.rack.specs.Owners.{IsBegun, blocks_of_segment, recovered_but}
use Rattle.rack.specs.PoolUses.{ArePools, PassesEmpty, TakesFew}

-- ---- Histories

-- what a volume began with, and all entries of its passes since, in order
pub record History : Type 0 where
  pub base : Base
  pub notes : List Noted

-- that of each volume that was open, by its number
abbrev pub Histories : Type 0
Histories = ℕ → Option History

-- no call of a disk of the volume failed
abbrev pub IsUnbroken : History → Type 0
IsUnbroken h = flight_of (entries_of h.notes) ≡ None

-- nothing was written, and nothing was in flight when a call failed
pub record WritesNothing (h : History) : Type 0 where
  pub none : writes (entries_of h.notes) ≡ []
  pub calm : in_flight (entries_of h.notes) ≡ []

-- The entries are a legal history of volume v. Where a call of a disk failed the bay's count rose,
-- and the part that is down in the end came back with a fault.
pub record VolumeRun (tells : Bool) (config : Config) (v : ℕ) (old new : BayState) (h : History) :
    Type 0 where
  pub owner : h.base.owner ≡ v
  pub opening : IsOpening h.base
  pub legal : HasHistory (IsTrue tells) h.base h.notes
  pub cause : (IsUnbroken h → ⊥) → Rose old.faults new.faults
  pub part : (IsUnbroken h → ⊥)
      → (name : PartName) × ((last_look h.base.look h.notes).down ≡ Some name)
      × IsTold (HasFaultyPart tells config v h.base.view name) old.told new.told

-- ---- Segments

-- a log of an open volume whose view names this logger; its records lie in the volume
pub record IsLogOfOpen (histories : Histories) (logger : ℕ) (bs : List Block) : Type 0 where
  pub volume : ℕ
  pub history : History
  pub opened : histories volume ≡ Some history
  pub named : Contains history.base.view logger
  pub records : List Record
  pub log : IsLog bs volume records
  pub within : AllByRecursion (λ (r : Record).
      r.head.first + r.head.count ≤ history.base.home_blocks) records

-- a segment may be used: it is free, or its head says that it is an open volume's, or none of its
-- records keeps a block
abbrev pub MayBeUsed : (volumes : ℕ) → Histories → List Block → Type 0
MayBeUsed volumes histories was = IsIdle was
    ⊎ ((v : ℕ) × (h : History) × (histories v ≡ Some h) × HasHead volumes was (Owned v))
    ⊎ ((owner : ℕ) × (rs : List Record) × HasNothing owner rs was)

-- What becomes of a segment of a logger: it is left as it might have been; or it was a log whose
-- records keep no block, and is left a log of these; or it might be used, and is left free or a log
-- of an open volume whose view names the logger.
pub data SegmentFate (volumes : ℕ) (histories : Histories) (logger : ℕ)
    (before : List (Values Block)) (left : List Block) : Type 0 where
  kept : IsImage before left → SegmentFate volumes histories logger before left
  bare : (was : List Block) (owner : ℕ) (rs : List Record) → IsImage before was
      → HasNothing owner rs was → HasNothing owner rs left
      → SegmentFate volumes histories logger before left
  used : (was : List Block) → IsImage before was → MayBeUsed volumes histories was
      → IsIdle left ⊎ IsLogOfOpen histories logger left
      → SegmentFate volumes histories logger before left

-- so of each segment of each image
abbrev pub LeavesSegments : Config → Histories → (entry : Told) → Images → Type 0
LeavesSegments config histories entry images =
    (k i : ℕ) (logger : VolumeConf) (before : Image) (blocks : List Block)
    → slice_get config.volumes.items k ≡ Some logger
    → at_name logger.name entry.images ≡ Some before
    → image_of images k ≡ Some blocks → i < logger.segments
    → SegmentFate (length (shapes_of config)) histories k
    (blocks_of_segment (shape_in config logger) before i)
    (segment_of (shape_in config logger) blocks i)

-- ---- Volumes

-- A volume was opened of the images that weren't refused, its own and those of its view among them.
pub record WasBegun (config : Config) (refused : ℕ → Bool) (entry : Told) (h : History) :
    Type 0 where
  pub own : refused h.base.owner ≡ false
  pub loggers : AllByRecursion (λ l. refused l ≡ false) h.base.view
  pub begun : IsBegun config (accepted refused (images_read config entry)) h.base

-- no segment of an image that isn't refused is a log of volume v
abbrev pub HasNoLog : Config → (refused : ℕ → Bool) → (v : ℕ) → Images → Type 0
HasNoLog config refused v images = (k i : ℕ) (s : Shape) (c : List Block) (rs : List Record)
    → slice_get (shapes_of config) k ≡ Some s → refused k ≡ false → image_of images k ≡ Some c
    → i < s.segments → IsLog (segment_of s c i) v rs → ⊥

-- What images hold of an open volume, those that are refused giving no segments: a cut of what was
-- written to it, and no two records of one version. Where no call failed its records that keep a
-- block are those of the last look, each in a log on the logger of its lane; and where it lists none
-- the volume has no log.
pub record HoldsVolume (config : Config) (refused : ℕ → Bool) (h : History) (images : Images) :
    Type 0 where
  pub array : IsCut h.base.array (writes (entries_of h.notes)) (in_flight (entries_of h.notes))
      (recovered_but (shapes_of config) refused images h.base.owner)
  pub distinct : AreDistinct (covers_of (extents_of h.base.owner
      (all_segments (shapes_of config) (accepted refused images))))
  pub listed : IsUnbroken h → AreListedOf (last_look h.base.look h.notes).listed
      (extents_of h.base.owner (all_segments (shapes_of config) (accepted refused images)))
  pub on_loggers : IsUnbroken h → (e : Listed)
      → Contains (last_look h.base.look h.notes).listed e
      → IsOnLogger (shapes_of config) images h.base.owner h.base.view e
  pub emptied : IsUnbroken h → (last_look h.base.look h.notes).listed ≡ []
      → HasNoLog config refused h.base.owner images

-- A volume recovers to what images that a crash might have left at entry recover to.
abbrev pub KeepsArray : Config → (v : ℕ) → (entry : Told) → Images → Type 0
KeepsArray config v entry images = (before : Images) × AreLeft config entry before
    × (recovered_from (shapes_of config) images v ≡ recovered_from (shapes_of config) before v)

-- Label, view and home of its image are as they might have been.
abbrev pub KeepsHome : Config → (v : ℕ) → (entry : Told) → Images → Type 0
KeepsHome config v entry images = (conf : VolumeConf) (before : Image) (blocks : List Block)
    → slice_get config.volumes.items v ≡ Some conf → at_name conf.name entry.images ≡ Some before
    → image_of images v ≡ Some blocks
    → IsImage (slice_range before.blocks 0 (2 + conf.home)) (slice_range blocks 0 (2 + conf.home))

-- ---- The bay

-- One choice of the images that a crash leaves: each image that wasn't refused is there, with label
-- and view as they were read; each segment has its fate; each open volume is held, and each other
-- keeps its array, and its home as it might have been.
pub record ImagesLeft (config : Config) (refused : ℕ → Bool) (histories : Histories) (entry : Told)
    (images : Images) : Type 0 where
  pub fronts : (k : ℕ) → k < length config.volumes.items → refused k ≡ false
      → option_map front_of (image_of images k)
      ≡ option_map front_of (image_of (images_read config entry) k)
  pub there : (k : ℕ) → k < length config.volumes.items → refused k ≡ false
      → IsThere (shapes_of config) images k
  pub segments : LeavesSegments config histories entry images
  pub opened : (v : ℕ) (h : History) → histories v ≡ Some h → HoldsVolume config refused h images
  pub others : (v : ℕ) → histories v ≡ None → KeepsArray config v entry images
  pub homes : (v : ℕ) → histories v ≡ None → KeepsHome config v entry images

-- What is left of a bay: an image that wasn't refused might be opened as it was read, and one that
-- was may be left only as it might have been.
pub record BayLeft (config : Config) (refused : ℕ → Bool) (histories : Histories)
    (entry left : Told) : Type 0 where
  pub accepted_ : (k : ℕ) (v : VolumeConf) → slice_get config.volumes.items k ≡ Some v
      → refused k ≡ false → WasAccepted config entry k v
  pub kept : (k : ℕ) (v : VolumeConf) → slice_get config.volumes.items k ≡ Some v
      → refused k ≡ true → (c : Option (List Block)) → MayLeave (at_name v.name left.images) c
      → MayLeave (at_name v.name entry.images) c
  pub begun : (v : ℕ) (h : History) → histories v ≡ Some h → WasBegun config refused entry h
  pub each : (images : Images) → AreLeft config left images
      → ImagesLeft config refused histories entry images

-- All volumes were opened that could be, something was done with them, and they were closed: the
-- history of each that was open, and what is left of the bay.
pub record BayRun (tells : Bool) (config : Config) (old new : BayState) : Type 0 where
  pub refused : ℕ → Bool
  pub histories : Histories
  pub runs : (v : ℕ) (h : History) → histories v ≡ Some h → VolumeRun tells config v old new h
  pub left : IsTrue tells → IsTold (BayLeft config refused histories) old.told new.told
  pub others : IsTold (KeepsOthers config) old.told new.told
  pub counts : old.faults ≤ new.faults

-- a run in which nothing was written to any volume
pub record QuietRun (tells : Bool) (config : Config) (old new : BayState) : Type 0 where
  pub run : BayRun tells config old new
  pub open run use *
  pub quiet : (v : ℕ) (h : History) → histories v ≡ Some h → WritesNothing h

-- each volume was open
abbrev pub AreAllOpen : Config → Histories → Type 0
AreAllOpen config histories =
    (v : ℕ) → v < length config.volumes.items → (h : History) × (histories v ≡ Some h)

-- How the open volumes of a run used the pools of free segments, by the entries of the pools' locks:
-- no more of a volume's entries passed over a pool than its pass found that pool empty, and where no
-- call failed it took no more segments than it wrote to logs.
pub record UsesPools (tells : Bool) (config : Config) (histories : Histories) (old new : BayState) :
    Type 0 where
  pub pools : (k : ℕ) → List Entry
  pub are_pools : IsTrue tells → AreAllOpen config histories
      → IsTold (λ entry left. ArePools config entry pools) old.told new.told
  pub passed : (v : ℕ) (h : History) → histories v ≡ Some h → PassesEmpty pools h.base h.notes
  pub taken : (v : ℕ) (h : History) → histories v ≡ Some h → TakesFew pools h.base h.notes
