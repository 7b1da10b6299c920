-- How the volumes used the pools of free segments, by the entries of the pools' locks.
use Rattle.std.specs.Prelude.{◌≡◌, ◌≤◌, ℕ, List, [], length, sum_by, Contains, Option, None, Some, slice_get}
use Rattle.std.specs.Option.{option_map_or}
use Rattle.wol_disk.specs.Disk.{reads}
use Rattle.wol_model.specs.Heads.{SegmentHead, Free, Owned}
use Rattle.wol_model.specs.History.{flight_of}
use Rattle.wol_promise.specs.Manager.{Base}
use Rattle.wol_promise.specs.Report.{logged_writes}
use Rattle.wol_promise.specs.Ruled.{Noted, HasPassed, entries_of}
use Rattle.wol_bay.specs.Bay.{Image, Told, at_name}
use Rattle.wol_config.specs.declared.config.Config.{Config}
use Rattle.wol_config.specs.declared.config.VolumeConf.{VolumeConf}
use Rattle.turn_lock.specs.Histories.{Entry, own}
use Rattle.logger_view.specs.Stored.{HasView}
use Rattle.seg_pool.specs.Holders.{holder, ArePoolUses}
use Rattle.seg_pool.specs.Operations.{uses_of}
use Rattle.seg_pool.specs.declared.base.Holder.{Holder}
use Rattle.seg_pool.specs.declared.base.Holder.TheVariants.{Elsewhere, InPool, HeldBy}
use Rattle.manager.specs.Stands.{nones_in, takes_in}
use Rattle.volume_images.specs.Accepted.{IsAccepted}
use Rattle.volume_images.specs.Volumes.{shape_in, shapes_of}

-- who has a segment with this head: it is free, or the pass of the volume that it names holds it
abbrev pub holder_of : Option SegmentHead → Holder
holder_of None = Elsewhere
holder_of (Some Free) = InPool
holder_of (Some (Owned owner)) = HeldBy owner

-- these have the segments of volume k as the heads in its image said when it was opened
pub record HadSegments (config : Config) (t : Told) (k : ℕ) (v : VolumeConf)
    (holders : List Holder) : Type 0 where
  pub image : Image
  pub there : at_name v.name t.images ≡ Some image
  pub view : List ℕ
  pub heads : List SegmentHead
  pub accepted :
      IsAccepted (length (shapes_of config)) k (shape_in config v) (reads image.blocks) view heads
  pub each : (i : ℕ) → holder holders i ≡ holder_of (slice_get heads i)

-- volume n is configured, and its view named volume k as its image read
abbrev pub HadLogger : Config → Told → (n k : ℕ) → Type 0
HadLogger config t n k = (v : VolumeConf) × (slice_get config.volumes.items n ≡ Some v)
    × (image : Image) × (at_name v.name t.images ≡ Some image)
    × (view : List ℕ) × HasView (reads image.blocks) view × Contains view k

-- The entries of the lock of volume k's pool, by the passes of all volumes: each use could be made
-- where it stands, from where the heads said that the segments were. So none was found free only
-- where each segment was held. Only volumes whose views named k have any.
pub record IsPoolHistory (config : Config) (t : Told) (k : ℕ) (v : VolumeConf)
    (entries : List Entry) : Type 0 where
  pub holders : List Holder
  pub had : HadSegments config t k v holders
  pub legal : ArePoolUses holders (uses_of entries)
  pub users : (n : ℕ) → (HadLogger config t n k → ⊥) → own n entries ≡ []

-- so of the pool of each volume
abbrev pub ArePools : Config → (t : Told) → (pools : (k : ℕ) → List Entry) → Type 0
ArePools config t pools = (k : ℕ) (v : VolumeConf) → slice_get config.volumes.items k ≡ Some v
    → IsPoolHistory config t k v (pools k)

-- how often the pass of volume v found the pool at this place of its view empty, by the entries of
-- the pools' locks
abbrev pub times_empty : (pools : ℕ → List Entry) → (v : ℕ) → (view : List ℕ) → (place : ℕ) → ℕ
times_empty pools v view place =
    option_map_or (λ (logger : ℕ). nones_in (own v (pools logger))) (slice_get view place) 0

-- no more of a volume's entries passed over a pool than its pass found that pool empty
abbrev pub PassesEmpty : (pools : ℕ → List Entry) → Base → List Noted → Type 0
PassesEmpty pools base notes = HasPassed (times_empty pools base.owner base.view) notes

-- how many segments the pass of volume v took of the pools of its view, by the entries of the
-- pools' locks
abbrev pub times_taken : (pools : ℕ → List Entry) → (v : ℕ) → (view : List ℕ) → ℕ
times_taken pools v view = sum_by (λ (logger : ℕ). takes_in (own v (pools logger))) view

-- Of all pools together a volume's pass took no more segments than the volume wrote to logs, where
-- no call failed: one that wrote nothing to a log took nothing.
abbrev pub TakesFew : (pools : ℕ → List Entry) → Base → List Noted → Type 0
TakesFew pools base notes = flight_of (entries_of notes) ≡ None
    → times_taken pools base.owner base.view ≤ logged_writes notes
