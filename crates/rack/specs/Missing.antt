-- One missing image that is made: why it isn't, and what is left of all images.
use Rattle.std.specs.Prelude.{⊤, ◌≡◌, ◌≢◌, ◌⊎◌, ℕ, Bool, List, [], length, Contains, Option, None, Some, IfSome, Result, Ok, Err, OnOk, IsTrue, slice_get}
use Rattle.wol_disk.specs.Disk.{Block, State, Rose, reads}
use Rattle.wol_disk.specs.Zeros.{zeros}
use Rattle.wol_model.specs.Heads.{SegmentHead, Owned as OwnedHead}
use Rattle.wol_model.specs.Images.{Images, IsSoundImage, recovered_from, segment_of}
use Rattle.wol_bay.specs.Bay.{Name, Image, Told, BayState, at_name}
use Rattle.wol_config.specs.declared.config.Config.{Config}
use Rattle.wol_config.specs.declared.config.VolumeConf.{VolumeConf}
use Rattle.logger_view.specs.Stored.{HasView}
use Rattle.volume_images.specs.Accepted.{HasHead, IsAccepted}
use Rattle.volume_images.specs.Formatted.{formatted}
use Rattle.volume_images.specs.Left.{IsUnfinished, settled_image}
use Rattle.volume_images.specs.Volumes.{AreLeft, MayLeave, shape_in, shapes_of}
use Rattle.volume_images.specs.declared.fault.RackFault.TheVariants as rack_fault
use Rattle.rack_parts.specs.declared.volume_fault.VolumeFault.TheVariants.{Absent}
use Rattle.rack.specs.Opens.{RefusesVolume, WasAccepted}
use Rattle.rack.specs.declared.missing.MissingFault.{MissingFault}
use Rattle.rack.specs.declared.missing.MissingFault.TheVariants.{There, InView, HasSegment, Refused, Format}

-- as it reads, this segment of the image of volume k is one of the log of volume `owner`
abbrev pub HasSegmentOf : Config → Told → (owner k : ℕ) → VolumeConf → (index : ℕ) → Type 0
HasSegmentOf config t owner k v index =
    (image : Image) × (at_name v.name t.images ≡ Some image)
    × HasHead (length (shapes_of config)) (segment_of (shape_in config v) (reads image.blocks) index)
    (OwnedHead owner)

-- as it reads, the view of the image of volume k names volume `owner`
abbrev pub NamesInView : Config → Told → (owner k : ℕ) → VolumeConf → Type 0
NamesInView config t owner k v =
    (image : Image) × (at_name v.name t.images ≡ Some image) × (view : List ℕ)
    × HasView (reads image.blocks) view × Contains view owner

-- why the image of volume `id` wasn't made
abbrev pub RefusesMissing : {D : Type 0} → (tells : Bool) → (D → State) → Config → (id : ℕ)
    → (b b' : BayState) → MissingFault → Type 0
RefusesMissing tells state config id b b' There =
    (v : VolumeConf) × (slice_get config.volumes.items id ≡ Some v)
    × (IsTrue tells → IfSome b.told (λ t. WasAccepted config t id v))
RefusesMissing tells state config id b b' (InView k) =
    (k ≢ id) × (v : VolumeConf) × (slice_get config.volumes.items k ≡ Some v)
    × (IsTrue tells → IfSome b.told (λ t. NamesInView config t id k v))
RefusesMissing tells state config id b b' (HasSegment k index) =
    (k ≢ id) × (v : VolumeConf) × (slice_get config.volumes.items k ≡ Some v)
    × (IsTrue tells → IfSome b.told (λ t. HasSegmentOf config t id k v index))
RefusesMissing {D} tells state config id b b' (Refused k f) =
    (k ≡ id → f ≢ Absent) × (v : VolumeConf) × (slice_get config.volumes.items k ≡ Some v)
    × RefusesVolume {D = D} tells state config [] b b' k v f
RefusesMissing tells state config id b b' (Format (rack_fault.Failed n part)) =
    (n ≡ id) × Rose b.faults b'.faults
RefusesMissing tells state config id b b' (Format rack_fault.NoMemory) = ⊤

-- ---- What is left

-- the image of volume k was there, may be opened as it reads, doesn't name volume `owner` in its view,
-- and has no segment of its log
abbrev pub HadNoSegmentOf : Config → Told → (owner k : ℕ) → VolumeConf → Type 0
HadNoSegmentOf config t owner k v =
    (image : Image) × (at_name v.name t.images ≡ Some image) × (view : List ℕ)
    × (heads : List SegmentHead)
    × IsAccepted (length (shapes_of config)) k (shape_in config v) (reads image.blocks) view heads
    × (Contains view owner → ⊥) × (Contains heads (OwnedHead owner) → ⊥)

-- of the image of this name a crash may leave only what it might have left before
abbrev pub LeavesNoMoreOf : Name → (old new : Told) → Type 0
LeavesNoMoreOf name old new = (c : Option (List Block)) → MayLeave (at_name name new.images) c
    → MayLeave (at_name name old.images) c

-- The image of volume `id` is made: there was none, and no other image names it in its view or has a
-- segment of its log. It is the whole formatted one, which is sound, and whatever images a crash leaves, the volume recovers to
-- zeros.
pub record IsMade (config : Config) (id : ℕ) (v : VolumeConf) (old new : Told) : Type 0 where
  pub absent : at_name v.name old.images ≡ None
  pub no_segment : (k : ℕ) (w : VolumeConf) → slice_get config.volumes.items k ≡ Some w → k ≢ id
      → HadNoSegmentOf config old id k w
  pub made : at_name v.name new.images
      ≡ Some (settled_image (formatted id (shape_in config v) v.view))
  pub sound : (views : List (List ℕ)) → IsSoundImage (shapes_of config) views id (shape_in config v)
      v.view (formatted id (shape_in config v) v.view)
  pub zeros_ : (images : Images) → AreLeft config new images
      → recovered_from (shapes_of config) images id ≡ zeros v.home

-- the image was begun, if the answer is this
abbrev pub MayBegin : Result (Unit {0}) MissingFault → Type 0
MayBegin (Ok done) = ⊤
MayBegin (Err (Format (rack_fault.Failed n part))) = ⊤
MayBegin (Err (Format rack_fault.NoMemory)) = ⊥
MayBegin (Err There) = ⊥
MayBegin (Err (InView k)) = ⊥
MayBegin (Err (HasSegment k index)) = ⊥
MayBegin (Err (Refused k f)) = ⊥

-- What is left of the images, whatever stopped it. Of each other image a crash may leave only what it
-- might have left before. So it is of the volume's own; or there was none, it was begun, and has no
-- label or is whole.
pub record LeavesMissing (config : Config) (id : ℕ) (v : VolumeConf)
    (result : Result (Unit {0}) MissingFault) (old new : Told) : Type 0 where
  pub others : (name : Name) → name ≢ v.name → LeavesNoMoreOf name old new
  pub own : LeavesNoMoreOf v.name old new
      ⊎ (MayBegin result × (at_name v.name old.images ≡ None)
      × (image : Image) × (at_name v.name new.images ≡ Some image)
      × IsUnfinished id (shape_in config v) v.view image)
  pub made : OnOk result (IsMade config id v old new)
