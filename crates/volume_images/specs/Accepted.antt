-- What one image says at opening, and what it is refused for.
use Rattle.std.specs.Prelude.{⊤, ◌≡◌, ◌⊎◌, ◌<◌, ◌+◌, ◌*◌, ℕ, List, length, slice_get, Some, Contains}
use Rattle.wol_disk.specs.Disk.{Block}
use Rattle.wol_model.specs.Heads.{Shape, SegmentHead, Free, Owned, SpellsSegment}
use Rattle.wol_model.specs.Images.{segment_of}
use Rattle.logger_view.specs.Stored.{HasLabel, HasView, IsFirstFault}
use Rattle.volume_images.specs.declared.reading.ImageFault.{ImageFault}
use Rattle.volume_images.specs.declared.reading.ImageFault.TheVariants as fault

-- the owner is one of so many volumes
abbrev pub IsConfigured : (volumes : ℕ) → SegmentHead → Type 0
IsConfigured volumes Free = ⊤
IsConfigured volumes (Owned owner) = owner < volumes

-- the first block of a segment is this head, of nobody or of a configured volume
pub record HasHead (volumes : ℕ) (bs : List Block) (h : SegmentHead) : Type 0 where
  pub block : Block
  pub first : slice_get bs 0 ≡ Some block
  pub spelled : SpellsSegment block h
  pub configured : IsConfigured volumes h

-- it is none
abbrev pub IsHeadless : (volumes : ℕ) → List Block → Type 0
IsHeadless volumes bs = (h : SegmentHead) → HasHead volumes bs h → ⊥

-- the place in its image of a segment's first block
abbrev pub head_place : Shape → (index : ℕ) → ℕ
head_place s i = 2 + s.home + i * s.segment_blocks

-- the image has the label of volume `own` with these sizes, and a view that doesn't name the volume
pub record HasOwnLabel (own : ℕ) (s : Shape) (image : List Block) (ids : List ℕ) : Type 0 where
  pub label : HasLabel image own s
  pub view : HasView image ids
  pub others : Contains ids own → ⊥

-- it has a label and such a view, and the label is another
pub record HasOtherLabel (own : ℕ) (s : Shape) (image : List Block) : Type 0 where
  pub id : ℕ
  pub shape : Shape
  pub ids : List ℕ
  pub label : HasLabel image id shape
  pub view : HasView image ids
  pub others : Contains ids own → ⊥
  pub differs : id ≡ own → shape ≡ s → ⊥

-- an image that is opened: its label is the configured one, this is its view, and its segments have
-- these heads
pub record IsAccepted (volumes own : ℕ) (s : Shape) (image : List Block) (ids : List ℕ)
    (heads : List SegmentHead) : Type 0 where
  pub named : HasOwnLabel own s image ids
  pub count : length heads ≡ s.segments
  pub each : (i : ℕ) (h : SegmentHead) → slice_get heads i ≡ Some h
      → HasHead volumes (segment_of s image i) h

-- its label is the configured one, and this is the first segment without a head
pub record IsFirstHeadless (volumes own : ℕ) (s : Shape) (image : List Block) (index : ℕ) :
    Type 0 where
  pub ids : List ℕ
  pub named : HasOwnLabel own s image ids
  pub within : index < s.segments
  pub before : (i : ℕ) → i < index → (h : SegmentHead) × HasHead volumes (segment_of s image i) h
  pub headless : IsHeadless volumes (segment_of s image index)

-- its label is the configured one, and the segments before this one have heads
pub record IsInOrderBefore (volumes own : ℕ) (s : Shape) (image : List Block) (index : ℕ) :
    Type 0 where
  pub ids : List ℕ
  pub named : HasOwnLabel own s image ids
  pub within : index < s.segments
  pub before : (i : ℕ) → i < index → (h : SegmentHead) × HasHead volumes (segment_of s image i) h

-- What the image of volume `own` is refused for by what it says, where it has the length for these
-- sizes: label and view come first, then whether the label is the configured one, then the segments
-- in order. A call that failed is told in place of what its step would have answered, so nothing
-- before that step refuses the image.
abbrev pub IsImageFault : (volumes own : ℕ) → Shape → List Block → ImageFault → Type 0
IsImageFault volumes own s image (fault.Damaged block) =
    IsFirstFault own image block
    ⊎ ((index : ℕ) × (block ≡ head_place s index) × IsFirstHeadless volumes own s image index)
IsImageFault volumes own s image fault.LabelDiffers = HasOtherLabel own s image
IsImageFault volumes own s image fault.LabelFault = ⊤
IsImageFault volumes own s image (fault.SegmentFault index) =
    IsInOrderBefore volumes own s image index
