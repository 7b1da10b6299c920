-- The parts of an image that is read, and what they say. `state` is that of a part's disk.
use Rattle.std.specs.Prelude.{◌≡◌, ◌⊎◌, ℕ, List, length, All, Contains, Some}
use Rattle.wol_disk.specs.Disk.{Block, Values, State, Rose, reads}
use Rattle.wol_model.specs.Heads.{Shape}
use Rattle.spin_model.specs.Spun.{state_of, volume_of}
use Rattle.spin_model.specs.declared.spun.Spun.{Spun}
use Rattle.log_layout.specs.declared.segment.SegHead.{SegHead}
use Rattle.logger_view.specs.Stored.{IsFirstFault}
use Rattle.volume_images.specs.declared.parts.ImageParts.{ImageParts}
use Rattle.volume_images.specs.declared.reading.ImageFault.{ImageFault}
use Rattle.volume_images.specs.declared.reading.ImageFault.TheVariants as fault
use Rattle.volume_images.specs.Accepted.{HasOwnLabel, HasOtherLabel}
use Rattle.volume_images.specs.Disks.{AreOfVolume}
use Rattle.volume_images.specs.Reads.{IsOnlyRead, AreOnlyRead}
use Rattle.volume_images.specs.Heads.{SayHeads, IsDamagedSegment, RoseAt, AreCalm}

-- the parts of an image of this volume with these sizes
pub record ArePartsOf {D : Type 0} (state : D → State) (volume : ℕ) (s : Shape) (p : ImageParts D) :
    Type 0 where
  pub label : (state_of state p.label).size ≡ 2
  pub home : (state_of state p.home).size ≡ s.home
  pub count : length p.segments.items ≡ s.segments
  pub segments : All (λ (q : Spun D). (state_of state q).size ≡ s.segment_blocks) p.segments.items
  pub of_volume : AreOfVolume volume p

-- they were read and not written
pub record IsReadImage {D : Type 0} (state : D → State) (old new : ImageParts D) : Type 0 where
  pub label : IsOnlyRead (state_of state old.label) (state_of state new.label)
  pub label_volume : volume_of new.label ≡ volume_of old.label
  pub home : new.home ≡ old.home
  pub segments : AreOnlyRead state old.segments.items new.segments.items

-- no count of theirs rose
pub record IsCalmImage {D : Type 0} (state : D → State) (old new : ImageParts D) : Type 0 where
  pub label : (state_of state new.label).faults ≡ (state_of state old.label).faults
  pub segments : AreCalm state old.segments.items new.segments.items

-- what holds of the blocks of label and view, where they are told
abbrev pub SaysLabel : {D : Type 0} → (D → State) → ImageParts D → (List Block → Type 0) → Type 0
SaysLabel state p holds =
    (vs : List (Values Block)) → (state_of state p.label).values ≡ Some vs → holds (reads vs)

-- the image may be opened: it has the label of the volume and this view, and its segments have
-- these heads
pub record MayOpen {D : Type 0} (state : D → State) (volumes own : ℕ) (s : Shape) (p : ImageParts D)
    (ids : List ℕ) (heads : List SegHead) : Type 0 where
  pub label : SaysLabel state p (λ bs. HasOwnLabel own s bs ids)
  pub of_segments : SayHeads state volumes p.segments.items s.segments heads
  -- also where it doesn't tell its content
  pub others : Contains ids own → ⊥

-- the label is the volume's, and this block is the place of the first segment without a head
pub record IsDamagedBehind {D : Type 0} (state : D → State) (volumes own : ℕ) (s : Shape)
    (p : ImageParts D) (block : ℕ) : Type 0 where
  pub label : SaysLabel state p (λ bs. (ids : List ℕ) × HasOwnLabel own s bs ids)
  pub segment : IsDamagedSegment state volumes s p.segments.items block

-- the label is the volume's, the segments before this one have heads, and the count of this one
-- rose
pub record HasFailedBehind {D : Type 0} (state : D → State) (volumes own : ℕ) (s : Shape)
    (old new : ImageParts D) (index : ℕ) : Type 0 where
  pub label : SaysLabel state old (λ bs. (ids : List ℕ) × HasOwnLabel own s bs ids)
  pub rose : RoseAt state index old.segments.items new.segments.items
  pub heads : List SegHead
  pub before : SayHeads state volumes old.segments.items index heads

-- why it may not be opened
abbrev pub MayNotOpen : {D : Type 0} → (D → State) → (volumes own : ℕ) → Shape
    → (old new : ImageParts D) → ImageFault → Type 0
MayNotOpen state volumes own s old new (fault.Damaged block) =
    SaysLabel state old (λ bs. IsFirstFault own bs block)
    ⊎ IsDamagedBehind state volumes own s old block
MayNotOpen state volumes own s old new fault.LabelDiffers =
    SaysLabel state old (HasOtherLabel own s)
MayNotOpen state volumes own s old new fault.LabelFault =
    Rose (state_of state old.label).faults (state_of state new.label).faults
MayNotOpen state volumes own s old new (fault.SegmentFault index) =
    HasFailedBehind state volumes own s old new index
