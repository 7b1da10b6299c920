-- What came of an image that was to be opened, as its bay tells.
use Rattle.std.specs.Prelude.{⊤, ◌≡◌, ◌+◌, ℕ, List, [], length, map, Contains, Option, None, Some}
use Rattle.wol_disk.specs.Disk.{Block, Values, State, IsImage, reads}
use Rattle.wol_model.specs.Heads.{Shape}
use Rattle.wol_model.specs.Images.{image_size}
use Rattle.wol_bay.specs.Bay.{Name, Image, Told, at_name}
use Rattle.wol_bay.specs.Parts.{AreCut}
use Rattle.wol_bay.specs.Refusals.{refusal}
use Rattle.wol_bay.specs.declared.fault.BayFault.{BayFault}
use Rattle.wol_bay.specs.declared.fault.BayFault.TheVariants as bay
use Rattle.log_layout.specs.Values.{segment_head}
use Rattle.volume_images.specs.declared.opening.ImageRefusal.{ImageRefusal}
use Rattle.volume_images.specs.declared.opening.ImageRefusal.TheVariants.{Absent, WrongLength, BayFailed, Fault, NoMemory}
use Rattle.volume_images.specs.declared.attach.OutImage.{OutImage}
use Rattle.volume_images.specs.declared.parts.ImageParts.{ImageParts}
use Rattle.volume_images.specs.declared.reading.ImageFault.{ImageFault}
use Rattle.volume_images.specs.declared.reading.ImageFault.TheVariants as fault
use Rattle.volume_images.specs.Accepted.{IsAccepted, IsImageFault}
use Rattle.volume_images.specs.Disks.{disks_of}
use Rattle.volume_images.specs.Formatted.{part_sizes}
use Rattle.volume_images.specs.Left.{CameBack}
use Rattle.volume_images.specs.Sent.{IsOpenable}

-- the image that is out was cut from these blocks, and may be opened
pub record IsCutOpenable {D : Type 0} (state : D → State) (volumes own : ℕ) (s : Shape)
    (blocks : Option (List (Values Block))) (o : OutImage D) : Type 0 where
  pub before : ImageParts D
  pub cut : AreCut state blocks (part_sizes s) (disks_of before)
  pub openable : IsOpenable state volumes own s before o

-- the image of this name was there with the blocks of its parts, is one that may be opened as it
-- reads, and these are its view and its heads
pub record SaysSo {D : Type 0} (volumes own : ℕ) (s : Shape) (name : Name) (o : OutImage D)
    (t : Told) : Type 0 where
  pub image : Image
  pub there : at_name name t.images ≡ Some image
  pub rest : image.rest ≡ []
  pub size : length image.blocks ≡ image_size s
  pub accepted :
      IsAccepted volumes own s (reads image.blocks) o.view (map segment_head o.heads.items)

-- a part a call of which failed is among these places
abbrev pub IsFaultAt : ImageFault → (places : List ℕ) → Type 0
IsFaultAt (fault.Damaged block) places = ⊤
IsFaultAt fault.LabelDiffers places = ⊤
IsFaultAt fault.LabelFault places = Contains places 0
IsFaultAt (fault.SegmentFault index) places = Contains places (2 + index)

-- a call of a part failed
abbrev pub IsCallFault : ImageFault → Type 0
IsCallFault (fault.Damaged block) = ⊥
IsCallFault fault.LabelDiffers = ⊥
IsCallFault fault.LabelFault = ⊤
IsCallFault (fault.SegmentFault index) = ⊤

-- The image was there with the blocks of its parts, was read, refused for what it says, and is in
-- the bay again: whatever a crash leaves of it, it might have left before.
pub record GaveBack (volumes own : ℕ) (s : Shape) (name : Name) (f : ImageFault) (old new : Told) :
    Type 0 where
  pub before : Image
  pub there : at_name name old.images ≡ Some before
  pub complete : before.rest ≡ []
  pub size : length before.blocks ≡ image_size s
  pub refused : IsImageFault volumes own s (reads before.blocks) f
  pub after : Image
  pub places : List ℕ
  pub back : CameBack name after places old new
  pub rest : after.rest ≡ before.rest
  pub images : (c : List Block) → IsImage after.blocks c → IsImage before.blocks c
  pub fault : IsFaultAt f places

-- what the answer of a bay is told as
abbrev pub refusal_of_bay : BayFault → ImageRefusal
refusal_of_bay bay.Absent = Absent
refusal_of_bay (bay.WrongLength bytes) = WrongLength bytes
refusal_of_bay bay.Failed = BayFailed
refusal_of_bay bay.NoMemory = NoMemory

-- what a refusal leaves, and when it comes: the image isn't there, or hasn't the length of its
-- parts; the bay failed; or the image itself is refused
abbrev pub Refuses : (volumes own : ℕ) → Shape → Name → ImageRefusal → Told → Told → Type 0
Refuses volumes own s name Absent old new =
    (refusal name (part_sizes s) old ≡ Some bay.Absent) × (new ≡ old)
Refuses volumes own s name (WrongLength bytes) old new =
    (refusal name (part_sizes s) old ≡ Some (bay.WrongLength bytes)) × (new ≡ old)
Refuses volumes own s name BayFailed old new =
    (refusal name (part_sizes s) old ≡ None) × (new ≡ old)
Refuses volumes own s name (Fault f) old new = GaveBack volumes own s name f old new
Refuses volumes own s name NoMemory old new = new ≡ old
