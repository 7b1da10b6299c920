-- Laws of what images are refused for.
use Rattle.std.specs.Prelude.{⊤, ◌≡◌, ℕ, List}
use Rattle.wol_disk.specs.Disk.{Block}
use Rattle.wol_model.specs.Heads.{Shape, SegmentHead}
use Rattle.volume_images.specs.declared.reading.ImageFault.{ImageFault}
use Rattle.volume_images.specs.declared.reading.ImageFault.TheVariants as fault
use Rattle.volume_images.specs.Accepted.{IsAccepted, IsImageFault}

-- the fault is of what the image says, and not of a call
abbrev pub IsOfContent : ImageFault → Type 0
IsOfContent (fault.Damaged block) = ⊤
IsOfContent fault.LabelDiffers = ⊤
IsOfContent fault.LabelFault = ⊥
IsOfContent (fault.SegmentFault index) = ⊥

-- an image that may be opened has no fault
abbrev pub AcceptedOrFaulty : Type 0
AcceptedOrFaulty = (volumes own : ℕ) (s : Shape) (image : List Block) (ids : List ℕ)
    (heads : List SegmentHead) (f : ImageFault) → IsOfContent f
    → IsAccepted volumes own s image ids heads → IsImageFault volumes own s image f → ⊥

-- and another has one at most
abbrev pub OneImageFault : Type 0
OneImageFault = (volumes own : ℕ) (s : Shape) (image : List Block) (f g : ImageFault)
    → IsOfContent f → IsOfContent g
    → IsImageFault volumes own s image f → IsImageFault volumes own s image g → f ≡ g
