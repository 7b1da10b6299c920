-- What a format leaves of a bay.
use Rattle.std.specs.Prelude.{◌≡◌, ◌≢◌, ◌<◌, ◌++◌, ℕ, List, [], length, Contains, Option, None, Some, Result, Ok, Err}
use Rattle.wol_disk.specs.Disk.{Block, State, only, IsImage}
use Rattle.wol_bay.specs.Bay.{Name, Image, Told, at_name, each_place}
use Rattle.wol_bay.specs.declared.fault.BayFault.{BayFault}
use Rattle.wol_bay.specs.declared.fault.BayFault.TheVariants as bay
use Rattle.wol_model.specs.Heads.{Shape}
use Rattle.volume_images.specs.Settled.{HasFault}
use Rattle.volume_images.specs.Formatted.{formatted, place_of, IsUnlabelledOrFormatted}
use Rattle.volume_images.specs.declared.fault.PartName.{PartName}
use Rattle.volume_images.specs.declared.fault.PartName.TheVariants as part
use Rattle.volume_images.specs.declared.fault.RackFault.{RackFault}
use Rattle.volume_images.specs.declared.fault.RackFault.TheVariants.{Failed, NoMemory}

-- what a format answers where the bay doesn't make the image of this volume
abbrev pub fault_of_bay : (id : ℕ) → BayFault → RackFault
fault_of_bay id bay.NoMemory = NoMemory
fault_of_bay id bay.Failed = Failed id part.Bay
fault_of_bay id bay.Absent = Failed id part.Bay
fault_of_bay id (bay.WrongLength bytes) = Failed id part.Bay

-- the part is one of an image, and had a fault
pub record HasFailed {D : Type 0} (state : D → State) (parts : List D) (name : PartName) :
    Type 0 where
  pub known : name ≢ part.Bay
  pub fault : HasFault state (place_of name) parts
  pub within : place_of name < length parts

-- It holds of what a bay tells before and after a call; and it tells after the call where it told
-- before.
abbrev pub IsTold : (Told → Told → Type 0) → Option Told → Option Told → Type 0
IsTold holds None new = new ≡ None
IsTold holds (Some old) None = ⊥
IsTold holds (Some old) (Some new) = holds old new

-- This image stands under the name, those of other names are as they were, and these parts of it
-- came back with a fault.
pub record CameBack (name : Name) (image : Image) (places : List ℕ) (old new : Told) : Type 0 where
  pub here : at_name name new.images ≡ Some image
  pub others : (other : Name) → other ≢ name → at_name other new.images ≡ at_name other old.images
  pub faulty : new.faulty ≡ old.faulty ++ each_place name places

-- an image of these blocks, on which all is synced
abbrev pub settled_image : List Block → Image
settled_image bs = record { blocks = only bs; rest = [] }

-- each image that a crash may leave has no label or is a whole formatted one
pub record IsUnfinished (id : ℕ) (s : Shape) (ids : List ℕ) (image : Image) : Type 0 where
  pub whole_blocks : image.rest ≡ []
  pub each : (c : List Block) → IsImage image.blocks c → IsUnlabelledOrFormatted id s ids c

-- the image of this name is unfinished, and the named part came back with a fault
pub record Unfinished (name : Name) (id : ℕ) (s : Shape) (ids : List ℕ) (failed : PartName)
    (old new : Told) : Type 0 where
  pub image : Image
  pub places : List ℕ
  pub back : CameBack name image places old new
  pub unfinished : IsUnfinished id s ids image
  pub fault : Contains places (place_of failed)

-- what is left where a part failed: all as it was, if that was the bay
abbrev pub LeavesFailed : (failed : PartName) → Name → (id : ℕ) → Shape → (ids : List ℕ) → Told
    → Told → Type 0
LeavesFailed part.Bay name id s ids old new = new ≡ old
LeavesFailed part.Label name id s ids old new = Unfinished name id s ids part.Label old new
LeavesFailed part.Home name id s ids old new = Unfinished name id s ids part.Home old new
LeavesFailed (part.Segment index) name id s ids old new =
    Unfinished name id s ids (part.Segment index) old new

-- what the format of one image leaves
abbrev pub LeavesImage : Result (Unit {0}) RackFault → Name → (id : ℕ) → Shape → (ids : List ℕ)
    → Told → Told → Type 0
LeavesImage (Ok done) name id s ids old new =
    CameBack name (settled_image (formatted id s ids)) [] old new
LeavesImage (Err NoMemory) name id s ids old new = new ≡ old
LeavesImage (Err (Failed volume part)) name id s ids old new =
    LeavesFailed part name id s ids old new
