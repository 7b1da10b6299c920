-- The views that volumes have in images, and what a crash may leave of them.
use Rattle.std.specs.Prelude.{◌≡◌, ◌≢◌, ◌⊎◌, ◌<◌, ℕ, List, length, Some, Contains, Result, Ok, Err}
use Rattle.wol_disk.specs.Disk.{Block}
use Rattle.wol_bay.specs.Bay.{Told}
use Rattle.wol_config.specs.declared.config.Config.{Config}
use Rattle.wol_model.specs.Images.{Images, image_of}
use Rattle.rack.specs.Opens.{IsThere}
use Rattle.logger_view.specs.Stored.{HasView, IsFirstFault}
use Rattle.volume_images.specs.Volumes.{images_read, shapes_of, AreLeft}
use Rattle.view_change.specs.Changes.{Allows, changed, id_of}
use Rattle.view_change.specs.declared.answers.Change.{Change}
use Rattle.view_change.specs.declared.answers.Change.TheVariants.{Add, Remove}
use Rattle.view_commands.specs.declared.order.Stop.{Stop}
use Rattle.view_commands.specs.declared.order.Stop.TheVariants as stop
use Rattle.view_commands.specs.declared.order.ViewRefusal.{ViewRefusal}
use Rattle.view_commands.specs.declared.order.ViewRefusal.TheVariants.{Itself, Already, NotThere, ViewFull}

-- ---- Images

-- the image of the volume is there with this view
abbrev pub HasViewIn : Images → (volume : ℕ) → (ids : List ℕ) → Type 0
HasViewIn images volume ids =
    (image : List Block) × (image_of images volume ≡ Some image) × HasView image ids

-- the image of the volume is there, and this block of its label and view is the first at fault
abbrev pub IsDamagedIn : Images → (volume : ℕ) → (block : ℕ) → Type 0
IsDamagedIn images volume block =
    (image : List Block) × (image_of images volume ≡ Some image) × IsFirstFault volume image block

-- whatever images a crash leaves, the volume has this view in them
abbrev pub LeavesView : Config → (volume : ℕ) → (ids : List ℕ) → Told → Type 0
LeavesView config volume ids left =
    (images : Images) → AreLeft config left images → HasViewIn images volume ids

-- each volume but this one has the view in them that it had at entry
abbrev pub KeepsOtherViews : Config → (volume : ℕ) → (entry left : Told) → Type 0
KeepsOtherViews config volume entry left =
    (other : ℕ) (ids : List ℕ) → other ≢ volume → HasViewIn (images_read config entry) other ids
    → LeavesView config other ids left

-- the image of each volume is there with its length
abbrev pub LeavesThere : Config → Told → Type 0
LeavesThere config left = (images : Images) → AreLeft config left images → (v : ℕ)
    → v < length (shapes_of config) → IsThere (shapes_of config) images v

-- ---- Answers

-- the view of the volume can be changed so
pub record MayChange (volume : ℕ) (change : Change) (ids : List ℕ) : Type 0 where
  pub other : id_of change ≢ volume
  pub allowed : Allows ids change

-- it can't, for this
abbrev pub MayNotChange : (volume : ℕ) → Change → (ids : List ℕ) → ViewRefusal → Type 0
MayNotChange volume change ids Itself = id_of change ≡ volume
MayNotChange volume (Add logger) ids Already = (logger ≢ volume) × Contains ids logger
MayNotChange volume (Add logger) ids ViewFull =
    (logger ≢ volume) × (Contains ids logger → ⊥) × (length ids ≡ 16)
MayNotChange volume (Remove logger) ids NotThere = (logger ≢ volume) × (Contains ids logger → ⊥)
MayNotChange volume change ids refusal = ⊥

-- whatever images a crash leaves, the volume has this view in them, or, where it can be changed so,
-- the view that this makes of it
abbrev pub LeavesEither : Config → (volume : ℕ) → Change → (ids : List ℕ) → Told → Type 0
LeavesEither config volume change ids left = (images : Images) → AreLeft config left images
    → HasViewIn images volume ids
    ⊎ (MayChange volume change ids × HasViewIn images volume (changed change ids))

-- what becomes of these loggers of the volume, by the answer: `view` is what is printed of them
abbrev pub BecomesBy : {T : Type 0} → Result T Stop → Config → (volume : ℕ) → Change
    → (ids view : List ℕ) → (left : Told) → Type 0
BecomesBy (Ok done) config volume change ids view left =
    MayChange volume change ids × (view ≡ changed change ids) × LeavesView config volume view left
BecomesBy (Err stop.Sink) config volume change ids view left =
    MayChange volume change ids × (view ≡ changed change ids) × LeavesView config volume view left
BecomesBy (Err (stop.Refused refusal)) config volume change ids view left =
    MayNotChange volume change ids refusal × LeavesView config volume ids left
BecomesBy (Err (stop.Fault fault)) config volume change ids view left =
    LeavesEither config volume change ids left

-- The view that the volume had at entry is changed in each image that a crash may leave, by the
-- answer; other volumes keep theirs.
pub record ChangesViewOf {T : Type 0} (config : Config) (volume : ℕ) (change : Change)
    (result : Result T Stop) (view : List ℕ) (entry left : Told) : Type 0 where
  pub ids : List ℕ
  pub at_entry : HasViewIn (images_read config entry) volume ids
  pub becomes : BecomesBy result config volume change ids view left
  pub others : KeepsOtherViews config volume entry left
