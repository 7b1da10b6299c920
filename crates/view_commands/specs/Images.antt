-- What is left of the image of a volume whose view is changed.
use Rattle.std.specs.Prelude.{⊤, ◌≡◌, ◌≢◌, ◌⊎◌, ℕ, Bool, List, [], length, take, Option, Some, Result, Ok, Err, IfSome, IsTrue}
use Rattle.wol_disk.specs.Disk.{Block, Rose, reads}
use Rattle.wol_bay.specs.Bay.{BayState, Image, Name, Told, at_name}
use Rattle.wol_bay.specs.declared.fault.BayFault.{BayFault}
use Rattle.wol_bay.specs.declared.fault.BayFault.TheVariants as bay
use Rattle.wol_config.specs.declared.config.Config.{Config}
use Rattle.wol_config.specs.declared.config.VolumeConf.{VolumeConf}
use Rattle.wol_model.specs.Images.{image_size}
use Rattle.logger_view.specs.Stored.{IsFirstFault, with_view}
use Rattle.report.specs.declared.fault.Fault.{Fault}
use Rattle.report.specs.declared.fault.Fault.TheVariants.{Volume, Memory}
use Rattle.report.specs.declared.trouble.Trouble.{Trouble}
use Rattle.report.specs.declared.trouble.Trouble.TheVariants as trouble
use Rattle.volume_images.specs.Left.{IsTold}
use Rattle.volume_images.specs.Volumes.{MayLeave, shape_in}
use Rattle.view_change.specs.Changes.{IsLoaded, changed, id_of}
use Rattle.view_change.specs.declared.answers.Change.{Change}
use Rattle.view_change.specs.declared.answers.ChangeRefusal.{ChangeRefusal}
use Rattle.view_change.specs.declared.answers.ChangeRefusal.TheVariants as change
use Rattle.view_commands.specs.Views.{MayChange, MayNotChange}
use Rattle.view_commands.specs.declared.order.Stop.{Stop}
use Rattle.view_commands.specs.declared.order.Stop.TheVariants as stop
use Rattle.view_commands.specs.declared.order.ViewRefusal.TheVariants.{UnknownLogger, Itself, Already, NotThere, ViewFull}

-- ---- What is told

-- what is told of a volume whose image the bay doesn't hand out
abbrev pub fault_of_bay : (volume : ℕ) → BayFault → Fault
fault_of_bay volume bay.NoMemory = Memory
fault_of_bay volume bay.Absent = Volume volume trouble.Absent
fault_of_bay volume (bay.WrongLength bytes) = Volume volume (trouble.Length bytes)
fault_of_bay volume bay.Failed = Volume volume trouble.Bay

-- what is told where the view wasn't changed
abbrev pub stop_of : (volume : ℕ) → ChangeRefusal → Stop
stop_of volume (change.Unknown id) = stop.Refused UnknownLogger
stop_of volume change.Itself = stop.Refused Itself
stop_of volume (change.Already id) = stop.Refused Already
stop_of volume (change.NotThere id) = stop.Refused NotThere
stop_of volume change.ViewFull = stop.Refused ViewFull
stop_of volume (change.Damaged block) = stop.Fault (Volume volume (trouble.Damaged volume block))
stop_of volume change.Failed = stop.Fault (Volume volume trouble.Label)

-- what is told of how the change ended
abbrev pub told_as : (volume : ℕ) → Result (List ℕ) ChangeRefusal → Result (List ℕ) Stop
told_as volume (Ok view) = Ok view
told_as volume (Err refusal) = Err (stop_of volume refusal)

-- ---- What was read

-- label and view of an image, as it reads
abbrev pub front_of : Image → List Block
front_of i = take 2 (reads i.blocks)

-- the image of a volume is there with its length
pub record IsWhole (config : Config) (v : VolumeConf) (t : Told) : Type 0 where
  pub image : Image
  pub there : at_name v.name t.images ≡ Some image
  pub rest : image.rest ≡ []
  pub size : length image.blocks ≡ image_size (shape_in config v)

-- what is answered where label and view read so
abbrev pub AnswersFront : (own : ℕ) → Change → List Block → Result (List ℕ) Stop → Type 0
AnswersFront own asked front (Ok view) =
    (ids : List ℕ) × IsLoaded own front ids × MayChange own asked ids × (view ≡ changed asked ids)
AnswersFront own asked front (Err (stop.Refused refusal)) =
    ((refusal ≡ Itself) × (id_of asked ≡ own))
    ⊎ ((ids : List ℕ) × IsLoaded own front ids × MayNotChange own asked ids refusal)
AnswersFront own asked front (Err (stop.Fault fault)) = ⊤
AnswersFront own asked front (Err stop.Sink) = ⊥

-- ---- What is left

-- the blocks are those of an image that a crash might have left before, with the new view in the
-- place of its view
pub record ShowsNewView (name : Name) (own : ℕ) (asked : Change) (t : Told) (c : List Block) :
    Type 0 where
  pub before : List Block
  pub had : MayLeave (at_name name t.images) (Some before)
  pub ids : List ℕ
  pub loaded : IsLoaded own before ids
  pub may : MayChange own asked ids
  pub is : c ≡ with_view (changed asked ids) before

-- a crash leaves an image that shows the new view
abbrev pub LeavesNewView : Name → (own : ℕ) → Change → Told → Option (List Block) → Type 0
LeavesNewView name own asked t c =
    (blocks : List Block) × (c ≡ Some blocks) × ShowsNewView name own asked t blocks

-- what a crash may leave of the image, by the answer
abbrev pub LeavesBy : Result (List ℕ) Stop → Name → (own : ℕ) → Change → Told → Option (List Block)
    → Type 0
LeavesBy (Ok view) name own asked t c = LeavesNewView name own asked t c
LeavesBy (Err (stop.Refused refusal)) name own asked t c = MayLeave (at_name name t.images) c
LeavesBy (Err (stop.Fault fault)) name own asked t c =
    MayLeave (at_name name t.images) c ⊎ LeavesNewView name own asked t c
LeavesBy (Err stop.Sink) name own asked t c = ⊥

-- The view in the image of this name was changed, or it wasn't, by the answer; other images are as
-- they were.
pub record ChangesImage (name : Name) (own : ℕ) (asked : Change) (result : Result (List ℕ) Stop)
    (old new : Told) : Type 0 where
  pub others : (other : Name) → other ≢ name → at_name other new.images ≡ at_name other old.images
  pub answer : (i : Image) → at_name name old.images ≡ Some i
      → AnswersFront own asked (front_of i) result
  pub left : (c : Option (List Block)) → MayLeave (at_name name new.images) c
      → LeavesBy result name own asked old c

-- ---- Faults

-- where the bay tells its images, that of the volume isn't whole
abbrev pub IsNotWhole : (tells : Bool) → Config → VolumeConf → BayState → Type 0
IsNotWhole tells config v old = IsTrue tells → IfSome old.told (λ t. IsWhole config v t → ⊥)

-- .. or this block of label and view is the first at fault
abbrev pub IsDamagedAt : (tells : Bool) → (volume : ℕ) → VolumeConf → BayState → (block : ℕ)
    → Type 0
IsDamagedAt tells volume v old block = IsTrue tells
    → IfSome old.told
    (λ t. (i : Image) → at_name v.name t.images ≡ Some i
    → IsFirstFault volume (front_of i) block)

-- why the image wasn't changed: a call failed, or the image isn't whole, or it is damaged
abbrev pub FailsImage : (tells : Bool) → Config → (volume : ℕ) → VolumeConf → (old new : BayState)
    → Trouble → Type 0
FailsImage tells config volume v old new trouble.Bay = Rose old.faults new.faults
FailsImage tells config volume v old new trouble.Label = Rose old.faults new.faults
FailsImage tells config volume v old new trouble.Absent = IsNotWhole tells config v old
FailsImage tells config volume v old new (trouble.Length bytes) = IsNotWhole tells config v old
FailsImage tells config volume v old new (trouble.Damaged number block) =
    (number ≡ volume) × IsDamagedAt tells volume v old block
FailsImage tells config volume v old new other = ⊥

-- .. or there was no memory
abbrev pub FailsOnImage : (tells : Bool) → Config → (volume : ℕ) → VolumeConf → (old new : BayState)
    → Fault → Type 0
FailsOnImage tells config volume v old new Memory = ⊤
FailsOnImage tells config volume v old new (Volume number t) =
    (number ≡ volume) × FailsImage tells config volume v old new t
FailsOnImage tells config volume v old new other = ⊥

-- The image of the volume was handed out, its view changed or not, and given back.
pub record ChangesInBay (tells : Bool) (config : Config) (volume : ℕ) (v : VolumeConf)
    (asked : Change) (old new : BayState) (result : Result (List ℕ) Stop) : Type 0 where
  pub left : IsTrue tells → IsTold (ChangesImage v.name volume asked result) old.told new.told
  pub fails : (f : Fault) → result ≡ Err (stop.Fault f)
      → FailsOnImage tells config volume v old new f
