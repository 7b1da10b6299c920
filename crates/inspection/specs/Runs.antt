-- What looking at all volumes of a bay comes to.
use Rattle.std.specs.Prelude.{◌≡◌, ◌≢◌, ◌⊎◌, ◌≤◌, ℕ, Bool, true, List, [], length, Option, None, Some, Result, Ok, Err, IfSome, slice_get, IsTrue}
use Rattle.wol_disk.specs.Disk.{State, Rose}
use Rattle.wol_model.specs.Images.{Images, accepted, recovered_from}
use Rattle.wol_bay.specs.Bay.{BayState}
use Rattle.wol_promise.specs.Manager.{Base}
use Rattle.wol_promise.specs.Policy.{PartName}
use Rattle.wol_promise.specs.Ruled.{last_look}
use Rattle.wol_config.specs.Documents.{names_of}
use Rattle.wol_config.specs.declared.config.Config.{Config}
use Rattle.wol_config.specs.declared.config.VolumeConf.{VolumeConf}
use Rattle.manager.specs.Stands.{Stands}
use Rattle.manager.specs.declared.base.ManagerBase.{ManagerBase}
use Rattle.manager.specs.declared.manager.Manager.{Manager}
use Rattle.manager.specs.declared.part.Part.{Part}
use Rattle.manager_recovery.specs.declared.refusal.OpenRefusal.TheVariants.{DiskFault}
use Rattle.inspection.specs.Texts.{check_text}
use Rattle.inspection.specs.Volumes.{IsDump, held_segments}
use Rattle.report.specs.Names.{name_at}
use Rattle.report.specs.Troubles.{trouble_status}
use Rattle.report.specs.declared.trouble.Trouble.{Trouble}
use Rattle.rack.specs.Troubles.{trouble_of, trouble_of_part}
use Rattle.volume_images.specs.Left.{IsTold}
use Rattle.volume_images.specs.Volumes.{images_read, shapes_of}
use Rattle.rack.specs.BayRuns.{Histories, History, IsUnbroken, QuietRun}
use Rattle.rack.specs.Closes.{CameBackFaulty, is_kept_home, part_named}
use Rattle.rack.specs.Opens.{RefusesVolume}
use Rattle.rack.specs.Owners.{StandAsRead}
use Rattle.rack.specs.Racks.{NamesVolumes}
pub use Rattle.rack.specs.Sessions.{MayComplete}
use Rattle.rack_parts.specs.declared.rack.ImageRest.{ImageRest}
use Rattle.rack_parts.specs.declared.volume_fault.VolumeFault.{VolumeFault}
use Rattle.rack_parts.specs.declared.volume_fault.VolumeFault.TheVariants.{Refused}
use Rattle.inspection.specs.Lines.{Telling, PrintsBy, trouble_line}
use Rattle.inspection.specs.declared.asked.Asked.{Asked}
use Rattle.inspection.specs.declared.asked.Asked.TheVariants.{Check, Dump}
use Rattle.inspection.specs.declared.calls.Stop.{Stop}
use Rattle.inspection.specs.declared.calls.Stop.TheVariants.{Memory}

-- The lines of a volume in order. `check`: that of the array that the images recover to, of so many
-- records as keep blocks in them, and so many segments as its manager holds. `dump`: those of the
-- manager's records.
abbrev pub AreLinesOf : {D : Type 0} → Config → Asked → Images → (number : ℕ) → Base → Manager D
    → (text : List ℕ) → Type 0
AreLinesOf config Check images number b m text =
    text ≡ check_text (name_at (names_of config.volumes.items) number)
    (recovered_from (shapes_of config) images number) (length b.records) (held_segments m)
AreLinesOf config Dump images number b m text = IsDump config number m [] text

-- The lines of a volume are told by a manager that stands for what it began with. Each of its
-- records stands where these images have it: in the segment and at the block that `dump` names.
pub record IsInOrder {D : Type 0} (tells : Bool) (state : D → State) (config : Config)
    (asked : Asked) (images : Images) (number : ℕ) (h : History) (text : List ℕ) : Type 0 where
  pub base : ManagerBase
  pub began : base.volume.began ≡ h.base
  pub manager : Manager D
  pub stands : Stands tells state manager base []
  pub places : StandAsRead config images number h.base.view manager.index.entries
  pub lines_ : AreLinesOf config asked images number h.base manager text

-- a volume that wasn't opened, with the line of its fault, which is the first cause
pub record TellsRefusal {D : Type 0} (tells : Bool) (state : D → State) (config : Config)
    (out : List (Option (ImageRest D))) (histories : Histories) (old new : BayState) (number : ℕ)
    (t : Telling) : Type 0 where
  pub closed : histories number ≡ None
  pub conf : VolumeConf
  pub is_conf : slice_get config.volumes.items number ≡ Some conf
  pub fault : VolumeFault
  pub refuses : RefusesVolume tells state config out old new number conf fault
  -- the volumes that it names are configured
  pub names : NamesVolumes (length config.volumes.items) fault
  -- that of a disk is counted, and the part that is told came back with a fault
  pub rose : trouble_status (trouble_of fault) ≡ 4 → Rose old.faults new.faults
  pub part : (p : Part) → fault ≡ Refused (DiskFault p)
      → IsTold (CameBackFaulty config p) old.told new.told
  pub trouble : t.trouble ≡ Some (trouble_of fault)
  pub text : t.text ≡ trouble_line config number (trouble_of fault)

-- a volume that was opened, a call of whose disks failed, with the line of the part that is down
pub record TellsPart (config : Config) (histories : Histories) (number : ℕ) (t : Telling) :
    Type 0 where
  pub history : History
  pub opened : histories number ≡ Some history
  pub broken : IsUnbroken history → ⊥
  pub name : PartName
  pub down : (last_look history.base.look history.notes).down ≡ Some name
  pub trouble : t.trouble ≡ Some (trouble_of_part (part_named number name))
  pub text : t.text ≡ trouble_line config number (trouble_of_part (part_named number name))

-- A volume in order, with its lines where the bay told its images: those that weren't refused, as
-- they were read. No call failed, and it lists the records with which it was opened.
pub record TellsLines {D : Type 0} (tells : Bool) (state : D → State) (config : Config)
    (asked : Asked) (refused : ℕ → Bool) (histories : Histories) (old : BayState) (number : ℕ)
    (t : Telling) : Type 0 where
  pub history : History
  pub opened : histories number ≡ Some history
  pub unbroken : IsUnbroken history
  pub listed : (last_look history.base.look history.notes).listed ≡ history.base.look.listed
  pub lines_ : IsTrue tells → IfSome old.told
      (λ entry. IsInOrder tells state config asked (accepted refused (images_read config entry))
      number history t.text)
  pub trouble : t.trouble ≡ None

-- what is told of a volume
abbrev pub IsToldOf : {D : Type 0} → (tells : Bool) → (D → State) → Config → Asked
    → (out : List (Option (ImageRest D))) → (refused : ℕ → Bool) → Histories → (old new : BayState)
    → (number : ℕ) → Telling → Type 0
IsToldOf tells state config asked out refused histories old new number t =
    TellsRefusal tells state config out histories old new number t
    ⊎ TellsLines tells state config asked refused histories old number t
    ⊎ TellsPart config histories number t

-- All volumes were looked at: a run of the bay in which nothing was written, and what was told of
-- the first of them, or of all. Where any was told, the images that weren't refused are these, and
-- each other has a cause.
pub record Looked {D : Type 0} (tells : Bool) (state : D → State) (config : Config) (asked : Asked)
    (old new : BayState) (told : List Telling) : Type 0 where
  pub run : QuietRun tells config old new
  pub open run use {refused, histories}
  pub out : List (Option (ImageRest D))
  pub are_out : told ≢ [] → refused ≡ is_kept_home out
  pub missing : told ≢ [] → (k : ℕ) (v : VolumeConf) → slice_get config.volumes.items k ≡ Some v
      → refused k ≡ true
      → (f : VolumeFault) × RefusesVolume tells state config out old new k v f
  pub few : length told ≤ length config.volumes.items
  pub each : (k : ℕ) (t : Telling) → slice_get told k ≡ Some t
      → IsToldOf tells state config asked out refused histories old new k t

-- .. and how it was printed
pub record Inspects {D : Type 0} (tells : Bool) (state : D → State) (config : Config)
    (asked : Asked) (old new : BayState) (result : Result (Option Trouble) Stop)
    (faults faults' : ℕ) (printed printed' : Option (List ℕ)) : Type 0 where
  pub told : List Telling
  pub looked : Looked tells state config asked old new told
  pub prints : PrintsBy result config told faults faults' printed printed'

-- all volumes are in order, or there was no memory
abbrev pub Completes : Result (Option Trouble) Stop → Type 0
Completes result = (result ≡ Ok None) ⊎ (result ≡ Err Memory)
