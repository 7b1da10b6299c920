-- What changing a view by names comes to.
use Rattle.std.specs.Prelude.{⊤, ◌≡◌, ◌≢◌, ◌⊎◌, ℕ, Bool, List, Option, Some, Result, Err, IfOk, IfSome, IsOk, IsTrue}
use Rattle.wol_disk.specs.Disk.{Rose, State}
use Rattle.wol_bay.specs.Bay.{BayState}
use Rattle.wol_promise.specs.Manager.{Base}
use Rattle.wol_promise.specs.Policy.{PartName}
use Rattle.wol_config.specs.declared.config.Config.{Config}
use Rattle.report.specs.Troubles.{trouble_status}
use Rattle.report.specs.declared.fault.Fault.{Fault}
use Rattle.report.specs.declared.fault.Fault.TheVariants.{Volume, Memory}
use Rattle.report.specs.declared.trouble.Trouble.{Trouble}
use Rattle.report.specs.declared.trouble.Trouble.TheVariants as trouble
use Rattle.rack.specs.Troubles.{trouble_of, trouble_of_part}
use Rattle.volume_images.specs.Left.{IsTold}
use Rattle.volume_images.specs.Volumes.{images_read}
use Rattle.rack.specs.Closes.{HasFaultyPart, part_named}
use Rattle.rack.specs.Owners.{IsBegun}
use Rattle.rack_parts.specs.declared.volume_fault.VolumeFault.{VolumeFault}
use Rattle.rack.specs.NotOpened.{IsFirstClosed, LeavesViews}
use Rattle.rack.specs.Sessions.{KeepsArrays}
use Rattle.view_change.specs.declared.answers.Change.{Change}
use Rattle.view_commands.specs.Orders.{AreNamed, IsOfWords, change_of, unknown_word}
use Rattle.view_commands.specs.Printed.{PrintsNothing, PrintsView}
use Rattle.view_commands.specs.Views.{ChangesViewOf, IsDamagedIn, LeavesThere}
use Rattle.view_commands.specs.declared.order.Order.{Order}
use Rattle.view_commands.specs.declared.order.Stop.{Stop}
use Rattle.view_commands.specs.declared.order.Stop.TheVariants as stop
use Rattle.view_commands.specs.declared.order.ViewRefusal.{ViewRefusal}

-- ---- Faults of a volume that was open

-- What is told of the volume whose view was to be changed: that part of it failed while it was
-- drained; or behind that the bay or the part of label and view did, or these two blocks were
-- damaged at entry. Another trouble comes only of a bay that doesn't tell its images.
pub data FailsWith (tells : Bool) (config : Config) (volume : ℕ) (old new : BayState) : Trouble
    → Type 0 where
  part : (name : PartName) (base : Base) → base.owner ≡ volume
      → (IsTrue tells → IfSome old.told (λ entry. IsBegun config (images_read config entry) base))
      → IsTold (HasFaultyPart tells config volume base.view name) old.told new.told
      → Rose old.faults new.faults
      → FailsWith tells config volume old new (trouble_of_part (part_named volume name))
  bay : Rose old.faults new.faults → FailsWith tells config volume old new trouble.Bay
  label : Rose old.faults new.faults → FailsWith tells config volume old new trouble.Label
  damaged : (block : ℕ) → (IsTrue tells
      → IsTold (λ entry left. IsDamagedIn (images_read config entry) volume block) old.told
      new.told) → FailsWith tells config volume old new (trouble.Damaged volume block)
  untold : (t : Trouble) → trouble_status t ≢ 4
      → (IsTrue tells → IsTold (λ entry left. ⊥) old.told new.told)
      → FailsWith tells config volume old new t

-- the fault is that of the volume, or there was no memory
abbrev pub FailsFor : (tells : Bool) → Config → (volume : ℕ) → (old new : BayState) → Fault → Type 0
FailsFor tells config volume old new Memory = ⊤
FailsFor tells config volume old new (Volume number t) =
    (number ≡ volume) × FailsWith tells config volume old new t
FailsFor tells config volume old new fault = ⊥

-- ---- The whole

-- all volumes were open: the view of this one was changed to `view`, or it wasn't changed, by the
-- answer
pub record ChangesOpen {T : Type 0} (tells : Bool) (config : Config) (volume : ℕ) (change : Change)
    (view : List ℕ) (old new : BayState) (result : Result T Stop) : Type 0 where
  -- whatever images a crash leaves, each volume recovers to its array at entry
  pub arrays : IsTrue tells → IsTold (KeepsArrays config) old.told new.told
  pub views : IsTrue tells
      → IsTold (ChangesViewOf config volume change result view) old.told new.told
  pub there : IsTrue tells → IsTold (λ entry left. LeavesThere config left) old.told new.told
  pub fails : (f : Fault) → result ≡ Err (stop.Fault f) → FailsFor tells config volume old new f
  pub known : (r : ViewRefusal) → result ≡ Err (stop.Refused r) → IsOfWords r → ⊥

-- The view of a volume was to be changed: there was no memory to open the volumes, or one of them
-- couldn't be opened, and no view was changed; or all were open.
pub data ChangesVolume {D : Type 0} (tells : Bool) (state : D → State) (config : Config)
    (volume : ℕ) (change : Change) (old new : BayState) : Result (List ℕ) Stop → Type 0 where
  never_opened : LeavesViews tells state config old new
      → ChangesVolume tells state config volume change old new (Err (stop.Fault Memory))
  one_closed : (k : ℕ) (f : VolumeFault) → IsFirstClosed tells state config old new k f
      → LeavesViews tells state config old new
      → ChangesVolume tells state config volume change old new
      (Err (stop.Fault (Volume k (trouble_of f))))
  all_open : (result : Result (List ℕ) Stop) (view : List ℕ)
      → IfOk result (λ new_view. new_view ≡ view)
      → ChangesOpen tells config volume change view old new result
      → ChangesVolume tells state config volume change old new result

-- The same by names, with what is printed: a word names no volume; or there was no memory to open
-- the volumes, or one of them couldn't be opened, and no view was changed; or all were open.
pub data ChangesView {D : Type 0} (tells : Bool) (state : D → State) (config : Config)
    (order : Order) (old new : BayState) (faults faults' : ℕ) (printed printed' : Option (List ℕ)) :
    Result (Unit {0}) Stop → Type 0 where
  unknown : (r : ViewRefusal) → unknown_word config order ≡ Some r
      → PrintsNothing faults faults' printed printed' → new ≡ old
      → ChangesView tells state config order old new faults faults' printed printed'
      (Err (stop.Refused r))
  no_memory : (volume logger : ℕ) → AreNamed config order volume logger
      → PrintsNothing faults faults' printed printed' → LeavesViews tells state config old new
      → ChangesView tells state config order old new faults faults' printed printed'
      (Err (stop.Fault Memory))
  closed : (volume logger k : ℕ) (f : VolumeFault) → AreNamed config order volume logger
      → PrintsNothing faults faults' printed printed' → IsFirstClosed tells state config old new k f
      → LeavesViews tells state config old new
      → ChangesView tells state config order old new faults faults' printed printed'
      (Err (stop.Fault (Volume k (trouble_of f))))
  opened : (volume logger : ℕ) (view : List ℕ) (result : Result (Unit {0}) Stop)
      → AreNamed config order volume logger
      → PrintsView config volume view result faults faults' printed printed'
      → ChangesOpen tells config volume (change_of order.verb logger) view old new result
      → ChangesView tells state config order old new faults faults' printed printed' result

-- the view was changed, or can't be changed so, or there was no memory
abbrev pub Completes : {T : Type 0} → Result T Stop → Type 0
Completes result = IsOk result ⊎ ((r : ViewRefusal) × (result ≡ Err (stop.Refused r)))
    ⊎ (result ≡ Err (stop.Fault Memory))
