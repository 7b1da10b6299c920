-- What cleaning all volumes of a bay comes to.
use Rattle.std.specs.Prelude.{◌≡◌, ◌≢◌, ◌⊎◌, ◌≤◌, ◌<◌, ◌+◌, ◌^◌, ◌∷◌, ◌++◌, ℕ, Bool, List, [], map, length, Option, Some, Result, Ok, Err, IsTrue, slice_get}
use Rattle.std.specs.List.{AllByRecursion}
use Rattle.std.specs.Io.KnownBytes.{Appends, Keeps}
use Rattle.wol_disk.specs.Disk.{Rose, State}
use Rattle.wol_io.specs.Streams.{AppendsFront}
use Rattle.wol_bay.specs.Bay.{BayState}
use Rattle.wol_model.specs.History.{worker}
use Rattle.wol_model.specs.Index.{AreRising, is_covered, listed_in}
use Rattle.wol_promise.specs.Manager.{Base}
use Rattle.wol_promise.specs.Ruled.{Noted}
use Rattle.wol_config.specs.declared.config.Config.{Config}
use Rattle.manager.specs.Seen.{name_of}
use Rattle.manager.specs.Stands.{Stands}
use Rattle.manager.specs.declared.base.ManagerBase.{ManagerBase}
use Rattle.manager.specs.declared.manager.Manager.{Manager}
use Rattle.manager.specs.declared.part.Part.{Part}
use Rattle.report.specs.declared.fault.Fault.TheVariants.{Memory, Volume}
use Rattle.rack.specs.Troubles.{trouble_of}
use Rattle.volume_images.specs.Left.{IsTold}
use Rattle.volume_images.specs.Volumes.{images_read}
use Rattle.rack.specs.Closes.{HasFaultyPart}
use Rattle.rack.specs.Opens.{LeavesFronts}
use Rattle.rack.specs.Owners.{IsBegun}
use Rattle.rack_parts.specs.declared.volume_fault.VolumeFault.{VolumeFault}
use Rattle.rack.specs.NotOpened.{IsFirstClosed}
use Rattle.rack.specs.Sessions.{KeepsArrays}
use Rattle.inspection.specs.Logs.{LeavesDistinct, LeavesLogs}
use Rattle.inspection.specs.Runs as look
use Rattle.replay.specs.declared.stop.Stop.{Stop}
use Rattle.replay.specs.declared.stop.Stop.TheVariants as stop
use Rattle.log_cleaner.specs.Chunks.{IsChunk}
use Rattle.log_cleaner.specs.Cleans.{HasCleaned}
use Rattle.log_cleaner.specs.declared.answer.Cleaned.{Cleaned}
use Rattle.log_cleaner.specs.declared.answer.CleanFault.{CleanFault}
use Rattle.log_cleaner.specs.declared.answer.CleanFault.TheVariants.{DiskFault, VersionsSpent}
use Rattle.cleaning.specs.Lines.{fault_of, lines_of}
use Rattle.cleaning.specs.Turns.{operation_of}
use Rattle.wol_config.specs.Configs.{most_of}

-- The next version of what a volume began with, and the number of its chunks, come to more than
-- 2^63.
pub record LacksVersions (most : ℕ) (b : Base) : Type 0 where
  pub chunks : List (ℕ × ℕ)
  pub each : AllByRecursion (λ c. IsChunk (is_covered b.look.listed) most c.0 c.1) chunks
  pub apart : AreRising (map (λ (c : ℕ × ℕ). c.0) chunks)
  pub beyond : 2 ^ 63 < b.next + length chunks

-- A volume wasn't cleaned: the logs that are left have the records with which it was opened.
pub record LeavesVolume (tells : Bool) (config : Config) (old new : BayState) (number : ℕ) :
    Type 0 where
  pub base : Base
  pub owner : base.owner ≡ number
  pub begun : IsTrue tells
      → IsTold (λ entry exit. IsBegun config (images_read config entry) base) old.told new.told
  pub logs : IsTrue tells
      → IsTold (λ entry exit. LeavesLogs config number base.view base.look.listed exit) old.told
      new.told

-- A volume was cleaned: `opened` is its manager as the volume was opened of the images as they
-- read, `after` the one that cleaning left, which stands for the array at opening behind one entry
-- of copies. Where a call of a disk failed the bay's count rose, and the part that is told came
-- back with a fault.
pub record CleansVolume {D : Type 0} (tells : Bool) (state : D → State) (config : Config)
    (old new : BayState) (number : ℕ) (answer : Result Cleaned CleanFault) : Type 0 where
  pub base : ManagerBase
  pub owner : base.volume.began.owner ≡ number
  pub begun : IsTrue tells → IsTold
      (λ entry exit. IsBegun config (images_read config entry) base.volume.began) old.told new.told
  pub opened : Manager D
  pub stood : Stands tells state opened base []
  pub after : Manager D
  pub cleans : HasCleaned tells state (most_of config) opened after answer
  pub note : Noted
  pub pass : note.entry.pass ≡ worker
  pub operation : note.entry.operation ≡ operation_of cleans.copies answer
  pub stands : Stands tells state after base (note ∷ [])
  -- no two records that are left have one version; unless a call failed they are those of the
  -- manager that cleaning left, in logs on the loggers of the view
  pub distinct : IsTrue tells → IsTold (λ entry exit. LeavesDistinct config number exit) old.told
      new.told
  pub logs : ((p : Part) → answer ≢ Err (DiskFault p)) → IsTrue tells
      → IsTold (λ entry exit. LeavesLogs config number base.volume.began.view
      (listed_in after.index.entries) exit) old.told new.told
  pub cause : (p : Part) → answer ≡ Err (DiskFault p) → Rose old.faults new.faults
  -- .. and the part that is told, one of this volume, came back with a fault
  pub faulty : (p : Part) → answer ≡ Err (DiskFault p)
      → IsTold (HasFaultyPart tells config number base.volume.began.view (name_of p)) old.told
      new.told
  pub spent : answer ≡ Err VersionsSpent → LacksVersions (most_of config) base.volume.began

module _ {D : Type 0} (tells : Bool) (state : D → State) (config : Config) (old new : BayState)
    (sink sink' : ℕ) (printed printed' : Option (List ℕ)) where
  -- these first volumes were cleaned
  abbrev pub AreCleaned : List Cleaned → Type 0
  AreCleaned told = (length told ≤ length config.volumes.items)
      × ((k : ℕ) (c : Cleaned) → slice_get told k ≡ Some c
      → CleansVolume tells state config old new k (Ok c))

  -- the volumes from this number on weren't
  abbrev pub LeavesFrom : (n : ℕ) → Type 0
  LeavesFrom n =
      (v : ℕ) → n ≤ v → v < length config.volumes.items → LeavesVolume tells config old new v

  -- All volumes were cleaned; or the next was refused; or there was no memory for its line; or the
  -- sink failed at it, and no further one was cleaned. The lines are those of the answers, in
  -- order.
  pub data EndsFor : Result (Unit {0}) Stop → Type 0 where
    whole : (told : List Cleaned) → AreCleaned told → length told ≡ length config.volumes.items
        → sink' ≡ sink → Appends printed printed' (lines_of config told) → EndsFor (Ok tt)
    refused : (told : List Cleaned) (f : CleanFault) → AreCleaned told
        → (length told < length config.volumes.items) × LeavesFrom (length told + 1)
        → CleansVolume tells state config old new (length told) (Err f) → sink' ≡ sink
        → Appends printed printed' (lines_of config told)
        → EndsFor (Err (stop.Fault (fault_of (length told) f)))
    no_memory : (told : List Cleaned) (c : Cleaned)
        → AreCleaned (told ++ c ∷ []) × LeavesFrom (length told + 1) → sink' ≡ sink
        → Appends printed printed' (lines_of config told) → EndsFor (Err (stop.Fault Memory))
    sink_failed : (told : List Cleaned) (c : Cleaned)
        → AreCleaned (told ++ c ∷ []) × LeavesFrom (length told + 1) → Rose sink sink'
        → AppendsFront printed printed' (lines_of config (told ++ c ∷ [])) → EndsFor (Err stop.Sink)

  -- A cleaning over a bay: there was no memory to open its volumes; or one of them couldn't be
  -- opened, and none was cleaned; or all were open, and no array, label or view was changed.
  pub data CleansBay : Result (Unit {0}) Stop → Type 0 where
    unopened : sink' ≡ sink → Keeps printed printed' → CleansBay (Err (stop.Fault Memory))
    closed : (k : ℕ) (f : VolumeFault) → sink' ≡ sink → Keeps printed printed'
        → IsFirstClosed tells state config old new k f
        → CleansBay (Err (stop.Fault (Volume k (trouble_of f))))
    ran : (result : Result (Unit {0}) Stop) → EndsFor result
        → (IsTrue tells → IsTold (KeepsArrays config) old.told new.told)
        → (IsTrue tells → IsTold (LeavesFronts config) old.told new.told) → CleansBay result

-- ---- When it has to come to its end

-- Nothing stands in the way: the images at entry are sound as they read and no call failed, as for
-- a look at them, and each volume has versions for its chunks.
pub record MayComplete (tells : Bool) (config : Config) (old new : BayState) (sink sink' : ℕ) :
    Type 0 where
  pub looks : look.MayComplete tells config old new sink sink'
  pub versions : (b : Base) → IsBegun config (images_read config looks.entry) b
      → LacksVersions (most_of config) b → ⊥

-- it came to its end, or there was no memory
abbrev pub Completes : Result (Unit {0}) Stop → Type 0
Completes result = (result ≡ Ok tt) ⊎ (result ≡ Err (stop.Fault Memory))
