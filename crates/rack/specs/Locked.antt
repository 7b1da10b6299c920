-- A volume that was opened behind its lock, and what there is where it wasn't.
use Rattle.std.specs.Prelude.{◌≡◌, Bool, List, length}
use Rattle.wol_disk.specs.Disk.{State}
use Rattle.turn_lock.specs.Passes.{lock_id, lock_passes, AreNewPasses}
use Rattle.turn_lock.specs.declared.lock.TurnLock.{TurnLock}
use Rattle.turn_lock.specs.declared.pass.PassOf.{PassOf}
use Rattle.logger.specs.declared.shared.Shared.{Shared}
use Rattle.manager.specs.declared.base.ManagerBase.{ManagerBase}
use Rattle.manager.specs.declared.manager.Manager.{Manager}
use Rattle.manager_recovery.specs.Left.{IsHandedBack}
use Rattle.manager_recovery.specs.Opened.{Opens}
use Rattle.manager_recovery.specs.Refused.{Refuses, HandsBackAll}
use Rattle.manager_recovery.specs.declared.opening.Opening.{Opening}
use Rattle.rack.specs.declared.volumes.Unopened.{Unopened}
use Rattle.rack.specs.declared.volumes.Unopened.TheVariants.{Refused, NoRoom}

-- the lock's manager was opened of this, the lock begins with what it begins with, and its three
-- passes are new
pub record IsLocked {D : Type 0} (tells : Bool) (state : D → State) (shared : Shared D)
    (o : Opening D) (l : TurnLock (Manager D) ManagerBase)
    (ps : List (PassOf (Manager D) ManagerBase)) : Type 0 where
  pub manager : Manager D
  pub opens : Opens tells state shared o manager
  pub base : (lock_id l).base ≡ opens.base
  pub passes : lock_passes l ≡ 3
  pub count : length ps ≡ 3
  pub new : AreNewPasses l ps

-- the opening was refused and all is handed back, or the manager is there without a lock
abbrev pub IsUnopened : {D : Type 0} → (tells : Bool) → (D → State) → Shared D → Opening D
    → Unopened D → Type 0
IsUnopened tells state shared o (Refused refusal n) =
    Refuses tells state o n refusal × IsHandedBack tells state shared o n
    × HandsBackAll state o n refusal
IsUnopened tells state shared o (NoRoom manager) = Opens tells state shared o manager
