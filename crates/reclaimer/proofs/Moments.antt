-- What a step that is stopped at any moment leaves.
use Rattle.std.proofs.Common.{Bool, List, Err, sym, subst}
use Rattle.std.specs.Prelude.{IsTrue}
use Rattle.wol_disk.specs.Disk.{State, IsDisk}
use Rattle.wol_promise.specs.Ruled.{Noted}
use Rattle.manager.specs.Reclaim.{OnTried, TellsStep, StopsSince}
use Rattle.manager.specs.declared.base.ManagerBase.{ManagerBase}
use Rattle.manager.specs.declared.manager.Manager.{Manager}
use Rattle.manager.specs.declared.part.StepFault.{StepFault}
use Rattle.manager.specs.declared.part.StepFault.TheVariants.{DiskFault, Down}
use Rattle.manager.proofs.ReadThrough.{through_self}
use Rattle.manager.proofs.Refused.{stops_at_rest}
use Rattle.reclaimer.specs.Steps.{StopsWithin}

module _ {D : Type 0} (tells : Bool) (state : D → State) (sound : (d : D) → IsDisk (state d)) (Where : ManagerBase → List Noted → Type 0) where
  -- since the step began
  pub within : (old new : Manager D) → StopsSince tells state old new Where → StopsWithin tells state old new Where
  within old new since b notes where_ keeps = since old (through_self state sound old) b notes where_ keeps

  -- where nothing was done
  pub at_rest : IsTrue tells → (m : Manager D) → StopsWithin tells state m m Where
  at_rest told m b notes where_ keeps = stops_at_rest tells state sound told m b notes keeps

  -- where the step was refused
  pub tried_within : (T : Type 0) → IsTrue tells → (old new : Manager D) (fault : StepFault) → TellsStep {T = T} state (Err fault) old new → OnTried {T = T} (Err fault) (IsTrue tells → StopsSince tells state old new Where) → StopsWithin tells state old new Where
  tried_within T told old new (DiskFault p) tells_ since = within old new (since told)
  tried_within T told old new (Down p) tells_ since = subst (λ (m : Manager D). StopsWithin tells state old m Where) (sym tells_.1) (at_rest told old)
