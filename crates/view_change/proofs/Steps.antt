-- The steps of a drain, one after another.
use Rattle.std.proofs.Common.{◌≡◌, ℕ, Bool, List, Result, Ok, Err, subst}
use Rattle.std.specs.Prelude.{IsTrue, OnOk}
use Rattle.wol_disk.specs.Disk.{State}
use Rattle.wol_promise.specs.Ruled.{Noted}
use Rattle.manager.specs.Causes.{NoneRose}
use Rattle.manager.specs.Reclaim.{OnTried, TellsStep, KeepsOn, Always}
use Rattle.manager.specs.Stands.{Keeps}
use Rattle.manager.specs.declared.base.ManagerBase.{ManagerBase}
use Rattle.manager.specs.declared.manager.Manager.{Manager}
use Rattle.manager.specs.declared.part.StepFault.{StepFault}
use Rattle.reclaimer.specs.Drains.{HasDrained}
use Rattle.reclaimer.specs.Steps.{StopsWithin}
use Rattle.reclaimer.specs.declared.answers.Drain.{Drain}
use Rattle.reclaimer.specs.declared.answers.Drain.TheVariants.{Bare, Moved}
use Rattle.view_change.specs.Drained.{IsSafeStep, MovesTo, Drains, last_step}
use Rattle.view_change.specs.Drained as drained

module _ {D : Type 0} (tells : Bool) (state : D → State) where
  -- a step by its contract
  pub safe_step : (b : ManagerBase) (notes : List Noted) (old new : Manager D) (answer : Result Drain StepFault) → Keeps tells state old b notes → TellsStep state answer old new → OnTried answer (HasDrained state old new answer) → OnOk answer (NoneRose state old new)
      → (IsTrue tells → StopsWithin tells state old new Always) → IsSafeStep tells state b notes old new answer
  safe_step b notes old new answer kept told did calm moment = record { kept = kept; told = told; did = did; calm = calm; any_moment = λ t. moment t b notes tt kept }

  -- steps so far: whatever the first manager kept up the last one keeps up, and each step was safe
  pub record Underway (first now : Manager D) : Type 0 where
    pub keeps : KeepsOn tells state first now Always
    pub moves : (b : ManagerBase) (notes : List Noted) → Keeps tells state first b notes → MovesTo tells state b notes first now

  pub underway : (m : Manager D) → Underway m m
  underway m = record { keeps = λ b notes w k. k; moves = λ b notes k. drained.begun }

  pub one_further : (first now next : Manager D) (blocks records : ℕ) (d : Drain) → d ≡ Moved blocks records → Underway first now → KeepsOn tells state now next Always → TellsStep {T = Drain} state (Ok d) now next → HasDrained state now next (Ok d) → NoneRose state now next
      → (IsTrue tells → StopsWithin tells state now next Always) → Underway first next
  one_further first now next blocks records d is so keeps told did calm moment = record {
    keeps = λ b notes w k. keeps b notes tt (so.keeps b notes tt k);
    moves = λ b notes k. drained.moved now next blocks records (so.moves b notes k)
        (safe_step b notes now next (Ok (Moved blocks records)) (so.keeps b notes tt k) told (subst (λ (x : Drain). HasDrained state now next (Ok x)) is did) calm moment);
  }

  pub drains_ok : (first now new : Manager D) (d : Drain) → d ≡ Bare → Underway first now → TellsStep {T = Drain} state (Ok d) now new → HasDrained state now new (Ok d) → NoneRose state now new → (IsTrue tells → StopsWithin tells state now new Always)
      → (b : ManagerBase) (notes : List Noted) → Keeps tells state first b notes → Drains {T = Unit {0}} tells state b notes first new (Ok tt)
  drains_ok first now new d is so told did calm moment b notes k = record {
    mid = now;
    moves = so.moves b notes k;
    last = safe_step b notes now new (Ok Bare) (so.keeps b notes tt k) told (subst (λ (x : Drain). HasDrained state now new (Ok x)) is did) calm moment;
  }

  pub drains_err : (first now new : Manager D) (f : StepFault) → Underway first now → TellsStep {T = Drain} state (Err f) now new → OnTried {T = Drain} (Err f) (HasDrained state now new (Err f)) → (IsTrue tells → StopsWithin tells state now new Always)
      → (b : ManagerBase) (notes : List Noted) → Keeps tells state first b notes → Drains {T = Unit {0}} tells state b notes first new (Err f)
  drains_err first now new f so told did moment b notes k = record {
    mid = now;
    moves = so.moves b notes k;
    last = safe_step b notes now new (Err f) (so.keeps b notes tt k) told did tt moment;
  }
