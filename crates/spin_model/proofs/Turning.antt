-- A turn in which the spindle stays in its place.
use Rattle.std.proofs.Common.{◌≡◌, ℕ, Option, Some, List, [], ◌∷◌, ◌++◌, sym, ap, subst, ◌∙◌}
use Rattle.turn_lock.specs.Histories.{Entry}
use Rattle.turn_lock.specs.LockIds.{LockId}
use Rattle.turn_lock.specs.Passes.{pass_lock, pass_number, pass_seen, first_held, IsInTurnWith, IsSamePass}
use Rattle.turn_lock.specs.declared.pass.PassOf.{PassOf}
use Rattle.wol_model.specs.Journal.{Use, MayUse}
use Rattle.spin_model.specs.declared.spindle.SpindleBase.{SpindleBase}
use Rattle.spin_model.specs.Operations.{operation_of}
use Rattle.spin_model.specs.Spindles.{SpindleView, StandsFor, HasMade, state_after}

-- one value is in its place
pub same_value : (y z : SpindleView) (p : PassOf SpindleView SpindleBase) → IsInTurnWith y p → IsInTurnWith z p → y ≡ z
same_value y z p a b = let e : Some y ≡ Some z = ap (λ (l : List (ℕ × Option SpindleView)). first_held l) (sym a.1 ∙ b.1) in cc

-- what was said of two spindles is said of those that they are
pub between : (R : SpindleView → SpindleView → Type 0) (a b y z : SpindleView) → a ≡ y → b ≡ z → R a b → R y z
between R a b y z e f h = subst (λ (s : SpindleView). R s z) e (subst (R a) f h)

-- j is the pass i behind a change of the spindle in its place, which made a use
module _ (i j : PassOf SpindleView SpindleBase) (same : IsSamePass i j) (seen : pass_seen j ≡ pass_seen i) (u : Use) where
  pub made_in_place : (y z : SpindleView) → HasMade u y z → StandsFor y (pass_lock i).base (pass_seen i) → MayUse (state_after (pass_lock i).base (pass_seen i)) (pass_number i) u
      → StandsFor z (pass_lock j).base (pass_seen j ++ (pass_number j, operation_of u) ∷ [])
  made_in_place y z made st may = subst (λ (l : LockId SpindleBase). StandsFor z l.base (pass_seen j ++ (pass_number j, operation_of u) ∷ [])) (sym same.0)
      (subst (λ (es : List Entry). StandsFor z (pass_lock i).base (es ++ (pass_number j, operation_of u) ∷ [])) (sym seen)
      (subst (λ (n : ℕ). StandsFor z (pass_lock i).base (pass_seen i ++ (n, operation_of u) ∷ [])) (sym same.1) (made (pass_lock i).base (pass_seen i) (pass_number i) st may)))
