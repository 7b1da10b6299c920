-- The search for a segment that a view doesn't name.
use Rattle.std.proofs.Common.{◌≡◌, ◌+◌, ℕ, true, false, not, cond, List, drop, Some, sym, ◌∙◌}
use Rattle.std.specs.Prelude.{slice_get}
use Rattle.manager_recovery.specs.Refused.{first_outside, is_named}
use Rattle.manager_recovery.specs.declared.opening.OwnedPart.{OwnedPart}
use Rattle.manager_recovery.proofs.Lists.{drop_here}

module _ {D : Type 0} (ids : List ℕ) (os : List (OwnedPart D)) (i : ℕ) (part : OwnedPart D) (is : slice_get os i ≡ Some part) (before : first_outside ids (drop i os) ≡ first_outside ids os) where
  step : first_outside ids (drop i os) ≡ cond (not (is_named ids part.logger)) (Some part) (first_outside ids (drop (i + 1) os))
  step = λ j. first_outside ids (drop_here os i part is j)

  pub outside_here : is_named ids part.logger ≡ false → first_outside ids os ≡ Some part
  outside_here isnt = sym before ∙ step ∙ (λ j. cond (not (isnt j)) (Some part) (first_outside ids (drop (i + 1) os)))

  pub outside_later : is_named ids part.logger ≡ true → first_outside ids (drop (i + 1) os) ≡ first_outside ids os
  outside_later named = sym (λ j. cond (not (named j)) (Some part) (first_outside ids (drop (i + 1) os))) ∙ sym step ∙ before
