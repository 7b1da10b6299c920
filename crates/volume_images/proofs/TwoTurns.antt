-- A pass of a spindle that made two turns.
use Rattle.std.proofs.Common.{◌≡◌, ℕ, List, [], ◌∷◌, ◌++◌, ap, ◌∙◌, append_assoc}
use Rattle.wol_model.specs.Journal.{Needed, Done}
use Rattle.turn_lock.specs.Histories.{Entry}
use Rattle.turn_lock.specs.Passes.{pass_number, pass_mine, IsSamePass}
use Rattle.turn_lock.specs.declared.pass.PassOf.{PassOf}
use Rattle.spin_model.specs.Operations.{operation_of}
use Rattle.spin_model.specs.declared.spindle.Spindle.{Spindle}
use Rattle.spin_model.specs.declared.spindle.SpindleBase.{SpindleBase}

pub two_turns : (p q r : PassOf Spindle SpindleBase) → IsSamePass p q → pass_mine q ≡ pass_mine p ++ (pass_number p, operation_of Needed) ∷ [] → pass_mine r ≡ pass_mine q ++ (pass_number q, operation_of Done) ∷ []
    → pass_mine r ≡ pass_mine p ++ (pass_number p, operation_of Needed) ∷ (pass_number p, operation_of Done) ∷ []
two_turns p q r same first second =
    second ∙ ap (λ (es : List Entry). es ++ (pass_number q, operation_of Done) ∷ []) first
    ∙ append_assoc (pass_mine p) ((pass_number p, operation_of Needed) ∷ []) ((pass_number q, operation_of Done) ∷ [])
    ∙ ap (λ (n : ℕ). pass_mine p ++ (pass_number p, operation_of Needed) ∷ (n, operation_of Done) ∷ []) same.1
