use Rattle.std.proofs.Common.{◌+◌, ◌++◌, ◌∷◌, [], sym, subst, ◌∙◌}
use Rattle.wol_model.specs.Journal.{Needed}
use Rattle.spin_model.specs.Operations.{operation_of}
use Rattle.spin_model.specs.Spindles.{SpindleView, StandsFor}
use Rattle.spin_model.proofs.Steps.{stands_needed}
use Rattle.spin_model.proofs.spindle.Spindle.need.Goals as goal

pub returns-clause-stands : goal.returns-clause-stands
returns-clause-stands c b es n st may =
    subst (λ (v : SpindleView). StandsFor (record v { out = v.out + 1 }) b (es ++ (n, operation_of Needed) ∷ [])) (sym (c.self.view_is ∙ c.wake.ensures)) (stands_needed c.args.self.now b es n st may)
