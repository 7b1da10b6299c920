use Rattle.std.proofs.Common.{◌++◌, ◌∷◌, [], sym, subst, ◌∙◌, arith}
use Rattle.wol_model.specs.Journal.{Started}
use Rattle.spin_model.specs.Operations.{operation_of}
use Rattle.spin_model.specs.Spindles.{SpindleView, StandsFor}
use Rattle.spin_model.proofs.Steps.{stands_started, stands_not_started}
use Rattle.spin_model.proofs.spindle.Spindle.start.Goals as goal

pub returns-then-has_turned-clause-stands : goal.returns-then-has_turned-clause-stands
returns-then-has_turned-clause-stands c b es n st = stands_not_started c.args.self.now b es n st c.args.t0 (let e = c.if-has_turned.ensures in grind arith)

pub returns-clause-stands : goal.returns-clause-stands
returns-clause-stands c b es n st =
    let fresh = sym c.if-has_turned.false ∙ c.has_turned.ensures in
    subst (λ (v : SpindleView). StandsFor (record v { moment = c.args.t0; last_use = c.args.t0 }) b (es ++ (n, operation_of (Started c.args.t0)) ∷ [])) (sym c.self.view_is) (stands_started c.args.self.now b es n st c.args.t0 (grind arith))
