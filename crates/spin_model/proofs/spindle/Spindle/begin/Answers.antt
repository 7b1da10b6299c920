use Rattle.std.proofs.Common.{◌≡◌, ℕ, max, ◌++◌, ◌∷◌, [], ap, sym, subst, ◌∙◌}
use Rattle.wol_model.specs.Journal.{Began}
use Rattle.spin_model.specs.Operations.{operation_of}
use Rattle.spin_model.specs.Spindles.{SpindleView, StandsFor}
use Rattle.spin_model.proofs.Steps.{rested_view, stands_begun}
use Rattle.spin_model.proofs.spindle.Spindle.begin.Goals as goal

pub returns-clause-stands : goal.returns-clause-stands
returns-clause-stands c b es n st =
    let s : SpindleView = c.args.self.now in
    let t = c.max-self-inside.result in
    let now : t ≡ max c.args.t s.moment = c.max-self-inside.ensures ∙ ap (λ (v : SpindleView). max c.args.t v.moment) c.self.view_is in
    let at_now = subst (λ (w : ℕ). StandsFor (rested_view (record s { moment = w })) b (es ++ (n, operation_of (Began c.args.t)) ∷ [])) (sym now) (stands_begun s b es n st c.args.t) in
    let inside = subst (λ (v : SpindleView). StandsFor (rested_view (record v { moment = t })) b (es ++ (n, operation_of (Began c.args.t)) ∷ [])) (sym c.self.view_is) at_now in
    subst (λ (v : SpindleView). StandsFor v b (es ++ (n, operation_of (Began c.args.t)) ∷ [])) (sym c.rest.ensures) inside
