use Rattle.std.proofs.Common.{◌≡◌, ◌<◌, ◌^◌, ◌∷◌, [], ◌++◌, ℕ, List, length, ap, subst, sym, ◌∙◌, rules}
use Rattle.std.specs.Prelude.{Contains}
use Rattle.wol_model.specs.Heads.{IsViewList}
use Rattle.view_change.proofs.Ids.{view_with}
use Rattle.view_change.proofs.changing.with_logger.Goals as goal

pub unreachable-requires-in-None : goal.unreachable-requires-in-None
unreachable-requires-in-None c =
    let none : Contains c.args.view.now c.args.id → ⊥ = search rules in
    let room : length c.args.view.now < 16 = search rules in
    let fits : c.args.id < 2 ^ 32 = search rules in
    let all : c.in-Ok.all.items ≡ c.args.view.now = search rules in
    let is : c.deref.result.now ≡ c.args.view.now ++ c.args.id ∷ [] = c.deref.ensures.0 ∙ c.push.ensures.items ∙ ap (λ (l : List ℕ). l ++ c.args.id ∷ []) all in
    c.in-None.ensures (subst IsViewList (sym is) (view_with c.args.view.now c.args.id c.ids-ids.ensures.valid none room fits))
