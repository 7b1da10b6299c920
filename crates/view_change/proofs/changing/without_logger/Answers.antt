use Rattle.std.proofs.Common.{◌≡◌, ℕ, Bool, List, length, take, ap, subst, sym, ◌∙◌, arith, rules}
use Rattle.std.specs.Prelude.{◌==◌, not, filter, Contains}
use Rattle.std.proofs.lemmas.List.{take_all}
use Rattle.wol_model.specs.Heads.{IsViewList}
use Rattle.view_change.proofs.Ids.{front_is_short, view_without}
use Rattle.view_change.proofs.changing.without_logger.Goals as goal

pub push-requires : goal.push-requires
push-requires c =
    let p : ℕ → Bool = λ other. not (other == c.args.id) in
    let few = c.ids-ids.ensures.valid.few in
    let same : length c.ids-ids.result.now ≡ length c.args.view.now = ap (λ (l : List ℕ). length l) c.ids-ids.ensures.value in
    let is : length c.loop-other.others.items ≡ length (filter p (take c.loop-other.other-index c.ids-ids.result.now)) = ap (λ (l : List ℕ). length l) c.loop-other.invariant in
    let less = front_is_short p c.ids-ids.result.now c.loop-other.other-index in
    let within = c.loop-other-test.true in
    (omega arith, omega (arith, few, same, is, less, within))

pub unreachable-requires : goal.unreachable-requires
unreachable-requires c =
    let p : ℕ → Bool = λ other. not (other == c.args.id) in
    let is : c.deref.result.now ≡ filter p c.args.view.now =
    c.deref.ensures.0 ∙ c.loop-other.invariant ∙ ap (filter p) (take_all c.loop-other.other-index c.ids-ids.result.now c.loop-other-test.false) ∙ ap (filter p) c.ids-ids.ensures.value in
    c.in-None.ensures (subst IsViewList (sym is) (view_without p c.args.view.now c.ids-ids.ensures.valid))

pub returns-clause-ok : goal.returns-clause-ok
returns-clause-ok c =
    let p : ℕ → Bool = λ other. not (other == c.args.id) in
    let there : Contains c.args.view.now c.args.id = search rules in
    let is : c.deref.result.now ≡ filter p c.args.view.now =
    c.deref.ensures.0 ∙ c.loop-other.invariant ∙ ap (filter p) (take_all c.loop-other.other-index c.ids-ids.result.now c.loop-other-test.false) ∙ ap (filter p) c.ids-ids.ensures.value in
    (there, c.in-Some.ensures.1 ∙ is)
