use Rattle.std.proofs.Common.{◌≡◌, ℕ, List, [], ◌∷◌, ◌++◌, ◌<◌, true, false, cond, length, take, get_or, map, sym, ap, subst, ◌∙◌}
use Rattle.std.proofs.lemmas.List.{append-nil}
use Rattle.wol_disk.specs.Plan.{no_plan, with_call}
use Rattle.wol_disk.specs.Memory.{mem_state, plan_of}
use Rattle.wol_bay.specs.Plans.{planned_of, is_for, calls_for}
use Rattle.wol_bay.specs.declared.plans.Plan.{Plan}
use Rattle.wol_bay.proofs.BayMoves.{calls_step}
use Rattle.wol_bay.proofs.memory.MemBay.armed.Goals as goal
use Rattle.wol_bay.proofs.memory.MemBay.armed.Goals.{then-is_for+in_ok-fail, else-is_for}

pub loop-plan-preserved : goal.loop-plan-preserved
loop-plan-preserved c =
    let i = c.loop-plan.invariant in
    let k = c.loop-plan.plan-index in
    let plans = c.args.self.now.plans.items in
    let plan = c.plan-item.result in
    let old = calls_for c.args.name.now c.args.place (map planned_of (take k plans)) in
    let same : c.deref-plan-items.result.now ≡ plans = c.deref-plan-items.ensures.value in
    let step = calls_step c.args.name.now c.args.place plans k plan (subst (λ (l : List Plan). k < length l) same c.loop-plan-test.true) (c.plan-item.is ∙ ap (λ (l : List Plan). get_or l k plan) same) in
    elim c.if-is_for.branch [
      | then-is_for+in_ok-fail w ↦
          let u = w.in_ok-fail.ensures.unchanged in
          let here : is_for c.args.name.now c.args.place (planned_of plan) ≡ true = sym c.is_for.ensures ∙ w.if-is_for.true in
          record {
            values = ap (λ d. (mem_state d).values) w.disk-is ∙ u.values ∙ i.values;
            size = ap (λ d. (mem_state d).size) w.disk-is ∙ u.size ∙ i.size;
            plan = ap plan_of w.disk-is ∙ w.in_ok-fail.ensures.ok ∙ ap (with_call plan.call) i.plan ∙ ap (λ (l : List ℕ). record no_plan { calls = l }) (sym (step ∙ ap (λ b. old ++ cond b (plan.call ∷ []) []) here));
          }
      | else-is_for w ↦
          let other : is_for c.args.name.now c.args.place (planned_of plan) ≡ false = sym c.is_for.ensures ∙ w.if-is_for.false in
          record {
            values = ap (λ d. (mem_state d).values) w.disk-is ∙ i.values;
            size = ap (λ d. (mem_state d).size) w.disk-is ∙ i.size;
            plan = ap plan_of w.disk-is ∙ i.plan ∙ ap (λ (l : List ℕ). record no_plan { calls = l }) (sym (step ∙ ap (λ b. old ++ cond b (plan.call ∷ []) []) other ∙ append-nil old));
          }
    ]
