use Rattle.replay.proofs.Basics.{◌∙◌, List, ap, length, rules, slice_index_or, subst, sym}
use Rattle.replay.proofs.Terms.{Errands, Job}
use Rattle.std.specs.Borrow.{Bor}
use Rattle.errands.specs.Ends.{IsWaiting}
use Rattle.replay.proofs.leading.lead_beside.Goals as goal

pub join_mut-served-requires-after_bounds : goal.join_mut-served-requires-after_bounds
join_mut-served-requires-after_bounds g c κs _ =
    let same = c.errands-errands.ensures in let r = c.requires in (
      (
        (
          r.count ∙ sym (ap (λ (x : Bor (List (Errands (Job g.row.D.Denot)))). length x.now) same),
          λ k e w h. subst (λ (x : Bor (List (Errands (Job g.row.D.Denot)))). IsWaiting (slice_index_or x.now k e) (slice_index_or c.args.workers.now k w)) (sym same) (r.waiting k e w h),
        ),
        (search rules, search rules, search rules),
      ),
      (r.valid, r.new, r.session, r.started, r.totals, r.crew),
    )
