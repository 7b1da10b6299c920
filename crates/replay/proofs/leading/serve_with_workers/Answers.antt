use Rattle.replay.proofs.Basics.{◌∙◌, List, subst, sym}
use Rattle.replay.proofs.Terms.{Errands, AreIdleSeats, AreWaiting, Job}
use Rattle.errands.specs.declared.ends.Worker.{Worker}
use Rattle.replay.proofs.leading.serve_with_workers.Goals as goal

pub new-crew-requires-clause-idle : goal.new-crew-requires-clause-idle
new-crew-requires-clause-idle g c =
    let pool = c.new-errands.result in
    subst (λ (es : List (Errands (Job g.row.D.Denot))). AreIdleSeats es pool.seats.items) (sym c.as_slice.ensures.value) c.new-errands.ensures.home

pub lead_beside-requires-clause-waiting : goal.lead_beside-requires-clause-waiting
lead_beside-requires-clause-waiting g c κs within =
    let pool = c.new-errands.result in
    let places = c.new-crew.ensures.errands ∙ c.as_slice.ensures.value in
    subst (λ (ws : List (Worker (Job g.row.D.Denot))). AreWaiting c.new-crew.result.errands.now ws) (sym c.as_mut_slice-workers.ensures.value)
    (subst (λ (es : List (Errands (Job g.row.D.Denot))). AreWaiting es pool.workers.items) (sym places) c.new-errands.ensures.waiting)
