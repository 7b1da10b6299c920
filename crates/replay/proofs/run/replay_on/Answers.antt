use Rattle.replay.proofs.Basics.{ap, sym, ◌∙◌}
use Rattle.replay.proofs.Terms.{Floor, Session}
use Rattle.replay.proofs.Lent.{moved_lent, whole_back}
use Rattle.replay.proofs.ServingOn.{serves_from}
use Rattle.replay.proofs.run.replay_on.Goals as goal

pub returns-clause-served : goal.returns-clause-served
returns-clause-served g c =
    let serve = c.serve_with_workers-served in let led = serve.ensures in let t = serve.new.session in
    let before = c.new-floor.result in
    let first = ap (λ x. x.now) c.new-floor.ensures.locks ∙ c.as_slice.ensures.value in
    let begun = ap (λ (x : Session g.row.D.Denot). x.floor) c.new-session.ensures in
    let locks = ap (λ x. x.now) (led.locks ∙ ap (λ (x : Floor g.row.D.Denot). x.locks) begun) ∙ first in (
      before,
      record { locks = first; passes = c.new-floor.ensures.passes },
      serves_from g.D.Disk.tells g.S.Source.left c.args.config.now c.args.options c.args.given.now serve.new.given c.args.rack.now c.put_stations.new.rack (g.K.Sink.faults c.args.out.now) (g.K.Sink.faults serve.new.out)
          (g.K.Sink.taken c.args.out.now) (g.K.Sink.taken serve.new.out) before serve.result c.new-session.result t c.replace-keepers.result c.take_down.result
          c.new-session.ensures c.replace-keepers.ensures.value led.session led.same led.locks led.whole led.some
          (moved_lent _ _ t.floor locks (sym c.leave-passes.ensures) _ c.take_down.ensures.moved) c.take_down.ensures.stations c.put_stations.ensures,
    )

pub take_down-requires : goal.take_down-requires
take_down-requires g c =
    let serve = c.serve_with_workers-served in let t = serve.new.session in
    let first = ap (λ x. x.now) c.new-floor.ensures.locks ∙ c.as_slice.ensures.value in
    let begun = ap (λ (x : Session g.row.D.Denot). x.floor) c.new-session.ensures in
    let locks = ap (λ x. x.now) (serve.ensures.locks ∙ ap (λ (x : Floor g.row.D.Denot). x.locks) begun) ∙ first in
    whole_back _ _ t.floor locks (sym c.leave-passes.ensures) serve.ensures.session.ready.floor_
