use Rattle.std.proofs.Common.{◌∙◌, refl, None, Some, Ok, Err}
use Rattle.std.proofs.lemmas.Result.{err_from_is_err_and}
use Rattle.nbd_session.proofs.Served.{becomes_at, begun, unbegun}
use Rattle.nbd_session.proofs.Stays.{stays, stays_on}
use Rattle.nbd_session.proofs.session.serve.Goals as goal

pub requests-init : goal.requests-init
requests-init g c = record { stays = stays c.args.volume.now c.requires.ready; underway = begun _ _ _ _ _ _; calm_source = refl; calm_sink = refl }

pub returns-in-Err-clause-session : goal.returns-in-Err-clause-session
returns-in-Err-clause-session g c = unbegun _ _ _ _ _ _

pub returns-in_err-ended-clause-session : goal.returns-in_err-ended-clause-session
returns-in_err-ended-clause-session g c =
    let p = err_from_is_err_and c.from_residual.result c.from_residual.ensures.1 in
    let i = c.requests.invariant in
    rw (p.1, p.2) (becomes_at _ _ _ _ _ _ _ _ _ _ _ _ _ _ _ _ (Err c.in_err-ended.field-0.0) i.stays.same_home i.stays.same_most i.underway c.saturating_add-request.ensures c.in_err-ended.ensures.content)

pub returns-in-Some-2-clause-session : goal.returns-in-Some-2-clause-session
returns-in-Some-2-clause-session g c =
    let i = c.requests.invariant in
    let n = c.serve_next.new in
    becomes_at _ _ _ _ _ _ _ _ _ _ _ n.volume _ (g.S.Source.left n.input) _ (g.K.Sink.taken n.out) (Ok (Some c.in-Some-2.ended)) i.stays.same_home i.stays.same_most i.underway c.saturating_add-request.ensures (rw c.in-Some-2.is at c.in_ok-ended.ensures.content)

pub requests-preserved : goal.requests-preserved
requests-preserved g c =
    let i = c.requests.invariant in
    let n = c.serve_next.new in
    let e = c.in_ok-ended.ensures in
    record {
      stays = stays_on _ _ _ i.stays e.stays;
      underway = becomes_at _ _ _ _ _ _ _ _ _ _ _ n.volume _ (g.S.Source.left n.input) _ (g.K.Sink.taken n.out) (Ok None) i.stays.same_home i.stays.same_most i.underway c.saturating_add-request.ensures (rw c.in-None-2.is at e.content);
      calm_source = e.faults.0 ∙ i.calm_source;
      calm_sink = e.faults.1 ∙ i.calm_sink;
    }
