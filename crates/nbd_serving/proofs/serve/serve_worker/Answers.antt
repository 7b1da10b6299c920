use Rattle.std.proofs.Common.{◌≡◌, sym}
use Rattle.nbd_session.proofs.Served.{unbegun}
use Rattle.nbd_serving.proofs.serve.serve_worker.Goals as goal

pub returns-in_default-clause-session : goal.returns-in_default-clause-session
returns-in_default-clause-session g c = unbegun _ _ _ _ _ _

pub returns-clause-ready : goal.returns-clause-ready
returns-clause-ready g c =
    let same : c.serve_volume.new.volume.worker.now ≡ c.worker-1.given.0 = sym (c.worker-1.given.1 (sym c.serve_volume.ensures.same_reference)) in
    rw same at c.serve_volume.ensures.ready

pub returns-clause-session : goal.returns-clause-session
returns-clause-session g c =
    let same : c.serve_volume.new.volume.worker.now ≡ c.worker-1.given.0 = sym (c.worker-1.given.1 (sym c.serve_volume.ensures.same_reference)) in
    rw same at c.serve_volume.ensures.session
