use Rattle.std.proofs.Common.{◌≡◌, sym}
use Rattle.live_serving.proofs.posts.serve_at.Goals as goal

pub returns-clause-ready : goal.returns-clause-ready
returns-clause-ready g c =
    let same : c.serve_clients.new.volume.worker.now ≡ c.worker-1.given.0 = sym (c.worker-1.given.1 (sym c.serve_clients.ensures.same_reference)) in
    rw same at c.serve_clients.ensures.ready

pub returns-clause-served : goal.returns-clause-served
returns-clause-served g c =
    let same : c.serve_clients.new.volume.worker.now ≡ c.worker-1.given.0 = sym (c.worker-1.given.1 (sym c.serve_clients.ensures.same_reference)) in
    rw same at c.serve_clients.ensures.served
