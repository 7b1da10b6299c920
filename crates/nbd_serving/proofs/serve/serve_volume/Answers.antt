use Rattle.nbd_serving.proofs.Making.{still}
use Rattle.nbd_serving.proofs.WorkerServing.{same_pass, same_reference, seen}
use Rattle.nbd_serving.proofs.serve.serve_volume.Goals as goal

pub returns-clause-same_reference : goal.returns-clause-same_reference
returns-clause-same_reference g c = same_reference g.D.Disk.tells c.args.volume.now.home c.args.volume.now.most c.args.volume.now c.serve.new.volume _ _ _ _ c.serve.result c.serve.ensures.session

pub returns-clause-ready : goal.returns-clause-ready
returns-clause-ready g c =
    still c.args.volume.now.lock.now c.args.volume.now.worker.now c.serve.new.volume.worker.now c.args.volume.now.shared.now c.args.volume.now.home c.args.volume.now.most
    (same_pass g.D.Disk.tells c.args.volume.now.home c.args.volume.now.most c.args.volume.now c.serve.new.volume _ _ _ _ c.serve.result c.serve.ensures.session) c.serve.ensures.ready.free c.requires

pub returns-clause-session : goal.returns-clause-session
returns-clause-session g c = seen g.D.Disk.tells c.args.volume.now.home c.args.volume.now.most c.args.volume.now c.serve.new.volume _ _ _ _ c.serve.result c.serve.ensures.session
