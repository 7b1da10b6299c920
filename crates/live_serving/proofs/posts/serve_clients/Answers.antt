use Rattle.nbd_serving.proofs.Making.{still}
use Rattle.live_serving.proofs.Clients.{same_pass, same_reference, seen}
use Rattle.live_serving.proofs.posts.serve_clients.Goals as goal

pub returns-clause-same_reference : goal.returns-clause-same_reference
returns-clause-same_reference g c = same_reference g.D.Disk.tells _ _ _ _ _ _ _ _ _ c.args.volume.now _ c.serve_door.new.volume c.serve_door.ensures.served

pub returns-clause-ready : goal.returns-clause-ready
returns-clause-ready g c =
    still c.args.volume.now.lock.now c.args.volume.now.worker.now c.serve_door.new.volume.worker.now c.args.volume.now.shared.now c.args.volume.now.home c.args.volume.now.most
    (same_pass g.D.Disk.tells _ _ _ _ _ _ _ _ _ c.args.volume.now _ c.serve_door.new.volume c.serve_door.ensures.served) c.serve_door.ensures.stays.ready.free c.requires.ready

pub returns-clause-served : goal.returns-clause-served
returns-clause-served g c = seen g.D.Disk.tells _ _ _ _ _ _ _ _ _ c.args.volume.now _ c.serve_door.new.volume c.serve_door.ensures.served
