use Rattle.std.proofs.Common.{inl, refl}
use Rattle.wol_disk.proofs.Calls.{after_sync}
use Rattle.spin_model.specs.Spun.{disk_of}
use Rattle.volume_images.proofs.content.store_content.Goals as goal

pub returns-in-Nothing-clause-images : goal.returns-in-Nothing-clause-images
returns-in-Nothing-clause-images g c = λ d i.
    (d, after_sync c.sync.result (g.D.Disk.state (disk_of c.args.part.now)).values (g.D.Disk.state (disk_of c.sync.new.self)).values d c.sync.ensures.ok c.sync.ensures.err i, inl refl)
