use Rattle.std.proofs.lemmas.Result.{on_ok_weaker}
use Rattle.spin_model.specs.Spun.{disk_of}
use Rattle.logger_view.proofs.Places.{free_stored}
use Rattle.logger_view.proofs.storing.store_free.Goals as goal

pub returns-clause-ok : goal.returns-clause-ok
returns-clause-ok g c =
    on_ok_weaker c.store_block.result
    (λ s. λ d i. free_stored c.write_seg.new.b d _ (g.met.D.Disk.sound (disk_of c.args.part.now)) c.requires.size c.write_seg.ensures s i)
    c.store_block.ensures.settles
