use Rattle.std.proofs.Common.{arith}
use Rattle.std.proofs.lemmas.Result.{on_ok_weaker}
use Rattle.spin_model.specs.Spun.{disk_of}
use Rattle.logger_view.proofs.Places.{view_stored}
use Rattle.logger_view.proofs.storing.store_view.Goals as goal

pub returns-clause-ok : goal.returns-clause-ok
returns-clause-ok g c =
    on_ok_weaker c.store_block.result
    (λ s. λ d i. view_stored c.args.view.now c.write_view.new.b d _ (g.met.D.Disk.sound (disk_of c.args.part.now)) (omega (arith, c.requires.size)) c.ids-ids.ensures.valid c.write_view.ensures s i)
    c.store_block.ensures.settles
