use Rattle.std.proofs.Common.{arith}
use Rattle.std.proofs.lemmas.Result.{on_ok_weaker}
use Rattle.spin_model.specs.Spun.{disk_of}
use Rattle.log_layout.specs.Values.{shape_of}
use Rattle.logger_view.proofs.Places.{label_stored}
use Rattle.logger_view.proofs.storing.store_label.Goals as goal

pub returns-clause-ok : goal.returns-clause-ok
returns-clause-ok g c =
    on_ok_weaker c.store_block.result
    (λ s. λ d i. label_stored c.args.label.now.id (shape_of c.args.label.now) c.write_label.new.b d _ (g.met.D.Disk.sound (disk_of c.args.part.now)) (omega (arith, c.requires.size)) (omega arith) c.requires.label c.write_label.ensures s i)
    c.store_block.ensures.settles
