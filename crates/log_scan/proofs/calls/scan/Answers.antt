use Rattle.std.proofs.Common.{option_map, ◌∙◌, ap}
use Rattle.wol_disk.specs.Disk.{settled, reads}
use Rattle.wol_disk.proofs.Moments.{then_leaves}
use Rattle.wol_disk.proofs.Calls.{sync_goes_on, now_leaves}
use Rattle.spin_model.specs.Spun.{disk_of}
use Rattle.log_scan.proofs.Blocks.{begun}
use Rattle.log_scan.proofs.calls.scan.Goals as goal

pub returns-in-Ok-clause-damaged : goal.returns-in-Ok-clause-damaged
returns-in-Ok-clause-damaged g c vs block is e = c.read_segment.ensures.damaged (reads vs) block (c.in-Ok.ensures.ok ∙ ap (option_map settled) is) e

pub returns-in-Ok-clause-any_moment : goal.returns-in-Ok-clause-any_moment
returns-in-Ok-clause-any_moment g c =
    let sound = g.met.D.Disk.sound in
    let synced = sync_goes_on c.sync.result (begun (sound (disk_of c.args.part.now))) (sound (disk_of c.args.part.now)) c.sync.ensures.ok c.sync.ensures.err c.sync.ensures.passes in
    then_leaves synced c.read_segment.ensures.kept.any_moment (now_leaves synced (sound (disk_of c.sync.new.self)))
