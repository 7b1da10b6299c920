use Rattle.std.proofs.Common.{◌/◌, length}
use Rattle.wol_disk.proofs.Images.{adds_none_of, adds_front_of, adds_either}
use Rattle.wol_disk.proofs.stop.StopDiskDisk.write.Goals as goal
use Rattle.wol_disk.proofs.stop.StopDiskDisk.write.Goals.{in-Pass, in-Stop, in-Stopped}

pub returns-then-is_err-clause-err : goal.returns-then-is_err-clause-err
returns-then-is_err-clause-err g c =
    elim c.match-step.branch [
      | in-Pass w ↦ rw (c.fail.ensures.inner, w.self-is, w.written-is) w.write-written.ensures.err
      | in-Stop w ↦ rw (c.fail.ensures.inner, w.self-is, w.written-is)
          (adds_front_of (length c.args.from.now / 2) c.args.at c.args.from.now _ _ (adds_either w.write.result _ _ _ _ w.write.ensures.ok w.write.ensures.err))
      | in-Stopped w ↦ rw (c.fail.ensures.inner, w.self-is, w.written-is) (adds_none_of c.args.at c.args.from.now (g.D.Disk.state c.args.self.now.inner).values)
    ]
