use Rattle.std.proofs.Common.{◌<◌, length, arith}
use Rattle.report.specs.Names.{printed_names}
use Rattle.report.proofs.totals.put_disks.Goals as goal
use Rattle.report.proofs.VolumeLines.{put_volume}

pub loop-number-preserved : goal.loop-number-preserved
loop-number-preserved c =
    let counted : c.loop-number.number < length c.args.amounts.now = omega arith in
    let named : c.loop-number.number < length (printed_names c.args.volumes.now) = omega arith in
    put_volume (printed_names c.args.volumes.now) c.args.amounts.now c.loop-number.number _ _ _ _ _ _ named counted c.loop-number.invariant c.name_at.ensures c.in_ok-append_volume.ensures.ok
