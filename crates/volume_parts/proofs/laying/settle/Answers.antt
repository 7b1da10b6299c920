-- A sync.
use Rattle.volume_parts.proofs.Accesses.{synced_so}
use Rattle.volume_parts.proofs.laying.settle.Goals as goal

pub returns : goal.returns
returns g c =
    let e = c.sync.ensures in
    synced_so g.D.Disk.state g.met.D.Disk.sound c.args.part.now c.sync.new.self c.sync.result e.ok e.err e.passes e.volume
