use Rattle.std.proofs.Common.{◌-◌, length}
use Rattle.reclaimer.proofs.LaidSoFar.{LaidSoFar}
use Rattle.reclaimer.proofs.group.lay_group.Given as goal

abbrev pub invariant-records : goal.invariant-records
invariant-records g l = LaidSoFar g.D.Disk.tells g.D.Disk.state l.shared l.any l.initial.m l.m l.group.items l.from

abbrev pub decreases-records : goal.decreases-records
decreases-records g l = 128 - length l.group.items
