use Rattle.std.proofs.Common.{◌-◌, length}
use Rattle.manager.proofs.ReadRuns.{HasRead}
use Rattle.manager.proofs.manager.Manager.read_runs.Given as goal

abbrev pub invariant-runs : goal.invariant-runs
invariant-runs g l = HasRead g.D.Disk.tells g.D.Disk.state l.shared l.initial.self l.self l.lbn (length l.initial.out) l.done l.out l.sources

abbrev pub decreases-runs : goal.decreases-runs
decreases-runs g l = length l.initial.out - l.done
