use Rattle.std.proofs.Common.{◌-◌}
use Rattle.window_desks.specs.Served.{HasServedUpTo}
use Rattle.window_desks.proofs.serve.serve_batch.Given as goal

abbrev pub invariant-turns : goal.invariant-turns
invariant-turns g l = HasServedUpTo g.D.Disk.tells l.at l.next l.initial.desk l.desk

abbrev pub decreases-turns : goal.decreases-turns
decreases-turns g l = l.end - l.next
