use Rattle.std.proofs.Common.{length, ◌-◌}
use Rattle.window_desks.specs.Served.{HasServedUpTo}
use Rattle.window_desks.proofs.serve.serve_desk.Given as goal

abbrev pub invariant-batches : goal.invariant-batches
invariant-batches g l = HasServedUpTo g.D.Disk.tells 0 l.next l.initial.desk l.desk

abbrev pub decreases-batches : goal.decreases-batches
decreases-batches g l = length l.initial.desk.requests.items - l.next
