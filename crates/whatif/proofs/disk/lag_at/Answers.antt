-- How long one of several disks lets wait.
use Rattle.std.proofs.Common.{None, false, get_or}
use Rattle.whatif.proofs.Spinning.{got}
use Rattle.whatif.proofs.Waiting.{lag_of}
use Rattle.whatif.proofs.disk.lag_at.Goals as goal

pub returns-clause-value : goal.returns-clause-value
returns-clause-value c = λ ss are. lag_of c.args.wake c.lag.result c.args.disks.now ss c.args.disk (get_or c.args.disks.now c.args.disk (record { from = 0; moment = 0; awake = false; since = 0; wakes = 0; sleeps = 0; standby = 0; up_at = None })) are (got c.args.disks.now c.args.disk _ c.requires.within) (λ s is. c.lag.ensures.value s is)
