-- One of several disks is used.
use Rattle.std.proofs.Common.{None, false, get_or}
use Rattle.whatif.proofs.Spinning.{disk_changed, got, moments_kept, used_again}
use Rattle.whatif.proofs.disk.access_at.Goals as goal

pub returns-clause-moments : goal.returns-clause-moments
returns-clause-moments c = moments_kept c.args.disks.now c.args.disk (get_or c.args.disks.now c.args.disk (record { from = 0; moment = 0; awake = false; since = 0; wakes = 0; sleeps = 0; standby = 0; up_at = None })) c.access.new.self c.access.ensures.moment (got c.args.disks.now c.args.disk _ c.requires.within)

pub returns-clause-stands : goal.returns-clause-stands
returns-clause-stands c = λ t ss are. disk_changed t c.args.disks.now ss c.args.disk (get_or c.args.disks.now c.args.disk (record { from = 0; moment = 0; awake = false; since = 0; wakes = 0; sleeps = 0; standby = 0; up_at = None })) c.access.new.self (λ s is. c.access.ensures.stands t s is) (got c.args.disks.now c.args.disk _ c.requires.within) are

pub returns-clause-again : goal.returns-clause-again
returns-clause-again c = λ t ss are. used_again t c.args.disks.now ss c.args.disk c.access.new.self c.access.ensures.awake c.access.ensures.now c.requires.within are
