use Rattle.manager_recovery.proofs.listing.first_twins.Goals as goal
use Rattle.manager_recovery.proofs.FirstTwo.{twins_here, rising_here}

pub returns-then-listed-k : goal.returns-then-listed-k
returns-then-listed-k c = twins_here c.args.listed.now c.loop-k.k _ c.requires c.loop-k.auto.k c.loop-k-test.true c.loop-k.invariant c.if-listed-k.true

pub loop-k-preserved : goal.loop-k-preserved
loop-k-preserved c = rising_here c.args.listed.now c.loop-k.k _ c.requires c.loop-k.auto.k c.loop-k-test.true c.loop-k.invariant c.if-listed-k.false
