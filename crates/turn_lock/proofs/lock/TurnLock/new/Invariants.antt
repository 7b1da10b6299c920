use Rattle.turn_lock.proofs.lock.TurnLock.new.Given as goal

abbrev pub ghost-lock_over : goal.ghost-lock_over
ghost-lock_over g a = g.base

abbrev pub ghost-issue : goal.ghost-issue
ghost-issue g a = g.base
