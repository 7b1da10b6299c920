use Rattle.turn_lock.proofs.making.lock_over.Given as goal

abbrev pub ghost-pick : goal.ghost-pick
ghost-pick g a = g.base
