use Rattle.rack.proofs.volumes.open_one.Given as goal

abbrev pub ghost-open_locked : goal.ghost-open_locked
ghost-open_locked g a = a.opening
