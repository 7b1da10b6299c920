use Rattle.turn_lock_tests.proofs.tests.turns.counted_within.Given as goal

abbrev pub ghost-new : goal.ghost-new
ghost-new g a = a.value.count
