use Rattle.turn_lock_tests.proofs.tests.turns.numbers.Given as goal

abbrev pub ghost-new : goal.ghost-new
ghost-new a = a.value.count
