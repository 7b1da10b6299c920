use Rattle.turn_lock.specs.Passes.{pass_lock, pass_number, pass_mine}
use Rattle.turn_lock_tests.proofs.tests.turns.twenty_turns.Given as goal

abbrev pub ghost-new : goal.ghost-new
ghost-new g a = record { counter = record { marker = record {}; id = pass_lock a.value.counter }; number = pass_number a.value.counter; before = pass_mine a.value.counter }
