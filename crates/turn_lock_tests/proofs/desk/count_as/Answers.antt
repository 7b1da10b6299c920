use Rattle.turn_lock_tests.proofs.desk.count_as.Goals as goal

pub leave_as-requires-clause-value : goal.leave_as-requires-clause-value
leave_as-requires-clause-value g c = c.count_turn.ensures _ _ _ c.enter-turn.ensures.value
