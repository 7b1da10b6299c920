use Rattle.turn_lock_tests.proofs.desk.work_once.Goals as goal

pub leave_as-requires-clause-value : goal.leave_as-requires-clause-value
leave_as-requires-clause-value g c = c.work.ensures _ _ _ c.enter-turn.ensures.value
