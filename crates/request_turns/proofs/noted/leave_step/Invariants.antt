use Rattle.turn_lock.specs.Passes.{pass_number}
use Rattle.manager.specs.Seen.{look_of_manager}
use Rattle.request_turns.specs.Stepped.{step_note}
use Rattle.request_turns.proofs.noted.leave_step.Given as goal

abbrev pub ghosts-leave_named : goal.ghosts-leave_named
ghosts-leave_named g a = record { note = step_note (pass_number a.pass.now) a.failed (look_of_manager a.turn.value); next = 0 }
