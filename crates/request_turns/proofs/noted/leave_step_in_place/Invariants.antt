use Rattle.turn_lock.specs.Passes.{pass_number}
use Rattle.request_turns.specs.Stepped.{step_note}
use Rattle.request_turns.specs.Turns.{look_in_place}
use Rattle.request_turns.proofs.noted.leave_step_in_place.Given as goal

abbrev pub ghosts-leave_named_in_place : goal.ghosts-leave_named_in_place
ghosts-leave_named_in_place g a = record { note = step_note (pass_number a.pass.now) a.failed (look_in_place a.pass.now); next = 0 }
