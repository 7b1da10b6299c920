use Rattle.turn_lock.specs.Passes.{pass_number}
use Rattle.manager.specs.Seen.{look_of_manager}
use Rattle.view_change.specs.Drained.{drain_note, drain_operation}
use Rattle.view_change.proofs.draining.drain_turn.Given as goal

abbrev pub ghosts-leave_drained : goal.ghosts-leave_drained
ghosts-leave_drained g a = record { note = drain_note (pass_number a.pass.now) (drain_operation a.answer.now) (look_of_manager a.turn.value); next = 0 }
