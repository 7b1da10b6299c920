use Rattle.turn_lock.specs.Passes.{pass_number}
use Rattle.manager.specs.Seen.{look_of_manager}
use Rattle.inspection.specs.Faults.{was_told}
use Rattle.inspection.specs.Looks.{note_told}
use Rattle.inspection.proofs.turn.look.Given as goal

abbrev pub ghosts-leave_told : goal.ghosts-leave_told
ghosts-leave_told g a = record { note = note_told (pass_number a.pass.now) (was_told a.answer.now) (look_of_manager a.turn.value); next = 0 }
