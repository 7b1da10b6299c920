use Rattle.turn_lock.specs.Passes.{pass_number}
use Rattle.manager.specs.Seen.{look_of_manager}
use Rattle.inspection.specs.Looks.{note_told}
use Rattle.cleaning.specs.Turns.{operation_of}
use Rattle.cleaning.proofs.turn.clean_turn.Given as goal

abbrev pub ghosts-leave_cleaned : goal.ghosts-leave_cleaned
ghosts-leave_cleaned g a = record { note = note_told (pass_number a.pass.now) (operation_of a.done.now.value.items a.answer.now) (look_of_manager a.turn.value); next = 0 }
