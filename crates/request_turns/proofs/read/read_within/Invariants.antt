use Rattle.std.proofs.Common.{[], false}
use Rattle.turn_lock.specs.Passes.{pass_number}
use Rattle.manager.specs.Answers.{was_read}
use Rattle.manager.specs.Seen.{look_of_manager}
use Rattle.request_turns.specs.Entries.{note_of}
use Rattle.request_turns.proofs.read.read_within.Given as goal

abbrev pub ghosts-leave_read : goal.ghosts-leave_read
ghosts-leave_read g a = record { note = note_of (pass_number a.pass.now) (was_read a.lbn a.out.now a.answer.now) (look_of_manager a.turn.value) [] false; next = 0 }
