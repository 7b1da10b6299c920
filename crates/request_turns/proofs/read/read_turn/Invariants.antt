use Rattle.std.proofs.Common.{[], false}
use Rattle.turn_lock.specs.Passes.{pass_number}
use Rattle.manager.specs.Answers.{was_read}
use Rattle.request_turns.specs.Entries.{note_of}
use Rattle.request_turns.specs.Turns.{look_in_place}
use Rattle.request_turns.proofs.read.read_turn.Given as goal

abbrev pub ghosts-leave_reply : goal.ghosts-leave_reply
ghosts-leave_reply g a = record { note = note_of (pass_number a.pass.now) (was_read a.lbn a.reply.now.value.items a.answer.now) (look_in_place a.pass.now) [] false; next = 0 }
