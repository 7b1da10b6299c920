use Rattle.std.proofs.Common.{false}
use Rattle.turn_lock.specs.Passes.{pass_number}
use Rattle.manager.specs.Answers.{written}
use Rattle.request_turns.specs.Entries.{note_of, full_note}
use Rattle.request_turns.specs.Turns.{look_in_place, passed_in_place}
use Rattle.request_turns.proofs.write.write_within.Given as goal

abbrev pub ghosts-leave_written : goal.ghosts-leave_written
ghosts-leave_written g a = record { note = note_of (pass_number a.pass.now) (written g.B.Memo.next a.lbn a.from.now a.answer.now) (look_in_place a.pass.now) (passed_in_place a.pass.now) false; next = 0 }

abbrev pub ghosts-drain_and_write : goal.ghosts-drain_and_write
ghosts-drain_and_write g a = record { note = full_note (pass_number a.pass.now) (look_in_place a.pass.now) (passed_in_place a.pass.now); next = 0 }
