use Rattle.std.specs.Prelude.{is_ok}
use Rattle.turn_lock.specs.Passes.{pass_number}
use Rattle.manager.specs.Answers.{written}
use Rattle.request_turns.specs.Entries.{note_of}
use Rattle.request_turns.specs.Turns.{look_in_place}
use Rattle.request_turns.proofs.drain.write_home.Given as goal

abbrev pub ghosts-leave_written : goal.ghosts-leave_written
ghosts-leave_written g a = record { note = note_of (pass_number a.pass.now) (written g.B.Memo.next a.lbn a.from.now a.answer.now) (look_in_place a.pass.now) g.B.Memo.note.passed (is_ok a.answer.now); next = 0 }
