use Rattle.std.proofs.Common.{[], false}
use Rattle.turn_lock.specs.Passes.{pass_number}
use Rattle.wol_model.specs.History.{Broke}
use Rattle.request_turns.specs.Entries.{note_of}
use Rattle.request_turns.specs.Turns.{look_in_place, next_in_place}
use Rattle.request_turns.proofs.drain.drain_and_write.Given as goal

abbrev pub ghosts-write_home : goal.ghosts-write_home
ghosts-write_home g a = record { note = g.B.Memo.note; next = next_in_place a.pass.now }

abbrev pub ghosts-leave_broken : goal.ghosts-leave_broken
ghosts-leave_broken g a = record { note = note_of (pass_number a.pass.now) (Broke []) (look_in_place a.pass.now) g.B.Memo.note.passed false; next = 0 }
