use Rattle.std.proofs.Common.{false, take}
use Rattle.turn_lock.specs.Passes.{pass_number}
use Rattle.manager.specs.Groups.{run_writes, run_written}
use Rattle.request_turns.specs.Entries.{note_of, full_note}
use Rattle.request_turns.specs.Turns.{look_in_place, passed_in_place}
use Rattle.request_turns.proofs.group.write_run_within.Given as goal

abbrev pub ghosts-leave_run : goal.ghosts-leave_run
ghosts-leave_run g a = record {
  note = note_of (pass_number a.pass.now) (run_written (run_writes g.B.Memo.next (take a.ran.now.items a.items.now) a.from.now a.ran.now.answer) a.ran.now.answer) (look_in_place a.pass.now) (passed_in_place a.pass.now) false;
  next = 0;
}

abbrev pub ghosts-drain_and_write : goal.ghosts-drain_and_write
ghosts-drain_and_write g a = record { note = full_note (pass_number a.pass.now) (look_in_place a.pass.now) (passed_in_place a.pass.now); next = 0 }
