use Rattle.wol_promise.specs.Code.{no_note}
use Rattle.request_turns.specs.Turns.{next_in_place}
use Rattle.request_turns.proofs.group.write_many_turn.Given as goal

abbrev pub ghosts-write_run_within : goal.ghosts-write_run_within
ghosts-write_run_within g a = record { note = no_note 0; next = next_in_place a.pass.now }
