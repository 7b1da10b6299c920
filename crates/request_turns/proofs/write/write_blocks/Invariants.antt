use Rattle.wol_promise.specs.Code.{no_note}
use Rattle.request_turns.specs.Turns.{next_in_place}
use Rattle.request_turns.proofs.write.write_blocks.Given as goal

abbrev pub ghosts-write_within : goal.ghosts-write_within
ghosts-write_within g a = record { note = no_note 0; next = next_in_place a.pass.now }
