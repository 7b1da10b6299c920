use Rattle.wol_promise.specs.Code.{code_of}
use Rattle.request_turns.proofs.noted.leave_noted_in_place.Given as goal

abbrev pub ghosts-leave_in_place : goal.ghosts-leave_in_place
ghosts-leave_in_place g a = record { operation = code_of g.N.Memo.note }
