use Rattle.wol_promise.specs.Code.{code_of}
use Rattle.request_turns.proofs.noted.leave_noted.Given as goal

abbrev pub ghosts-leave : goal.ghosts-leave
ghosts-leave g a = record { operation = code_of g.N.Memo.note }
