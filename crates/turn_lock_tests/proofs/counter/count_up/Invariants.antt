use Rattle.std.proofs.Common.{◌∷◌, []}
use Rattle.turn_lock_tests.proofs.counter.count_up.Given as goal

abbrev pub ghosts-leave : goal.ghosts-leave
ghosts-leave g a = record { operation = 1 ∷ [] }
