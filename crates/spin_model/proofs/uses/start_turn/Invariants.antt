use Rattle.spin_model.proofs.uses.start_turn.Given as goal

abbrev pub ghosts-leave : goal.ghosts-leave
ghosts-leave g a = record { operation = a.operation.now }
