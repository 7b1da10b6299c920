use Rattle.spin_model.proofs.uses.give_token.Given as goal

abbrev pub ghosts-leave : goal.ghosts-leave
ghosts-leave g a = record { operation = a.operation.now }
