use Rattle.log_cleaner.proofs.copies.copies_behind.Given as goal

abbrev pub ghost-pick : goal.ghost-pick
ghost-pick g a = record { marker = record {}; items = g.copies }
