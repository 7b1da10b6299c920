use Rattle.std.proofs.Common.{[]}
use Rattle.log_cleaner.proofs.copies.no_copies.Given as goal

abbrev pub ghost-pick : goal.ghost-pick
ghost-pick a = record { marker = record {}; items = [] }
