use Rattle.manager.specs.Groups.{log_writes}
use Rattle.log_cleaner.proofs.copies.next_copies.Given as goal

abbrev pub ghost-copies_of : goal.ghost-copies_of
ghost-copies_of g a = log_writes a._m.now.next a._chunks.now a._blocks.now
