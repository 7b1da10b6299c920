use Rattle.whatif.proofs.Longest.{none_longer}
use Rattle.whatif.proofs.Risers.{risers_wait}
use Rattle.whatif.proofs.laws.waits_laws.Goals as goal

pub returns-clause-most : goal.returns-clause-most
returns-clause-most c = none_longer

pub returns-clause-risers : goal.returns-clause-risers
returns-clause-risers c = risers_wait
