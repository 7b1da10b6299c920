use Rattle.whatif.proofs.Nobody.{longest_is_wake}
use Rattle.whatif.proofs.Windows.{each_up_is_waited}
use Rattle.whatif.proofs.laws.risers_laws.Goals as goal

pub returns-clause-each : goal.returns-clause-each
returns-clause-each c = each_up_is_waited

pub returns-clause-longest : goal.returns-clause-longest
returns-clause-longest c = longest_is_wake
