use Rattle.run_laws.proofs.GoOn.{histories_go_on}
use Rattle.run_laws.proofs.laws.reopening_laws.Goals as goal

pub returns : goal.returns
returns c = record { go_on = histories_go_on }
