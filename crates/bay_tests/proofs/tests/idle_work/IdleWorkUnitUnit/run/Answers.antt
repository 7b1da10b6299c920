use Rattle.bay_tests.proofs.Idle.{again_self}
use Rattle.bay_tests.proofs.tests.idle_work.IdleWorkUnitUnit.run.Goals as goal

pub returns-clause-again : goal.returns-clause-again
returns-clause-again g c = again_self _
