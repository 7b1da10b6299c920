use Rattle.index_tests.specs.Below.{AreBelow}
use Rattle.index_tests.proofs.tests.many.drain.Given as goal

abbrev pub invariant-loop-step : goal.invariant-loop-step
invariant-loop-step l = AreBelow l.count l.index.entries
