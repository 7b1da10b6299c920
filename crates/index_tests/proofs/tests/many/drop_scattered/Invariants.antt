use Rattle.index_tests.specs.Below.{AreBelow}
use Rattle.index_tests.proofs.tests.many.drop_scattered.Given as goal

abbrev pub invariant-loop-step : goal.invariant-loop-step
invariant-loop-step l = AreBelow l.count l.index.entries
