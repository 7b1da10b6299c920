use Rattle.index_tests.specs.Below.{AreBelow}
use Rattle.index_tests.proofs.tests.many.records.Given as goal

abbrev pub invariant-loop-version : goal.invariant-loop-version
invariant-loop-version l = AreBelow l.version l.index.entries
