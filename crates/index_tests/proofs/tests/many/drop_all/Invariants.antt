use Rattle.index_tests.specs.Below.{AreBelow}
use Rattle.index_tests.proofs.tests.many.drop_all.Given as goal

abbrev pub invariant-loop-version : goal.invariant-loop-version
invariant-loop-version l = AreBelow l.count l.index.entries
