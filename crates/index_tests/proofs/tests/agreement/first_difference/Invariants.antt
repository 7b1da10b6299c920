use Rattle.index_tests.specs.Below.{AreBelow}
use Rattle.index_tests.proofs.tests.agreement.first_difference.Given as goal

abbrev pub invariant-loop-next : goal.invariant-loop-next
invariant-loop-next l = AreBelow l.next l.index.entries
