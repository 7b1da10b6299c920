use Rattle.errands.specs.Ends.{IsWaiting}
use Rattle.turn_lock_tests.proofs.counting.work.Given as goal

abbrev pub invariant-loop : goal.invariant-loop
invariant-loop g l = IsWaiting l.errands l.worker
