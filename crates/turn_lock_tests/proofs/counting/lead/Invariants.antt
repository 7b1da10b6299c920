use Rattle.std.proofs.Common.{◌≡◌}
use Rattle.errands.specs.Ends.{IsIdle}
use Rattle.turn_lock_tests.proofs.counting.lead.Given as goal

abbrev pub invariant-loop : goal.invariant-loop
invariant-loop g l = (l.value ≡ l.counter) × IsIdle l.errands l.sender
