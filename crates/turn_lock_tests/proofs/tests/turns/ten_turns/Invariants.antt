use Rattle.turn_lock.specs.Passes.{IsPassOf, IsFree}
use Rattle.turn_lock_tests.proofs.tests.turns.ten_turns.Given as goal

abbrev pub invariant-loop : goal.invariant-loop
invariant-loop g l = IsPassOf l.lock l.pass × IsFree l.pass
