use Rattle.std.proofs.Common.{◌≡◌, ◌+◌, length}
use Rattle.turn_lock.specs.Passes.{IsPassOf, IsFree, pass_mine}
use Rattle.turn_lock_tests.proofs.tests.turns.many.Given as goal

abbrev pub invariant-loop : goal.invariant-loop
invariant-loop g l = IsPassOf l.lock l.pass × IsFree l.pass × (length (pass_mine l.pass) ≡ length (pass_mine l.fn.pass) + l.counter)
