use Rattle.errands.specs.Ends.{IsWaiting}
use Rattle.request_workers.proofs.work.work.Given as goal

abbrev pub invariant-loop : goal.invariant-loop
invariant-loop g l = IsWaiting l.errands l.worker
