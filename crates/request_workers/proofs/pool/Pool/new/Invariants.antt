use Rattle.request_workers.specs.Crews.{IsPool}
use Rattle.request_workers.proofs.pool.Pool.new.Given as goal

abbrev pub invariant-loop : goal.invariant-loop
invariant-loop g l = IsPool l.pool
