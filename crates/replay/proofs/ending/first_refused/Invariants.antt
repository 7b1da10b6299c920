use Rattle.replay.proofs.Basics.{◌≡◌, drop}
use Rattle.replay.proofs.Terms.{first_refused}
use Rattle.replay.proofs.ending.first_refused.Given as goal

abbrev pub invariant-loop-at : goal.invariant-loop-at
invariant-loop-at l = first_refused l.requests l.outcomes ≡ first_refused (drop l.at l.requests) (drop l.at l.outcomes)
