use Rattle.rack_parts.proofs.Basics.{vec_len}
use Rattle.rack_parts.proofs.Returned.{AreOwnedPutSoFar}
use Rattle.rack_parts.proofs.rack.Rest.put_opening.Given as goal

abbrev pub invariant-loop-logger : goal.invariant-loop-logger
invariant-loop-logger g l = AreOwnedPutSoFar l.initial.self l.self l.initial.owned.items l.owned.items

abbrev pub decreases-loop-logger : goal.decreases-loop-logger
decreases-loop-logger g l = vec_len l.owned
