use Rattle.rack_parts.proofs.Basics.{◌≤◌, vec_capacity}
use Rattle.rack_parts.proofs.Terms.{owned_total}
use Rattle.rack_parts.proofs.OwnedTaken.{AreOwnedTo}
use Rattle.rack_parts.proofs.rack.Rest.take_owned.Given as goal

abbrev pub invariant-loop-logger : goal.invariant-loop-logger
invariant-loop-logger g l = record {
  taken : AreOwnedTo l.config l.said l.id l.fn.self l.self l.owned.items l.logger;
  room : owned_total l.id l.said ≤ vec_capacity l.owned;
}
