use Rattle.rack_parts.proofs.Basics.{◌≡◌, ◌+◌, length}
use Rattle.rack_parts.proofs.Terms.{held_here}
use Rattle.rack_parts.proofs.Returned.{AreHeldSoFar}
use Rattle.rack_parts.proofs.rack.Rest.put_held.Given as goal

abbrev pub invariant-loop-segment : goal.invariant-loop-segment
invariant-loop-segment g l = record {
  put : AreHeldSoFar l.fn.self l.self l.id l.logger;
  left : length (held_here l.self l.id l.logger) + l._segment ≡ length (held_here l.fn.self l.id l.logger);
}
