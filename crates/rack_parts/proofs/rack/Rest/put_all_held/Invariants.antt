use Rattle.rack_parts.proofs.Returned.{AreBackOf}
use Rattle.rack_parts.proofs.rack.Rest.put_all_held.Given as goal

-- the lists of the volumes so far are in their places
abbrev pub invariant-loop-volume : goal.invariant-loop-volume
invariant-loop-volume g l = record { back : AreBackOf l.id l.initial.self l.volume l.self }
