use Rattle.rack_parts.proofs.Basics.{vec_len}
use Rattle.rack_parts.proofs.LanesMoved.{ArePutSoFar}
use Rattle.rack_parts.proofs.rack.Rest.put_lanes.Given as goal

abbrev pub invariant-loop-lane : goal.invariant-loop-lane
invariant-loop-lane g l = ArePutSoFar g.D.Disk.state l.fn.self l.self l.id l.fn.lanes.items l.lanes.items

abbrev pub decreases-loop-lane : goal.decreases-loop-lane
decreases-loop-lane g l = vec_len l.lanes
