use Rattle.rack_parts.proofs.Basics.{◌≤◌, length, vec_capacity}
use Rattle.rack_parts.proofs.LanesTaken.{AreLanesTaken}
use Rattle.rack_parts.proofs.rack.Rest.take_lanes.Given as goal

abbrev pub invariant-loop-logger : goal.invariant-loop-logger
invariant-loop-logger g l = record {
  taken : AreLanesTaken g.D.Disk.state l.config l.view l.id l.fn.self l.self l.lanes.items l.logger-index;
  room : length l.view ≤ vec_capacity l.lanes;
}
