use Rattle.std.proofs.Common.{ℕ, ◌<◌, get_or}
use Rattle.log_segment.specs.Segment.{room_of}
use Rattle.logger.specs.declared.lane.HeldSegment.{HeldSegment}
use Rattle.logger.proofs.secure.first_with_room.Given as goal

abbrev pub invariant-loop-place : goal.invariant-loop-place
invariant-loop-place g l = (k : ℕ) (d : HeldSegment g.row.D.Denot) → k < l.place → room_of (get_or l.held k d).segment < l.count
