use Rattle.std.proofs.Common.{◌≡◌, ◌≤◌, ◌+◌, ◌++◌, map, reverse, vec_len, vec_capacity}
use Rattle.log_segment.specs.Segment.{part_of}
use Rattle.logger.specs.declared.lane.HeldSegment.{HeldSegment}
use Rattle.logger.proofs.lane.Lane.release.Given as goal

abbrev pub invariant-loop-index : goal.invariant-loop-index
invariant-loop-index g l = record {
  kept : l.parts.items ++ map (λ (h : HeldSegment g.row.D.Denot). (h.index, part_of h.segment)) (reverse l.held.items) ≡ map (λ (h : HeldSegment g.row.D.Denot). (h.index, part_of h.segment)) l.fn.self.held.items;
  room : vec_len l.parts + vec_len l.held ≤ vec_capacity l.parts;
}

abbrev pub decreases-loop-index : goal.decreases-loop-index
decreases-loop-index g l = vec_len l.held
