use Rattle.rack_parts.proofs.Basics.{◌≡◌, ◌≤◌, ◌+◌, ◌++◌, map, reverse, Some, vec_len, vec_capacity}
use Rattle.rack_parts.proofs.Terms.{Spun}
use Rattle.rack_parts.proofs.heads_said.lay_out.Given as goal

-- the segments so far, and those that are left, the last one first
abbrev pub invariant-loop-part : goal.invariant-loop-part
invariant-loop-part g l = record {
  kept : l.segments.items ++ map (λ (p : Spun g.row.D.Denot). Some p) (reverse l.row.items) ≡ map (λ (p : Spun g.row.D.Denot). Some p) l.fn.image.parts.image.segments.items;
  room : vec_len l.segments + vec_len l.row ≤ vec_capacity l.segments;
  capacity : vec_capacity l.row ≡ vec_capacity l.fn.image.parts.image.segments;
}

abbrev pub decreases-loop-part : goal.decreases-loop-part
decreases-loop-part g l = vec_len l.row
