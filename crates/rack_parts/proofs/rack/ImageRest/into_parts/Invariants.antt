use Rattle.rack_parts.proofs.Basics.{◌≡◌, ◌≤◌, ◌+◌, ◌++◌, map, reverse, Some, vec_len, vec_capacity, All, IsSome}
use Rattle.rack_parts.proofs.Terms.{Spun}
use Rattle.rack_parts.proofs.rack.ImageRest.into_parts.Given as goal

-- the segments so far, and those that are left, the last one first
abbrev pub invariant-loop-segment : goal.invariant-loop-segment
invariant-loop-segment g l = record {
  kept : map (λ (p : Spun g.row.D.Denot). Some p) l.row.items ++ reverse l.segments.items ≡ l.fn.self.segments.items;
  here : All (λ o. IsSome o) l.segments.items;
  room : vec_len l.row + vec_len l.segments ≤ vec_capacity l.row;
}

abbrev pub decreases-loop-segment : goal.decreases-loop-segment
decreases-loop-segment g l = vec_len l.segments
