use Rattle.std.proofs.Common.{◌≡◌, ◌<◌, ◌+◌, ℕ, take, drop, length, reverse, slice_index_or}
use Rattle.std.specs.Vec.{vec_capacity}
use Rattle.window_desks.specs.declared.desk.Desk.{Desk}
use Rattle.window_desks.specs.Collects.{IsTaken}
use Rattle.window_desks.proofs.gather.collect.Given as goal

abbrev pub invariant-loop-left : goal.invariant-loop-left
invariant-loop-left g l = record {
  each : (k : ℕ) (d : Desk g.row.D.Denot) → k < length l.initial.desks → IsTaken (take l.left l.requests) (drop l.left l.requests) (reverse l.out.items) k (slice_index_or l.initial.desks k d) (slice_index_or l.desks k d);
  count : length l.out.items + l.left ≡ length l.requests;
  room : vec_capacity l.out ≡ vec_capacity l.initial.out;
}

abbrev pub decreases-loop-left : goal.decreases-loop-left
decreases-loop-left g l = l.left
