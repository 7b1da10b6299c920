use Rattle.std.proofs.Common.{ℕ, ◌<◌, ◌≢◌, get_or}
use Rattle.logger.specs.declared.lane.HeldSegment.{HeldSegment}
use Rattle.logger.proofs.read.place_of_index.Given as goal

abbrev pub invariant-loop-place : goal.invariant-loop-place
invariant-loop-place g l = (k : ℕ) (d : HeldSegment g.row.D.Denot) → k < l.place → (get_or l.held k d).index ≢ l.index
