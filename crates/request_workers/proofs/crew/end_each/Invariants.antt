use Rattle.std.proofs.Common.{◌≡◌, ◌≤◌, ◌<◌, ℕ, length, slice_index_or}
use Rattle.errands.specs.Ends.{IsOver}
use Rattle.errands.specs.declared.ends.Errands.{Errands}
use Rattle.request_workers.specs.declared.crew.Seat.{Seat}
use Rattle.request_workers.specs.declared.job.Job.{Job}
use Rattle.request_workers.proofs.crew.end_each.Given as goal

abbrev pub invariant-loop-k : goal.invariant-loop-k
invariant-loop-k g l = record {
  count : length l.seats ≡ length l.initial.seats;
  before : (j : ℕ) (e : Errands (Job g.row.D.Denot)) (s : Seat g.row.D.Denot) → j < l.k → IsOver (slice_index_or l.errands j e) (slice_index_or l.seats j s).sender;
  after : (j : ℕ) (s : Seat g.row.D.Denot) → l.k ≤ j → slice_index_or l.seats j s ≡ slice_index_or l.initial.seats j s;
}
