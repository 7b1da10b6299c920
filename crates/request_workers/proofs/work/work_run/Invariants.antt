use Rattle.std.proofs.Common.{◌≡◌, ◌≤◌, ◌<◌, ◌+◌, ℕ, length, slice_index_or}
use Rattle.errands.specs.Ends.{IsTold}
use Rattle.errands.specs.declared.ends.Errands.{Errands}
use Rattle.errands.specs.declared.ends.Worker.{Worker}
use Rattle.request_workers.proofs.work.work_run.Given as goal

abbrev pub invariant-loop-k : goal.invariant-loop-k
invariant-loop-k g l = record {
  count : length l.run ≡ length l.initial.run;
  told : (j : ℕ) (e : Errands g.row.T.Denot) (w : Worker g.row.T.Denot) → j < l.k → IsTold (slice_index_or l.errands (l.start + j) e) (slice_index_or l.run j w);
  after : (j : ℕ) (w : Worker g.row.T.Denot) → l.k ≤ j → slice_index_or l.run j w ≡ slice_index_or l.initial.run j w;
}
