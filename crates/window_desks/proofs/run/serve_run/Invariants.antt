use Rattle.std.proofs.Common.{◌≡◌, ◌≤◌, ◌<◌, ℕ, slice_index_or}
use Rattle.window_desks.specs.declared.desk.Desk.{Desk}
use Rattle.window_desks.specs.Served.{HasServed}
use Rattle.window_desks.proofs.run.serve_run.Given as goal

abbrev pub invariant-loop-k : goal.invariant-loop-k
invariant-loop-k g l = record {
  served : (j : ℕ) (d : Desk g.row.D.Denot) → j < l.k → HasServed g.D.Disk.tells (slice_index_or l.initial.run j d).requests.items (slice_index_or l.initial.run j d) (slice_index_or l.run j d);
  rest : (j : ℕ) (d : Desk g.row.D.Denot) → l.k ≤ j → slice_index_or l.run j d ≡ slice_index_or l.initial.run j d;
}
