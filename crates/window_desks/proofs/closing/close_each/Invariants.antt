use Rattle.std.proofs.Common.{◌≡◌, ◌≤◌, ◌<◌, ℕ, slice_index_or}
use Rattle.window_desks.specs.declared.request.Reclaim.TheVariants as reclaim
use Rattle.window_desks.specs.declared.desk.Desk.{Desk}
use Rattle.window_desks.specs.Closed.{HasClosedDesk}
use Rattle.window_desks.proofs.closing.close_each.Given as goal

abbrev pub invariant-loop-k : goal.invariant-loop-k
invariant-loop-k g l = record {
  closed : (j : ℕ) (d : Desk g.row.D.Denot) → j < l.k → HasClosedDesk g.D.Disk.tells reclaim.Between (slice_index_or l.initial.desks j d) (slice_index_or l.desks j d);
  rest : (j : ℕ) (d : Desk g.row.D.Denot) → l.k ≤ j → slice_index_or l.desks j d ≡ slice_index_or l.initial.desks j d;
}
