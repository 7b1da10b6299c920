use Rattle.std.proofs.Common.{◌≡◌, ◌≤◌, ◌<◌, ℕ, None, slice_index_or}
use Rattle.request_turns.specs.Helped.{HasHelped, AreKept}
use Rattle.window_desks.specs.Counted.{HaveCounted}
use Rattle.window_desks.specs.Helped.{IsCause}
use Rattle.request_turns.specs.Turns.{ManagerPass}
use Rattle.window_desks.proofs.helper.help_round.Given as goal

abbrev pub invariant-loop-k : goal.invariant-loop-k
invariant-loop-k g l = record {
  helped : (j : ℕ) (d : ManagerPass g.row.D.Denot) → j < l.k → HasHelped g.D.Disk.tells (slice_index_or l.initial.helpers j d) (slice_index_or l.helpers j d);
  rest : (j : ℕ) (d : ManagerPass g.row.D.Denot) → l.k ≤ j → slice_index_or l.helpers j d ≡ slice_index_or l.initial.helpers j d;
  cause : IsCause l.helpers l.help.fault;
  all_kept : l.help.fault ≡ None → (j : ℕ) (d : ManagerPass g.row.D.Denot) → j < l.k → AreKept (slice_index_or l.initial.helpers j d) (slice_index_or l.helpers j d);
  refused : l.help.fault ≡ None → l.initial.help.fault ≡ None;
  counted : HaveCounted g.D.Disk.tells l.initial.help.tally l.help.tally l.initial.helpers l.helpers;
}
