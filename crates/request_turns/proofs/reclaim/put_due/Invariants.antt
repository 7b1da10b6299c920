use Rattle.std.proofs.Common.{◌≤◌}
use Rattle.wol_model.specs.Index.{listed_in, left}
use Rattle.request_turns.proofs.Reclaiming.{Done}
use Rattle.request_turns.proofs.reclaim.put_due.Given as goal

abbrev pub invariant-steps : goal.invariant-steps
invariant-steps g l = record {
  reclaims : Done g.D.Disk.tells g.D.Disk.state l.shared l.initial.tally l.tally l.initial.m l.m;
  no_more : left (listed_in l.m.index.entries) ≤ left (listed_in l.initial.m.index.entries);
}

abbrev pub decreases-steps : goal.decreases-steps
decreases-steps g l = left (listed_in l.m.index.entries)
