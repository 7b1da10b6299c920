use Rattle.std.proofs.Common.{◌≡◌}
use Rattle.wol_model.specs.Index.{listed_in, left}
use Rattle.wol_promise.specs.Policy.{drained}
use Rattle.manager.specs.Seen.{look_of_manager}
use Rattle.manager.specs.Stands.{IsReady, IsHome}
use Rattle.request_turns.specs.Counts.{HasTaken}
use Rattle.view_change.proofs.Steps.{Underway}
use Rattle.view_change.proofs.draining.drain.Given as goal

abbrev pub invariant-steps : goal.invariant-steps
invariant-steps g l = record {
  ready : IsReady g.D.Disk.state l.m;
  at : IsHome l.shared l.m;
  so : Underway g.D.Disk.tells g.D.Disk.state l.initial.m l.m;
  look : drained (look_of_manager l.m) ≡ drained (look_of_manager l.initial.m);
  taken : HasTaken l.initial.tally l.tally (look_of_manager l.initial.m) (look_of_manager l.m);
}

abbrev pub decreases-steps : goal.decreases-steps
decreases-steps g l = left (listed_in l.m.index.entries)
