use Rattle.std.proofs.Common.{◌≡◌}
use Rattle.nbd_session.proofs.Intakes.{Skipped}
use Rattle.nbd_session.proofs.intake.skip.Given as goal

abbrev pub invariant-loop-left : goal.invariant-loop-left
invariant-loop-left g l = record {
  skipped : Skipped (g.S.Source.left l.initial.input) (g.S.Source.left l.input) l.count l.left;
  calm : g.S.Source.faults l.input ≡ g.S.Source.faults l.initial.input;
}

abbrev pub decreases-loop-left : goal.decreases-loop-left
decreases-loop-left g l = l.left
