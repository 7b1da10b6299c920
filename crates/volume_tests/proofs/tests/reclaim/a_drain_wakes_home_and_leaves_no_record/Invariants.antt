use Rattle.volume_tests.specs.Rigs.{IsRig}
use Rattle.volume_tests.proofs.tests.reclaim.a_drain_wakes_home_and_leaves_no_record.Given as goal

abbrev pub invariant-loop-blocks : goal.invariant-loop-blocks
invariant-loop-blocks g l = IsRig l.rig
