use Rattle.volume_tests.specs.Rigs.{IsRig}
use Rattle.volume_tests.proofs.tests.twice.stepped.Given as goal

abbrev pub invariant-loop-trim : goal.invariant-loop-trim
invariant-loop-trim g l = IsRig l.rig
