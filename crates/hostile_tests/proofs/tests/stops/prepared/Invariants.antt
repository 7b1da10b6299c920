use Rattle.solo.specs.Images.{NoneOut}
use Rattle.wol_bay.specs.MemBay.{mem_bay_state}
use Rattle.hostile_tests.proofs.tests.stops.prepared.Given as goal

abbrev pub invariant-loop-earlier : goal.invariant-loop-earlier
invariant-loop-earlier g l = NoneOut (mem_bay_state l.bay)
