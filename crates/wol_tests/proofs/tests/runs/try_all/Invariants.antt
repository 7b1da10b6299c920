use Rattle.solo.specs.Images.{NoneOut}
use Rattle.wol_bay.specs.MemBay.{mem_bay_state}
use Rattle.wol_tests.proofs.tests.runs.try_all.Given as goal

abbrev pub invariant-loop-row : goal.invariant-loop-row
invariant-loop-row g l = NoneOut (mem_bay_state l.bay)

abbrev pub invariant-loop-faulty : goal.invariant-loop-faulty
invariant-loop-faulty g l = NoneOut (mem_bay_state l.bay)
