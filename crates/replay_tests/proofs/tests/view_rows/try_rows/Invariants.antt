use Rattle.std.proofs.Common.{◌≡◌, [], Some}
use Rattle.wol_bay.specs.Bay.{outs}
use Rattle.wol_bay.specs.MemBay.{mem_bay_state}
use Rattle.replay_tests.proofs.tests.view_rows.try_rows.Given as goal

abbrev pub invariant-loop-order : goal.invariant-loop-order
invariant-loop-order g l = outs (mem_bay_state l.bay) ≡ Some []
