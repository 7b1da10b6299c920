use Rattle.std.proofs.Common.{◌≡◌, [], Some}
use Rattle.wol_bay.specs.Bay.{outs}
use Rattle.wol_bay.specs.MemBay.{mem_bay_state}
use Rattle.replay_tests.proofs.tests.served_volumes.refuse.Given as goal

abbrev pub invariant-loop-session : goal.invariant-loop-session
invariant-loop-session g l = outs (mem_bay_state l.bay) ≡ Some []
