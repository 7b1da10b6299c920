use Rattle.std.proofs.Common.{◌≡◌, [], Some}
use Rattle.wol_bay.specs.Bay.{outs}
use Rattle.wol_bay.specs.MemBay.{mem_bay_state}
use Rattle.replay_tests.proofs.tests.served_volumes.exchange_all.Given as goal

abbrev pub invariant-loop-exchanges : goal.invariant-loop-exchanges
invariant-loop-exchanges g l = outs (mem_bay_state l.bay) ≡ Some []
