use Rattle.std.proofs.Common.{[], refl, arith}
use Rattle.formats_tests.proofs.tests.amounts.a_disk_that_never_turned_was_awake.Goals as goal

pub amounts-used-requires-clause-sums : goal.amounts-used-requires-clause-sums
amounts-used-requires-clause-sums c = ([], omega arith, record { wakes = refl; sleeps = refl; standby = refl })
