-- The disk went down a minute after the start, came up at 200 seconds, and went down at 290 seconds.
use Rattle.std.proofs.Common.{◌∷◌, [], refl, arith}
use Rattle.wol_model.specs.declared.journal.Turned.TheVariants.{Down, Up}
use Rattle.formats_tests.proofs.tests.amounts.sums_a_journal_that_ends_in_standby.Goals as goal

pub amounts-used-requires-clause-sums : goal.amounts-used-requires-clause-sums
amounts-used-requires-clause-sums c = (
  Down 128166372600000000 ∷ Up 128166374000000000 ∷ Down 128166374900000000 ∷ [],
  (refl, omega arith, (refl, omega arith, (refl, omega arith, omega arith))),
  record { wakes = refl; sleeps = refl; standby = refl },
)
