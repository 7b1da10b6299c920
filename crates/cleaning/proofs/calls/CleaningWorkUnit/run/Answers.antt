use Rattle.std.proofs.Common.{refl, sym, arith}
use Rattle.wol_io.proofs.Appending.{keeps_same}
use Rattle.cleaning.specs.Racks.{closed, ran}
use Rattle.cleaning.proofs.Leaving.{again_cleaned, can_clean_all}
use Rattle.cleaning.proofs.calls.CleaningWorkUnit.run.Goals as goal

pub returns-in-Some-clause-did : goal.returns-in-Some-clause-did
returns-in-Some-clause-did g c = (omega arith, closed c.in-Some.fault (sym (rw c.as_slice.ensures.value at c.in-Some.ensures)) refl refl (keeps_same _))

pub returns-in-Some-clause-again : goal.returns-in-Some-clause-again
returns-in-Some-clause-again g c = again_cleaned _ _ _ _ _ _ _ _ _ _ (returns-in-Some-clause-did g c).1

pub clean_open-requires-clause-can : goal.clean_open-requires-clause-can
clean_open-requires-clause-can g c = can_clean_all _ _ _ _ c.requires.rack.1 (sym (rw c.as_slice.ensures.value at c.in_default.ensures))

pub returns-clause-did : goal.returns-clause-did
returns-clause-did g c = (c.clean_open.ensures.later, ran _ (sym (rw c.as_slice.ensures.value at c.in_default.ensures)) c.clean_open.ensures.worked c.clean_open.ensures.cleans)

pub returns-clause-again : goal.returns-clause-again
returns-clause-again g c = again_cleaned _ _ _ _ _ _ _ _ _ _ (returns-clause-did g c).1
