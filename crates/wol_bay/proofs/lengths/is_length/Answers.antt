use Rattle.std.proofs.Common.{arith}
use Rattle.std.proofs.lemmas.Bool.Decides.{nat_tests}
use Rattle.wol_bay.proofs.lengths.is_length.Goals as goal

pub returns-in-None : goal.returns-in-None
returns-in-None c = grind (arith, nat_tests)
