use Rattle.std.proofs.Common.{refl}
use Rattle.trace_windows.proofs.Taking.{cut_none}
use Rattle.trace_windows.proofs.cutter.Cutter.new.Goals as goal

pub returns-clause-cut : goal.returns-clause-cut
returns-clause-cut c = λ most targets. cut_none most targets _ refl c.new.ensures
