use Rattle.inspection.proofs.Dumping.{IsDumpTo}
use Rattle.inspection.proofs.dump.put_lines.Given as goal

abbrev pub invariant-loop-place : goal.invariant-loop-place
invariant-loop-place g l = IsDumpTo l.config l.name l.manager l.fn.out.items l.out.items l.place
