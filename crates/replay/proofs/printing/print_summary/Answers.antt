use Rattle.replay.proofs.Basics.{arith}
use Rattle.replay.proofs.printing.print_summary.Goals as goal

pub summary-requires-clause-units : goal.summary-requires-clause-units
summary-requires-clause-units g c =
    let few = c.requires.valid.count.1 in
    let count = c.requires.count in
    let all = c.in_ok-amounts.ensures.units in
    rw c.deref-2.ensures.value (omega (arith, few, count, all))
