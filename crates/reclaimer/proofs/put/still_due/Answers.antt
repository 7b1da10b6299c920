-- The blocks of both masks are still due.
use Rattle.reclaimer.proofs.Putting.{still}
use Rattle.reclaimer.proofs.put.still_due.Goals as goal

pub returns-in-Some-clause-due : goal.returns-in-Some-clause-due
returns-in-Some-clause-due c =
    let f = c.args.filled.now in
    still c.args.index.now.entries f.version f.lbn f.count f.due c.due.result c.in-Some.record c.in-Some.ensures.value c.if-record-filled.true c.if-record-filled-2.true c.due.ensures.value
