use Rattle.manager_recovery.proofs.SegmentFaults.{past_answer}
use Rattle.manager_recovery.proofs.scanning.past_end.Goals as goal

pub returns-then-owner-id : goal.returns-then-owner-id
returns-then-owner-id c = past_answer c.args.scan.now c.args.id c.args.home c.in-Some.owner c.deref.result.now c.first_past.result c.in-Some.is c.if-owner-id.true c.deref.ensures.value c.first_past.ensures
