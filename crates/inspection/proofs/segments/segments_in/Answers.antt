use Rattle.std.proofs.Common.{arith}
use Rattle.inspection.proofs.Noting.{none_noted, noted_next}
use Rattle.inspection.proofs.segments.segments_in.Goals as goal

pub loop-at-init : goal.loop-at-init
loop-at-init c = rw c.new-places.ensures.items none_noted

pub loop-at-preserved : goal.loop-at-preserved
loop-at-preserved c = rw c.in_ok-note.ensures.ok (noted_next c.args.index.now.entries c.loop-at.at c.loop-at.places.items c.at-record.result (omega arith) c.at-record.ensures c.loop-at.invariant)
