use Rattle.logger.proofs.Rooms.{first_at, none_more}
use Rattle.logger.proofs.secure.first_with_room.Goals as goal

pub returns-then-room-count : goal.returns-then-room-count
returns-then-room-count g c = first_at c.args.count c.args.held.now c.loop-place.place c.room.result c.index-held-place.result c.loop-place-test.true c.index-held-place.is c.loop-place.invariant c.room.ensures c.if-room-count.true

pub loop-place-preserved : goal.loop-place-preserved
loop-place-preserved g c = none_more c.args.count c.args.held.now c.loop-place.place c.room.result c.index-held-place.result c.loop-place-test.true c.index-held-place.is c.loop-place.invariant c.room.ensures c.if-room-count.false
