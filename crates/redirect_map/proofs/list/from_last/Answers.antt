use Rattle.redirect_map.proofs.Listing.{from_last_here}
use Rattle.redirect_map.proofs.list.from_last.Goals as goal

pub returns-then-left-eq0 : goal.returns-then-left-eq0
returns-then-left-eq0 c = from_last_here c.args.places.now.items c.loop-place.place c.loop-place.left c.args.behind c.index-entry.result.now c.loop-place-test.true c.loop-place.invariant.within c.loop-place.invariant.counted c.if-left-eq0.true c.index-entry.ensures c.if-entry-ne0.true
