use Rattle.std.proofs.Common.{arith}
use Rattle.redirect_map.proofs.Keeping.{kept_further}
use Rattle.redirect_map.proofs.entry.kept_from.Goals as goal

pub loop-place-preserved : goal.loop-place-preserved
loop-place-preserved c = kept_further c.args.lbn c.loop-place.kept c.moved-kept.result c.args.from c.loop-place.place c.args.entries.now.items c.index-entry.result.now c.loop-place.auto.place (omega (arith, c.loop-place-test.true, c.requires.within)) c.index-entry.ensures c.loop-place.invariant c.moved-kept.ensures
