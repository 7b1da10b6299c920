use Rattle.std.proofs.Common.{◌∙◌, sym}
use Rattle.redirect_map.proofs.Listing.{drop_step}
use Rattle.redirect_map.proofs.list.drop_last.Goals as goal

pub loop-places-preserved : goal.loop-places-preserved
loop-places-preserved c =
    let old = c.loop-places.places in
    let step = drop_step c.args.places.now.items old.items c.pop_back.new.self.items old.len old.ok.0 (sym c.ends_dead.ensures ∙ c.loop-places-test.true) c.pop_back.ensures.rest c.loop-places.invariant.items c.loop-places.invariant.first in
    record { items = step.0; first = step.1; room = c.pop_back.ensures.capacity ∙ c.loop-places.invariant.room }
