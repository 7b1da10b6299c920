use Rattle.std.proofs.Common.{◌∙◌, sym}
use Rattle.std.specs.List.{list_any, range_with_len}
use Rattle.redirect_map.specs.Kept.{keeps}
use Rattle.redirect_map.proofs.Listing.{any_listed, dead_misses}
use Rattle.redirect_map.proofs.list.Entries.any_meets.Goals as goal

pub returns : goal.returns
returns c = rw (← c.self.view_is) (c.any_meets.ensures ∙ sym (any_listed (λ e. list_any (keeps e) (range_with_len c.args.lbn c.args.count)) c.self.inside.places.items (λ e dead. dead_misses e (range_with_len c.args.lbn c.args.count) dead)))
