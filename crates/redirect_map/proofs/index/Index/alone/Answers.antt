use Rattle.std.proofs.Common.{sym, subst, nat_eq}
use Rattle.std.specs.HashMap.{get}
use Rattle.redirect_map.specs.Index.{Contents, HasVersion}
use Rattle.redirect_map.proofs.Newest.{alone_held}
use Rattle.redirect_map.specs.Listing.{place_in}
use Rattle.redirect_map.proofs.index.Index.alone.Goals as goal

pub listed-requires-clause-there : goal.listed-requires-clause-there
listed-requires-clause-there c = subst (λ (v : Contents). HasVersion v.entries c.args.version) (sym c.self.view_is) c.requires

pub returns : goal.returns
returns c = rw (← c.self.view_is) (alone_held c.self.inside.entries.items c.args.version (place_in c.args.version c.self.inside.entries.items) c.listed.result c.held.result (get nat_eq c.self.inside.blocks) c.self.invariant.0 c.listed.ensures.at c.self.invariant.1 c.held.ensures)
