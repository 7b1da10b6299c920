use Rattle.std.proofs.Common.{sym, subst, nat_eq}
use Rattle.std.specs.HashMap.{get}
use Rattle.redirect_map.specs.Index.{Contents, HasVersion}
use Rattle.redirect_map.specs.Listing.{place_in}
use Rattle.redirect_map.proofs.Dues.{sought_told}
use Rattle.redirect_map.proofs.index.Index.has.Goals as goal

pub listed-entry-requires-clause-there : goal.listed-entry-requires-clause-there
listed-entry-requires-clause-there c = subst (λ (v : Contents). HasVersion v.entries c.args.version) (sym c.self.view_is) c.requires

pub returns : goal.returns
returns c = rw (← c.self.view_is) (sought_told c.args.sought c.self.inside.entries.items c.args.version (place_in c.args.version c.self.inside.entries.items) c.listed-entry.result (get nat_eq c.self.inside.blocks) c.any_sought.result
    c.self.invariant.0 c.self.invariant.1 c.listed-entry.ensures.at c.any_sought.ensures)
