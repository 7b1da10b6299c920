use Rattle.std.proofs.Common.{sym, subst}
use Rattle.redirect_map.specs.Index.{Contents, HasVersion}
use Rattle.redirect_map.proofs.Answering.{homed_is, homed_live}
use Rattle.redirect_map.specs.Listing.{place_in}
use Rattle.redirect_map.proofs.index.Index.homed.Goals as goal

pub listed-requires-clause-there : goal.listed-requires-clause-there
listed-requires-clause-there c = subst (λ (v : Contents). HasVersion v.entries c.args.version) (sym c.self.view_is) c.requires

pub returns-clause-value : goal.returns-clause-value
returns-clause-value c = rw (← c.self.view_is) (homed_is c.self.inside.entries.items c.args.version (place_in c.args.version c.self.inside.entries.items) c.listed.result c.self.invariant.0 c.listed.ensures.at)

pub returns-clause-live : goal.returns-clause-live
returns-clause-live c = rw (← c.self.view_is) (homed_live c.self.inside.entries.items c.args.version (place_in c.args.version c.self.inside.entries.items) c.listed.result c.self.invariant.0 c.listed.ensures.at)
