use Rattle.std.proofs.Common.{◌∙◌, sym, subst, nat_eq}
use Rattle.std.specs.HashMap.{get}
use Rattle.redirect_map.specs.Index.{Contents, HasVersion}
use Rattle.redirect_map.specs.Listing.{place_in}
use Rattle.redirect_map.proofs.Dues.{going_mask}
use Rattle.redirect_map.proofs.Alone.{going_only}
use Rattle.redirect_map.proofs.index.Index.going.Goals as goal

pub listed-entry-requires-clause-there : goal.listed-entry-requires-clause-there
listed-entry-requires-clause-there c = subst (λ (v : Contents). HasVersion v.entries c.args.version) (sym c.self.view_is) c.requires

pub returns : goal.returns
returns c = rw (← c.self.view_is) (going_mask c.self.inside.entries.items c.args.version (place_in c.args.version c.self.inside.entries.items) c.listed-entry.result (get nat_eq c.self.inside.blocks) c.all_going.result
    c.self.invariant.0 c.self.invariant.1 c.listed-entry.ensures.at c.all_going.ensures)

pub returns-then-len-eq1 : goal.returns-then-len-eq1
returns-then-len-eq1 c = rw (← c.self.view_is) (going_only c.self.inside.entries.items c.args.version (place_in c.args.version c.self.inside.entries.items) c.listed-entry.result c.self.invariant.0
    c.listed-entry.ensures.at (sym c.len.ensures ∙ c.if-len-eq1.true))
