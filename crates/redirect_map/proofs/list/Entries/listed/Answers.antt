use Rattle.std.proofs.Common.{◌∙◌, sym, subst, Option, IsSome}
use Rattle.redirect_map.specs.declared.entry.Entry.{Entry}
use Rattle.redirect_map.specs.Listing.{place_in}
use Rattle.redirect_map.proofs.Answering.{is_there, range_at}
use Rattle.redirect_map.proofs.Listing.{found_at}
use Rattle.redirect_map.proofs.list.Entries.listed.Goals as goal

pub unwrap-requires : goal.unwrap-requires
unwrap-requires c = subst (λ (o : Option Entry). IsSome o) (sym c.get.ensures) (is_there c.args.self.now.items c.args.version c.requires.there)

pub returns-clause-at : goal.returns-clause-at
returns-clause-at c = found_at c.args.self.now.items c.args.version c.unwrap.result (sym c.get.ensures ∙ c.unwrap.ensures)

pub returns-clause-range : goal.returns-clause-range
returns-clause-range c =
    let at = found_at c.args.self.now.items c.args.version c.unwrap.result (sym c.get.ensures ∙ c.unwrap.ensures) in
    range_at c.args.self.now.items (place_in c.args.version c.args.self.now.items) c.unwrap.result c.requires.entries at.at
