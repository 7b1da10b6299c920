use Rattle.std.proofs.Common.{◌<◌, sym, subst, arith}
use Rattle.std.specs.List.{AllByRecursion}
use Rattle.redirect_map.specs.declared.entry.Entry.{Entry}
use Rattle.redirect_map.specs.Listing.{Listing}
use Rattle.redirect_map.proofs.Listing.{few_listed, popped_few, places_pushed}
use Rattle.redirect_map.proofs.list.Entries.push.Goals as goal

pub overflow_sub-self : goal.overflow_sub-self
overflow_sub-self c = popped_few c.self.inside.places.items c.drop_last-popped.new.places.items c.self.inside.dead c.drop_last-popped.result c.self.invariant c.drop_last-popped.ensures.items c.drop_last-popped.ensures.count

pub invariant_of-self : goal.invariant_of-self
invariant_of-self c = places_pushed c.self.inside.places.items c.drop_last-popped.new.places.items c.push_back_reserved.new.self.items c.self.inside.dead c.drop_last-popped.result c.args.entry c.self.invariant
    c.drop_last-popped.ensures.items c.drop_last-popped.ensures.first c.drop_last-popped.ensures.count c.drop_last-popped.ensures.last
    (subst (λ (v : Listing). AllByRecursion (λ (e : Entry). e.record.version < c.args.entry.record.version) v.items) (sym c.self.view_is) c.requires.newest) c.requires.keeps c.push_back_reserved.ensures.items

pub returns-clause-few : goal.returns-clause-few
returns-clause-few c = let now = c.push_back_reserved.new.self in omega (arith, few_listed now.items, now.ok.0, now.small)
