use Rattle.std.proofs.Common.{IsSome, find, sym, subst}
use Rattle.redirect_map.specs.Kept.{is_version}
use Rattle.redirect_map.specs.Listing.{Listing}
use Rattle.redirect_map.proofs.Listing.{listed_there, places_set, items_set}
use Rattle.redirect_map.proofs.list.Entries.replace.Goals as goal

pub place_of-place-requires-clause-there : goal.place_of-place-requires-clause-there
place_of-place-requires-clause-there c = listed_there c.self.inside.places.items c.args.version (subst (λ (v : Listing). IsSome (find (is_version c.args.version) v.items)) (sym c.self.view_is) c.requires.there)

pub invariant_of-self : goal.invariant_of-self
invariant_of-self c = places_set c.self.inside.places.items c.self.inside.dead c.args.version c.place_of-place.result c.args.entry c.self.invariant
    (subst (λ (v : Listing). IsSome (find (is_version c.args.version) v.items)) (sym c.self.view_is) c.requires.there) c.place_of-place.ensures.found c.place_of-place.ensures.within c.requires.same c.requires.keeps

pub returns-clause-items : goal.returns-clause-items
returns-clause-items c = rw (← c.self.view_is) (items_set c.self.inside.places.items c.args.version c.place_of-place.result c.args.entry c.self.invariant.rising
    (subst (λ (v : Listing). IsSome (find (is_version c.args.version) v.items)) (sym c.self.view_is) c.requires.there) c.place_of-place.ensures.found c.place_of-place.ensures.within c.requires.keeps)
