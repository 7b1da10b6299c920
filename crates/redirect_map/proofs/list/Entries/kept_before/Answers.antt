use Rattle.std.proofs.Common.{IsSome, find, sym, subst}
use Rattle.redirect_map.specs.Kept.{is_version}
use Rattle.redirect_map.specs.Listing.{Listing}
use Rattle.redirect_map.proofs.Listing.{listed_there, before_listed}
use Rattle.redirect_map.proofs.list.Entries.kept_before.Goals as goal

pub place_of-place-requires-clause-there : goal.place_of-place-requires-clause-there
place_of-place-requires-clause-there c = listed_there c.self.inside.places.items c.args.version (subst (λ (v : Listing). IsSome (find (is_version c.args.version) v.items)) (sym c.self.view_is) c.requires)

pub returns : goal.returns
returns c = rw (← c.self.view_is) (before_listed c.self.inside.places.items c.args.version c.place_of-place.result c.args.lbn c.kept_from.result c.self.invariant.rising
    (subst (λ (v : Listing). IsSome (find (is_version c.args.version) v.items)) (sym c.self.view_is) c.requires) c.place_of-place.ensures.found c.place_of-place.ensures.within c.kept_from.ensures)
