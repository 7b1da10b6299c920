use Rattle.std.proofs.Common.{◌≡◌, ◌∙◌, Some, IsSome, find, refl, sym, ap, subst}
use Rattle.std.proofs.lemmas.Option.{slice_get-get_or}
use Rattle.redirect_map.specs.declared.entry.Entry.{Entry}
use Rattle.redirect_map.specs.Kept.{is_version}
use Rattle.redirect_map.specs.Listing.{Listing}
use Rattle.redirect_map.proofs.Listing.{listed_there, places_dead, items_dead}
use Rattle.redirect_map.proofs.list.Entries.remove.Goals as goal

one_entry : {x y : Entry} → Some x ≡ Some y → x ≡ y
one_entry is = cc

pub place_of-place-requires-clause-there : goal.place_of-place-requires-clause-there
place_of-place-requires-clause-there c = listed_there c.self.inside.places.items c.args.version (subst (λ (v : Listing). IsSome (find (is_version c.args.version) v.items)) (sym c.self.view_is) c.requires)

pub invariant_of-self : goal.invariant_of-self
invariant_of-self c =
    let places = c.self.inside.places.items in
    places_dead places c.self.inside.dead c.args.version c.place_of-place.result _ c.self.invariant
    (subst (λ (v : Listing). IsSome (find (is_version c.args.version) v.items)) (sym c.self.view_is) c.requires) c.place_of-place.ensures.found c.place_of-place.ensures.within
    (λ e at. ap (λ (d : Entry). d.record.version) (one_entry (ap Some c.index_mut.ensures.value ∙ sym (slice_get-get_or places c.place_of-place.result c.index_mut.result.now c.place_of-place.ensures.within) ∙ at))) refl

pub returns-clause-items : goal.returns-clause-items
returns-clause-items c = rw (← c.self.view_is) (c.tidy.ensures.items ∙ items_dead c.self.inside.places.items c.args.version c.place_of-place.result _ c.self.invariant.rising
    (subst (λ (v : Listing). IsSome (find (is_version c.args.version) v.items)) (sym c.self.view_is) c.requires) c.place_of-place.ensures.found c.place_of-place.ensures.within refl)
