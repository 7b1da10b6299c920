use Rattle.std.proofs.Common.{◌≡◌, ◌∙◌, ◌<◌, ℕ, List, Some, length, ap, sym, subst, arith}
use Rattle.std.specs.Prelude.{slice_get}
use Rattle.std.specs.List.{filter}
use Rattle.std.proofs.lemmas.Option.{slice_get-get_or}
use Rattle.redirect_map.specs.declared.entry.Entry.{Entry}
use Rattle.redirect_map.specs.Listing.{Listing, is_listed}
use Rattle.redirect_map.proofs.Listing.{few_listed, all_listed}
use Rattle.redirect_map.proofs.list.Entries.at.Goals as goal

pub index-requires : goal.index-requires
index-requires c =
    let inside = subst (λ (v : Listing). c.args.place < length v.items) (sym c.self.view_is) c.requires in
    omega (arith, inside, few_listed c.self.inside.places.items, c.self.inside.places.ok.0)

pub returns-then-self-eq0 : goal.returns-then-self-eq0
returns-then-self-eq0 c =
    let places = c.self.inside.places.items in
    let inside = subst (λ (v : Listing). c.args.place < length v.items) (sym c.self.view_is) c.requires in
    let whole = all_listed places (omega (arith, c.self.invariant.counted, c.if-self-eq0.true)) in
    rw (← c.self.view_is) (ap (λ (es : List Entry). slice_get es c.args.place) whole ∙ slice_get-get_or places c.args.place c.index.result.now (omega (arith, inside, few_listed places)) ∙ ap Some (sym c.index.ensures))

pub returns-else-self-eq0 : goal.returns-else-self-eq0
returns-else-self-eq0 c =
    let inside = subst (λ (v : Listing). c.args.place < length v.items) (sym c.self.view_is) c.requires in
    let long = ap (λ (v : Listing). length v.items) c.self.view_is in
    rw (← c.self.view_is) (subst (λ (k : ℕ). slice_get (filter is_listed c.self.inside.places.items) k ≡ Some c.from_last.result) (omega (arith, inside, long)) c.from_last.ensures)
