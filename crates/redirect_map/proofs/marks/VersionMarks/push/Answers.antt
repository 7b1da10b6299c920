use Rattle.std.proofs.Common.{◌≡◌, ◌<◌, ◌≤◌, ◌/◌, ◌∙◌, ◌++◌, ◌∷◌, [], ℕ, List, sym, ap, subst, take, length, get_or, arith}
use Rattle.std.proofs.lemmas.List.{length-append, length-take}
use Rattle.wol_model.specs.Index.{AreRising}
use Rattle.redirect_map.specs.Marks.{Contents}
use Rattle.redirect_map.proofs.Masks.{pushed_is, rising_pushed}
use Rattle.redirect_map.proofs.marks.VersionMarks.push.Goals as goal

low : (c : goal.After-set_leaf) → (k : ℕ) → k < c.below-place.result → get_or c.self.inside.versions.items k 0 < c.args.version
low c = subst (λ (vs : List ℕ). (k : ℕ) → k < c.below-place.result → get_or vs k 0 < c.args.version) c.deref.ensures.value c.below-place.ensures.low

high : (c : goal.After-set_leaf) → (k : ℕ) → c.below-place.result ≤ k → k < length c.self.inside.versions.items → c.args.version ≤ get_or c.self.inside.versions.items k 0
high c = subst (λ (vs : List ℕ). (k : ℕ) → c.below-place.result ≤ k → k < length vs → c.args.version ≤ get_or vs k 0) c.deref.ensures.value c.below-place.ensures.high

place : (c : goal.After-set_leaf) → c.below-place.result ≤ length c.self.inside.versions.items
place c = subst (λ (vs : List ℕ). c.below-place.result ≤ length vs) c.deref.ensures.value c.below-place.ensures.within

items_are : (c : goal.After-set_leaf) → c.push_reserved.new.self.items ≡ take c.below-place.result c.self.inside.versions.items ++ c.args.version ∷ []
items_are c = c.push_reserved.ensures.items ∙ ap (λ (vs : List ℕ). vs ++ c.args.version ∷ []) c.truncate.ensures.items

room : (c : goal.After-set_leaf) → length c.self.inside.versions.items < length c.self.inside.nodes.items / 2
room c =
    let some = subst (λ (v : Contents). 0 < v.room) (sym c.self.view_is) c.requires in
    omega (arith, some, c.self.inside.versions.ok.0)

pub invariant_of-self : goal.invariant_of-self
invariant_of-self c = record {
  rising = subst AreRising (sym (items_are c)) (rising_pushed c.self.inside.versions.items c.below-place.result c.args.version c.self.invariant.rising (low c));
  even = omega (arith, c.set_leaf.ensures.same, c.self.invariant.even);
  fits = omega (arith, room c, place c, c.set_leaf.ensures.same, ap length (items_are c), length-append (take c.below-place.result c.self.inside.versions.items) (c.args.version ∷ []), length-take c.below-place.result c.self.inside.versions.items);
  summed = c.set_leaf.ensures.summed;
}

pub returns-clause-masks : goal.returns-clause-masks
returns-clause-masks c = rw (← c.self.view_is) (λ v. pushed_is c.self.inside.versions.items c.self.inside.nodes.items c.push_reserved.new.self.items c.set_leaf.new.nodes.items c.below-place.result c.args.mask c.args.version v
    (room c) c.self.invariant.even (place c) (low c) (high c) (items_are c) c.set_leaf.ensures.same c.set_leaf.ensures.leaves)
