use Rattle.std.proofs.Common.{◌≡◌, ◌<◌, ◌/◌, ◌∙◌, ℕ, List, sym, subst, drop, length, get_or}
use Rattle.redirect_map.specs.Marks.{Contents, mask_of}
use Rattle.redirect_map.proofs.Masks.{set_is, mask_none}
use Rattle.redirect_map.proofs.marks.VersionMarks.set.Goals as goal

pub returns-in-Some-clause-masks : goal.returns-in-Some-clause-masks
returns-in-Some-clause-masks c =
    let there = subst (λ (vs : List ℕ). (c.in-Some.place < length vs) × (get_or vs c.in-Some.place 0 ≡ c.args.version)) c.deref.ensures.value c.in-Some.ensures.found in
    let some = subst (λ (v : Contents). mask_of v c.args.version ≡ 0 → ⊥) (sym c.self.view_is) (λ none. c.if-get-eq0.false (c.get.ensures ∙ none)) in
    rw (← c.self.view_is) (λ v. set_is c.self.inside.versions.items c.self.inside.nodes.items c.set_leaf.new.nodes.items c.in-Some.place c.args.mask c.args.version v c.self.invariant.rising c.self.invariant.fits c.self.invariant.even
    there.0 there.1 c.set_leaf.ensures.same c.set_leaf.ensures.leaves some)

pub returns-in_default-clause-masks : goal.returns-in_default-clause-masks
returns-in_default-clause-masks c =
    let none = subst (λ (vs : List ℕ). (k : ℕ) → k < length vs → get_or vs k 0 ≡ c.args.version → ⊥) c.deref.ensures.value c.in_default.ensures.none in
    let some = subst (λ (v : Contents). mask_of v c.args.version ≡ 0 → ⊥) (sym c.self.view_is) (λ zero. c.if-get-eq0.false (c.get.ensures ∙ zero)) in
    absurd (some (mask_none c.self.inside.versions.items (drop (length c.self.inside.nodes.items / 2) c.self.inside.nodes.items) c.args.version none))
