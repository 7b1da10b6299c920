use Rattle.std.proofs.Common.{◌≡◌, ◌<◌, ◌/◌, ℕ, List, sym, subst, drop, length, get_or, arith}
use Rattle.redirect_map.proofs.Masks.{read_mask, mask_none}
use Rattle.redirect_map.proofs.marks.VersionMarks.get.Goals as goal

pub returns-in-Some : goal.returns-in-Some
returns-in-Some c =
    let there = subst (λ (vs : List ℕ). (c.in-Some.place < length vs) × (get_or vs c.in-Some.place 0 ≡ c.args.version)) c.deref.ensures.value c.in-Some.ensures.found in
    rw (← c.self.view_is) (read_mask c.self.inside.versions.items c.self.inside.nodes.items c.len.result c.in-Some.place c.args.version c.index.result.now c.self.invariant.rising c.self.invariant.fits c.self.invariant.even
    (omega (arith, c.len.ensures, c.self.inside.nodes.ok.0)) there.0 there.1 c.index.ensures)

pub returns-in-None : goal.returns-in-None
returns-in-None c =
    let none = subst (λ (vs : List ℕ). (k : ℕ) → k < length vs → get_or vs k 0 ≡ c.args.version → ⊥) c.deref.ensures.value c.in-None.ensures.none in
    rw (← c.self.view_is) (sym (mask_none c.self.inside.versions.items (drop (length c.self.inside.nodes.items / 2) c.self.inside.nodes.items) c.args.version none))
