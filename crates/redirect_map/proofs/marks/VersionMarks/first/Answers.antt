use Rattle.std.proofs.Common.{◌≡◌, ◌<◌, ◌≤◌, ◌+◌, ◌/◌, ℕ, List, subst, length, get_or, bit_and, arith}
use Rattle.redirect_map.specs.Marks.{AreApart}
use Rattle.redirect_map.proofs.Masks.{found_is, least_is, lesser_there}
use Rattle.redirect_map.proofs.marks.VersionMarks.first.Goals as goal

half : (c : goal.After-row_known-1) → c.len-size.result / 2 ≡ length c.self.inside.nodes.items / 2
half c = omega (arith, c.len-size.ensures, c.self.inside.nodes.ok.0)

low : (c : goal.After-row_known-1) → (k : ℕ) → k < c.below.result → get_or c.self.inside.versions.items k 0 < c.args.from
low c = subst (λ (vs : List ℕ). (k : ℕ) → k < c.below.result → get_or vs k 0 < c.args.from) c.deref-2.ensures.value c.below.ensures.low

high : (c : goal.After-row_known-1) → (k : ℕ) → c.below.result ≤ k → k < length c.self.inside.versions.items → c.args.from ≤ get_or c.self.inside.versions.items k 0
high c = subst (λ (vs : List ℕ). (k : ℕ) → c.below.result ≤ k → k < length vs → c.args.from ≤ get_or vs k 0) c.deref-2.ensures.value c.below.ensures.high

place : (c : goal.After-row_known-1) → c.below.result ≤ length c.self.inside.versions.items
place c = subst (λ (vs : List ℕ). c.below.result ≤ length vs) c.deref-2.ensures.value c.below.ensures.within

start : (c : goal.After-row_known-1) → c.len-size.result / 2 + c.below.result ≤ length c.self.inside.nodes.items → c.len-size.result / 2 + c.below.result ≤ c.first_leaf-leaf.result
start c = subst (λ (ns : List ℕ). c.len-size.result / 2 + c.below.result ≤ length ns → c.len-size.result / 2 + c.below.result ≤ c.first_leaf-leaf.result) c.deref.ensures.value c.first_leaf-leaf.ensures.from

some : (c : goal.After-row_known-1) → c.first_leaf-leaf.result < length c.self.inside.nodes.items → bit_and (get_or c.self.inside.nodes.items c.first_leaf-leaf.result 0) c.args.wanted ≡ 0 → ⊥
some c = subst (λ (ns : List ℕ). c.first_leaf-leaf.result < length ns → bit_and (get_or ns c.first_leaf-leaf.result 0) c.args.wanted ≡ 0 → ⊥) c.deref.ensures.value c.first_leaf-leaf.ensures.found

apart : (c : goal.After-row_known-1) → (n : ℕ) → c.len-size.result / 2 + c.below.result ≤ n → n < c.first_leaf-leaf.result → AreApart (get_or c.self.inside.nodes.items n 0) c.args.wanted
apart c = subst (λ (ns : List ℕ). (n : ℕ) → c.len-size.result / 2 + c.below.result ≤ n → n < c.first_leaf-leaf.result → AreApart (get_or ns n 0) c.args.wanted) c.deref.ensures.value c.first_leaf-leaf.ensures.apart

pub returns-then-place-len-clause-found : goal.returns-then-place-len-clause-found
returns-then-place-len-clause-found c = rw (← c.self.view_is) (found_is c.self.inside.versions.items c.self.inside.nodes.items (c.len-size.result / 2) c.first_leaf-leaf.result c.below.result c.index.result.now c.args.wanted c.args.from
    c.self.invariant.rising c.self.invariant.fits c.self.invariant.even (half c) (place c) (high c) (start c) (some c) (omega (arith, c.if-place-len.true, c.len.ensures, c.self.inside.versions.ok.0)) c.index.ensures)

pub returns-then-place-len-clause-least : goal.returns-then-place-len-clause-least
returns-then-place-len-clause-least c = rw (← c.self.view_is) (λ w order less. least_is c.self.inside.versions.items c.self.inside.nodes.items (c.len-size.result / 2) c.first_leaf-leaf.result c.below.result c.args.wanted c.args.from w
    c.self.invariant.rising (half c) (low c) (apart c) order (lesser_there c.self.inside.versions.items _ c.index.result.now w c.index.ensures less))

pub returns-else-place-len-clause-none : goal.returns-else-place-len-clause-none
returns-else-place-len-clause-none c =
    let even : c.len-size.result / 2 ≡ length c.self.inside.nodes.items / 2 = omega (arith, c.len-size.ensures, c.self.inside.nodes.ok.0) in
    let below = subst (λ (vs : List ℕ). (k : ℕ) → k < c.below.result → get_or vs k 0 < c.args.from) c.deref-2.ensures.value c.below.ensures.low in
    let none = subst (λ (ns : List ℕ). (n : ℕ) → c.len-size.result / 2 + c.below.result ≤ n → n < c.first_leaf-leaf.result → AreApart (get_or ns n 0) c.args.wanted) c.deref.ensures.value c.first_leaf-leaf.ensures.apart in
    rw (← c.self.view_is) (λ w order. least_is c.self.inside.versions.items c.self.inside.nodes.items (c.len-size.result / 2) c.first_leaf-leaf.result c.below.result c.args.wanted c.args.from w
    c.self.invariant.rising even below none order (λ within. absurd (omega (arith, within, c.if-place-len.false, c.len.ensures, c.self.inside.versions.ok.0))))
