use Rattle.std.proofs.Common.{◌≡◌, ◌<◌, ◌≤◌, ◌/◌, ℕ, List, length, get_or, drop, bit_and, arith, refl, ap, sym, ◌∙◌, Bool, true, false, not, eqb}
use Rattle.std.proofs.lemmas.Bool.{eqb-true, false≢true}
use Rattle.std.proofs.lemmas.List.{get_or_default}
use Rattle.redirect_map.specs.Marks.{AreApart, IsTree, mask_in}
use Rattle.redirect_map.proofs.Bits.{apart_within}
use Rattle.redirect_map.proofs.Summed.{below_root}
use Rattle.redirect_map.proofs.Masks.{least_is}
use Rattle.redirect_map.proofs.marks.VersionMarks.may_have.Goals as goal

-- no leaf has a bit that the root hasn't
none_there : (vs nodes : List ℕ) (wanted : ℕ) → IsTree vs nodes → (1 < length nodes → bit_and (get_or nodes 1 0) wanted ≡ 0) → (v : ℕ) → AreApart (mask_in vs (drop (length nodes / 2) nodes) v) wanted
none_there vs nodes wanted tree root v = least_is vs nodes (length nodes / 2) (length nodes) 0 wanted 0 v tree.rising refl (λ k less. absurd (omega arith))
    (λ n from within. let even = tree.even in let some : 1 ≤ n = omega arith in
    apart_within (get_or nodes n 0) (get_or nodes 1 0) wanted (below_root nodes n n tree.summed (omega arith) some within) (root (omega arith)))
    (omega arith) (λ within. let even = tree.even in let fits = tree.fits in absurd (omega arith))

is_none : (m : ℕ) → not (eqb m 0) ≡ false → m ≡ 0
is_none m none = at (eqb m 0) refl none
  where
    at : (t : Bool) → eqb m 0 ≡ t → not t ≡ false → m ≡ 0
    at true is off = eqb-true m 0 is
    at false is off = absurd (false≢true (sym off))

pub returns-then-len-gt1 : goal.returns-then-len-gt1
returns-then-len-gt1 c = λ none v. rw (← c.self.view_is) (none_there c.self.inside.versions.items c.self.inside.nodes.items c.args.wanted c.self.invariant
    (λ more. ap (λ (m : ℕ). bit_and m c.args.wanted) (get_or_default c.self.inside.nodes.items 1 0 c.index.result.now more ∙ sym c.index.ensures) ∙ is_none (bit_and c.index.result.now c.args.wanted) none) v)

pub returns-else-len-gt1 : goal.returns-else-len-gt1
returns-else-len-gt1 c = λ none v. rw (← c.self.view_is) (none_there c.self.inside.versions.items c.self.inside.nodes.items c.args.wanted c.self.invariant
    (λ more. absurd (omega (arith, more, c.if-len-gt1.false, c.len.ensures, c.self.inside.nodes.ok.0))) v)
