use Rattle.std.proofs.Common.{◌≡◌, ◌/◌, ◌-◌, ◌+◌, ◌∙◌, sym, ap, subst, take, drop, arith}
use Rattle.redirect_map.specs.Marks.{Contents, mask_in, mask_of}
use Rattle.redirect_map.proofs.Masks.{mask_slice}
use Rattle.redirect_map.proofs.marks.VersionMarks.reserve.Goals as goal

pub returns-clause-masks : goal.returns-clause-masks
returns-clause-masks c = λ v.
    subst (λ (m : Contents). mask_of m v ≡ mask_of c.args.self.now v) (sym c.drop.view_is)
    (c.mark_all.ensures.masks v
    ∙ (λ i. mask_in (c.deref-2.ensures.value i) (take (c.len-size.result / 2 + c.len-count.result - c.len-size.result / 2) (drop (c.len-size.result / 2) (c.deref.ensures.value i))) v)
    ∙ mask_slice c.self.inside.versions.items c.self.inside.nodes.items c.len-size.result c.len-count.result v (omega (arith, c.len-size.ensures, c.self.inside.nodes.ok.0)) (omega (arith, c.len-count.ensures, c.self.inside.versions.ok.0))
    ∙ ap (λ (m : Contents). mask_of m v) c.self.view_is)
