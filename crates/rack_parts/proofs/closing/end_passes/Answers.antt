use Rattle.rack_parts.proofs.Basics.{◌≡◌, ℕ, [], length, Some, ap, ◌∙◌, All, Global, Vec, All-pop}
use Rattle.rack_parts.proofs.Terms.{Spun, VolumePasses}
use Rattle.rack_parts.proofs.closing.end_passes.Goals as goal

pub destroy_empty-requires : goal.destroy_empty-requires
destroy_empty-requires g c =
    let h = All-pop (λ (list : Vec (ℕ × Spun g.row.D.Denot) Global). list.items ≡ []) _ _ (Some c.in-Some-pop.list) c.in-Some-pop.ensures.items c.loop-list.invariant.empty in
    c.in-Some-pop.list.ok.0 ∙ ap length h.1

pub loop-list-preserved : goal.loop-list-preserved
loop-list-preserved g c = record {
  empty = (All-pop (λ (list : Vec (ℕ × Spun g.row.D.Denot) Global). list.items ≡ []) _ _ (Some c.in-Some-pop.list) c.in-Some-pop.ensures.items c.loop-list.invariant.empty).0;
}

pub loop-held-preserved : goal.loop-held-preserved
loop-held-preserved g c = record {
  empty = (All-pop (λ (p : VolumePasses g.row.D.Denot). All (λ (list : Vec (ℕ × Spun g.row.D.Denot) Global). list.items ≡ []) p.held.items) _ _ (Some c.in-Some.field-0) c.in-Some.ensures.items c.loop-held.invariant.empty).0;
}
