use Rattle.rack_parts.proofs.Basics.{List, Option, length, refl, sym, ap, ◌∙◌, subst, with_items_is}
use Rattle.rack_parts.proofs.Terms.{Spun, volume_of, AreFillable, TakesFree, IsFilledPool}
use Rattle.seg_pool.specs.Pools.{blocks_of}
use Rattle.rack_parts.proofs.rack.ImageRest.give_free.Goals as goal

pub fill_pool-requires-clause-segments : goal.fill_pool-requires-clause-segments
fill_pool-requires-clause-segments g c =
    subst (AreFillable g.D.Disk.state (volume_of c.args.pool.now) (blocks_of c.args.pool.now) c.args.heads.now) (sym c.deref_mut.ensures.value) c.requires.segments

pub returns-clause-filled : goal.returns-clause-filled
returns-clause-filled g c = subst (λ (l : List (Option (Spun g.row.D.Denot))). IsFilledPool c.args.heads.now l c.fill_pool.new.pool) c.deref_mut.ensures.value c.fill_pool.ensures.filled

pub returns-clause-rest : goal.returns-clause-rest
returns-clause-rest g c =
    let count = c.fill_pool.ensures.segments.count ∙ ap length c.deref_mut.ensures.value in
    record { label = refl; home = refl; count = ap length (with_items_is c.args.self.now.segments c.fill_pool.new.segments (count ∙ sym c.args.self.now.segments.ok.0)) ∙ count; row = refl; room = refl }

pub returns-clause-segments : goal.returns-clause-segments
returns-clause-segments g c =
    let count = c.fill_pool.ensures.segments.count ∙ ap length c.deref_mut.ensures.value in
    subst (TakesFree c.args.heads.now c.args.self.now.segments.items) (sym (with_items_is c.args.self.now.segments c.fill_pool.new.segments (count ∙ sym c.args.self.now.segments.ok.0)))
    (subst (λ (l : List (Option (Spun g.row.D.Denot))). TakesFree c.args.heads.now l c.fill_pool.new.segments) c.deref_mut.ensures.value c.fill_pool.ensures.segments)
