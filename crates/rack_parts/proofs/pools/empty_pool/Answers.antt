use Rattle.rack_parts.proofs.Basics.{refl, subst, IfSome}
use Rattle.rack_parts.proofs.Terms.{Spun, IsFilled, ImageRest}
use Rattle.rack_parts.proofs.PoolsEmptied.{fewer_items, none_moved, place_there, place_empty, moved_next, all_moved}
use Rattle.rack_parts.proofs.pools.empty_pool.Goals as goal

pub loop-index-init : goal.loop-index-init
loop-index-init g c = none_moved c.args.pool c.args.image.now c.requires.places

pub put_segment-requires : goal.put_segment-requires
put_segment-requires g c = record {
  there = place_there c.args.pool c.loop-index.pool c.in-Some.index c.in-Some.free c.in-Some.ensures.item c.args.image.now c.loop-index.image c.loop-index.invariant;
  here = place_empty c.args.pool c.loop-index.pool c.in-Some.index c.in-Some.free c.in-Some.ensures.item c.args.image.now c.loop-index.image c.loop-index.invariant;
}

pub loop-index-smaller : goal.loop-index-smaller
loop-index-smaller g c = fewer_items c.loop-index.pool c.take.new.self c.in-Some.index c.in-Some.free c.in-Some.ensures.same c.in-Some.ensures.item c.in-Some.ensures.rest

pub loop-index-preserved : goal.loop-index-preserved
loop-index-preserved g c =
    let I = ImageRest g.row.D.Denot in
    moved_next c.args.pool c.loop-index.pool c.in-Some.index c.in-Some.free c.in-Some.ensures.item c.take.new.self c.in-Some.ensures.rest c.args.image.now c.loop-index.image c.put_segment.new.image c.loop-index.invariant
    c.put_segment.ensures.there
    (subst (λ (p : Spun g.row.D.Denot). IfSome c.loop-index.image (λ r. IfSome c.put_segment.new.image (λ n. IsFilled r n c.in-Some.index p))) c.into_part.ensures c.put_segment.ensures.filled)

pub returns : goal.returns
returns g c = all_moved c.args.pool c.loop-index.pool c.args.image.now c.loop-index.image (c.in_default.ensures.none.0 refl) c.loop-index.invariant
