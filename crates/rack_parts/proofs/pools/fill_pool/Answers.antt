use Rattle.rack_parts.proofs.Basics.{◌<◌, Option, None, length, sym, subst, ◌∙◌, arith, IsSome, slice_index_or, get_or_default, slice_get-get_or}
use Rattle.rack_parts.proofs.Terms.{Free, Spun}
use Rattle.rack_parts.proofs.LocksIssued.{filled_none, filled_next, filled_all}
use Rattle.rack_parts.proofs.pools.fill_pool.Goals as goal

pub loop-index-init : goal.loop-index-init
loop-index-init g c = filled_none g.D.Disk.state c.args.heads.now c.args.segments.now c.args.pool.now c.requires.pool.stands c.requires.pool.empty c.requires.pool.notes

pub fill_slot-requires-clause-none : goal.fill_slot-requires-clause-none
fill_slot-requires-clause-none g c = (c.loop-index.invariant.none c.loop-index.index (omega arith)).0

pub fill_slot-requires-clause-unnoted : goal.fill_slot-requires-clause-unnoted
fill_slot-requires-clause-unnoted g c = (c.loop-index.invariant.none c.loop-index.index (omega arith)).1

pub fill_slot-requires-clause-here : goal.fill_slot-requires-clause-here
fill_slot-requires-clause-here g c =
    let n = c.loop-index.index in
    let lt : n < length c.args.heads.now = omega arith in
    let in_now : n < length c.loop-index.segments = omega (arith, lt, c.requires.segments.count, c.loop-index.invariant.count) in
    subst (λ (o : Option (Spun g.row.D.Denot)). IsSome o) (sym (c.loop-index.invariant.left n (omega arith)) ∙ sym (get_or_default c.loop-index.segments n c.index-segments-index.result None in_now)) (c.requires.segments.here n lt)

pub loop-index-preserved : goal.loop-index-preserved
loop-index-preserved g c =
    let heads = c.args.heads.now in let n = c.loop-index.index in let now = c.loop-index.segments in let inv = c.loop-index.invariant in
    let lt : n < length heads = omega arith in
    let in_before : n < length c.args.segments.now = omega (arith, lt, c.requires.segments.count) in
    let in_now : n < length now = omega (arith, in_before, inv.count) in
    filled_next g.D.Disk.state heads c.args.segments.now now c.args.pool.now c.loop-index.pool c.fill_slot.new.pool n inv (slice_index_or heads n Free) (slice_index_or now n c.index-segments-index.result) c.fill_slot.new.segment
    (slice_get-get_or heads n Free lt) in_before (get_or_default now n c.index-segments-index.result None in_now) c.fill_slot.ensures.segment c.fill_slot.ensures.same c.fill_slot.ensures.stands c.fill_slot.ensures.filled

pub returns-clause-filled : goal.returns-clause-filled
returns-clause-filled g c =
    (filled_all g.D.Disk.state c.args.heads.now c.args.segments.now c.loop-index.segments c.args.pool.now c.loop-index.pool c.loop-index.index c.loop-index.invariant (omega arith) c.requires.room).0
