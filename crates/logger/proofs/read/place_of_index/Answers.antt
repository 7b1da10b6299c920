use Rattle.std.proofs.Common.{◌<◌, ap, ◌∙◌, arith}
use Rattle.std.proofs.lemmas.Option.{get_or_from_slice_get}
use Rattle.logger.specs.declared.lane.HeldSegment.{HeldSegment}
use Rattle.logger.proofs.Held.{there_get, within}
use Rattle.logger.proofs.read.place_of_index.Goals as goal

pub returns-then-h-index : goal.returns-then-h-index
returns-then-h-index g c = record {
  segment = c.index-held-place.result;
  there = there_get c.args.held.now c.loop-place.place c.index-held-place.result c.loop-place-test.true c.index-held-place.is;
  named = c.if-h-index.true;
}

pub unreachable-requires : goal.unreachable-requires
unreachable-requires g c =
    let at = c.requires.1 in let lt = within c.args.held.now c.requires.0 at.segment at.there in let below : c.requires.0 < c.loop-place.place = omega (arith, lt, c.loop-place-test.false) in
    c.loop-place.invariant c.requires.0 at.segment below (ap (λ (h : HeldSegment g.row.D.Denot). h.index) (get_or_from_slice_get c.args.held.now c.requires.0 at.segment at.segment at.there) ∙ at.named)
