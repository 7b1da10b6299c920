use Rattle.rack_parts.proofs.Basics.{◌≡◌, Some, None, is_some, length, refl, ap, ◌∙◌, arith, with_item, nil_from_length, get_or_read}
use Rattle.rack_parts.proofs.Terms.{held_here, Rest}
use Rattle.rack_parts.proofs.Returned.{held_none, place_within, place_free, mid_out, held_next, one_less, held_all, one_put_at}
use Rattle.rack_parts.proofs.Members.{here_within}
use Rattle.rack_parts.proofs.LanesMoved.{place_in, held_found}
use Rattle.rack_parts.proofs.rack.Rest.put_held.Goals as goal

pub loop-segment-init : goal.loop-segment-init
loop-segment-init g c = record { put = held_none c.args.self.now c.args.id c.args.logger c.requires; left = omega arith }

pub pop_held-index-requires-clause-some : goal.pop_held-index-requires-clause-some
pop_held-index-requires-clause-some g c =
    let list = c.index-2.result.now in
    let found = held_found c.args.self.now c.args.id c.args.logger c.args.logger c.index.result.now list c.requires.place c.index.ensures refl c.index-2.ensures in
    omega (arith, ap length found.1, c.len-segment-end.ensures, list.ok.0, c.loop-segment.invariant.left, c.loop-segment-test.true)

pub index-requires-2 : goal.index-requires-2
index-requires-2 g c = (place_in c.args.self.now c.args.id c.args.logger c.args.logger c.index.result.now c.requires.place c.index.ensures refl).2

pub index_mut-requires : goal.index_mut-requires
index_mut-requires g c =
    let mid = c.pop_held-index.new.self in let put = c.loop-segment.invariant.put in
    let within = here_within mid.images.items c.args.logger put.can.image (mid_out c.args.self.now c.loop-segment.self mid c.args.id c.args.logger put c.pop_held-index.result c.pop_held-index.ensures) in
    omega (arith, within, mid.images.ok.0)

pub put_segment-requires : goal.put_segment-requires
put_segment-requires g c =
    let h = c.pop_held-index.result in let mid = c.pop_held-index.new.self in let k = c.args.logger in let put = c.loop-segment.invariant.put in let n = c.loop-segment.self in
    let out = mid_out c.args.self.now n mid c.args.id k put h c.pop_held-index.ensures in
    let at : c.index_mut.result.now ≡ Some put.can.image = get_or_read mid.images.items k c.index_mut.result.now (here_within mid.images.items k put.can.image out) c.index_mut.ensures.value None ∙ out in
    record { there = ap is_some at; here = rw at (place_within c.args.self.now n mid c.args.id k put h c.pop_held-index.ensures, place_free c.args.self.now n mid c.args.id k put h c.pop_held-index.ensures) }

pub loop-segment-preserved : goal.loop-segment-preserved
loop-segment-preserved g c =
    let h = c.pop_held-index.result in let mid = c.pop_held-index.new.self in let k = c.args.logger in let put = c.loop-segment.invariant.put in let n = c.loop-segment.self in
    let out = mid_out c.args.self.now n mid c.args.id k put h c.pop_held-index.ensures in
    let at : c.index_mut.result.now ≡ Some put.can.image = get_or_read mid.images.items k c.index_mut.result.now (here_within mid.images.items k put.can.image out) c.index_mut.ensures.value None ∙ out in
    let newer : Rest g.row.D.Denot = record { images = with_item mid.images k c.put_segment.new.image; passes = mid.passes; rooms = mid.rooms } in
    let less = one_less c.args.self.now n mid c.args.id k put h c.pop_held-index.ensures in
    record {
      put = held_next c.args.self.now n mid c.args.id k put h c.pop_held-index.ensures newer refl refl
          (one_put_at mid newer k h.0 put.can.image c.put_segment.new.image h.1 refl out c.put_segment.ensures.there (rw at at c.put_segment.ensures.filled)
          (place_within c.args.self.now n mid c.args.id k put h c.pop_held-index.ensures));
      left = omega (arith, less, c.loop-segment.invariant.left);
    }

pub returns : goal.returns
returns g c =
    let list = c.index-2.result.now in
    let found = held_found c.args.self.now c.args.id c.args.logger c.args.logger c.index.result.now list c.requires.place c.index.ensures refl c.index-2.ensures in
    held_all c.args.self.now c.loop-segment.self c.args.id c.args.logger c.loop-segment.invariant.put
    (nil_from_length (held_here c.loop-segment.self c.args.id c.args.logger) (omega (arith, ap length found.1, c.len-segment-end.ensures, list.ok.0, c.loop-segment.invariant.left, c.loop-segment-test.false)))
