use Rattle.rack_parts.proofs.Basics.{◌≡◌, ◌<◌, [], Some, None, Option, is_some, length, refl, sym, ap, subst, IfSome, ◌∙◌, arith, with_item, nil_from_length, get_or_read}
use Rattle.rack_parts.proofs.Terms.{IsFilled, segment_here, ImageRest, Rest}
use Rattle.rack_parts.proofs.Returned.{lanes_after, owed_after, AreOwnedPutSoFar, owned_none, last_owed, owned_next, owned_all, one_put_at}
use Rattle.rack_parts.proofs.Members.{here_within}
use Rattle.rack_parts.proofs.rack.Rest.put_opening.Goals as goal

pub put_lanes-requires : goal.put_lanes-requires
put_lanes-requires g c =
    lanes_after c.args.self.now c.put_home.new.self c.args.id (Some c.args.opening.home) (Some c.args.opening.spindle) c.put_home.ensures g.D.Disk.state c.args.opening.lanes.items c.requires.others c.requires.lanes

pub loop-logger-init : goal.loop-logger-init
loop-logger-init g c =
    owned_none c.put_lanes.new.self c.args.opening.owned.items
    (owed_after c.args.self.now c.put_home.new.self c.put_lanes.new.self c.args.id c.args.opening.home (Some c.args.opening.spindle) c.args.opening.lanes.items c.args.opening.owned.items c.put_home.ensures c.put_lanes.ensures c.requires.owned)

pub index_mut-requires : goal.index_mut-requires
index_mut-requires g c =
    let o = c.in-Some.field-0 in let n = c.loop-logger.self in
    let so_far = subst (AreOwnedPutSoFar c.put_lanes.new.self n c.args.opening.owned.items) c.in-Some.ensures.items c.loop-logger.invariant in
    let owed = last_owed c.put_lanes.new.self n c.args.opening.owned.items c.pop.new.self.items o so_far in
    let lt : o.logger < length n.images.items = here_within n.images.items o.logger owed.image owed.out in
    omega (arith, lt, n.images.ok.0)

pub put_segment-requires : goal.put_segment-requires
put_segment-requires g c =
    let o = c.in-Some.field-0 in let n = c.loop-logger.self in
    let so_far = subst (AreOwnedPutSoFar c.put_lanes.new.self n c.args.opening.owned.items) c.in-Some.ensures.items c.loop-logger.invariant in
    let owed = last_owed c.put_lanes.new.self n c.args.opening.owned.items c.pop.new.self.items o so_far in
    let at : c.index_mut.result.now ≡ Some owed.image = get_or_read n.images.items o.logger c.index_mut.result.now (here_within n.images.items o.logger owed.image owed.out) c.index_mut.ensures.value None ∙ owed.out in
    record {
      there = ap is_some at;
      here = subst (λ (x : Option (ImageRest g.row.D.Denot)). IfSome x (λ r. (o.index < length r.segments.items) × (segment_here r o.index ≡ None))) (sym at) (owed.within, owed.empty);
    }

pub loop-logger-preserved : goal.loop-logger-preserved
loop-logger-preserved g c =
    let rest = c.pop.new.self.items in let o = c.in-Some.field-0 in let n = c.loop-logger.self in
    let so_far = subst (AreOwnedPutSoFar c.put_lanes.new.self n c.args.opening.owned.items) c.in-Some.ensures.items c.loop-logger.invariant in
    let owed = last_owed c.put_lanes.new.self n c.args.opening.owned.items rest o so_far in
    let at : c.index_mut.result.now ≡ Some owed.image = get_or_read n.images.items o.logger c.index_mut.result.now (here_within n.images.items o.logger owed.image owed.out) c.index_mut.ensures.value None ∙ owed.out in
    let newer : Rest g.row.D.Denot = record { images = with_item n.images o.logger c.put_segment.new.image; passes = n.passes; rooms = n.rooms } in
    owned_next c.put_lanes.new.self n c.args.opening.owned.items rest o so_far newer refl refl
    (one_put_at n newer o.logger o.index owed.image c.put_segment.new.image o.part refl owed.out c.put_segment.ensures.there
    (subst (λ (x : Option (ImageRest g.row.D.Denot)). IfSome x (λ r. IfSome c.put_segment.new.image (λ m. IsFilled r m o.index o.part))) at c.put_segment.ensures.filled) owed.within)

pub returns : goal.returns
returns g c =
    let none : c.loop-logger.owned.items ≡ [] = nil_from_length c.loop-logger.owned.items (omega (arith, c.in_default.ensures.cases, c.loop-logger.owned.ok.0)) in
    record {
      with_home_ = c.put_home.new.self;
      home = c.put_home.ensures;
      with_lanes = c.put_lanes.new.self;
      lanes = c.put_lanes.ensures;
      owned = owned_all c.put_lanes.new.self c.loop-logger.self c.args.opening.owned.items (rw none at c.loop-logger.invariant);
    }
