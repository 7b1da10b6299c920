use Rattle.rack_parts.proofs.Basics.{◌<◌, length, is_some, refl, sym, ap, subst, ◌∙◌, arith, length-map}
use Rattle.rack_parts.proofs.Terms.{shape_of, shape_in, CanPutLanes, PutsLanes, Rest}
use Rattle.rack_parts.proofs.LanesTaken.{pairs_apart}
use Rattle.rack_parts.proofs.OwnedTaken.{owned_here_then, home_place, spindle_same, image_there, home_there, home_same, shape_at}
use Rattle.rack_parts.proofs.Members.{here_within}
use Rattle.rack_parts.proofs.rack.Rest.take_opening.Goals as goal

pub take_lanes-requires-clause-config : goal.take_lanes-requires-clause-config
take_lanes-requires-clause-config g c = let shapes = length-map c.args.config.now.volumes.items (shape_in c.args.config.now) in omega (arith, shapes, c.requires.ready.images, c.args.config.now.volumes.ok.0)

pub put_lanes-requires : goal.put_lanes-requires
put_lanes-requires g c = subst (λ (r : Rest g.row.D.Denot). CanPutLanes g.D.Disk.state r c.args.id c.in_ok-lanes.lanes.items) (sym c.in-Err.ensures.same) c.in_ok-lanes.ensures.back

pub returns-in-Err-clause-same : goal.returns-in-Err-clause-same
returns-in-Err-clause-same g c =
    c.in_ok-lanes.ensures.restored c.put_lanes.new.self (subst (λ (r : Rest g.row.D.Denot). PutsLanes r c.put_lanes.new.self c.args.id c.in_ok-lanes.lanes.items) c.in-Err.ensures.same c.put_lanes.ensures)

pub take_owned-requires-clause-here : goal.take_owned-requires-clause-here
take_owned-requires-clause-here g c = owned_here_then c.args.self.now c.take_lanes.new.self c.args.said.now c.args.id c.in_ok-lanes.ensures.taken.passes.images c.requires.ready.owned

pub take_home-home-requires : goal.take_home-home-requires
take_home-home-requires g c =
    let state = g.D.Disk.state in let config = c.args.config.now in let r = c.args.self.now in let mid = c.take_lanes.new.self in let last = c.take_owned.new.self in let said = c.args.said.now in
    let lanes = c.in_ok-lanes.lanes.items in let owned = c.in-Ok.owned.items in let can = c.requires.ready in let took = c.in_ok-lanes.ensures.taken in let gone = c.in-Ok.ensures.taken in
    record {
      place = home_place state config r mid last said c.args.id c.args.view lanes owned can took gone;
      home = home_there state config r mid last said c.args.id c.args.view lanes owned can took gone;
      out = image_there state config r mid last said c.args.id c.args.view lanes owned can took gone;
      spindle = ap is_some (spindle_same state config r mid last said c.args.id c.args.view lanes owned can took gone) ∙ can.spindle;
    }

pub label_of-want-requires-clause-within : goal.label_of-want-requires-clause-within
label_of-want-requires-clause-within g c =
    let r = c.args.self.now in let config = c.args.config.now in
    let lt : c.args.id < length r.images.items = here_within r.images.items c.args.id c.requires.ready.image c.requires.ready.out in
    let shapes = length-map config.volumes.items (shape_in config) in
    omega (arith, lt, shapes, c.requires.ready.images)

pub returns-clause-taken : goal.returns-clause-taken
returns-clause-taken g c =
    let r = c.args.self.now in let config = c.args.config.now in let v = c.args.id in let want = c.label_of-want.result in
    let lt : v < length r.images.items = here_within r.images.items v c.requires.ready.image c.requires.ready.out in
    let shapes = length-map config.volumes.items (shape_in config) in
    record {
      id = c.label_of-want.ensures.id;
      shape = shape_at config v (shape_of want) (omega (arith, lt, shapes, c.requires.ready.images)) c.label_of-want.ensures.shape;
      label = refl;
      view_is = refl;
      distinct = pairs_apart c.args.view c.take_lanes.ensures.distinct;
      present = c.in_ok-present.ensures;
      most = c.most.ensures;
      without_lanes = c.take_lanes.new.self;
      lanes = c.in_ok-lanes.ensures.taken;
      without_owned = c.take_owned.new.self;
      owned = c.in-Ok.ensures.taken;
      home_was = home_same g.D.Disk.state config r c.take_lanes.new.self c.take_owned.new.self c.args.said.now v c.args.view c.in_ok-lanes.lanes.items c.in-Ok.owned.items c.requires.ready
          c.in_ok-lanes.ensures.taken c.in-Ok.ensures.taken c.take_home-home.result.0 c.take_home-home.ensures.home;
      spindle_was = sym (spindle_same g.D.Disk.state config r c.take_lanes.new.self c.take_owned.new.self c.args.said.now v c.args.view c.in_ok-lanes.lanes.items c.in-Ok.owned.items c.requires.ready
          c.in_ok-lanes.ensures.taken c.in-Ok.ensures.taken) ∙ c.take_home-home.ensures.spindle;
      home = c.take_home-home.ensures.rest;
    }
