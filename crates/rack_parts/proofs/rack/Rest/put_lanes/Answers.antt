use Rattle.rack_parts.proofs.Basics.{◌≡◌, [], arith, nil_from_length}
use Rattle.rack_parts.proofs.LanesMoved.{put_none, last_whole, last_bare, put_next, put_all}
use Rattle.rack_parts.proofs.rack.Rest.put_lanes.Goals as goal

pub loop-lane-init : goal.loop-lane-init
loop-lane-init g c = put_none g.D.Disk.state c.args.self.now c.args.id c.args.lanes.items c.requires

pub put_lane-requires : goal.put_lane-requires
put_lane-requires g c =
    let so_far = rw c.in-Some.ensures.items at c.loop-lane.invariant in
    let whole = last_whole g.D.Disk.state c.args.self.now c.loop-lane.self c.args.id c.args.lanes.items c.pop.new.self.items c.in-Some.lane so_far in
    record { lane = whole.0; untaken = whole.1; bare = last_bare g.D.Disk.state c.args.self.now c.loop-lane.self c.args.id c.args.lanes.items c.pop.new.self.items c.in-Some.lane so_far }

pub loop-lane-preserved : goal.loop-lane-preserved
loop-lane-preserved g c =
    put_next g.D.Disk.state c.args.self.now c.loop-lane.self c.args.id c.args.lanes.items c.pop.new.self.items c.in-Some.lane (rw c.in-Some.ensures.items at c.loop-lane.invariant) c.put_lane.new.self c.put_lane.ensures

pub returns : goal.returns
returns g c =
    let none : c.loop-lane.lanes.items ≡ [] = nil_from_length c.loop-lane.lanes.items (omega (arith, c.in_default.ensures.cases, c.loop-lane.lanes.ok.0)) in
    put_all g.D.Disk.state c.args.self.now c.loop-lane.self c.args.id c.args.lanes.items (rw none at c.loop-lane.invariant)
