use Rattle.rack_parts.proofs.Basics.{Some}
use Rattle.rack_parts.proofs.Returned.{lanes_after, manager_put}
use Rattle.rack_parts.proofs.rack.Rest.put_manager.Goals as goal

pub put_lanes-requires : goal.put_lanes-requires
put_lanes-requires g c =
    let p = c.args.parts in
    lanes_after c.args.self.now c.put_home.new.self c.args.id (Some p.home) (Some p.spindle) c.put_home.ensures g.D.Disk.state p.lanes.items c.requires.others c.requires.lanes

pub returns : goal.returns
returns g c = manager_put c.args.self.now c.put_home.new.self c.put_lanes.new.self c.args.id c.args.parts c.put_home.ensures c.put_lanes.ensures c.requires.others
