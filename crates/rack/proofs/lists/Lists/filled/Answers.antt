use Rattle.rack.proofs.Basics.{length, refl}
use Rattle.rack.proofs.Setting.{pools_shared, pools_rooms, can_deal, set_up}
use Rattle.rack.proofs.lists.Lists.filled.Goals as goal

pub put_pools-requires : goal.put_pools-requires
put_pools-requires g c =
    let n = length c.args.spindles.items in let pools = c.args.pools.items in let a = c.args.self in let b = c.put_spindles.new.self in let puts = c.put_spindles.ensures in
    record {
      shared = pools_shared n pools a b c.requires.lists c.requires.pool_count puts.pools puts.pool_rooms;
      rooms = pools_rooms n pools a b c.requires.lists c.requires.pool_count puts.pools puts.pool_rooms;
    }

pub deal-requires : goal.deal-requires
deal-requires g c =
    can_deal c.args.spindles.items c.args.pools.items c.args.self c.put_spindles.new.self c.put_pools.new.self c.requires.lists c.requires.spindles c.requires.pool_count c.requires.pools c.put_spindles.ensures c.put_pools.ensures

pub returns-clause-rest : goal.returns-clause-rest
returns-clause-rest g c =
    let d = c.deal.new.self in
    set_up c.args.spindles.items c.args.pools.items c.args.self c.put_spindles.new.self c.put_pools.new.self c.requires.lists c.requires.spindles c.requires.pool_count c.requires.pools c.put_spindles.ensures c.put_pools.ensures
    d c.deal.ensures (record { shared = d.shared; keepers = d.keepers; stations = d.stations; faults = c.args.faults; rest = record { images = c.args.images; passes = d.passes; rooms = d.rooms } }) refl refl refl refl refl
