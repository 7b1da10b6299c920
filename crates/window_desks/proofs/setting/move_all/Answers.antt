use Rattle.std.proofs.Common.{None, rules, refl}
use Rattle.window_desks.proofs.Moving.{moving_more}
use Rattle.window_desks.proofs.setting.move_all.Goals as goal

pub loop-station-preserved : goal.loop-station-preserved
loop-station-preserved g c = record {
  moving = moving_more _ c.in-Some.station
      (record { id = c.in-Some.station.id; worker = c.in-Some.station.worker; requests = c.new.result; outcomes = c.new-in-Some.result; tally = c.new-in-Some-2.result; fault = None })
      c.loop-station.locks c.loop-station.passes _ _ c.loop-station.invariant.moving (record {
        room = search rules;
        locks = c.push_reserved.ensures.items;
        desks = c.push_reserved-in-Some.ensures.items;
        helpers = c.push_reserved-in-Some-2.ensures.items;
        keepers = c.push_reserved-in-Some-3.ensures.items;
        id = refl;
        worker = refl;
        empty = c.new-in-Some.ensures.items;
        lock_room = c.push_reserved.ensures.capacity;
        desk_room = c.push_reserved-in-Some.ensures.capacity;
        helper_room = c.push_reserved-in-Some-2.ensures.capacity;
        keeper_room = c.push_reserved-in-Some-3.ensures.capacity;
        station_room = c.pop.ensures.capacity;
      });
}
