use Rattle.rack_parts.proofs.Basics.{◌≡◌, ◌+◌, ℕ, List, [], length, drop, map, sym, subst, arith, drop_all, nil_from_length}
use Rattle.rack_parts.proofs.Terms.{Station, IsRest, base_of_station, CanCloseStations, ClosesStations}
use Rattle.rack_parts.proofs.Members.{front_all, pop_front}
use Rattle.rack_parts.proofs.StationsClosed.{none_closed, one_closed, apart_behind, next_drop}
use Rattle.rack_parts.proofs.rack.Rest.close_stations.Goals as goal

pub loop-station-init : goal.loop-station-init
loop-station-init g c = record {
  front = front_all c.args.stations.items;
  may = λ config shared can. can;
  closed = subst (λ (l : List (Station g.row.D.Denot)). ClosesStations g.D.Disk.tells g.D.Disk.state l c.args.self.now c.args.self.now) (sym (drop_all (length c.args.stations.items) c.args.stations.items (omega arith))) (none_closed g.D.Disk.tells g.D.Disk.state c.args.self.now);
}

pub close_station-requires : goal.close_station-requires
close_station-requires g c = (
  c.requires.0,
  c.requires.1,
  c.pop.new.self.items,
  subst (λ (l : List (Station g.row.D.Denot)). CanCloseStations g.D.Disk.state c.requires.0 c.requires.1 l c.loop-station.self) c.in-Some.ensures.items (c.loop-station.invariant.may c.requires.0 c.requires.1 c.requires.2),
)

pub loop-station-preserved : goal.loop-station-preserved
loop-station-preserved g c =
    let p = pop_front c.loop-station.stations.items c.pop.new.self.items c.args.stations.items c.in-Some.station c.in-Some.ensures.items c.loop-station.invariant.front in
    let behind : ClosesStations g.D.Disk.tells g.D.Disk.state (drop (length c.pop.new.self.items + 1) c.args.stations.items) c.args.self.now c.loop-station.self =
    subst (λ (n : ℕ). ClosesStations g.D.Disk.tells g.D.Disk.state (drop n c.args.stations.items) c.args.self.now c.loop-station.self) p.count c.loop-station.invariant.closed in
    record {
      front = p.front;
      may = λ config shared can. c.close_station.ensures.rest config shared c.pop.new.self.items (subst (λ (l : List (Station g.row.D.Denot)). CanCloseStations g.D.Disk.state config shared l c.loop-station.self) c.in-Some.ensures.items (c.loop-station.invariant.may config shared can));
      closed = subst (λ (l : List (Station g.row.D.Denot)). ClosesStations g.D.Disk.tells g.D.Disk.state l c.args.self.now c.close_station.new.self) (sym (next_drop c.args.stations.items (length c.pop.new.self.items) c.in-Some.station p.there))
          (one_closed g.D.Disk.tells g.D.Disk.state c.in-Some.station (drop (length c.pop.new.self.items + 1) c.args.stations.items) (apart_behind c.args.stations.items (length c.pop.new.self.items) c.in-Some.station c.requires.2.rising p.there) c.args.self.now c.loop-station.self c.close_station.new.self behind c.close_station.ensures.closed);
    }

pub returns : goal.returns
returns g c =
    let none : c.loop-station.stations.items ≡ [] = nil_from_length c.loop-station.stations.items (omega (arith, c.in_default.ensures.cases, c.loop-station.stations.ok.0)) in
    record {
      rest = λ config shared can. subst (λ (l : List (Station g.row.D.Denot)). IsRest g.D.Disk.state config shared (map (λ (s : Station g.row.D.Denot). base_of_station s) l) c.loop-station.self) none (c.loop-station.invariant.may config shared can).rest;
      closed = subst (λ (l : List (Station g.row.D.Denot)). ClosesStations g.D.Disk.tells g.D.Disk.state (drop (length l) c.args.stations.items) c.args.self.now c.loop-station.self) none c.loop-station.invariant.closed;
      accesses = λ config shared can. (c.loop-station.invariant.may config shared can).accesses;
    }
