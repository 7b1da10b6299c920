use Rattle.rack_parts.proofs.Basics.{◌≡◌, ◌≤◌, List, [], ◌∷◌, ◌++◌, length, map, sym, ap, ◌∙◌, subst, arith, All, vec_capacity, All-cons, All-nil}
use Rattle.rack_parts.proofs.Terms.{AreWhole, IsPassOf, IsFree, PassOf, logger_of, Lane, ManagerBase, Manager, Station, shapes_of, AreRooms}
use Rattle.rack_parts.proofs.Terms.{IsStation, base_of_station, CanPutLanes}
use Rattle.rack_parts.proofs.Members.{all_last}
use Rattle.rack_parts.proofs.StationsClosed.{home_away, lanes_away, lanes_of_others, stations_back, station_closed, rooms_less}
use Rattle.rack_parts.proofs.rack.Rest.close_station.Goals as goal

-- the three passes in the row
row_of_three : {X : Type 0} (w h k : X) (row one two three : List X) → row ≡ [] → one ≡ row ++ w ∷ [] → two ≡ one ++ h ∷ [] → three ≡ two ++ k ∷ [] → three ≡ w ∷ h ∷ k ∷ []
row_of_three {X} w h k row one two three empty first second third =
    third ∙ ap (λ (l : List X). l ++ k ∷ []) (second ∙ ap (λ (l : List X). l ++ h ∷ []) (first ∙ ap (λ (l : List X). l ++ w ∷ []) empty))

pub push_reserved-requires : goal.push_reserved-requires
push_reserved-requires g c =
    let room = (all_last (λ r. (r.items ≡ []) × (3 ≤ vec_capacity r)) c.pop.new.self.items c.in-Some.passes (subst (λ l. All (λ r. (r.items ≡ []) × (3 ≤ vec_capacity r)) l) c.in-Some.ensures.items c.requires.3.rest.rooms.managers)) in
    omega (arith, ap length room.0, room.1, c.in-Some.passes.ok.0)

pub push_reserved-requires-2 : goal.push_reserved-requires-2
push_reserved-requires-2 g c =
    let room = (all_last (λ r. (r.items ≡ []) × (3 ≤ vec_capacity r)) c.pop.new.self.items c.in-Some.passes (subst (λ l. All (λ r. (r.items ≡ []) × (3 ≤ vec_capacity r)) l) c.in-Some.ensures.items c.requires.3.rest.rooms.managers)) in
    omega (arith, ap length room.0, room.1, c.in-Some.passes.ok.0, c.push_reserved.ensures.len, c.push_reserved.ensures.capacity)

pub push_reserved-requires-3 : goal.push_reserved-requires-3
push_reserved-requires-3 g c =
    let room = (all_last (λ r. (r.items ≡ []) × (3 ≤ vec_capacity r)) c.pop.new.self.items c.in-Some.passes (subst (λ l. All (λ r. (r.items ≡ []) × (3 ≤ vec_capacity r)) l) c.in-Some.ensures.items c.requires.3.rest.rooms.managers)) in
    omega (arith, ap length room.0, room.1, c.in-Some.passes.ok.0, c.push_reserved.ensures.len, c.push_reserved.ensures.capacity, c.push_reserved-2.ensures.len, c.push_reserved-2.ensures.capacity)

pub close-manager-requires : goal.close-manager-requires
close-manager-requires g c =
    let P : PassOf (Manager g.row.D.Denot) ManagerBase → Type 0 = λ p. IsPassOf c.args.station.lock p × IsFree p in
    let empty = (all_last (λ r. (r.items ≡ []) × (3 ≤ vec_capacity r)) c.pop.new.self.items c.in-Some.passes (subst (λ l. All (λ r. (r.items ≡ []) × (3 ≤ vec_capacity r)) l) c.in-Some.ensures.items c.requires.3.rest.rooms.managers)).0 in
    let items = row_of_three c.args.station.worker c.args.station.helper c.args.station.keeper c.in-Some.passes.items c.push_reserved.new.self.items c.push_reserved-2.new.self.items c.push_reserved-3.new.self.items
    empty c.push_reserved.ensures.items c.push_reserved-2.ensures.items c.push_reserved-3.ensures.items in
    let station : IsStation c.args.station = all_last (λ t. IsStation t) c.requires.2 c.args.station c.requires.3.each in
    record {
      count = omega (arith, ap length items, c.push_reserved-3.new.self.ok.0, station.passes);
      passes = subst (λ (l : List (PassOf (Manager g.row.D.Denot) ManagerBase)). All P l) (sym items)
          (All-cons P c.args.station.worker (c.args.station.helper ∷ c.args.station.keeper ∷ []) (station.worker_.own, station.worker_.free) (All-cons P c.args.station.helper (c.args.station.keeper ∷ []) (station.helper_.own, station.helper_.free)
          (All-cons P c.args.station.keeper [] (station.keeper_.own, station.keeper_.free) (All-nil P))));
    }

pub put_manager-requires : goal.put_manager-requires
put_manager-requires g c =
    let state = g.D.Disk.state in let tells = g.D.Disk.tells in let r = c.requires in let s = c.args.station in let m = c.close-manager.result in let e = c.close-manager.ensures in let old = c.args.self.now in
    let rooms = record old.rooms { managers = c.pop.new.self } in
    record {
      home = home_away state tells r.0 r.1 r.2 s old r.3 m e.0 e.1 rooms;
      lanes = subst (λ v. CanPutLanes state (record old { rooms = rooms }) s.id v.items) (sym c.release.ensures.lanes) (lanes_away state tells r.0 r.1 r.2 s old r.3 m e.0 e.1 rooms);
      others = subst (λ v. All (λ (l : Lane g.row.D.Denot). s.id ≡ logger_of l → ⊥) v.items) (sym c.release.ensures.lanes) (lanes_of_others state tells r.0 r.1 r.2 s old r.3 m e.0 e.1 rooms);
    }

pub returns-clause-rest : goal.returns-clause-rest
returns-clause-rest g c = λ config shared before can.
    stations_back g.D.Disk.state g.D.Disk.tells config shared before c.args.station c.args.self.now can c.close-manager.result c.close-manager.ensures.0 c.close-manager.ensures.1
    (record c.args.self.now.rooms { managers = c.pop.new.self }) c.release.result c.release.ensures.home c.release.ensures.spindle c.release.ensures.lanes c.put_manager.new.self c.put_manager.ensures
    (subst (λ r. AreRooms (length (shapes_of config)) (length (map (λ (t : Station g.row.D.Denot). base_of_station t) before)) r) (sym c.put_manager.ensures.rooms)
    (rooms_less (length (shapes_of config)) c.args.self.now.rooms before c.args.station c.pop.new.self c.in-Some.passes can.rest.rooms c.in-Some.ensures.items))

pub returns-clause-closed : goal.returns-clause-closed
returns-clause-closed g c =
    let empty = (all_last (λ r. (r.items ≡ []) × (3 ≤ vec_capacity r)) c.pop.new.self.items c.in-Some.passes (subst (λ l. All (λ r. (r.items ≡ []) × (3 ≤ vec_capacity r)) l) c.in-Some.ensures.items c.requires.3.rest.rooms.managers)).0 in
    let items = row_of_three c.args.station.worker c.args.station.helper c.args.station.keeper c.in-Some.passes.items c.push_reserved.new.self.items c.push_reserved-2.new.self.items c.push_reserved-3.new.self.items
    empty c.push_reserved.ensures.items c.push_reserved-2.ensures.items c.push_reserved-3.ensures.items in
    station_closed g.D.Disk.state g.D.Disk.tells c.requires.0 c.requires.1 c.requires.2 c.args.station c.args.self.now c.requires.3 c.close-manager.result c.close-manager.ensures.0 c.close-manager.ensures.1
    (record c.args.self.now.rooms { managers = c.pop.new.self }) c.release.result c.release.ensures.home c.release.ensures.spindle c.release.ensures.lanes c.put_manager.new.self c.put_manager.ensures
    (subst (λ (l : List (PassOf (Manager g.row.D.Denot) ManagerBase)). AreWhole c.close-manager.ensures.0 l) items c.close-manager.ensures.2)
