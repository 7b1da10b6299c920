use Rattle.std.proofs.Common.{◌≡◌, List, length, reverse, refl, sym, ap, subst, ◌∙◌}
use Rattle.std.proofs.lemmas.List.{length-reverse, with_items_is}
use Rattle.manager.proofs.ReadThrough.{never_some}
use Rattle.manager.specs.declared.station.Station.{Station}
use Rattle.request_turns.specs.Helped.{ManagerLock}
use Rattle.window_desks.specs.declared.floor.Passes.{Passes}
use Rattle.window_desks.specs.Stations.{AreLeaving, AreMoved}
use Rattle.window_desks.proofs.Stationed.{moved_of, station_made, stations_of}
use Rattle.window_desks.proofs.setting.take_down.Goals as goal

pub returns-clause-stations : goal.returns-clause-stations
returns-clause-stations g c =
    let room = c.loop-lock.room in
    let back : c.reverse.new.self ≡ reverse room.items = c.reverse.ensures.after ∙ ap reverse c.as_mut_slice.ensures.value in
    let long : length c.reverse.new.self ≡ room.len = ap length back ∙ length-reverse room.items ∙ sym room.ok.0 in
    let gone = rw (never_some c.pop.result c.in_default.not-Some) at c.pop.ensures.cases in
    let moved = moved_of c.args.locks.items c.args.passes c.loop-lock.locks.items (record { desks = c.loop-lock.desks; helpers = c.loop-lock.helpers; keepers = c.loop-lock.keepers; help = c.args.passes.help; work = c.args.passes.work; room = room }) c.loop-lock.invariant (sym c.loop-lock.locks.ok.0 ∙ gone.0) in
    stations_of _ c.args.locks.items c.args.passes (subst (λ (ss : List (Station g.row.D.Denot)). AreMoved ss c.args.locks.items c.args.passes) (sym (with_items_is room c.reverse.new.self long ∙ back)) moved) c.requires

pub loop-lock-preserved : goal.loop-lock-preserved
loop-lock-preserved g c =
    let l = c.loop-lock in
    let made : Station g.row.D.Denot = record { id = c.unwrap-id.result.id; lock = c.in-Some.lock; worker = c.unwrap-id.result.worker; helper = c.unwrap-helper.result; keeper = c.unwrap-keeper.result } in
    let before : Passes g.row.D.Denot = record { desks = l.desks; helpers = l.helpers; keepers = l.keepers; help = c.args.passes.help; work = c.args.passes.work; room = l.room } in
    let behind : Passes g.row.D.Denot = record { desks = c.pop-in-Some.new.self; helpers = c.pop-in-Some-2.new.self; keepers = c.pop-in-Some-3.new.self; help = c.args.passes.help; work = c.args.passes.work; room = c.push_reserved.new.self } in
    let left = subst (λ (ms : List (ManagerLock g.row.D.Denot)). AreLeaving c.args.locks.items c.args.passes ms before) c.in-Some.ensures.items l.invariant in
    station_made c.args.locks.items c.args.passes c.pop.new.self.items before behind c.in-Some.lock c.unwrap-id.result made left
    (rw c.unwrap-id.ensures at c.pop-in-Some.ensures.items) (rw c.unwrap-helper.ensures at c.pop-in-Some-2.ensures.items) (rw c.unwrap-keeper.ensures at c.pop-in-Some-3.ensures.items)
    c.push_reserved.ensures.items c.push_reserved.ensures.capacity refl refl refl
