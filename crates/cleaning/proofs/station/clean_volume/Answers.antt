use Rattle.std.proofs.Common.{refl, sym, ◌∙◌, arith}
use Rattle.std.specs.Vec.{with_item}
use Rattle.cleaning.proofs.Stations.{can_at, volume_cleans, volume_others, volume_worked}
use Rattle.cleaning.proofs.station.clean_volume.Goals as goal

pub clean_station-requires-clause-station : goal.clean_station-requires-clause-station
clean_station-requires-clause-station g c = (can_at _ _ c.args.volume c.index_mut.result.now c.requires.can c.requires.volume c.index_mut.ensures.value).0

pub clean_station-requires-clause-at : goal.clean_station-requires-clause-at
clean_station-requires-clause-at g c = (can_at _ _ c.args.volume c.index_mut.result.now c.requires.can c.requires.volume c.index_mut.ensures.value).1

pub clean_station-requires-clause-most : goal.clean_station-requires-clause-most
clean_station-requires-clause-most g c = (can_at _ _ c.args.volume c.index_mut.result.now c.requires.can c.requires.volume c.index_mut.ensures.value).2 ∙ sym c.most.ensures

pub returns-clause-worked : goal.returns-clause-worked
returns-clause-worked g c =
    volume_worked g.D.Disk.tells g.D.Disk.state c.args.config.now c.args.rack.now (with_item c.args.rack.now.stations c.args.volume c.clean_station.new.station) c.args.volume c.index_mut.result.now c.clean_station.new.station
    (let n = c.requires.can.count in let v = c.requires.volume in omega (arith, n, v)) c.index_mut.ensures.value c.clean_station.ensures.same refl

pub returns-clause-others : goal.returns-clause-others
returns-clause-others g c =
    volume_others g.D.Disk.tells g.D.Disk.state c.args.config.now c.args.rack.now (with_item c.args.rack.now.stations c.args.volume c.clean_station.new.station) c.args.volume c.index_mut.result.now c.clean_station.new.station
    (let n = c.requires.can.count in let v = c.requires.volume in omega (arith, n, v)) c.index_mut.ensures.value c.clean_station.ensures.same refl

pub returns-clause-cleans : goal.returns-clause-cleans
returns-clause-cleans g c =
    volume_cleans g.D.Disk.tells g.D.Disk.state c.args.config.now c.args.rack.now (with_item c.args.rack.now.stations c.args.volume c.clean_station.new.station) c.args.volume c.index_mut.result.now c.clean_station.new.station
    (let n = c.requires.can.count in let v = c.requires.volume in omega (arith, n, v)) c.index_mut.ensures.value c.clean_station.ensures.same refl
    c.clean_station.result (rw c.most.ensures at c.clean_station.ensures.cleans)
