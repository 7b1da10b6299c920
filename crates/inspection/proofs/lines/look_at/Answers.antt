use Rattle.std.proofs.Common.{refl}
use Rattle.std.specs.Vec.{with_item}
use Rattle.inspection.proofs.Placing.{looked_at, looked_others, looked_same}
use Rattle.inspection.proofs.lines.look_at.Goals as goal

pub returns-clause-same : goal.returns-clause-same
returns-clause-same g c =
    let p = rw c.deref.ensures.value at c.place_of-place.ensures in
    looked_same g.D.Disk.tells g.D.Disk.state c.args.config.now c.args.asked c.args.rack.now (with_item c.args.rack.now.stations c.place_of-place.result c.look_station.new.station) c.place_of-place.result c.args.volume p.0 c.index_mut.result.now c.look_station.new.station p.1 c.index_mut.ensures.value c.look_station.ensures.same refl

pub returns-clause-others : goal.returns-clause-others
returns-clause-others g c =
    let p = rw c.deref.ensures.value at c.place_of-place.ensures in
    looked_others g.D.Disk.tells g.D.Disk.state c.args.config.now c.args.asked c.args.rack.now (with_item c.args.rack.now.stations c.place_of-place.result c.look_station.new.station) c.place_of-place.result c.args.volume p.0 c.index_mut.result.now c.look_station.new.station p.1 c.index_mut.ensures.value c.look_station.ensures.same refl

pub returns-clause-looks : goal.returns-clause-looks
returns-clause-looks g c =
    let p = rw c.deref.ensures.value at c.place_of-place.ensures in
    looked_at g.D.Disk.tells g.D.Disk.state c.args.config.now c.args.asked c.args.rack.now (with_item c.args.rack.now.stations c.place_of-place.result c.look_station.new.station) c.place_of-place.result c.args.volume p.0 c.index_mut.result.now c.look_station.new.station p.1 c.index_mut.ensures.value c.look_station.ensures.same refl
    _ _ _ c.requires.empty c.look_station.ensures.looks
