use Rattle.std.proofs.Common.{Ok, Err, refl, ap, arith}
use Rattle.std.specs.Vec.{with_item}
use Rattle.std.proofs.lemmas.Option.{slice_get_within}
use Rattle.inspection.proofs.SameRacks.{rack_self}
use Rattle.view_commands.specs.Drains as drains
use Rattle.view_commands.proofs.DrainedRack.{is_drained, rack_drained, shared_at, worker_at}
use Rattle.view_commands.proofs.draining.drain_volume.Goals as goal

pub returns-in_default-clause-same : goal.returns-in_default-clause-same
returns-in_default-clause-same g c = rack_self _

pub index_mut-requires : goal.index_mut-requires
index_mut-requires g c =
    let p = c.place_of-place.ensures in
    let less = slice_get_within c.deref.result.now c.place_of-place.result p.0 p.1.there in
    omega (arith, less, c.deref.ensures.len)

pub drain_all-requires-clause-station : goal.drain_all-requires-clause-station
drain_all-requires-clause-station g c =
    let p = rw c.deref.ensures.value at c.place_of-place.ensures in
    worker_at c.args.config.now c.args.rack.now c.place_of-place.result c.args.volume p.0 c.index_mut.result.now c.requires.rack p.1 c.index_mut.ensures.value

pub drain_all-requires-clause-shared : goal.drain_all-requires-clause-shared
drain_all-requires-clause-shared g c =
    let p = rw c.deref.ensures.value at c.place_of-place.ensures in
    shared_at c.args.config.now c.args.rack.now c.place_of-place.result c.args.volume p.0 c.index_mut.result.now c.requires.rack p.1 c.index_mut.ensures.value

pub returns-in-Ok-drain_all-clause-same : goal.returns-in-Ok-drain_all-clause-same
returns-in-Ok-drain_all-clause-same g c =
    let p = rw c.deref.ensures.value at c.place_of-place.ensures in
    rack_drained g.D.Disk.tells g.D.Disk.state c.args.rack.now (with_item c.args.rack.now.stations c.place_of-place.result c.drain_all.new.station) c.place_of-place.result c.args.volume p.0 c.index_mut.result.now c.drain_all.new.station
    c.drain_all.result p.1 c.index_mut.ensures.value c.drain_all.ensures.same c.drain_all.ensures.drained refl

pub returns-in-Ok-drain_all-clause-drained : goal.returns-in-Ok-drain_all-clause-drained
returns-in-Ok-drain_all-clause-drained g c =
    let p = rw c.deref.ensures.value at c.place_of-place.ensures in
    drains.done c.in-Ok-drain_all.field-0 (is_drained g.D.Disk.tells g.D.Disk.state c.args.rack.now (with_item c.args.rack.now.stations c.place_of-place.result c.drain_all.new.station) c.place_of-place.result c.args.volume p.0 c.index_mut.result.now c.drain_all.new.station
    (Ok c.in-Ok-drain_all.field-0) p.1 c.index_mut.ensures.value c.drain_all.ensures.same c.in-Ok-drain_all.ensures.drained refl) refl

pub returns-clause-same : goal.returns-clause-same
returns-clause-same g c =
    let p = rw c.deref.ensures.value at c.place_of-place.ensures in
    rack_drained g.D.Disk.tells g.D.Disk.state c.args.rack.now (with_item c.args.rack.now.stations c.place_of-place.result c.drain_all.new.station) c.place_of-place.result c.args.volume p.0 c.index_mut.result.now c.drain_all.new.station
    c.drain_all.result p.1 c.index_mut.ensures.value c.drain_all.ensures.same c.drain_all.ensures.drained refl

pub returns-clause-drained : goal.returns-clause-drained
returns-clause-drained g c =
    let p = rw c.deref.ensures.value at c.place_of-place.ensures in
    drains.refused c.in-Err.fault (is_drained g.D.Disk.tells g.D.Disk.state c.args.rack.now (with_item c.args.rack.now.stations c.place_of-place.result c.drain_all.new.station) c.place_of-place.result c.args.volume p.0 c.index_mut.result.now c.drain_all.new.station
    (Err c.in-Err.fault) p.1 c.index_mut.ensures.value c.drain_all.ensures.same c.in-Err.ensures.drained refl) (ap Err c.fault_of.ensures)
