use Rattle.std.proofs.Common.{refl, arith}
use Rattle.std.specs.Vec.{with_item}
use Rattle.std.proofs.lemmas.Option.{slice_get_read, slice_get_within}
use Rattle.nbd_serving.proofs.Placed.{can_serve, served_again, served_station}
use Rattle.nbd_serving.proofs.serving.serve_open.Goals as goal

pub index_mut-station-requires : goal.index_mut-station-requires
index_mut-station-requires g c =
    let p = c.place_of-place.ensures in
    let less = slice_get_within c.deref.result.now c.place_of-place.result p.0 p.1.there in
    omega (arith, less, c.deref.ensures.len)

pub serve_worker-requires : goal.serve_worker-requires
serve_worker-requires g c =
    let p = rw c.deref.ensures.value at c.place_of-place.ensures in
    let conf = slice_get_read c.args.config.now.volumes.items _ c.args.volume c.index.result.now refl (omega (arith, c.requires.volume)) c.index.ensures in
    can_serve c.args.config.now c.args.rack.now c.place_of-place.result c.args.volume p.0 c.index_mut-station.result.now c.requires.rack p.1 c.index_mut-station.ensures.value c.index.result.now conf c.most_of.result c.most_of.ensures.most c.most_of.ensures.some c.most_of.ensures.few

pub returns : goal.returns
returns g c =
    let p = rw c.deref.ensures.value at c.place_of-place.ensures in
    let conf = slice_get_read c.args.config.now.volumes.items _ c.args.volume c.index.result.now refl (omega (arith, c.requires.volume)) c.index.ensures in
    let s = c.serve_worker.ensures in let q = c.serve_worker.new.worker in
    let ts = with_item c.args.rack.now.stations c.place_of-place.result (record c.index_mut-station.result.now { worker = q }) in
    record {
      again = served_again c.args.config.now c.args.rack.now c.place_of-place.result c.args.volume p.0 c.index_mut-station.result.now c.requires.rack p.1 c.index_mut-station.ensures.value c.index.result.now conf ts q c.most_of.result s.ready refl;
      serves = served_station c.args.config.now c.args.rack.now c.place_of-place.result c.args.volume p.0 c.index_mut-station.result.now c.requires.rack p.1 c.index_mut-station.ensures.value c.index.result.now conf ts q c.most_of.result s.ready refl g.D.Disk.tells _ _ c.serve_worker.result
          c.most_of.ensures.most s.session s.faults;
    }
