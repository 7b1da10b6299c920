use Rattle.std.proofs.Common.{◌≡◌, arith}
use Rattle.std.proofs.lemmas.List.{length-take}
use Rattle.wol_disk.specs.Disk.{Block}
use Rattle.nbd_session.specs.Ranges.{HasTransferred, piece_of}
use Rattle.nbd_session.proofs.Piecewise.{reads_on}
use Rattle.nbd_session.proofs.Stays.{stays, stays_on}
use Rattle.nbd_session.proofs.ranges.read_range.Goals as goal

pub loop-done-init : goal.loop-done-init
loop-done-init g c = record { within = omega arith; stays = stays c.args.volume.now c.requires.ready; read = HasTransferred.none }

pub loop-done-preserved : goal.loop-done-preserved
loop-done-preserved g c =
    let i = c.loop-done.invariant in
    let is : c.min-piece.result ≡ piece_of (g.V.Volume.most c.args.volume.now) c.args.count c.loop-done.done = omega (arith, c.min-piece.ensures, c.most-most.ensures.is) in
    record {
      within = omega (arith, c.min-piece.ensures);
      stays = stays_on _ _ _ i.stays c.in_ok-read_piece.ensures.stays;
      read = reads_on g.V.Volume.Turned (g.V.Volume.most c.args.volume.now) c.args.at c.args.count c.args.volume.now c.loop-done.done _ c.min-piece.result c.loop-done.bytes c.read_piece.new.bytes c.loop-done.volume c.read_piece.new.volume i.read
          c.in_ok-read_piece.ensures.read c.loop-done-test.true is (omega (arith, length-take {A = Block}, c.min-piece.ensures, c.most-most.ensures.few, c.requires.room, c.loop-done.auto.room));
    }
