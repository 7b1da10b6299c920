use Rattle.std.proofs.Common.{◌≡◌, length, take, drop, arith, length-drop}
use Rattle.std.proofs.lemmas.List.{length-take}
use Rattle.std.proofs.lemmas.Result.{err_from_is_err_and}
use Rattle.nbd_session.specs.Ranges.{HasTransferred, piece_of}
use Rattle.nbd_session.proofs.Piecewise.{writes_no_more, writes_on}
use Rattle.nbd_session.proofs.Stays.{stays, stays_on}
use Rattle.nbd_session.proofs.ranges.write_blocks.Goals as goal

pub loop-done-init : goal.loop-done-init
loop-done-init g c = record { within = omega arith; stays = stays c.args.volume.now c.requires.ready; written = HasTransferred.none }

pub returns-in_err-write-clause-written : goal.returns-in_err-write-clause-written
returns-in_err-write-clause-written g c =
    let p = err_from_is_err_and c.from_residual.result c.from_residual.ensures.1 in
    let i = c.loop-done.invariant in
    let bs = c.args.blocks.now in
    let is : c.min-piece.result ≡ piece_of (g.V.Volume.most c.args.volume.now) (length bs) c.loop-done.done = omega (arith, c.min-piece.ensures, c.most-most.ensures.is) in
    let size : length (take c.min-piece.result (drop c.loop-done.done bs)) ≡ c.min-piece.result = omega (arith, length-take c.min-piece.result (drop c.loop-done.done bs), length-drop c.loop-done.done bs, c.min-piece.ensures) in
    rw (p.1, p.2) (writes_no_more g.V.Volume.Turned (g.V.Volume.most c.args.volume.now) c.args.at (length bs) c.args.volume.now c.loop-done.done c.min-piece.result bs _ c.loop-done.volume c.write.new.self c.in_err-write.field-0.0 i.written
    c.in_err-write.ensures.turned (grind arith) size is c.loop-done-test.true c.requires.whole)

pub loop-done-preserved : goal.loop-done-preserved
loop-done-preserved g c =
    let i = c.loop-done.invariant in
    let bs = c.args.blocks.now in
    let is : c.min-piece.result ≡ piece_of (g.V.Volume.most c.args.volume.now) (length bs) c.loop-done.done = omega (arith, c.min-piece.ensures, c.most-most.ensures.is) in
    let size : length (take c.min-piece.result (drop c.loop-done.done bs)) ≡ c.min-piece.result = omega (arith, length-take c.min-piece.result (drop c.loop-done.done bs), length-drop c.loop-done.done bs, c.min-piece.ensures) in
    record {
      within = omega (arith, c.min-piece.ensures);
      stays = stays_on _ _ _ i.stays (let e = c.in_ok-write.ensures in record { ready = e.ready; same_home = e.same_home; same_most = e.same_most });
      written = writes_on g.V.Volume.Turned (g.V.Volume.most c.args.volume.now) c.args.at (length bs) c.args.volume.now c.loop-done.done c.min-piece.result bs _ c.loop-done.volume c.write.new.self i.written c.in_ok-write.ensures.turned (grind arith) size is c.loop-done-test.true c.requires.whole;
    }
