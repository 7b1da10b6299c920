use Rattle.std.proofs.Common.{◌≡◌, ◌+◌, take, ◌∙◌, arith}
use Rattle.wol_disk.specs.Disk.{fresh}
use Rattle.wol_disk.specs.Record.{block_after}
use Rattle.wol_disk.specs.Touch.{touched}
use Rattle.wol_disk.proofs.Replay.{after_more, pick_start, pick_wrote, pick_synced}
use Rattle.wol_disk.proofs.restart.pick.Goals as goal
use Rattle.wol_disk.proofs.restart.pick.Goals.{in-Wrote, in-Synced, in-Nothing}

pub loop-call-init : goal.loop-call-init
loop-call-init c = record { few = omega arith; walk = pick_start c.args.k c.args.first.now }

pub loop-call-preserved : goal.loop-call-preserved
loop-call-preserved c =
    let i = c.loop-call.invariant in
    let n = c.loop-call.call-index in
    let v = block_after c.args.i (take n c.args.calls.now) (fresh c.args.first.now) in
    let s : block_after c.args.i (take (n + 1) c.args.calls.now) (fresh c.args.first.now) ≡ touched c.touch.result v = after_more c.args.i c.args.calls.now n c.call-item.result (fresh c.args.first.now) c.loop-call-test.true c.call-item.is ∙ c.touch.ensures v in
    record {
      few = elim c.match-touch.branch [ in-Wrote w ↦ omega (arith, w.place-is, i.few) | in-Synced w ↦ omega (arith, w.place-is) | in-Nothing w ↦ omega (arith, w.place-is, i.few) ];
      walk = elim c.match-touch.branch [
        | in-Wrote w ↦ rw (s, w.in-Wrote.is, w.place-is, w.latest-is, w.picked-is, w.one_of-either.ensures) (pick_wrote c.args.k c.loop-call.place c.loop-call.latest c.loop-call.picked _ v i.walk)
        | in-Synced w ↦ rw (s, w.in-Synced.is, w.place-is, w.latest-is, w.picked-is) (pick_synced c.args.k c.loop-call.place c.loop-call.latest c.loop-call.picked v i.walk)
        | in-Nothing w ↦ rw (s, w.in-Nothing.is, w.place-is, w.latest-is, w.picked-is) i.walk
      ];
    }
