use Rattle.std.proofs.Common.{◌≡◌, ◌+◌, take, ◌∙◌, arith}
use Rattle.wol_disk.specs.Disk.{fresh}
use Rattle.wol_disk.specs.Record.{block_after}
use Rattle.wol_disk.specs.Touch.{touched}
use Rattle.wol_disk.proofs.Replay.{after_more}
use Rattle.wol_disk.proofs.restart.count_values.Goals as goal
use Rattle.wol_disk.proofs.restart.count_values.Goals.{in-Wrote, in-Synced, in-Nothing}

pub loop-call-preserved : goal.loop-call-preserved
loop-call-preserved c =
    let k = c.loop-call.call-index in
    let i = c.loop-call.invariant in
    record {
      few = elim c.match-touch.branch [ in-Wrote w ↦ omega (arith, w.count-is, i.few) | in-Synced w ↦ omega (arith, w.count-is) | in-Nothing w ↦ omega (arith, w.count-is, i.few) ];
      told = λ b.
          let v = block_after c.args.i (take k c.args.calls.now) (fresh b) in
          let s : block_after c.args.i (take (k + 1) c.args.calls.now) (fresh b) ≡ touched c.touch.result v = after_more c.args.i c.args.calls.now k c.call-item.result (fresh b) c.loop-call-test.true c.call-item.is ∙ c.touch.ensures v in
          elim c.match-touch.branch [
            | in-Wrote w ↦ rw (s, w.in-Wrote.is, w.count-is) (omega (arith, i.told b))
            | in-Synced w ↦ rw (s, w.in-Synced.is, w.count-is) (omega arith)
            | in-Nothing w ↦ rw (s, w.in-Nothing.is, w.count-is) (i.told b)
          ];
    }
