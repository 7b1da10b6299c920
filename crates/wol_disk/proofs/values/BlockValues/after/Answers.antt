use Rattle.std.proofs.Common.{take, sym, ap, ◌∙◌}
use Rattle.wol_disk.specs.Disk.{fresh}
use Rattle.wol_disk.specs.Record.{block_after}
use Rattle.wol_disk.specs.Touch.{touched}
use Rattle.wol_disk.proofs.Replay.{after_more}
use Rattle.wol_disk.proofs.values.BlockValues.after.Goals as goal

pub loop-call-preserved : goal.loop-call-preserved
loop-call-preserved c =
    let k = c.loop-call.call-index in
    let v = block_after c.args.i (take k c.args.calls.now) (fresh c.args.first.now) in
    c.in_ok-note.ensures ∙ ap (touched c.touch.result) c.loop-call.invariant
    ∙ sym (after_more c.args.i c.args.calls.now k c.call-item.result (fresh c.args.first.now) c.loop-call-test.true c.call-item.is ∙ c.touch.ensures v)
