use Rattle.std.proofs.Common.{◌<◌, length, arith}
use Rattle.report.proofs.words.put_words.Goals as goal
use Rattle.report.proofs.words.put_words.Goals.{then-place-gt0+in_ok-push, else-place-gt0}
use Rattle.report.proofs.Joining.{put_first, put_next}

pub loop-place-preserved : goal.loop-place-preserved
loop-place-preserved c =
    let within : c.loop-place.place < length c.args.words.now = omega arith in
    elim c.if-place-gt0.branch [
      | then-place-gt0+in_ok-push w ↦
          put_next c.args.words.now c.loop-place.place _ _ _ _ _ within w.if-place-gt0.true c.loop-place.invariant w.in_ok-push.ensures.items (rw w.out-is at c.in_ok-put_word.ensures.ok)
      | else-place-gt0 w ↦
          put_first c.args.words.now c.loop-place.place _ _ _ _ within w.if-place-gt0.false c.loop-place.invariant (rw w.out-is at c.in_ok-put_word.ensures.ok)
    ]
