use Rattle.request_turns.proofs.Taking.{home_at}
use Rattle.view_change.proofs.Turns.{drain_stands, turn_done, turn_refused}
use Rattle.view_change.proofs.draining.drain_turn.Goals as goal

pub drain-answer-requires-clause-at : goal.drain-answer-requires-clause-at
drain-answer-requires-clause-at g c = home_at _ _ _ _ _ _ _ c.enter-turn.ensures.same.0 c.enter-turn.ensures.value.keeps c.requires.shared

pub leave_drained-requires-clause-value : goal.leave_drained-requires-clause-value
leave_drained-requires-clause-value g c = let r = c.drain-answer.ensures in
    drain_stands _ _ c.enter-turn.result.value c.drain-answer.new.m _ _ _ c.drain-answer.result r.keeps r.broke c.enter-turn.ensures.value.keeps

pub returns-in-Ok : goal.returns-in-Ok
returns-in-Ok g c = let e = c.enter-turn.ensures in let r = c.drain-answer.ensures in let l = c.leave_drained.ensures in record {
  drained = turn_done _ g.D.Disk.state c.enter-turn.result.value c.drain-answer.new.m c.args.pass.now c.enter-turn.new.pass c.leave_drained.new.pass e.same e.seen e.mine e.own e.value c.drain-answer.result c.in-Ok.field-0 c.new-moved.result c.drain-answer.new.tally c.in-Ok.is
      (drain_stands _ _ c.enter-turn.result.value c.drain-answer.new.m _ _ _ c.drain-answer.result r.keeps r.broke e.value.keeps) r.drains l.left r.bare c.new-moved.ensures r.taken;
  empty = r.empty;
}

pub returns-in-Err : goal.returns-in-Err
returns-in-Err g c = let e = c.enter-turn.ensures in let r = c.drain-answer.ensures in let l = c.leave_drained.ensures in record {
  drained = turn_refused _ g.D.Disk.state c.enter-turn.result.value c.drain-answer.new.m c.args.pass.now c.enter-turn.new.pass c.leave_drained.new.pass e.same e.seen e.mine e.own e.value c.drain-answer.result c.in-Err.fault c.in-Err.is
      (drain_stands _ _ c.enter-turn.result.value c.drain-answer.new.m _ _ _ c.drain-answer.result r.keeps r.broke e.value.keeps) r.drains l.left r.down l.broken;
  empty = r.empty;
}
