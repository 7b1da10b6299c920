use Rattle.live_serving.proofs.Still.{none_yet, one_more, ran_out}
use Rattle.live_serving.proofs.clock.run_clock.Goals as goal

pub moments-init : goal.moments-init
moments-init g c = record { ready = c.requires; so = none_yet _ _ _ _ _ }

pub returns-then-not-tick_next-clause-ticked : goal.returns-then-not-tick_next-clause-ticked
returns-then-not-tick_next-clause-ticked g c = ran_out _ _ _ _ _ _ _ _ _ c.moments.invariant.so c.if-not-tick_next.ensures.ticked

pub moments-preserved : goal.moments-preserved
moments-preserved g c = record {
  ready = c.tick_next.ensures.ready;
  so = one_more _ _ _ _ _ _ _ _ _ c.moments.invariant.so c.if-not-tick_next.ensures.ticked;
}
