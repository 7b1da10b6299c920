use Rattle.std.proofs.Common.{refl, ◌∙◌}
use Rattle.manager.specs.Seen.{look_of_manager}
use Rattle.request_turns.proofs.Counting.{taken_none}
use Rattle.request_turns.proofs.StepNotes.{bare_taken, moved_taken}
use Rattle.request_turns.proofs.drain.drain.Goals as goal

pub steps-init : goal.steps-init
steps-init g c = record {
  ready = c.requires.ready;
  at = c.requires.at;
  up = c.requires.up;
  keeps = λ b notes w k. k;
  look = refl;
  taken = taken_none c.args.tally.now (look_of_manager c.args.m.now) (look_of_manager c.args.m.now) refl;
}

pub returns-in-Bare-clause-taken : goal.returns-in-Bare-clause-taken
returns-in-Bare-clause-taken g c = bare_taken _ _ _ _ _ _ c.steps.invariant.taken c.in_ok-drain_step.ensures.counted c.in-Bare.is

pub steps-preserved : goal.steps-preserved
steps-preserved g c = let e = c.in_ok-drain_step.ensures in let i = c.steps.invariant in record {
  ready = e.ready;
  at = e.at;
  up = e.fault.1;
  keeps = λ b notes w k. e.keeps b notes tt (i.keeps b notes tt k);
  look = e.look ∙ i.look;
  taken = moved_taken _ _ _ _ _ _ i.taken e.counted c.in-Moved.blocks c.in-Moved.records _ c.in-Moved.is c.count.ensures;
}
