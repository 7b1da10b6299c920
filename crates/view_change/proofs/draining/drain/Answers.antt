use Rattle.std.proofs.Common.{refl, ◌∙◌}
use Rattle.std.proofs.lemmas.Result.{err_from_is_err_and}
use Rattle.manager.specs.Seen.{look_of_manager}
use Rattle.request_turns.proofs.Counting.{taken_none}
use Rattle.request_turns.proofs.StepNotes.{bare_taken, moved_taken}
use Rattle.view_change.proofs.Steps.{underway, one_further, drains_ok, drains_err}
use Rattle.view_change.proofs.draining.drain.Goals as goal

pub steps-init : goal.steps-init
steps-init g c = record {
  ready = c.requires.ready;
  at = c.requires.at;
  so = underway _ _ _;
  look = refl;
  taken = taken_none c.args.tally.now (look_of_manager c.args.m.now) (look_of_manager c.args.m.now) refl;
}

pub returns-in-Bare-clause-taken : goal.returns-in-Bare-clause-taken
returns-in-Bare-clause-taken g c = bare_taken _ _ _ _ _ _ c.steps.invariant.taken c.in_ok-drain_step.ensures.counted c.in-Bare.is

pub returns-in-Bare-clause-drains : goal.returns-in-Bare-clause-drains
returns-in-Bare-clause-drains g c = let e = c.in_ok-drain_step.ensures in drains_ok _ _ _ _ _ _ c.in-Bare.is c.steps.invariant.so e.fault e.drained e.calm e.any_moment

pub steps-preserved : goal.steps-preserved
steps-preserved g c = let e = c.in_ok-drain_step.ensures in let i = c.steps.invariant in record {
  ready = e.ready;
  at = e.at;
  so = one_further _ _ _ _ _ c.in-Moved.blocks c.in-Moved.records _ c.in-Moved.is i.so e.keeps e.fault e.drained e.calm e.any_moment;
  look = e.look ∙ i.look;
  taken = moved_taken _ _ _ _ _ _ i.taken e.counted c.in-Moved.blocks c.in-Moved.records _ c.in-Moved.is c.count.ensures;
}

pub returns-in_err-drain_step-clause-drains : goal.returns-in_err-drain_step-clause-drains
returns-in_err-drain_step-clause-drains g c =
    let p = err_from_is_err_and c.from_residual.result c.from_residual.ensures.1 in
    let e = c.in_err-drain_step.ensures in
    rw (p.1, p.2) (drains_err _ _ _ _ _ c.in_err-drain_step.field-0.0 c.steps.invariant.so e.fault e.drained e.any_moment)
