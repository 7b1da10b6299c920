use Rattle.std.proofs.Common.{◌≡◌, ◌++◌, replicate}
use Rattle.std.specs.Prelude.{vec_capacity}
use Rattle.window_desks.proofs.serve.tell.Given as goal

abbrev pub invariant-loop-told : goal.invariant-loop-told
invariant-loop-told l = record {
  items : l.outcomes.items ≡ l.initial.outcomes.items ++ replicate l._told l.outcome;
  room : vec_capacity l.outcomes ≡ vec_capacity l.initial.outcomes;
}
