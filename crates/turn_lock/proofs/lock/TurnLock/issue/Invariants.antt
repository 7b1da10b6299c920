use Rattle.std.proofs.Common.{◌≡◌, ◌-◌, [], vec_len}
use Rattle.std.specs.Prelude.{vec_capacity}
use Rattle.turn_lock.specs.Passes.{AreNewPasses}
use Rattle.turn_lock.specs.Views.{issuer}
use Rattle.turn_lock.proofs.lock.TurnLock.issue.Given as goal

abbrev pub ghost-pick : goal.ghost-pick
ghost-pick g a = g.base

abbrev pub invariant-loop-number : goal.invariant-loop-number
invariant-loop-number g l = record {
  table : l.root.table_id ≡ l.fn.root.table_id;
  root : l.root.me ≡ (issuer g.base (l.count - l.number) l.number, []);
  len : vec_len l.passes ≡ l.number;
  room : vec_capacity l.passes ≡ l.count;
  passes : AreNewPasses l.self l.passes.items;
}
