use Rattle.std.proofs.Common.{◌≡◌, suc, ◌++◌, [], List, All, length}
use Rattle.turn_lock.specs.Passes.{IsPassOf, IsFree, claims_back}
use Rattle.turn_lock.specs.Views.{claims_of}
use Rattle.turn_lock.specs.declared.pass.PassOf.{PassOf}
use Rattle.turn_lock.specs.declared.view.Stage.TheVariants.{Idle}
use Rattle.turn_lock.proofs.lock.TurnLock.join_all.Given as goal

abbrev pub invariant-loop-pass : goal.invariant-loop-pass
invariant-loop-pass g l = (popped : List (PassOf g.row.T.Denot g.row.T-Base.Denot)) × record {
  table : l.seat.table_id ≡ l.fn.seat.table_id;
  free : l.seat.me.0.stage ≡ Idle;
  empty : l.seat.me.1 ≡ [];
  parts : l.seat.me.0.parts ≡ suc (length popped);
  claims : claims_of l.seat.me.0 ≡ claims_of l.fn.seat.me.0 ++ claims_back popped;
  whole : l.fn.passes.items ≡ l.passes.items ++ popped;
  passes : All (λ p. IsPassOf l.self p × IsFree p) l.passes.items;
}

abbrev pub decreases-loop-pass : goal.decreases-loop-pass
decreases-loop-pass g l = goal.left-loop-pass g l
