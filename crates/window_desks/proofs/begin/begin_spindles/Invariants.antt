use Rattle.std.proofs.Common.{◌≡◌, ◌≤◌, ◌<◌, ℕ, Bool, length, slice_index_or}
use Rattle.std.specs.Prelude.{vec_len, vec_capacity}
use Rattle.turn_lock.specs.Passes.{IsFree, IsPassOf, IsSamePass}
use Rattle.turn_lock.specs.declared.lock.TurnLock.{TurnLock}
use Rattle.spin_model.specs.declared.spindle.Spindle.{Spindle}
use Rattle.spin_model.specs.declared.spindle.SpindleBase.{SpindleBase}
use Rattle.window_desks.specs.Begun.{SpindlePass, HasBegun}
use Rattle.window_desks.proofs.begin.begin_spindles.Given as goal

abbrev pub invariant-loop-k : goal.invariant-loop-k
invariant-loop-k g l = record {
  begun : (j : ℕ) (b : Bool) (d : SpindlePass) → j < l.k → HasBegun l.t (slice_index_or l.awake.items j b) (slice_index_or l.initial.keepers j d) (slice_index_or l.keepers j d);
  rest : (j : ℕ) (d : SpindlePass) → l.k ≤ j → slice_index_or l.keepers j d ≡ slice_index_or l.initial.keepers j d;
  own : (j : ℕ) (s : TurnLock Spindle SpindleBase) (d : SpindlePass) → j < length l.keepers → IsPassOf (slice_index_or l.spindles j s) (slice_index_or l.keepers j d);
  free : (j : ℕ) (d : SpindlePass) → j < length l.keepers → IsFree (slice_index_or l.keepers j d);
  same : (j : ℕ) (d : SpindlePass) → j < length l.keepers → IsSamePass (slice_index_or l.initial.keepers j d) (slice_index_or l.keepers j d);
  len : vec_len l.awake ≡ l.k;
  room : length l.initial.keepers ≤ vec_capacity l.awake;
}
