use Rattle.rack_parts.proofs.Basics.{◌≡◌, ◌<◌, ◌≤◌, ◌+◌, ◌-◌, ℕ, length, get_or, vec_len, Some, slice_get}
use Rattle.rack_parts.proofs.Members.{IsFrontOf}
use Rattle.rack_parts.proofs.Terms.{TurnLock, PassOf, SpindleView, Spindle, SpindleBase, CanCloseSpindles, StandsClosed, KeepsOtherRows, spindle_pass}
use Rattle.rack_parts.proofs.rack.Rest.close_spindles.Given as goal

-- the spindles behind those that are left are closed, the last first
abbrev pub invariant-loop-lock : goal.invariant-loop-lock
invariant-loop-lock g l = record {
  front : IsFrontOf l.locks.items l.fn.locks.items;
  keepers_front : IsFrontOf l.keepers.items l.fn.keepers.items;
  left : CanCloseSpindles l.locks.items l.keepers.items l.self;
  count : length l.self.rooms.closed.items + length l.locks.items ≡ length l.fn.locks.items;
  closed : (k : ℕ) (f : TurnLock Spindle SpindleBase) (p : PassOf Spindle SpindleBase) (d : SpindleView) → length l.locks.items ≤ k → slice_get l.fn.locks.items k ≡ Some f → slice_get l.fn.keepers.items k ≡ Some p
      → StandsClosed l.initial.self k f p (get_or l.self.rooms.closed.items (length l.fn.locks.items - 1 - k) d);
  kept : (v k : ℕ) → k < length l.locks.items → spindle_pass l.self v k ≡ spindle_pass l.initial.self v k;
  images : l.self.images ≡ l.initial.self.images;
  rows : KeepsOtherRows l.initial.self l.self;
}

abbrev pub decreases-loop-lock : goal.decreases-loop-lock
decreases-loop-lock g l = vec_len l.locks
