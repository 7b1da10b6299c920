-- Locks with all of their passes.
use Rattle.std.specs.Prelude.{◌≡◌, ◌≢◌, ◌<◌, ◌+◌, ℕ, List, [], length, slice_index_or, false, All}
use Rattle.turn_lock.specs.Passes.{lock_passes, pass_seen, pass_mine, pass_number, IsPassOf, IsFree}
use Rattle.turn_lock.specs.declared.pass.PassOf.{PassOf}
use Rattle.spin_model.specs.Operations.{has_token}
use Rattle.spin_model.specs.declared.spindle.Spindle.{Spindle}
use Rattle.spin_model.specs.declared.spindle.SpindleBase.{SpindleBase}
use Rattle.logger.specs.Lanes.{AreAccesses}
use Rattle.rack_parts.specs.Rests.{IsSpindleLock}
use Rattle.rack_parts.specs.declared.locks.Issued.{Issued}

-- all passes of the lock, each in no turn
pub record IsWholeLock {T B : Type 0} (i : Issued T B) : Type 0 where
  pub count : length i.passes.items ≡ lock_passes i.lock
  pub each : All (λ p. IsPassOf i.lock p × IsFree p) i.passes.items

-- they stand in the order of their numbers
pub record IsInOrder {T B : Type 0} (i : Issued T B) : Type 0 where
  pub whole : IsWholeLock i
  pub numbered : (n : ℕ) (d : PassOf T B) → n < length i.passes.items
      → pass_number (slice_index_or i.passes.items n d) ≡ n

-- the passes of the spindle of volume k: no token of them is out, they made accesses only, and of
-- the volumes' passes only k's own was used
pub record AreSettled (k : ℕ) (i : Issued Spindle SpindleBase) : Type 0 where
  pub settled : All (λ p. has_token (pass_mine p) ≡ false) i.passes.items
  pub accesses : All (λ p. AreAccesses (pass_mine p)) i.passes.items
  pub others : (n : ℕ) (d : PassOf Spindle SpindleBase) → n ≢ k → n < length i.passes.items
      → pass_mine (slice_index_or i.passes.items n d) ≡ []
  -- nor was the last, which is the keeper's
  pub last : (n : ℕ) (d : PassOf Spindle SpindleBase) → length i.passes.items ≡ n + 1
      → (pass_seen (slice_index_or i.passes.items n d) ≡ [])
      × (pass_mine (slice_index_or i.passes.items n d) ≡ [])

-- the locks of the first spindles, without a token out
pub record AreSpindlesOf (volumes timeout : ℕ) (made : List (Issued Spindle SpindleBase)) :
    Type 0 where
  pub each : All (λ i. IsInOrder i) made
  pub spindles : (k : ℕ) (d : Issued Spindle SpindleBase) → k < length made
      → IsSpindleLock volumes k timeout (slice_index_or made k d).lock
  pub settled : (k : ℕ) (d : Issued Spindle SpindleBase) → k < length made
      → AreSettled k (slice_index_or made k d)
