-- Parts that were read and not written.
use Rattle.std.specs.Prelude.{◌≡◌, ◌⊎◌, ◌<◌, ℕ, List, length, option_map, slice_index_or}
use Rattle.wol_disk.specs.Disk.{State, settled, IsImageOf, LeavesOnly}
use Rattle.spin_model.specs.Spun.{state_of, volume_of}
use Rattle.spin_model.specs.declared.spun.Spun.{Spun}

-- a part that was synced at most: at no moment had it an image that it didn't have before
pub record IsOnlyRead (old new : State) : Type 0 where
  pub size : new.size ≡ old.size
  pub values : (new.values ≡ old.values) ⊎ (new.values ≡ option_map settled old.values)
  pub any_moment : LeavesOnly old new (IsImageOf old.values)

-- each part of a list
pub record AreOnlyRead {D : Type 0} (state : D → State) (old new : List (Spun D)) : Type 0 where
  pub count : length new ≡ length old
  pub volume : (k : ℕ) (d : Spun D) → k < length old
      → volume_of (slice_index_or new k d) ≡ volume_of (slice_index_or old k d)
  pub each : (k : ℕ) (d : Spun D) → k < length old
      → IsOnlyRead (state_of state (slice_index_or old k d))
      (state_of state (slice_index_or new k d))
