-- Parts of which nothing was written.
use Rattle.std.proofs.Common.{◌≡◌}
use Rattle.std.specs.Prelude.{Result, OnOk, OnErr, option_map}
use Rattle.wol_disk.specs.Disk.{State, Passes, IsDisk, settled}
use Rattle.wol_disk.proofs.Calls.{after_sync}
use Rattle.wol_disk.proofs.Moments.{started, goes_on}
use Rattle.spin_model.specs.Spun.{state_of, volume_of}
use Rattle.spin_model.specs.declared.spun.Spun.{Spun}
use Rattle.manager_recovery.specs.Left.{IsAsBefore}

-- a part that was synced
pub synced : {D T E F : Type 0} (state : D → State) (old new : Spun D) (r : Result T E) → IsDisk (state_of state old) → OnOk r ((state_of state new).values ≡ option_map settled (state_of state old).values)
    → OnErr r ((state_of state new).values ≡ (state_of state old).values) → Passes (state_of state old) (state_of state new) F → volume_of new ≡ volume_of old → IsAsBefore state old new
synced {D} {T} {E} {F} state old new r sound ok err time volume = record {
  volume = volume;
  size = time.same_size;
  any_moment = goes_on (started sound (λ c is. is)) time (λ c is. after_sync r (state_of state old).values (state_of state new).values c ok err is);
}
