-- Where each volume is open there is no first that isn't.
use Rattle.std.proofs.Common.{◌≡◌, ◌<◌, ◌+◌, ℕ, zero, suc, List, [], ◌∷◌, length, Option, None, Some, refl, arith}
use Rattle.std.specs.Prelude.{slice_get}
use Rattle.rack_parts.specs.declared.volume_fault.VolumeFault.{VolumeFault}
use Rattle.rack.specs.NotOpened.{first_closed}

pub none_first : (n : ℕ) (faults : List (Option VolumeFault)) → ((k : ℕ) → k < length faults → slice_get faults k ≡ Some None) → first_closed n faults ≡ None
none_first n [] open_ = refl
none_first n (None ∷ faults) open_ = none_first (n + 1) faults (λ k lt. open_ (suc k) (omega (arith, lt)))
none_first n (Some f ∷ faults) open_ = absurd (let no : Some (Some f) ≡ Some None = open_ zero (omega arith) in cc no)
