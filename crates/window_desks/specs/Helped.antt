-- What a helper beside the workers makes of its passes.
use Rattle.std.specs.Prelude.{◌≡◌, ◌<◌, ℕ, Bool, List, Option, None, Some, length, slice_index_or}
use Rattle.turn_lock.specs.Passes.{pass_lock, IsPassAt}
use Rattle.logger.specs.declared.shared.Shared.{Shared}
use Rattle.manager.specs.Stands.{IsShared}
use Rattle.manager.specs.declared.part.StepFault.{StepFault}
use Rattle.request_turns.specs.Helped.{AreKept, ManagerLock, HasHelped}
use Rattle.request_turns.specs.Turns.{ManagerPass, notes_seen, WasDown, faulty_part}
use Rattle.window_desks.specs.Counted.{HaveCounted}
use Rattle.window_desks.specs.declared.helper.HelperRoom.{HelperRoom}

-- the passes of the locks, in order
abbrev pub ArePassesAt : {D : Type 0} → List (ManagerLock D) → (number : ℕ) → List (ManagerPass D)
    → Type 0
ArePassesAt {D} ls number ps = (k : ℕ) (l : ManagerLock D) (d : ManagerPass D) → k < length ps
    → IsPassAt (slice_index_or ls k l) number (slice_index_or ps k d)

-- the managers use these shared locks
abbrev pub AreSharing : {D : Type 0} → Shared D → List (ManagerPass D) → Type 0
AreSharing {D} shared ps = (k : ℕ) (d : ManagerPass D) → k < length ps
    → IsShared shared (pass_lock (slice_index_or ps k d)).base

-- the helper made turns with each of them
abbrev pub AreHelped : {D : Type 0} → (tells : Bool) → List (ManagerPass D) → List (ManagerPass D)
    → Type 0
AreHelped {D} tells ps qs = (k : ℕ) (d : ManagerPass D) → k < length ps
    → HasHelped tells (slice_index_or ps k d) (slice_index_or qs k d)

-- a refused step is that of a volume, and names a part of it that was down
abbrev pub IsCause : {D : Type 0} → List (ManagerPass D) → Option (ℕ × StepFault) → Type 0
IsCause {D} qs fault = (v : ℕ) (f : StepFault) → fault ≡ Some (v, f)
    → (v < length qs)
    × ((d : ManagerPass D) → WasDown (faulty_part f) (notes_seen (slice_index_or qs v d)))

-- where no step was refused, no disk call failed in the turns that they made
abbrev pub AreAllKept : {D : Type 0} → Option (ℕ × StepFault) → (ps qs : List (ManagerPass D))
    → Type 0
AreAllKept {D} fault ps qs = fault ≡ None → (k : ℕ) (d : ManagerPass D) → k < length ps
    → AreKept (slice_index_or ps k d) (slice_index_or qs k d)

-- The helper's rounds with each of them: what they reclaimed was counted, and the first refused step
-- is kept.
pub record HaveHelped {D : Type 0} (tells : Bool) (old new : HelperRoom)
    (ps qs : List (ManagerPass D)) : Type 0 where
  pub helped : AreHelped tells ps qs
  pub counted : HaveCounted tells old.tally new.tally ps qs
  pub all_kept : AreAllKept new.fault ps qs
  pub refused : new.fault ≡ None → old.fault ≡ None
  pub cause : IsCause qs new.fault
