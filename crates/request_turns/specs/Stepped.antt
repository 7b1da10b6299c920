-- How a turn with steps of reclaim ends.
use Rattle.std.specs.Prelude.{◌∷◌, ◌++◌, ℕ, Bool, false, []}
use Rattle.turn_lock.specs.Passes.{pass_lock, pass_number, IsInTurnWith}
use Rattle.wol_disk.specs.Disk.{State}
use Rattle.wol_promise.specs.Policy.{Look}
use Rattle.wol_promise.specs.Ruled.{Noted}
use Rattle.manager.specs.Seen.{look_of_manager}
use Rattle.manager.specs.Stands.{Stands}
use Rattle.manager.specs.declared.manager.Manager.{Manager}
use Rattle.request_turns.specs.Entries.{note_of, step_operation}
use Rattle.request_turns.specs.Turns.{ManagerPass, notes_seen, HasLeftWith}

-- the entry of steps, one of which failed at a disk or none
abbrev pub step_note : (pass : ℕ) → (failed : Bool) → Look → Noted
step_note pass failed look = note_of pass (step_operation failed) look [] false

-- the manager stands for it too
abbrev pub StandsStepped : {D : Type 0} → Bool → (D → State) → (failed : Bool) → Manager D
    → ManagerPass D → Type 0
StandsStepped tells state failed m p = Stands tells state m (pass_lock p).base
    (notes_seen p ++ step_note (pass_number p) failed (look_of_manager m) ∷ [])

-- .. where the turn keeps it in its place
abbrev pub StandsSteppedInPlace : {D : Type 0} → Bool → (D → State) → (failed : Bool)
    → ManagerPass D → Type 0
StandsSteppedInPlace {D} tells state failed p =
    (m : Manager D) × IsInTurnWith m p × StandsStepped tells state failed m p

-- the turn of this manager ended with it
abbrev pub HasLeftStep : {D : Type 0} → (tells failed : Bool) → Manager D → (p q : ManagerPass D)
    → Type 0
HasLeftStep tells failed m p q =
    HasLeftWith tells (step_note (pass_number p) failed (look_of_manager m)) m p q

-- .. of the manager that it kept in its place
abbrev pub HasLeftStepInPlace : {D : Type 0} → (tells failed : Bool) → (p q : ManagerPass D)
    → Type 0
HasLeftStepInPlace {D} tells failed p q =
    (m : Manager D) → IsInTurnWith m p → HasLeftStep tells failed m p q
