-- What the steps of a drain do to a manager, by their answers.
use Rattle.std.specs.Prelude.{⊤, ◌≡◌, ◌<◌, ℕ, true, List, [], find, Option, None, Some, Result, Ok, Err}
use Rattle.wol_disk.specs.Disk.{State}
use Rattle.wol_model.specs.Index.{Indexed, listed_in, has_due, has_going, left}
use Rattle.manager.specs.Accesses.{HasUsedOnce}
use Rattle.manager.specs.declared.manager.Manager.{Manager}
use Rattle.manager.specs.declared.part.StepFault.{StepFault}
use Rattle.reclaimer.specs.Groups.{HasPutGroup}
use Rattle.reclaimer.specs.Wholes.{GivesFirst}
use Rattle.reclaimer.specs.declared.answers.Drain.{Drain}
use Rattle.reclaimer.specs.declared.answers.Drain.TheVariants.{Bare, Moved}

-- the entry of least version with a block that may go, whatever sleeps
abbrev pub first_going : List Indexed → Option Indexed
first_going es = find (λ e. has_going (listed_in es) e.listed) es

-- that of least version with a due block
abbrev pub first_due : List Indexed → Option Indexed
first_due es = find (λ e. has_due (listed_in es) e.listed) es

-- home was woken by one access, and nothing else was changed
pub record HasWoken {D : Type 0} (old new : Manager D) : Type 0 where
  pub rest : new ≡ record old { home_up = true; spindle = new.spindle }
  pub used : HasUsedOnce old.spindle new.spindle

-- the records that are gone are told on, and so is a refusal
abbrev pub TellsGiven : Result ℕ StepFault → Result Drain StepFault → Type 0
TellsGiven (Ok count) (Ok Bare) = ⊥
TellsGiven (Ok count) (Ok (Moved b r)) = (b ≡ 0) × (r ≡ count)
TellsGiven (Ok count) (Err fault) = ⊥
TellsGiven (Err fault) (Ok moved) = ⊥
TellsGiven (Err fault) (Err told) = told ≡ fault

-- the blocks that went home are told on, and so is a refusal
abbrev pub TellsPut : Result ℕ StepFault → Result Drain StepFault → Type 0
TellsPut (Ok count) (Ok Bare) = ⊥
TellsPut (Ok count) (Ok (Moved b r)) = (0 < count) × (b ≡ count) × (r ≡ 0)
TellsPut (Ok count) (Err fault) = ⊥
TellsPut (Err fault) (Ok moved) = ⊥
TellsPut (Err fault) (Err told) = told ≡ fault

-- With home awake, the due blocks of the first records that have one went home; or, where nothing is
-- due, the first record of which something may go gave that up, or went with its whole segment.
-- Nothing was done where no record is left.
pub data Drains {D : Type 0} (state : D → State) (old new : Manager D)
    (answer : Result Drain StepFault) : Type 0 where
  nothing_left : old.index.entries ≡ [] → new ≡ old → answer ≡ Ok Bare → Drains state old new answer
  put_home : (put : Result ℕ StepFault) → HasPutGroup state true put old new → TellsPut put answer
      → Drains state old new answer
  gave_up : (e : Indexed) → first_due old.index.entries ≡ None
      → first_going old.index.entries ≡ Some e → (given : Result ℕ StepFault)
      → GivesFirst e old new given → TellsGiven given answer → Drains state old new answer

-- home was woken before
abbrev pub HasDrained : {D : Type 0} → (D → State) → (old new : Manager D) → Result Drain StepFault
    → Type 0
HasDrained {D} state old new answer =
    (woken : Manager D) × HasWoken old woken × Drains state woken new answer

-- a step that moved something lowers the kept blocks and the due blocks together
abbrev pub Lowers : {D : Type 0} → Result Drain StepFault → (old new : Manager D) → Type 0
Lowers (Ok Bare) old new = ⊤
Lowers (Ok (Moved blocks records)) old new =
    left (listed_in new.index.entries) < left (listed_in old.index.entries)
Lowers (Err fault) old new = ⊤
