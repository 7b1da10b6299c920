-- How many blocks and records the steps of reclaim take off a manager's look.
use Rattle.std.specs.Prelude.{⊤, ◌≡◌, ◌<◌, ◌+◌, ℕ, filter, length, Result, Ok, Err}
use Rattle.wol_model.specs.Index.{listed_in, left}
use Rattle.wol_promise.specs.Policy.{Look}
use Rattle.wol_promise.specs.Report.{dues, is_among, no_longer_due}
use Rattle.manager.specs.declared.manager.Manager.{Manager}
use Rattle.manager.specs.declared.part.StepFault.{StepFault}
use Rattle.reclaimer.specs.declared.answers.Drain.{Drain}
use Rattle.reclaimer.specs.declared.answers.Drain.TheVariants.{Bare, Moved}
use Rattle.reclaimer.specs.declared.answers.Gone.{Gone}
use Rattle.reclaimer.specs.declared.answers.Gone.TheVariants as gone

-- From one look to the next so many due blocks are due no longer, those that are due were due
-- before, and so many records fewer are listed.
pub record TakesOff (blocks records : ℕ) (l m : Look) : Type 0 where
  pub homed : no_longer_due l m ≡ blocks
  pub due : dues m ≡ filter (is_among (dues m)) (dues l)
  pub gone_ : length m.listed + records ≡ length l.listed

-- ---- What an answer counts

-- the blocks that were put home, and no record
abbrev pub CountsPut : Result ℕ StepFault → (l m : Look) → Type 0
CountsPut (Ok count) l m = TakesOff count 0 l m
CountsPut (Err fault) l m = TakesOff 0 0 l m

-- the record that is gone, and no block
abbrev pub CountsGone : Result Gone StepFault → (l m : Look) → Type 0
CountsGone (Ok (gone.Version version)) l m = TakesOff 0 1 l m
CountsGone (Ok (gone.Trimmed version)) l m = TakesOff 0 0 l m
CountsGone (Ok gone.Nothing) l m = TakesOff 0 0 l m
CountsGone (Err fault) l m = TakesOff 0 0 l m

-- what a step of a drain moved
abbrev pub CountsMoved : Result Drain StepFault → (l m : Look) → Type 0
CountsMoved (Ok Bare) l m = TakesOff 0 0 l m
CountsMoved (Ok (Moved blocks records)) l m = TakesOff blocks records l m
CountsMoved (Err fault) l m = TakesOff 0 0 l m

-- ---- What is left

-- a step that gave something up lowers the kept blocks and the due blocks together
abbrev pub LowersGone : {D : Type 0} → Result Gone StepFault → (old new : Manager D) → Type 0
LowersGone (Ok (gone.Version version)) old new =
    left (listed_in new.index.entries) < left (listed_in old.index.entries)
LowersGone (Ok (gone.Trimmed version)) old new =
    left (listed_in new.index.entries) < left (listed_in old.index.entries)
LowersGone (Ok gone.Nothing) old new = ⊤
LowersGone (Err fault) old new = ⊤

-- ---- Laws

-- what two steps take off adds up
abbrev pub TakenAddsUp : Type 0
TakenAddsUp = (a b r s : ℕ) (l k m : Look) → TakesOff a r l k → TakesOff b s k m
    → TakesOff (a + b) (r + s) l m

-- nothing is taken off where the records stay as they are listed
abbrev pub NothingTaken : Type 0
NothingTaken = (l m : Look) → m.listed ≡ l.listed → TakesOff 0 0 l m
