-- What a step of a drain takes off a manager's look.
use Rattle.std.proofs.Common.{◌≡◌, true, Result, Ok, Err, ap}
use Rattle.wol_model.specs.Index.{listed_in}
use Rattle.wol_promise.specs.Policy.{Look}
use Rattle.manager.specs.Seen.{look_of_manager}
use Rattle.manager.specs.declared.manager.Manager.{Manager}
use Rattle.manager.specs.declared.part.StepFault.{StepFault}
use Rattle.reclaimer.specs.Counts.{CountsMoved}
use Rattle.reclaimer.specs.declared.answers.Drain.{Drain}
use Rattle.reclaimer.specs.declared.answers.Drain.TheVariants.{Bare, Moved}
use Rattle.reclaimer.proofs.Counted.{taken_since}

-- a manager whose home was woken lists the same records
pub listed_woken : {D : Type 0} (old new : Manager D) → new ≡ record old { home_up = true; spindle = new.spindle } → (look_of_manager new).listed ≡ (look_of_manager old).listed
listed_woken {D} old new is = ap (λ (k : Manager D). listed_in k.index.entries) is

-- since before home was woken
pub counts_since : (answer : Result Drain StepFault) (l k m : Look) → k.listed ≡ l.listed → CountsMoved answer k m → CountsMoved answer l m
counts_since (Ok Bare) l k m same counts = taken_since 0 0 l k m same counts
counts_since (Ok (Moved b r)) l k m same counts = taken_since b r l k m same counts
counts_since (Err fault) l k m same counts = taken_since 0 0 l k m same counts
