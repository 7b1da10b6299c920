-- What is given up first, as a step of a drain.
use Rattle.std.proofs.Common.{◌≡◌, ◌≤◌, ℕ, true, Bool, List, length, None, Some, Ok, Err, refl, sym, ◌∙◌}
use Rattle.std.specs.Prelude.{find}
use Rattle.std.specs.List.{AllByRecursion}
use Rattle.std.specs.Option.{ForSome}
use Rattle.std.proofs.lemmas.Option.{none-some}
use Rattle.wol_disk.specs.Disk.{State}
use Rattle.wol_model.specs.Index.{listed_in, has_going}
use Rattle.block_cells.specs.declared.record.Rec.{Rec}
use Rattle.redirect_map.specs.Index.{IsAnswer}
use Rattle.garbage_list.specs.Least.{can_go}
use Rattle.garbage_list.proofs.Nexts.{answered}
use Rattle.manager.specs.Reclaim.{OnTried, TellsStep}
use Rattle.manager.specs.Stands.{IsReady}
use Rattle.manager.specs.declared.manager.Manager.{Manager}
use Rattle.manager.specs.declared.part.StepFault.{StepFault}
use Rattle.manager.specs.declared.part.StepFault.TheVariants.{DiskFault, Down}
use Rattle.reclaimer.specs.Drains.{Drains, first_due, first_going, gave_up}
use Rattle.reclaimer.specs.Wholes.{GivesFirst}
use Rattle.reclaimer.specs.declared.answers.Drain.TheVariants.{Moved}
use Rattle.reclaimer.proofs.DrainStep.{awake_same}
use Rattle.reclaimer.proofs.Reach.{within_reach}

module _ {D : Type 0} (state : D → State) (old new : Manager D) (ready : IsReady state old) (up : old.down ≡ None) (due : first_due old.index.entries ≡ None) (flags : List Bool) (all : AllByRecursion (λ t. t ≡ true) flags) (few : length old.lanes.items ≤ length flags)
    (r : Rec) (answer : IsAnswer (find (can_go flags old.index.entries) old.index.entries) (Some r)) where
  -- the first one whatever sleeps
  same : find (can_go flags old.index.entries) old.index.entries ≡ first_going old.index.entries
  same = awake_same flags (has_going (listed_in old.index.entries)) old.index.entries all (within_reach state old ready up old.index refl flags few)

  pub drains_given : (n : ℕ) → ForSome (find (can_go flags old.index.entries) old.index.entries) (λ e. GivesFirst e old new (Ok n)) → Drains state old new (Ok (Moved 0 n))
  drains_given n given = let a = answered (find (can_go flags old.index.entries) old.index.entries) r answer in
      gave_up a.entry due (sym same ∙ a.is) (Ok n) (given a.entry a.is) (refl, refl)

  pub drains_refused : (fault : StepFault) → TellsStep {T = ℕ} state (Err fault) old new → OnTried {T = ℕ} (Err fault) (ForSome (find (can_go flags old.index.entries) old.index.entries) (λ e. GivesFirst e old new (Err fault))) → Drains state old new (Err fault)
  drains_refused (DiskFault p) told given = let a = answered (find (can_go flags old.index.entries) old.index.entries) r answer in
      gave_up a.entry due (sym same ∙ a.is) (Err (DiskFault p)) (given a.entry a.is) refl
  drains_refused (Down p) told given = absurd (none-some p (sym up ∙ told.0))
