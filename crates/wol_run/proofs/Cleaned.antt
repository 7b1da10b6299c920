-- What a cleaning ended with, and what became of the sink.
use Rattle.std.proofs.Common.{◌≡◌, ◌≤◌, inl, inr, ℕ, Bool, List, Option, Result, Ok, Err, refl, sym, subst}
use Rattle.std.specs.Prelude.{IsOk}
use Rattle.wol_disk.specs.Disk.{Rose, State}
use Rattle.wol_bay.specs.Bay.{BayState}
use Rattle.wol_config.specs.declared.config.Config.{Config}
use Rattle.log_cleaner.specs.declared.answer.CleanFault.{CleanFault}
use Rattle.log_cleaner.specs.declared.answer.CleanFault.TheVariants.{DiskFault, VersionsSpent, NoMemory}
use Rattle.volume_images.specs.Left.{IsTold}
use Rattle.rack.specs.Opens.{KeepsOthers}
use Rattle.replay.specs.Completes as ByRun
use Rattle.replay.specs.NotOpened.{LeavesViews}
use Rattle.replay.specs.declared.stop.Stop.{Stop}
use Rattle.replay.specs.declared.stop.Stop.TheVariants as stop
use Rattle.cleaning.specs.Lines.{fault_of}
use Rattle.cleaning.specs.Runs.{CleansBay, Completes, EndsFor, MayComplete, unopened, closed, ran, whole, refused, no_memory, sink_failed}
use Rattle.wol_run.specs.Cleaning.{IsCleaning}
use Rattle.wol_run.specs.Completing.{HasSoundImages, HaveVersionsToClean}
use Rattle.wol_run.specs.Replaying.{EndsReplay}
use Rattle.wol_run.specs.Settings.{HasConfig}
use Rattle.wol_run.proofs.Completing.{may_look}
use Rattle.wol_run.proofs.ReplayFaults.{CanEnd}

-- what ends a cleaning of a volume may end a run
pub clean_can : (number : ℕ) (f : CleanFault) → CanEnd (fault_of number f)
clean_can number (DiskFault p) = tt
clean_can number VersionsSpent = tt
clean_can number NoMemory = tt

module _ {D : Type 0} (tells : Bool) (state : D → State) (config : Config) (old new : BayState) (sink sink' : ℕ) (printed printed' : Option (List ℕ)) where
  -- the sink failed where that is answered, and only there
  abbrev pub SinkSaid : Result (Unit {0}) Stop → Type 0
  SinkSaid (Ok done) = sink' ≡ sink
  SinkSaid (Err stop.Sink) = Rose sink sink'
  SinkSaid (Err (stop.Fault f)) = (sink' ≡ sink) × CanEnd f

  said_at_end : (r : Result (Unit {0}) Stop) → EndsFor tells state config old new sink sink' printed printed' r → SinkSaid r
  said_at_end r (whole told are all calm more) = calm
  said_at_end r (refused told f are less cleans calm more) = (calm, clean_can _ f)
  said_at_end r (no_memory told c are calm more) = (calm, tt)
  said_at_end r (sink_failed told c are rose front) = rose

  pub sink_said : (r : Result (Unit {0}) Stop) → CleansBay tells state config old new sink sink' printed printed' r → SinkSaid r
  sink_said r (unopened calm kept) = (calm, tt)
  sink_said r (closed k f calm kept first) = (calm, tt)
  sink_said r (ran x ends arrays fronts) = said_at_end x ends

-- nothing stands in the way of a cleaning
module _ (tells : Bool) (left : Option (List ℕ)) (config : Config) (has : HasConfig left config) (old new : BayState) (sink sink' : ℕ) where
  pub may_clean : (is : HasSoundImages tells left old) → HaveVersionsToClean left is.entry → ¬ Rose old.faults new.faults → ¬ Rose sink sink' → MayComplete tells config old new sink sink'
  unfolding may_look
  may_clean is versions bay_calm sink_calm = record { looks = may_look tells left config has old new sink sink' is bay_calm sink_calm; versions = λ b begun. versions config has b begun }

-- it came to its end as a run does
pub as_run : (r : Result (Unit {0}) Stop) → Completes r → ByRun.Completes r
as_run r (inl same) = inl (subst IsOk (sym same) refl)
as_run r (inr memory) = inr memory

-- a cleaning over a configuration that was had, and its end
pub is_cleaning : {D : Type 0} (tells : Bool) (state : D → State) (config : Config) (old new : BayState) (sink sink' after : ℕ) (printed then printed' : Option (List ℕ)) (status : ℕ) (result : Result (Unit {0}) Stop)
    → LeavesViews tells state config old new → IsTold (KeepsOthers config) old.told new.told → CleansBay tells state config old new sink sink' printed then result → sink' ≤ after → EndsReplay config result status then printed'
    → IsCleaning tells state config old new sink after status printed printed'
is_cleaning tells state config old new sink sink' after printed then printed' status result leaves others cleans later ends = record {
  over = record { result = result; sink_then = sink'; later = later; printed_then = then; ends = ends };
  leaves = leaves;
  others = others;
  cleans = cleans;
}
