-- Why a run over open volumes ended.
use Rattle.std.specs.Prelude.{◌≡◌, ◌≢◌, ℕ, false, Contains, List, [], ◌∷◌, Option, Some, Result, Ok, Err}
use Rattle.wol_disk.specs.Disk.{Rose}
use Rattle.wol_model.specs.Trace.{TraceLine}
use Rattle.wol_model.specs.declared.trace.Kind.TheVariants as kind
use Rattle.wol_promise.specs.Outcomes.{Answered, is_answered}
use Rattle.wol_config.specs.declared.config.Config.{Config}
use Rattle.report.specs.declared.fault.Fault.{Fault}
use Rattle.report.specs.declared.fault.Fault.TheVariants.{Memory, Versions, Volume}
use Rattle.report.specs.declared.trouble.Trouble.{Trouble}
use Rattle.msr_trace.specs.declared.format.TraceFault.{TraceFault}
use Rattle.msr_trace.specs.declared.format.TraceFault.TheVariants as trace
use Rattle.request_workers.specs.Requests.{answers_to}
use Rattle.trace_gen.specs.Generated.{targets_of}
use Rattle.replay.specs.Endings.{fault_of_window}
use Rattle.replay.specs.Givens.{HasGivenAll, Refuses}
use Rattle.replay.specs.Served.{ServedWindow}
use Rattle.replay.specs.Stops.{fault_of_trace}
use Rattle.replay.specs.declared.given.Given.{Given}
use Rattle.replay.specs.declared.stop.Stop.{Stop}
use Rattle.replay.specs.declared.stop.Stop.TheVariants as stop

-- a fault of a part of a volume
abbrev pub IsPartFault : Fault → Type 0
IsPartFault f = (volume : ℕ) × (trouble : Trouble) × (f ≡ Volume volume trouble)

-- a write to volume v wasn't answered in this window
pub record HasRefusedWrite (v : ℕ) (s : ServedWindow) : Type 0 where
  pub answer : Answered
  pub among : Contains (answers_to s.batch.requests s.answer.outcomes.items) answer
  pub volume : answer.request.volume ≡ v
  pub kind_is : answer.request.kind ≡ kind.Write
  pub refused : is_answered answer.outcome ≡ false

module _ {S : Type 0} (left : S → Option (List ℕ)) (config : Config) (start now : Given S)
    (run : List (Option TraceLine)) (last : List ServedWindow) (bay bay' sink sink' : ℕ) where
  -- All lines were run, and nothing was refused; or no further line came; or a request or a step of
  -- reclaim of the last window was refused; or there was no memory; or the sink failed. Where a
  -- part is at fault the bay's count rose, and versions ended at a write.
  pub data EndsFor {T : Type 0} : Result T Stop → Type 0 where
    whole : (done : T) → last ≡ [] → HasGivenAll left (targets_of config) start now run
        → EndsFor (Ok done)
    no_line : (refusal : TraceFault) → refusal ≢ trace.NoMemory → last ≡ []
        → Refuses left refusal start now run → EndsFor (Err (stop.Fault (fault_of_trace refusal)))
    refused : (f : Fault) (s : ServedWindow) → last ≡ s ∷ []
        → fault_of_window s.batch.requests s.answer ≡ Some f → (IsPartFault f → Rose bay bay')
        → ((v : ℕ) → f ≡ Versions v → HasRefusedWrite v s) → EndsFor (Err (stop.Fault f))
    memory : EndsFor (Err (stop.Fault Memory))
    sink_failed : Rose sink sink' → EndsFor (Err stop.Sink)
