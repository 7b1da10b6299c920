-- What comparing the policies on a trace comes to.
use Rattle.std.specs.Prelude.{◌≡◌, ◌≢◌, ◌⊎◌, ℕ, List, Option, Result, Ok, Err}
use Rattle.std.specs.Io.KnownBytes.{Appends, Keeps}
use Rattle.wol_disk.specs.Disk.{Rose}
use Rattle.wol_io.specs.Streams.{AppendsFront}
use Rattle.wol_model.specs.Trace.{TraceLine}
use Rattle.wol_config.specs.declared.config.Config.{Config}
use Rattle.report.specs.declared.fault.Fault.TheVariants.{Memory}
use Rattle.msr_trace.specs.declared.format.TraceFault.{TraceFault}
use Rattle.msr_trace.specs.declared.format.TraceFault.TheVariants as trace
use Rattle.trace_gen.specs.Generated.{targets_of}
use Rattle.replay.specs.Givens.{HasGiven, HasGivenAll, MayGiveAll, Refuses}
use Rattle.replay.specs.Stops.{fault_of_trace}
use Rattle.replay.specs.declared.given.Given.{Given}
use Rattle.replay.specs.declared.stop.Stop.{Stop}
use Rattle.replay.specs.declared.stop.Stop.TheVariants as stop
use Rattle.whatif.specs.declared.policy.Details.{Details}
use Rattle.comparison.specs.Asked.{comparison_of}

module _ {S : Type 0} (left : S → Option (List ℕ)) (details : Details) (config : Config) (start now : Given S)
    (sink sink' : ℕ) (printed printed' : Option (List ℕ)) where
  -- Why a comparison ended behind the lines `run`, and what was printed: all lines were run, and
  -- their lines were printed; or the sink failed at these; or no further line came; or there
  -- was no memory.
  pub data EndsBehind {T : Type 0} (run : List (Option TraceLine)) : Result T Stop → Type 0 where
    whole : (done : T) → HasGivenAll left (targets_of config) start now run → sink' ≡ sink
        → Appends printed printed' (comparison_of details config run) → EndsBehind run (Ok done)
    sink_failed : HasGivenAll left (targets_of config) start now run → Rose sink sink'
        → AppendsFront printed printed' (comparison_of details config run) → EndsBehind run (Err stop.Sink)
    no_line : (refusal : TraceFault) → refusal ≢ trace.NoMemory → Refuses left refusal start now run
        → sink' ≡ sink → Keeps printed printed'
        → EndsBehind run (Err (stop.Fault (fault_of_trace refusal)))
    memory : sink' ≡ sink → Keeps printed printed' → EndsBehind run (Err (stop.Fault Memory))

  -- these lines came
  pub record Compares {T : Type 0} (result : Result T Stop) : Type 0 where
    pub run : List (Option TraceLine)
    pub given : HasGiven left (targets_of config) start now run
    pub ends : EndsBehind run result

-- Nothing stands in the way of a comparison: no call failed, no line is bad or one too many.
pub record MayCompare {S : Type 0} (left : S → Option (List ℕ)) (start now : Given S)
    (sink sink' source source' : ℕ) : Type 0 where
  pub sink_calm : Rose sink sink' → ⊥
  pub gives : MayGiveAll left start now source source'
  pub open gives use *

module _ {S : Type 0} (left : S → Option (List ℕ)) (details : Details) (config : Config) (start now : Given S) where
  -- all lines were run, and these are the lines of them
  pub record MakesWhole (text : List ℕ) : Type 0 where
    pub run : List (Option TraceLine)
    pub given : HasGiven left (targets_of config) start now run
    pub all : HasGivenAll left (targets_of config) start now run
    pub text_is : text ≡ comparison_of details config run

module _ {S : Type 0} (left : S → Option (List ℕ)) (config : Config) (start now : Given S) where
  -- no further line came, or there was no memory
  pub record StopsBefore (e : Stop) : Type 0 where
    pub run : List (Option TraceLine)
    pub given : HasGiven left (targets_of config) start now run
    pub cause : ((refusal : TraceFault) × (refusal ≢ trace.NoMemory)
        × (e ≡ stop.Fault (fault_of_trace refusal)) × Refuses left refusal start now run)
        ⊎ (e ≡ stop.Fault Memory)
