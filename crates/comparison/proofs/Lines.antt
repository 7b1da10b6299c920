-- The lines that came so far, and what a comparison prints of them.
use Rattle.std.proofs.Common.{◌≡◌, ◌⊎◌, inl, inr, ℕ, List, [], Option, Result, Ok, Err, refl, ap, ⊎_elim}
use Rattle.std.specs.Prelude.{MatchResult, IsOk}
use Rattle.std.specs.Io.KnownBytes.{Appends, Keeps}
use Rattle.wol_disk.specs.Disk.{Rose}
use Rattle.wol_io.specs.Streams.{AppendsFront}
use Rattle.wol_io.proofs.Appending.{keeps_same}
use Rattle.wol_model.specs.Trace.{TraceLine}
use Rattle.wol_config.specs.declared.config.Config.{Config}
use Rattle.report.specs.declared.fault.Fault.TheVariants.{Memory, TraceSource}
use Rattle.msr_trace.specs.declared.format.TraceFault.{TraceFault}
use Rattle.msr_trace.specs.declared.format.TraceFault.TheVariants as trace
use Rattle.trace_gen.specs.Generated.{targets_of}
use Rattle.trace_windows.specs.Cutting.{Cutting}
use Rattle.replay.specs.Completes.{Completes}
use Rattle.replay.specs.Givens.{HasGiven, HasGivenAll, Refuses}
use Rattle.replay.specs.Stops.{fault_of_trace}
use Rattle.replay.specs.declared.given.Given.{Given}
use Rattle.replay.specs.declared.stop.Stop.{Stop}
use Rattle.replay.specs.declared.stop.Stop.TheVariants as stop
use Rattle.replay.proofs.Refused.{no_refusal}
use Rattle.whatif.specs.declared.policy.Details.{Details}
use Rattle.comparison.specs.Asked.{comparison_of}
use Rattle.comparison.specs.Compares.{Compares, EndsBehind, MakesWhole, MayCompare, StopsBefore, memory, no_line, sink_failed, whole}
use Rattle.comparison.specs.Side.{HasTaken}
use Rattle.comparison.specs.declared.windows.Comparison.{Comparison}

module _ {S : Type 0} (left : S → Option (List ℕ)) (details : Details) (config : Config) (start : Given S) where
  -- these lines came, and were taken
  pub record SoFar (now : Given S) (c : Cutting) (s : Comparison) : Type 0 where
    pub run : List (Option TraceLine)
    pub given : HasGiven left (targets_of config) start now run
    pub taken : HasTaken config run c s

  module _ (now : Given S) (sink sink' : ℕ) (printed printed' : Option (List ℕ)) where
    -- the lines were printed
    pub prints : {T : Type 0} (done : T) (text : List ℕ) → MakesWhole left details config start now text → sink' ≡ sink → Appends printed printed' text → Compares left details config start now sink sink' printed printed' (let r : Result T Stop = Ok done in r)
    prints done text made calm appends = record { run = made.run; given = made.given; ends = whole done made.all calm (rw (← made.text_is) appends) }

    -- or the sink failed
    pub fails : {T : Type 0} (text : List ℕ) → MakesWhole left details config start now text → Rose sink sink' → AppendsFront printed printed' text → Compares left details config start now sink sink' printed printed' (let r : Result T Stop = Err stop.Sink in r)
    fails text made rose front = record { run = made.run; given = made.given; ends = sink_failed made.all rose (rw (← made.text_is) front) }

  -- no further line came
  pub stops_at : (now : Given S) (fault : TraceFault) (run : List (Option TraceLine)) → HasGiven left (targets_of config) start now run → Refuses left fault start now run → StopsBefore left config start now (stop.Fault (fault_of_trace fault))
  stops_at now trace.Source run given refuses = record { run = run; given = given; cause = inl (trace.Source, (λ is. absurd (cc is)), refl, refuses) }
  stops_at now (trace.Bad line why) run given refuses = record { run = run; given = given; cause = inl (trace.Bad line why, (λ is. absurd (cc is)), refl, refuses) }
  stops_at now trace.Spent run given refuses = record { run = run; given = given; cause = inl (trace.Spent, (λ is. absurd (cc is)), refl, refuses) }
  stops_at now trace.NoMemory run given refuses = record { run = run; given = given; cause = inr refl }

  -- or nothing was
  pub stops : {T : Type 0} (now : Given S) (sink : ℕ) (printed : Option (List ℕ)) (e : Stop) → StopsBefore left config start now e → Compares left details config start now sink sink printed printed (let r : Result T Stop = Err e in r)
  stops {T} now sink printed e stopped = record {
    run = stopped.run;
    given = stopped.given;
    ends = ⊎_elim
        (λ why. rw why.2 (no_line why.0 why.1 why.3 refl (keeps_same printed)))
        (λ is. rw is (memory refl (keeps_same printed))) stopped.cause;
  }

-- it comes to its end where nothing stands in the way
module _ {S T : Type 0} (left : S → Option (List ℕ)) (details : Details) (config : Config) (start now : Given S) (sink sink' source source' : ℕ) (printed printed' : Option (List ℕ)) (result : Result T Stop)
    (compares : Compares left details config start now sink sink' printed printed' result) (may : MayCompare left start now sink sink' source source') where
  pub completes : (result ≡ Err (stop.Fault TraceSource) → Rose source source') → Completes result
  completes source_is = by result compares.ends refl
    where
      by : (x : Result T Stop) → EndsBehind left details config start now sink sink' printed printed' compares.run x → x ≡ result → Completes x
      by (Ok x) ends is = inl refl
      by (Err (stop.Fault _)) (no_line refusal other refuses calm keeps) is = absurd (no_refusal left start now compares.run result (λ e. may.source_calm (source_is e)) (λ number why. may.spelled number why compares.run) (may.few compares.run) refusal other refuses is)
      by (Err (stop.Fault _)) (memory calm keeps) is = inr refl
      by (Err stop.Sink) (sink_failed all rose front) is = absurd (may.sink_calm rose)
