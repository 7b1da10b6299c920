-- What a comparison of the policies ended with, and what became of the sink.
use Rattle.std.proofs.Common.{◌≡◌, ◌≤◌, ◌⊎◌, inl, inr, ℕ, List, Option, Result, Ok, Err, refl, subst}
use Rattle.wol_disk.specs.Disk.{Rose}
use Rattle.wol_model.specs.Trace.{TraceLine}
use Rattle.wol_config.specs.declared.config.Config.{Config}
use Rattle.trace_gen.specs.Generated.{targets_of}
use Rattle.report.specs.Faults.{status_of}
use Rattle.report.specs.declared.fault.Fault.{Fault}
use Rattle.report.specs.declared.fault.Fault.TheVariants as fault
use Rattle.replay.specs.Stops.{fault_of_trace}
use Rattle.replay.specs.declared.given.Given.{Given}
use Rattle.replay.specs.declared.stop.Stop.{Stop}
use Rattle.replay.specs.declared.stop.Stop.TheVariants as stop
use Rattle.comparison.specs.Compares.{Compares, EndsBehind}
use Rattle.comparison.specs.Compares as behind
use Rattle.whatif.specs.declared.policy.Details.{Details}
use Rattle.wol_run.specs.Comparing.{IsComparison, IsUncompared}
use Rattle.wol_run.specs.Replaying.{EndsReplay, GivenLines, HasLeft, HasSource, seen}
use Rattle.wol_run.specs.Settings.{IsUnread, line_of_fault}
use Rattle.wol_run.specs.Statuses.{no_memory_text}
use Rattle.wol_run.specs.Tops.{EndsWith, TellsNoMemory}
use Rattle.wol_run.proofs.ReplayEnds.{NoLine, same_fault}
use Rattle.wol_run.proofs.ReplayFaults.{CanEnd, trace_can}
use Rattle.wol_run.proofs.SeenLines.{all_seen, given_seen, refuses_seen, still_given}
use Rattle.wol_run.proofs.Unread.{line_of_memory, line_unread}

-- ---- Lines of any source

module _ {S T : Type 0} (left : S → Option (List ℕ)) (details : Details) (config : Config) (start now : Given S) (sink sink' : ℕ) (printed printed' : Option (List ℕ)) where
  module _ (run : List (Option TraceLine)) where
    -- a comparison that ended with a fault: no further line came, or there was no memory
    fault_behind : (r : Result T Stop) → EndsBehind left details config start now sink sink' printed printed' run r → (g : Fault) → r ≡ Err (stop.Fault g) → NoLine left start now g ⊎ (fault.Memory ≡ g)
    fault_behind r (behind.whole done all calm more) g is = absurd (let no : Ok done ≡ Err (stop.Fault g) = is in cc)
    fault_behind r (behind.sink_failed all rose front) g is = absurd (let no : Err stop.Sink ≡ Err (stop.Fault g) = is in cc)
    fault_behind r (behind.no_line refusal other refuses calm kept) g is = inl (refusal, other, same_fault _ _ (fault_of_trace refusal) g is refl refl, run, refuses)
    fault_behind r (behind.memory calm kept) g is = inr (same_fault _ _ fault.Memory g is refl refl)

    calm_behind : (r : Result T Stop) → EndsBehind left details config start now sink sink' printed printed' run r → (g : Fault) → r ≡ Err (stop.Fault g) → sink' ≡ sink
    calm_behind r (behind.whole done all calm more) g is = calm
    calm_behind r (behind.sink_failed all rose front) g is = absurd (let no : Err stop.Sink ≡ Err (stop.Fault g) = is in cc)
    calm_behind r (behind.no_line refusal other refuses calm kept) g is = calm
    calm_behind r (behind.memory calm kept) g is = calm

    whole_behind : (r : Result T Stop) → EndsBehind left details config start now sink sink' printed printed' run r → (done : T) → r ≡ Ok done → sink' ≡ sink
    whole_behind r (behind.whole x all calm more) done is = calm
    whole_behind r (behind.sink_failed all rose front) done is = absurd (let no : Err stop.Sink ≡ Ok done = is in cc)
    whole_behind r (behind.no_line refusal other refuses calm kept) done is = calm
    whole_behind r (behind.memory calm kept) done is = calm

    rose_behind : (r : Result T Stop) → EndsBehind left details config start now sink sink' printed printed' run r → r ≡ Err stop.Sink → Rose sink sink'
    rose_behind r (behind.whole done all calm more) is = absurd (let no : Ok done ≡ Err stop.Sink = is in cc)
    rose_behind r (behind.sink_failed all rose front) is = rose
    rose_behind r (behind.no_line refusal other refuses calm kept) is = absurd (let no : Err (stop.Fault (fault_of_trace refusal)) ≡ Err stop.Sink = is in cc)
    rose_behind r (behind.memory calm kept) is = absurd (let no : Err (stop.Fault fault.Memory) ≡ Err stop.Sink = is in cc)

    seen_behind : (r : Result T Stop) → EndsBehind left details config start now sink sink' printed printed' run r → EndsBehind (λ bytes. bytes) details config (seen left start) (seen left now) sink sink' printed printed' run r
    seen_behind r (behind.whole done all calm more) = behind.whole done (all_seen left (targets_of config) start now run all) calm more
    seen_behind r (behind.sink_failed all rose front) = behind.sink_failed (all_seen left (targets_of config) start now run all) rose front
    seen_behind r (behind.no_line refusal other refuses calm kept) = behind.no_line refusal other (refuses_seen left refusal start now run refuses) calm kept
    seen_behind r (behind.memory calm kept) = behind.memory calm kept

  module _ (r : Result T Stop) (is : Compares left details config start now sink sink' printed printed' r) where
    pub comparison_fault : (g : Fault) → r ≡ Err (stop.Fault g) → CanEnd g
    comparison_fault g same = elim (fault_behind is.run r is.ends g same) [
      | inl (refusal, other, told, run, refuses) ↦ subst CanEnd told (trace_can refusal)
      | inr memory ↦ subst CanEnd memory tt
    ]

    pub comparison_calm : (g : Fault) → r ≡ Err (stop.Fault g) → sink' ≡ sink
    comparison_calm = calm_behind is.run r is.ends

    pub comparison_whole : (done : T) → r ≡ Ok done → sink' ≡ sink
    comparison_whole = whole_behind is.run r is.ends

    pub comparison_sink : r ≡ Err stop.Sink → Rose sink sink'
    comparison_sink = rose_behind is.run r is.ends

    pub comparison_seen : Compares (λ bytes. bytes) details config (seen left start) (seen left now) sink sink' printed printed' r
    comparison_seen = record {
      run = is.run;
      given = given_seen left (targets_of config) start now is.run is.given;
      ends = seen_behind is.run r is.ends;
    }

    -- lines of a source stay so
    pub comparison_source : HasSource start → HasSource now
    comparison_source = still_given left (targets_of config) start now is.run is.given

-- ---- Runs of `whatif`

-- a comparison over a configuration that was had, and its end
pub is_comparison : {S : Type 0} (left : S → Option (List ℕ)) (details : Details) (config : Config) (start now : Given S) (sink sink' after : ℕ) (printed then printed' : Option (List ℕ)) (status : ℕ) (result : Result (Unit {0}) Stop)
    → Compares left details config start now sink sink' printed then result → sink' ≤ after → EndsReplay config result status then printed' → (rest : Option (List ℕ)) → HasLeft (seen left now) rest
    → IsComparison details config (seen left start) rest sink after status printed printed'
is_comparison left details config start now sink sink' after printed then printed' status result compares later ends rest left_is = record {
  over = record { result = result; sink_then = sink'; later = later; printed_then = then; ends = ends };
  now = seen left now;
  rest = left_is;
  compares = comparison_seen left details config start now sink sink' printed then result compares;
}

-- the configuration wasn't had
pub uncompared : (start : GivenLines) (left rest : Option (List ℕ)) (faults faults' status : ℕ) (printed printed' : Option (List ℕ)) → (e : Fault) → IsUnread e left faults faults' → HasLeft start rest
    → EndsWith (line_of_fault e) (status_of e) status printed printed' ⊎ TellsNoMemory status printed printed' → IsUncompared start left rest faults faults' status printed printed'
uncompared start left rest faults faults' status printed printed' e cause kept (inl ends) = record {
  text = line_of_fault e;
  wanted = status_of e;
  line_ = line_unread e left faults faults' cause;
  rest = kept;
  ends = ends;
}
uncompared start left rest faults faults' status printed printed' e cause kept (inr ends) = record {
  text = no_memory_text;
  wanted = 9;
  line_ = line_of_memory left faults faults';
  rest = kept;
  ends = ends;
}
