-- What ended a run of a trace: which fault it can be, and what became of the sink.
use Rattle.std.proofs.Common.{◌≡◌, ◌≢◌, ◌⊎◌, inl, inr, ℕ, Bool, List, ◌++◌, Option, Result, Ok, Err, refl, sym, ap, subst, ◌∙◌}
use Rattle.std.specs.Bool.{⊤}
use Rattle.wol_disk.specs.Disk.{Rose, State}
use Rattle.wol_bay.specs.Bay.{BayState}
use Rattle.wol_model.specs.Trace.{TraceLine}
use Rattle.wol_config.specs.declared.config.Config.{Config}
use Rattle.msr_trace.specs.declared.format.TraceFault.{TraceFault}
use Rattle.msr_trace.specs.declared.format.TraceFault.TheVariants as trace
use Rattle.report.specs.declared.fault.Fault.{Fault}
use Rattle.report.specs.declared.fault.Fault.TheVariants as fault
use Rattle.replay.specs.Ended.{EndsFor, whole, no_line, refused, memory, sink_failed}
use Rattle.replay.specs.Givens.{Refuses}
use Rattle.replay.specs.Histories.{answers_in}
use Rattle.replay.specs.Replays.{Replayed, closed, no_memory, ran}
use Rattle.replay.specs.Served.{ServedWindow}
use Rattle.replay.specs.Stops.{fault_of_trace}
use Rattle.replay.specs.Summed.{PrintsRun, lines_asked}
use Rattle.replay.specs.declared.given.Given.{Given}
use Rattle.replay.specs.declared.session.Options.{Options}
use Rattle.replay.specs.declared.stop.Stop.{Stop}
use Rattle.replay.specs.declared.stop.Stop.TheVariants as stop
use Rattle.rack.specs.Troubles.{trouble_of}
use Rattle.wol_run.proofs.ReplayFaults.{CanEnd, IsOfWindow, of_window, trace_can, window_can}

-- ---- What ended a run

-- no further line came behind some lines, for this cause
abbrev pub NoLine : {S : Type 0} → (S → Option (List ℕ)) → (start now : Given S) → Fault → Type 0
NoLine left start now f = (refusal : TraceFault) × (refusal ≢ trace.NoMemory) × (fault_of_trace refusal ≡ f) × (run : List (Option TraceLine)) × Refuses left refusal start now run

abbrev fault_in : {T : Type 0} → Fault → Result T Stop → Fault
fault_in other (Ok done) = other
fault_in other (Err stop.Sink) = other
fault_in other (Err (stop.Fault f)) = f

-- it ended with a fault
abbrev FaultAlone : {T : Type 0} → Result T Stop → Type 0
FaultAlone (Ok done) = ⊥
FaultAlone (Err stop.Sink) = ⊥
FaultAlone (Err (stop.Fault f)) = ⊤

pub same_fault : {T : Type 0} (a b : Result T Stop) (f g : Fault) → a ≡ b → a ≡ Err (stop.Fault f) → b ≡ Err (stop.Fault g) → f ≡ g
same_fault a b f g same is so = ap (fault_in f) (sym is ∙ same ∙ so)

module _ {D S T : Type 0} (tells : Bool) (state : D → State) (options : Options) (left : S → Option (List ℕ)) (config : Config) (start now : Given S) (old new : BayState) (sink sink' : ℕ) (printed printed' : Option (List ℕ)) where
  ends_for : (r : Result T Stop) (run : List (Option TraceLine)) (last : List ServedWindow) → EndsFor left config start now run last old.faults new.faults sink sink' r → (g : Fault) → r ≡ Err (stop.Fault g) → IsOfWindow g ⊎ NoLine left start now g
  ends_for r run last (whole done none all) g is = absurd (let no : Ok done ≡ Err (stop.Fault g) = is in cc)
  ends_for r run last (no_line refusal other empty refuses) g is = inr (refusal, other, same_fault _ _ (fault_of_trace refusal) g is refl refl, run, refuses)
  ends_for r run last (refused f s one same rose versions) g is = inl (subst IsOfWindow (same_fault _ _ f g is refl refl) (of_window s.batch.requests s.answer f same))
  ends_for r run last memory g is = inl (subst IsOfWindow (same_fault _ _ fault.Memory g is refl refl) tt)
  ends_for r run last (sink_failed rose) g is = absurd (let no : Err stop.Sink ≡ Err (stop.Fault g) = is in cc)

  pub ended_by : (r : Result T Stop) → Replayed tells state left config options start now old new sink sink' printed printed' r → (g : Fault) → r ≡ Err (stop.Fault g) → IsOfWindow g ⊎ NoLine left start now g
  ended_by r (no_memory asks leaves) g is = inl (subst IsOfWindow (same_fault _ _ fault.Memory g is refl refl) tt)
  ended_by r (closed k f asks first leaves) g is = inl (subst IsOfWindow (same_fault _ _ (fault.Volume k (trouble_of f)) g is refl refl) tt)
  ended_by r (ran r2 replays) g is = ends_for r2 replays.run replays.last replays.ends g is

  pub can_end : (r : Result T Stop) → Replayed tells state left config options start now old new sink sink' printed printed' r → (g : Fault) → r ≡ Err (stop.Fault g) → CanEnd g
  can_end r replayed g is = elim (ended_by r replayed g is) [
    | inl window ↦ window_can g window
    | inr (refusal, other, same, run, refuses) ↦ subst CanEnd same (trace_can refusal)
  ]

  prints_calm : (r : Result T Stop) (lines : List (List ℕ)) (summary : List ℕ) (g : Fault) → r ≡ Err (stop.Fault g) → PrintsRun r lines summary sink sink' printed printed' → sink' ≡ sink
  prints_calm (Ok done) lines summary g is prints = prints.0
  prints_calm (Err stop.Sink) lines summary g is prints = absurd (let no : Err stop.Sink ≡ Err (stop.Fault g) = is in cc)
  prints_calm (Err (stop.Fault f)) lines summary g is prints = prints.0

  -- the sink didn't fail in a run that ended with a fault
  pub calm_of : (r : Result T Stop) → Replayed tells state left config options start now old new sink sink' printed printed' r → (g : Fault) → r ≡ Err (stop.Fault g) → sink' ≡ sink
  calm_of r (no_memory asks leaves) g is = asks.calm
  calm_of r (closed k f asks first leaves) g is = asks.calm
  calm_of r (ran r2 replays) g is = prints_calm r2 _ replays.summary g is replays.prints

  prints_rose : (r : Result T Stop) (lines : List (List ℕ)) (summary : List ℕ) → r ≡ Err stop.Sink → PrintsRun r lines summary sink sink' printed printed' → Rose sink sink'
  prints_rose (Ok done) lines summary is prints = absurd (let no : Ok done ≡ Err stop.Sink = is in cc)
  prints_rose (Err stop.Sink) lines summary is prints = prints.0
  prints_rose (Err (stop.Fault f)) lines summary is prints = absurd (subst FaultAlone is tt)

  -- it did in a run that ended so
  pub sink_rose : (r : Result T Stop) → Replayed tells state left config options start now old new sink sink' printed printed' r → r ≡ Err stop.Sink → Rose sink sink'
  sink_rose r (no_memory asks leaves) is = absurd (subst FaultAlone is tt)
  sink_rose r (closed k f asks first leaves) is = absurd (subst FaultAlone is tt)
  sink_rose r (ran r2 replays) is = prints_rose r2 _ replays.summary is replays.prints

  -- a run to the end left the sink's count
  pub whole_calm : (r : Result T Stop) → Replayed tells state left config options start now old new sink sink' printed printed' r → (done : T) → r ≡ Ok done → sink' ≡ sink
  whole_calm r (no_memory asks leaves) done is = asks.calm
  whole_calm r (closed k f asks first leaves) done is = asks.calm
  whole_calm r (ran r2 replays) done is = by r2 is replays.prints
    where
      by : (q : Result T Stop) → q ≡ Ok done → PrintsRun q (lines_asked config options.each (answers_in (replays.earlier ++ replays.last))) replays.summary sink sink' printed printed' → sink' ≡ sink
      by (Ok other) same prints = prints.0
      by (Err stop.Sink) same prints = absurd (let no : Err stop.Sink ≡ Ok done = same in cc)
      by (Err (stop.Fault f)) same prints = prints.0
