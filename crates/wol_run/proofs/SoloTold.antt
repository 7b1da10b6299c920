-- Why `solo` ended with its status, and when it is done.
use Rattle.std.proofs.Common.{◌≡◌, inl, inr, ℕ, ◌<◌, Bool, List, Option, None, Err, refl, arith}
use Rattle.wol_disk.specs.Disk.{Rose, State}
use Rattle.wol_bay.specs.Bay.{Told}
use Rattle.wol_model.specs.Trace.{Target}
use Rattle.solo.specs.Images.{RunsInBay}
use Rattle.solo.specs.Volume.{target_of}
use Rattle.solo.specs.declared.fault.Fault.{Fault}
use Rattle.solo.specs.declared.fault.Fault.TheVariants as fault
use Rattle.solo.specs.declared.volume.Volume.{Volume}
use Rattle.command_words.specs.Commands.{IsCommand}
use Rattle.command_words.specs.declared.command.Command.TheVariants.{Solo}
use Rattle.wol_run.specs.Causes.{AskFor, IsCause}
use Rattle.wol_run.specs.Causes as row
use Rattle.wol_run.specs.Commands.{uses_bay, runs_trace}
use Rattle.wol_run.specs.Outside.{Outside}
use Rattle.wol_run.specs.Tops.{HasCause, IsDoneOrMemory, IsRunnable, TellsFault, TellsStatus}
use Rattle.wol_run.proofs.CausesTold.{at_status}
use Rattle.wol_run.proofs.Endings.{comes_of_bad_line, comes_of_lines}

module _ {D : Type 0} (tells : Bool) (state : D → State) (words : List (List ℕ)) (before after : Outside) (own : Volume) (is : IsCommand words (Solo own)) (T : Type 0) (status : ℕ) (mid : Option (List ℕ))
    (sink : status ≡ 7 → Rose before.sink.faults after.sink.faults) where
  for_bay : AskFor words uses_bay
  for_bay = record { command = Solo own; is = is; does = refl }

  for_trace : AskFor words runs_trace
  for_trace = record { command = Solo own; is = is; does = refl }

  abbrev Cause : ℕ → Type 0
  Cause k = IsCause tells state None words before after k

  pub solo_cause : (e : Fault) → TellsStatus e status → HasCause e before.bay.told after.bay.told before.bay.faults after.bay.faults before.trace.faults after.trace.faults
      → RunsInBay {T = T} (target_of own) before.trace.bytes after.trace.bytes before.bay.told after.bay.told (Err e) before.sink.bytes mid → Cause status
  solo_cause e (inr (inl seven)) cause runs = at_status tells state None words before after 7 status seven (row.sink_failed (sink seven))
  solo_cause e (inr (inr nine)) cause runs = at_status tells state None words before after 9 status nine row.no_memory
  solo_cause (fault.BadLine line why) (inl same) cause runs =
      at_status tells state None words before after 3 status same (row.bad_line for_trace (comes_of_bad_line T (fault.BadLine line why) status (target_of own) before.trace.bytes after.trace.bytes before.bay.told after.bay.told before.sink.bytes mid (inl same) same runs))
  solo_cause fault.Bay (inl same) cause runs = at_status tells state None words before after 4 status same (row.part_failed for_bay cause.0)
  solo_cause fault.Disk (inl same) cause runs = at_status tells state None words before after 4 status same (row.part_failed for_bay cause.0)
  solo_cause fault.Sink (inl same) cause runs = at_status tells state None words before after 7 status same (row.sink_failed (sink same))
  solo_cause fault.Source (inl same) cause runs = at_status tells state None words before after 8 status same (row.source_failed (inr cause.0))
  solo_cause fault.NoMemory (inl same) cause runs = at_status tells state None words before after 9 status same row.no_memory
  solo_cause fault.Spent (inl same) cause runs =
      at_status tells state None words before after 10 status same (row.more_lines for_trace (comes_of_lines T fault.Spent status (target_of own) before.trace.bytes after.trace.bytes before.bay.told after.bay.told before.sink.bytes mid (inl same) same runs))

-- it is done where no call failed and the trace can be run to its end, or there was no memory
module _ (T : Type 0) (target : Target) (trace left : Option (List ℕ)) (told told' : Option Told) (old mid : Option (List ℕ)) (bay bay' source source' status : ℕ)
    (bay_calm : ¬ Rose bay bay') (source_calm : ¬ Rose source source') (sink_calm : status ≡ 7 → ⊥) (order : IsRunnable trace) where
  pub solo_complete : (e : Fault) → TellsStatus e status → HasCause e told told' bay bay' source source' → RunsInBay {T = T} target trace left told told' (Err e) old mid → IsDoneOrMemory status
  solo_complete e (inr (inl seven)) cause runs = absurd (sink_calm seven)
  solo_complete e (inr (inr nine)) cause runs = inr nine
  solo_complete (fault.BadLine line why) (inl same) cause runs = absurd (order.good (comes_of_bad_line T (fault.BadLine line why) status target trace left told told' old mid (inl same) same runs))
  solo_complete fault.Bay (inl same) cause runs = absurd (bay_calm cause.0)
  solo_complete fault.Disk (inl same) cause runs = absurd (bay_calm cause.0)
  solo_complete fault.Sink (inl same) cause runs = absurd (sink_calm same)
  solo_complete fault.Source (inl same) cause runs = absurd (source_calm cause.0)
  solo_complete fault.NoMemory (inl same) cause runs = inr same
  solo_complete fault.Spent (inl same) cause runs = absurd (order.few (comes_of_lines T fault.Spent status target trace left told told' old mid (inl same) same runs))

-- a sink that failed since is told
later_seven : (a b c status : ℕ) → b ≡ a → (b < c → status ≡ 7) → a < c → status ≡ 7
later_seven a b c status same calm less = calm (omega (arith, same, less))

pub solo_calm : (e : Fault) (a b c status : ℕ) (mid new : Option (List ℕ)) → (¬ (e ≡ fault.Sink) → b ≡ a) → TellsFault e status mid new → (b < c → status ≡ 7) → a < c → status ≡ 7
solo_calm fault.Sink a b c status mid new same (inl (seven, more)) calm less = seven
solo_calm fault.Sink a b c status mid new same (inr (seven, more)) calm less = seven
solo_calm fault.Disk a b c status mid new same tells calm less = later_seven a b c status (same (λ is. cc is)) calm less
solo_calm fault.NoMemory a b c status mid new same tells calm less = later_seven a b c status (same (λ is. cc is)) calm less
solo_calm fault.Bay a b c status mid new same tells calm less = later_seven a b c status (same (λ is. cc is)) calm less
solo_calm (fault.BadLine line why) a b c status mid new same tells calm less = later_seven a b c status (same (λ is. cc is)) calm less
solo_calm fault.Spent a b c status mid new same tells calm less = later_seven a b c status (same (λ is. cc is)) calm less
solo_calm fault.Source a b c status mid new same tells calm less = later_seven a b c status (same (λ is. cc is)) calm less
