-- What is told at the end of a run of `check` or `dump`.
use Rattle.std.proofs.Common.{◌≡◌, ◌⊎◌, inl, inr, ℕ, Bool, List, ◌++◌, length, Option, None, Some, Result, Ok, Err, refl, ap, ◌∙◌}
use Rattle.std.specs.Io.KnownBytes.{Appends}
use Rattle.wol_disk.specs.Disk.{State}
use Rattle.wol_bay.specs.Bay.{BayState}
use Rattle.wol_io.specs.Streams.{AppendsFront}
use Rattle.wol_io.proofs.Appending.{appends_both, front_last, front_longer}
use Rattle.wol_config.specs.declared.config.Config.{Config}
use Rattle.report.specs.Faults.{status_of}
use Rattle.report.specs.declared.fault.Fault.{Fault}
use Rattle.report.specs.declared.trouble.Trouble.{Trouble}
use Rattle.std.specs.Prelude.{IsTrue}
use Rattle.inspection.specs.Lines.{Telling, first_trouble, text_of}
use Rattle.inspection.specs.Runs.{Inspects, Looked}
use Rattle.inspection.specs.declared.asked.Asked.{Asked}
use Rattle.inspection.specs.declared.calls.Stop.{Stop}
use Rattle.inspection.specs.declared.calls.Stop.TheVariants.{Sink, Memory}
use Rattle.volume_images.specs.Left.{IsTold}
use Rattle.rack.specs.Opens.{KeepsAllSound}
use Rattle.wol_run.specs.Inspecting.{HasLooked, IsCutLook, RunsLook, status_of_first}
use Rattle.wol_run.specs.Settings.{IsUnread, line_of_fault}
use Rattle.wol_run.specs.Statuses.{no_memory_text}
use Rattle.wol_run.specs.Tops.{EndsWith, TellsNoMemory}
use Rattle.wol_run.proofs.Unread.{line_of_memory, line_unread}

-- ---- Endings

module _ {D : Type 0} (tells : Bool) (state : D → State) (asked : Asked) (left : Option (List ℕ)) (faults faults' : ℕ) (old new : BayState) (status : ℕ) (printed now : Option (List ℕ)) where
  -- the configuration wasn't had
  pub look_untouched : (e : Fault) → IsUnread e left faults faults' → new ≡ old
      → EndsWith (line_of_fault e) (status_of e) status printed now ⊎ TellsNoMemory status printed now → RunsLook tells state asked None left faults faults' old new status printed now
  look_untouched e cause same (inl ends) = record {
    text = line_of_fault e;
    wanted = status_of e;
    allowed = record { line_ = line_unread e left faults faults' cause; bay = same };
    ends = ends;
  }
  look_untouched e cause same (inr ends) = record {
    text = no_memory_text;
    wanted = 9;
    allowed = record { line_ = line_of_memory left faults faults'; bay = same };
    ends = ends;
  }

  module _ (config : Config) (sound : IsTrue tells → IsTold (KeepsAllSound config) old.told new.told) where
    module _ (told : List Telling) (are : Looked tells state config asked old new told) where
      abbrev looked : HasLooked tells state asked config old new
      looked = record { told = told; are = are; sound = sound }

      look_told : (first : Option Trouble) → length told ≡ length config.volumes.items → first ≡ first_trouble told → Appends printed now (text_of told) → status ≡ status_of_first first
          → RunsLook tells state asked (Some config) left faults faults' old new status printed now
      look_told first all is more same = record {
        text = text_of told;
        wanted = status_of_first (first_trouble told);
        allowed = inl (record { looked = looked; all = all; lines_ = refl; done = refl });
        ends = inl (same ∙ ap status_of_first is, more);
      }

      cut_look : IsCutLook tells state asked config old new (text_of told ++ no_memory_text) 9
      cut_look = record { looked = looked; lines_ = refl; memory = refl }

      look_stopped : AppendsFront printed now (text_of told) → status ≡ 7 → RunsLook tells state asked (Some config) left faults faults' old new status printed now
      look_stopped front seven = record {
        text = text_of told ++ no_memory_text;
        wanted = 9;
        allowed = inr cut_look;
        ends = inr (seven, front_longer printed now (text_of told) no_memory_text front);
      }

      then_memory : (mid : Option (List ℕ)) → Appends printed mid (text_of told) → TellsNoMemory status mid now → EndsWith (text_of told ++ no_memory_text) 9 status printed now
      then_memory mid first (inl (nine, more)) = inl (nine, appends_both printed mid now (text_of told) no_memory_text first more)
      then_memory mid first (inr (seven, front)) = inr (seven, front_last printed mid now (text_of told) no_memory_text first front)

      look_memory : (mid : Option (List ℕ)) → Appends printed mid (text_of told) → TellsNoMemory status mid now → RunsLook tells state asked (Some config) left faults faults' old new status printed now
      look_memory mid first ends = record {
        text = text_of told ++ no_memory_text;
        wanted = 9;
        allowed = inr cut_look;
        ends = then_memory mid first ends;
      }

    -- all volumes were told
    pub look_whole : (first : Option Trouble) (sink sink' : ℕ) → Inspects tells state config asked old new (Ok first) sink sink' printed now → status ≡ status_of_first first
        → RunsLook tells state asked (Some config) left faults faults' old new status printed now
    look_whole first sink sink' i same = look_told i.told i.looked first i.prints.0 i.prints.1 i.prints.3 same

    -- the sink failed
    pub look_failed : (sink sink' : ℕ) → Inspects tells state config asked old new (Err Sink) sink sink' printed now → status ≡ 7 → RunsLook tells state asked (Some config) left faults faults' old new status printed now
    look_failed sink sink' i seven = look_stopped i.told i.looked i.prints.1 seven

    -- there was no memory
    pub look_cut : (sink sink' : ℕ) (mid : Option (List ℕ)) → Inspects tells state config asked old new (Err Memory) sink sink' printed mid → TellsNoMemory status mid now
        → RunsLook tells state asked (Some config) left faults faults' old new status printed now
    look_cut sink sink' mid i ends = look_memory i.told i.looked mid i.prints.1 ends
