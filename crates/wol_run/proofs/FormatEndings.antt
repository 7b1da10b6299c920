-- What is told at the end of a run of `format`.
use Rattle.std.proofs.Common.{◌≡◌, ◌⊎◌, inl, inr, ℕ, ◌<◌, List, length, Option, None, Some, Result, Ok, Err, refl, ◌∙◌}
use Rattle.wol_disk.specs.Disk.{Rose}
use Rattle.wol_bay.specs.Bay.{BayState}
use Rattle.wol_config.specs.declared.config.Config.{Config}
use Rattle.volume_images.specs.declared.fault.PartName.{PartName}
use Rattle.volume_images.specs.declared.fault.PartName.TheVariants as part
use Rattle.volume_images.specs.declared.fault.RackFault.{RackFault}
use Rattle.volume_images.specs.declared.fault.RackFault.TheVariants.{Failed, NoMemory}
use Rattle.report.specs.declared.fault.Fault.{Fault}
use Rattle.report.specs.declared.fault.Fault.TheVariants as fault
use Rattle.report.specs.Faults.{fault_text, status_of}
use Rattle.report.specs.Names.{printed_names}
use Rattle.wol_run.specs.Formatting.{Formats, FormatsFor, RunsFormat, fault_of, format_lines, trouble_of}
use Rattle.wol_run.specs.Settings.{HasNoConfig, IsUnread, line_of_fault}
use Rattle.wol_run.specs.Statuses.{no_memory_text}
use Rattle.wol_run.specs.Tops.{EndsWith, TellsNoMemory}
use Rattle.wol_run.proofs.Unread.{ends_unread, line_of_memory, line_unread, memory_line, wanted_or_sink}

-- ---- Endings

pub status_four : (volume : ℕ) (p : PartName) → status_of (fault.Volume volume (trouble_of volume p)) ≡ 4
status_four volume part.Bay = refl
status_four volume part.Label = refl
status_four volume part.Home = refl
status_four volume (part.Segment index) = refl

module _ (left : Option (List ℕ)) (faults faults' : ℕ) (old new : BayState) (status : ℕ) (printed now : Option (List ℕ)) where
  -- the configuration wasn't had
  pub told_untouched : (e : Fault) → IsUnread e left faults faults' → new ≡ old
      → EndsWith (line_of_fault e) (status_of e) status printed now ⊎ TellsNoMemory status printed now → RunsFormat None left faults faults' old new status printed now
  told_untouched e cause same (inl ends) = record {
    text = line_of_fault e;
    wanted = status_of e;
    allowed = record { line_ = line_unread e left faults faults' cause; bay = same };
    ends = ends;
  }
  told_untouched e cause same (inr ends) = record {
    text = no_memory_text;
    wanted = 9;
    allowed = record { line_ = line_of_memory left faults faults'; bay = same };
    ends = ends;
  }

  module _ (config : Config) where
    -- all volumes are formatted
    pub told_whole : Formats config (Ok tt) old new → EndsWith (format_lines config) 0 status printed now → RunsFormat (Some config) left faults faults' old new status printed now
    told_whole formats ends = record {
      text = format_lines config;
      wanted = 0;
      allowed = inl (record { formats = formats; lines_ = refl; done = refl });
      ends = ends;
    }

    -- there was no memory
    pub told_memory : (result : Result (Unit {0}) RackFault) → Formats config result old new → TellsNoMemory status printed now → RunsFormat (Some config) left faults faults' old new status printed now
    told_memory result formats ends = record {
      text = no_memory_text;
      wanted = 9;
      allowed = inr (inr (record { result = result; formats = formats; line_ = refl; memory = refl }));
      ends = ends;
    }

    -- a format that wasn't done
    pub told_stopped : (e : RackFault) → Formats config (Err e) old new → ((n : ℕ) (p : PartName) → e ≡ Failed n p → n < length config.volumes.items)
        → EndsWith (fault_text (printed_names config.volumes.items) (fault_of e)) (status_of (fault_of e)) status printed now ⊎ TellsNoMemory status printed now
        → RunsFormat (Some config) left faults faults' old new status printed now
    told_stopped e formats known (inr ends) = told_memory (Err e) formats ends
    told_stopped NoMemory formats known (inl ends) = told_memory (Err NoMemory) formats (rw (memory_line (printed_names config.volumes.items)) at ends)
    told_stopped (Failed n p) formats known (inl ends) = record {
      text = fault_text (printed_names config.volumes.items) (fault.Volume n (trouble_of n p));
      wanted = status_of (fault.Volume n (trouble_of n p));
      allowed = inr (inl (record {
        volume = n;
        part = p;
        known = known n p refl;
        formats = formats;
        line_ = refl;
        failed = status_four n p;
      }));
      ends = ends;
    }

-- ---- What the statuses come of

-- how a run of `format` may end: by its status, with what the status comes of
abbrev pub EndsFormat : (left : Option (List ℕ)) (faults faults' : ℕ) (old new : BayState) (status : ℕ) → Type 0
EndsFormat left faults faults' old new status =
    (status ≡ 0) ⊎ ((status ≡ 2) × HasNoConfig left) ⊎ ((status ≡ 4) × Rose old.faults new.faults) ⊎ (status ≡ 7) ⊎ ((status ≡ 8) × Rose faults faults') ⊎ (status ≡ 9)

module _ (read : Option Config) (left : Option (List ℕ)) (faults faults' : ℕ) (old new : BayState) (status : ℕ) (printed now : Option (List ℕ)) where
  pub ends_format : RunsFormat read left faults faults' old new status printed now → EndsFormat left faults faults' old new status
  ends_format run = elim (wanted_or_sink run.text run.wanted status printed now run.ends) [
    | inl is ↦ by read run.allowed is
    | inr seven ↦ inr (inr (inr (inl seven)))
  ]
    where
      by : (o : Option Config) → FormatsFor o left faults faults' old new run.text run.wanted → status ≡ run.wanted → EndsFormat left faults faults' old new status
      by (Some config) (inl whole) is = inl (is ∙ whole.done)
      by (Some config) (inr (inl failed)) is = inr (inr (inl (is ∙ failed.failed, failed.formats.cause failed.volume failed.part refl)))
      by (Some config) (inr (inr memory)) is = inr (inr (inr (inr (inr (is ∙ memory.memory)))))
      by None untouched is = elim (ends_unread left faults faults' run.text run.wanted untouched.line_) [
        | inl (two, none) ↦ inr (inl (is ∙ two, none))
        | inr (inl (eight, rose)) ↦ inr (inr (inr (inr (inl (is ∙ eight, rose)))))
        | inr (inr nine) ↦ inr (inr (inr (inr (inr (is ∙ nine)))))
      ]
