-- What is told at the end of a run of `gen`.
use Rattle.std.proofs.Common.{◌≡◌, ◌⊎◌, inl, inr, ℕ, ◌≤◌, List, ◌++◌, Option, None, Some, refl, ◌∙◌}
use Rattle.std.specs.Io.KnownBytes.{Appends}
use Rattle.wol_io.specs.Streams.{AppendsFront}
use Rattle.wol_io.proofs.Appending.{appends_both, front_last}
use Rattle.wol_disk.specs.Disk.{Rose}
use Rattle.wol_config.specs.declared.config.Config.{Config}
use Rattle.report.specs.declared.fault.Fault.{Fault}
use Rattle.report.specs.Faults.{status_of}
use Rattle.command_words.specs.declared.command.Generated.{Generated}
use Rattle.wol_run.specs.Generating.{ListsFor, RunsGen, first_lines}
use Rattle.wol_run.specs.Settings.{HasNoConfig, IsUnread, line_of_fault}
use Rattle.wol_run.proofs.Unread.{ends_unread, line_of_memory, line_unread, wanted_or_sink}
use Rattle.wol_run.specs.Statuses.{no_memory_text}
use Rattle.wol_run.specs.Tops.{EndsWith, TellsNoMemory}

module _ (asked : Generated) (left : Option (List ℕ)) (faults faults' : ℕ) where
  -- the configuration wasn't had
  pub told_unread : (status : ℕ) (printed new : Option (List ℕ)) (e : Fault) → IsUnread e left faults faults'
      → EndsWith (line_of_fault e) (status_of e) status printed new ⊎ TellsNoMemory status printed new → RunsGen asked None left faults faults' status printed new
  told_unread status printed new e cause (inl ends) = record {
    text = line_of_fault e;
    wanted = status_of e;
    allowed = line_unread e left faults faults' cause;
    ends = ends;
  }
  told_unread status printed new e cause (inr ends) = record {
    text = no_memory_text;
    wanted = 9;
    allowed = line_of_memory left faults faults';
    ends = ends;
  }

  module _ (config : Config) where
    told : (status : ℕ) (printed new : Option (List ℕ)) → EndsWith (first_lines config asked.seed asked.lines) 0 status printed new → RunsGen asked (Some config) left faults faults' status printed new
    told status printed new ends = record {
      text = first_lines config asked.seed asked.lines;
      wanted = 0;
      allowed = inl (record { lines_ = refl; done = refl });
      ends = ends;
    }

    -- all lines were printed
    pub told_listed : (printed new : Option (List ℕ)) → Appends printed new (first_lines config asked.seed asked.lines) → RunsGen asked (Some config) left faults faults' 0 printed new
    told_listed printed new appends = told 0 printed new (inl (refl, appends))

    -- the sink failed
    pub told_front : (printed new : Option (List ℕ)) → AppendsFront printed new (first_lines config asked.seed asked.lines) → RunsGen asked (Some config) left faults faults' 7 printed new
    told_front printed new front = told 7 printed new (inr (refl, front))

    -- there was no memory behind some first lines
    pub told_cut : (status : ℕ) (printed mid new : Option (List ℕ)) (some : ℕ) → some ≤ asked.lines → Appends printed mid (first_lines config asked.seed some)
        → TellsNoMemory status mid new → RunsGen asked (Some config) left faults faults' status printed new
    told_cut status printed mid new some first appends ends = record {
      text = first_lines config asked.seed some ++ no_memory_text;
      wanted = 9;
      allowed = inr (record { some = some; first = first; lines_ = refl; memory = refl });
      ends = both ends;
    }
      where
        both : TellsNoMemory status mid new → EndsWith (first_lines config asked.seed some ++ no_memory_text) 9 status printed new
        both (inl (is, more)) = inl (is, appends_both printed mid new (first_lines config asked.seed some) no_memory_text appends more)
        both (inr (is, more)) = inr (is, front_last printed mid new (first_lines config asked.seed some) no_memory_text appends more)

-- ---- What the statuses come of

-- how a run of `gen` may end: by its status, with what the status comes of
abbrev pub EndsGen : (left : Option (List ℕ)) (faults faults' status : ℕ) → Type 0
EndsGen left faults faults' status = (status ≡ 0) ⊎ ((status ≡ 2) × HasNoConfig left) ⊎ (status ≡ 7) ⊎ ((status ≡ 8) × Rose faults faults') ⊎ (status ≡ 9)

module _ (asked : Generated) (read : Option Config) (left : Option (List ℕ)) (faults faults' status : ℕ) (printed new : Option (List ℕ)) where
  pub ends_gen : RunsGen asked read left faults faults' status printed new → EndsGen left faults faults' status
  ends_gen run = elim (wanted_or_sink run.text run.wanted status printed new run.ends) [
    | inl is ↦ by read run.allowed is
    | inr seven ↦ inr (inr (inl seven))
  ]
    where
      by : (o : Option Config) → ListsFor asked o left faults faults' run.text run.wanted → status ≡ run.wanted → EndsGen left faults faults' status
      by (Some config) (inl listed) is = inl (is ∙ listed.done)
      by (Some config) (inr cut) is = inr (inr (inr (inr (is ∙ cut.memory))))
      by None line is = elim (ends_unread left faults faults' run.text run.wanted line) [
        | inl (two, none) ↦ inr (inl (is ∙ two, none))
        | inr (inl (eight, rose)) ↦ inr (inr (inr (inl (is ∙ eight, rose))))
        | inr (inr nine) ↦ inr (inr (inr (inr (is ∙ nine))))
      ]
