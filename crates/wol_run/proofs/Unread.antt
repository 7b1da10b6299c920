-- What is told where the configuration wasn't had.
use Rattle.std.proofs.Common.{◌≡◌, ◌⊎◌, inl, inr, ℕ, List, [], ◌∷◌, Option, refl, sym, ap, ◌∙◌, lit<}
use Rattle.std.specs.Prelude.{codes}
use Rattle.std.proofs.lemmas.Fmt.{decimal_digit}
use Rattle.wol_disk.specs.Disk.{Rose}
use Rattle.wol_config.specs.declared.config.ConfigFault.TheVariants as refused
use Rattle.report.specs.declared.fault.Fault.{Fault}
use Rattle.report.specs.declared.fault.Fault.TheVariants as fault
use Rattle.report.specs.Faults.{cause_text, fault_text, status_of}
use Rattle.report.specs.Names.{printed_names}
use Rattle.report.specs.Words.{line_of}
use Rattle.wol_bay.specs.Bay.{BayState}
use Rattle.wol_run.specs.Formatting.{IsNotBegun}
use Rattle.wol_run.specs.Settings.{HasNoConfig, IsFaultLine, IsUnread, line_of_fault}
use Rattle.wol_run.specs.Statuses.{no_memory_text}
use Rattle.wol_run.specs.Tops.{EndsWith, TellsNoMemory}

-- the line of want of memory, whatever volumes there are
pub memory_line : (names : List (List ℕ)) → fault_text names fault.Memory ≡ no_memory_text
unfolding fault_text cause_text
memory_line names = ap (λ (status : List ℕ). line_of (codes "fault" ∷ status ∷ codes "memory" ∷ [])) (decimal_digit 9 (lit< tt))

-- the status of a run: that of its text, or that of a failed sink
pub wanted_or_sink : (text : List ℕ) (wanted status : ℕ) (printed new : Option (List ℕ)) → EndsWith text wanted status printed new → (status ≡ wanted) ⊎ (status ≡ 7)
wanted_or_sink text wanted status printed new (inl (is, more)) = inl is
wanted_or_sink text wanted status printed new (inr (is, more)) = inr is

-- the statuses of a configuration that wasn't had
unread_status : (e : Fault) (left : Option (List ℕ)) (faults faults' : ℕ) → IsUnread e left faults faults' → ((status_of e ≡ 2) × HasNoConfig left) ⊎ ((status_of e ≡ 8) × Rose faults faults') ⊎ (status_of e ≡ 9)
unread_status (fault.Config refused.NoMemory) left faults faults' cause = absurd (cause.0 refl)
unread_status (fault.Config refused.NotToml) left faults faults' cause = inl (refl, record { why = refused.NotToml; fault = cause.0; refused = cause.1 })
unread_status (fault.Config (refused.Missing key)) left faults faults' cause = inl (refl, record { why = refused.Missing key; fault = cause.0; refused = cause.1 })
unread_status (fault.Config (refused.WrongKind key)) left faults faults' cause = inl (refl, record { why = refused.WrongKind key; fault = cause.0; refused = cause.1 })
unread_status (fault.Config (refused.OutOfRange key)) left faults faults' cause = inl (refl, record { why = refused.OutOfRange key; fault = cause.0; refused = cause.1 })
unread_status (fault.Config (refused.Twice volume name)) left faults faults' cause = inl (refl, record { why = refused.Twice volume name; fault = cause.0; refused = cause.1 })
unread_status (fault.Config (refused.BadView volume name)) left faults faults' cause = inl (refl, record { why = refused.BadView volume name; fault = cause.0; refused = cause.1 })
unread_status (fault.Config refused.TooLong) left faults faults' cause = inl (refl, record { why = refused.TooLong; fault = cause.0; refused = cause.1 })
unread_status fault.ConfigSource left faults faults' cause = inr (inl (refl, cause))
unread_status fault.Memory left faults faults' cause = inr (inr refl)
unread_status fault.Words left faults faults' cause = absurd cause
unread_status (fault.Line line why) left faults faults' cause = absurd cause
unread_status (fault.Volume volume trouble) left faults faults' cause = absurd cause
unread_status fault.TraceSource left faults faults' cause = absurd cause
unread_status fault.Lines left faults faults' cause = absurd cause
unread_status (fault.Versions volume) left faults faults' cause = absurd cause

-- what such a line may be
pub line_unread : (e : Fault) (left : Option (List ℕ)) (faults faults' : ℕ) → IsUnread e left faults faults' → IsFaultLine left faults faults' (line_of_fault e) (status_of e)
line_unread e left faults faults' cause = record { fault = e; cause = cause; line_ = refl; told = refl }

pub line_of_memory : (left : Option (List ℕ)) (faults faults' : ℕ) → IsFaultLine left faults faults' no_memory_text 9
line_of_memory left faults faults' = record { fault = fault.Memory; cause = tt; line_ = sym (memory_line (printed_names [])); told = refl }

-- what its status comes of
pub ends_unread : (left : Option (List ℕ)) (faults faults' : ℕ) (text : List ℕ) (wanted : ℕ) → IsFaultLine left faults faults' text wanted
    → ((wanted ≡ 2) × HasNoConfig left) ⊎ ((wanted ≡ 8) × Rose faults faults') ⊎ (wanted ≡ 9)
ends_unread left faults faults' text wanted line = elim (unread_status line.fault left faults faults' line.cause) [
  | inl (two, none) ↦ inl (line.told ∙ two, none)
  | inr (inl (eight, rose)) ↦ inr (inl (line.told ∙ eight, rose))
  | inr (inr nine) ↦ inr (inr (line.told ∙ nine))
]

-- a command that uses the bay wasn't begun
pub not_begun : (left : Option (List ℕ)) (faults faults' : ℕ) (old new : BayState) (status : ℕ) (printed printed' : Option (List ℕ)) → (e : Fault) → IsUnread e left faults faults' → new ≡ old
    → EndsWith (line_of_fault e) (status_of e) status printed printed' ⊎ TellsNoMemory status printed printed' → IsNotBegun left faults faults' old new status printed printed'
not_begun left faults faults' old new status printed printed' e cause same (inl ends) = record {
  text = line_of_fault e;
  wanted = status_of e;
  untouched = record { line_ = line_unread e left faults faults' cause; bay = same };
  ends = ends;
}
not_begun left faults faults' old new status printed printed' e cause same (inr ends) = record {
  text = no_memory_text;
  wanted = 9;
  untouched = record { line_ = line_of_memory left faults faults'; bay = same };
  ends = ends;
}
