-- What the statuses of a replay come of.
use Rattle.std.proofs.Common.{◌≡◌, ◌≢◌, ◌⊎◌, inl, inr, ℕ, Bool, List, [], Option, None, Some, Result, Ok, Err, refl, sym, ap, subst, ◌∙◌, arith}
use Rattle.std.specs.Io.KnownBytes.{IsAtEnd}
use Rattle.wol_disk.specs.Disk.{Rose, State}
use Rattle.wol_bay.specs.Bay.{BayState}
use Rattle.wol_model.specs.Trace.{TraceLine}
use Rattle.wol_config.specs.declared.config.Config.{Config}
use Rattle.trace_gen.specs.Generated.{targets_of}
use Rattle.msr_trace.specs.declared.format.TraceFault.{TraceFault}
use Rattle.msr_trace.specs.declared.format.TraceFault.TheVariants as trace
use Rattle.report.specs.Faults.{fault_text, status_of}
use Rattle.report.specs.declared.fault.Fault.{Fault}
use Rattle.manager_recovery.specs.declared.refusal.OpenRefusal.TheVariants as refusal
use Rattle.rack_parts.specs.declared.volume_fault.VolumeFault.{VolumeFault}
use Rattle.rack_parts.specs.declared.volume_fault.VolumeFault.TheVariants as closed_for
use Rattle.rack.specs.Racks.{NamesVolumes}
use Rattle.report.specs.Troubles.{trouble_status}
use Rattle.replay.specs.Givens.{HasGivenAll, Refuses}
use Rattle.replay.specs.NotOpened.{IsOfCall}
use Rattle.replay.specs.Stops.{fault_of_trace}
use Rattle.replay.specs.declared.given.Given.TheVariants as given
use Rattle.replay.specs.declared.session.Options.{Options}
use Rattle.replay.specs.declared.stop.Stop.{Stop}
use Rattle.replay.specs.declared.stop.Stop.TheVariants as stop
use Rattle.rack.specs.Troubles.{trouble_of}
use Rattle.command_words.specs.declared.command.Generated.{Generated}
use Rattle.wol_run.specs.Replaying.{EndsReplay, GivenLines, HasLeft, IsReplay, IsUnreplayed, RunsReplay, lines_of, trace_of}
use Rattle.wol_run.specs.Settings.{HasNoConfig, IsUnread, line_of_fault}
use Rattle.wol_run.specs.Statuses.{no_memory_text}
use Rattle.wol_run.specs.Tops.{EndsWith, HasBadLine, HasMoreLines, TellsNoMemory}
use Rattle.wol_run.proofs.ReplayFaults.{CanEnd, IsOfWindow, not_ten, not_three}
use Rattle.wol_run.proofs.Unread.{ends_unread, line_of_memory, line_unread, wanted_or_sink}
use Rattle.wol_run.proofs.ReplayEnds.{NoLine, can_end, ended_by}

-- the line of a fault has its status, or 7, or 9
pub told_status : (names : List (List ℕ)) (f : Fault) (status k : ℕ) (printed new : Option (List ℕ)) → k ≢ 7 → k ≢ 9
    → EndsWith (fault_text names f) (status_of f) status printed new ⊎ TellsNoMemory status printed new → status ≡ k → status_of f ≡ k
told_status names f status k printed new no_seven no_nine (inl ends) is_k = elim (wanted_or_sink _ (status_of f) status printed new ends) [
  | inl is ↦ sym is ∙ is_k
  | inr seven ↦ absurd (no_seven (sym is_k ∙ seven))
]
told_status names f status k printed new no_seven no_nine (inr ends) is_k = elim (wanted_or_sink _ 9 status printed new ends) [
  | inl nine ↦ absurd (no_nine (sym is_k ∙ nine))
  | inr seven ↦ absurd (no_seven (sym is_k ∙ seven))
]

-- a call failed where the status of what a volume isn't open for is 4
pub of_call : (f : VolumeFault) (count : ℕ) → NamesVolumes count f → trouble_status (trouble_of f) ≡ 4 → IsOfCall f
of_call closed_for.Absent count names four = absurd (omega (arith, four))
of_call (closed_for.WrongLength bytes) count names four = absurd (omega (arith, four))
of_call closed_for.LabelFault count names four = tt
of_call closed_for.BayFailed count names four = tt
of_call (closed_for.Refused (refusal.DiskFault p)) count names four = tt
of_call (closed_for.Refused refusal.LabelDiffers) count names four = absurd (omega (arith, four))
of_call (closed_for.Refused (refusal.LoggerMissing id)) count names four = absurd (omega (arith, four))
of_call (closed_for.Refused (refusal.OutsideView logger segment)) count names four = absurd (omega (arith, four))
of_call (closed_for.Refused (refusal.Damaged volume block)) count names four = absurd (omega (arith, four))
of_call (closed_for.Refused (refusal.Twins v first w second)) count names four = absurd (omega (arith, four))
of_call (closed_for.Refused refusal.NoMemory) count names four = absurd names

-- the status of a replay: that of its end, or 7, or 9
ends_status : {T : Type 0} (config : Config) (result : Result T Stop) (status : ℕ) (printed new : Option (List ℕ)) → EndsReplay config result status printed new
    → (status ≡ 0) ⊎ (status ≡ 7) ⊎ (status ≡ 9) ⊎ ((f : Fault) × (result ≡ Err (stop.Fault f)) × (status ≡ status_of f))
ends_status config (Ok done) status printed new (zero_, same) = inl zero_
ends_status config (Err stop.Sink) status printed new (seven, same) = inr (inl seven)
ends_status config (Err (stop.Fault f)) status printed new (inl ends) = elim (wanted_or_sink _ (status_of f) status printed new ends) [
  | inl is ↦ inr (inr (inr (f, refl, is)))
  | inr seven ↦ inr (inl seven)
]
ends_status config (Err (stop.Fault f)) status printed new (inr ends) = elim (wanted_or_sink _ 9 status printed new ends) [
  | inl nine ↦ inr (inr (inl nine))
  | inr seven ↦ inr (inl seven)
]

-- ---- What statuses come of

-- the configuration wasn't had
pub unreplayed : (start : GivenLines) (left : Option (List ℕ)) (faults faults' : ℕ) (rest : Option (List ℕ)) (bay : BayState) (status : ℕ) (printed printed' : Option (List ℕ)) (e : Fault)
    → IsUnread e left faults faults' → HasLeft start rest → EndsWith (line_of_fault e) (status_of e) status printed printed' ⊎ TellsNoMemory status printed printed'
    → IsUnreplayed start left rest faults faults' bay bay status printed printed'
unreplayed start left faults faults' rest bay status printed printed' e cause same (inl ends) = record {
  text = line_of_fault e;
  wanted = status_of e;
  untouched = record { line_ = line_unread e left faults faults' cause; bay = refl };
  rest = same;
  ends = ends;
}
unreplayed start left faults faults' rest bay status printed printed' e cause same (inr ends) = record {
  text = no_memory_text;
  wanted = 9;
  untouched = record { line_ = line_of_memory left faults faults'; bay = refl };
  rest = same;
  ends = ends;
}

module _ {D : Type 0} (tells : Bool) (state : D → State) (options : Options) (start : GivenLines) (left : Option (List ℕ)) (faults faults' : ℕ) (rest : Option (List ℕ)) (old new : BayState) (sink sink' status : ℕ) (printed printed' : Option (List ℕ)) where
  -- the status of a run that wasn't begun
  unreplayed_status : IsUnreplayed start left rest faults faults' old new status printed printed' → ((status ≡ 2) × HasNoConfig left) ⊎ (status ≡ 7) ⊎ ((status ≡ 8) × Rose faults faults') ⊎ (status ≡ 9)
  unreplayed_status is = elim (wanted_or_sink is.text is.wanted status printed printed' is.ends) [
    | inr seven ↦ inr (inl seven)
    | inl same ↦ elim (ends_unread left faults faults' is.text is.wanted is.untouched.line_) [
      | inl (two, none_had) ↦ inl (same ∙ two, none_had)
      | inr (inl (eight, rose)) ↦ inr (inr (inl (same ∙ eight, rose)))
      | inr (inr nine) ↦ inr (inr (inr (same ∙ nine)))
    ]
  ]

  -- the fault of a run whose status isn't 0, 7 or 9
  module _ (config : Config) (is : IsReplay tells state options config start rest old new sink sink' status printed printed') where
    ended : (status ≡ 0) ⊎ (status ≡ 7) ⊎ (status ≡ 9)
        ⊎ ((f : Fault) × (status ≡ status_of f) × (IsOfWindow f ⊎ NoLine (λ bytes. bytes) start is.now f) × CanEnd f)
    ended = elim (ends_status config is.over.result status is.over.printed_then printed' is.over.ends) [
      | inl zero_ ↦ inl zero_
      | inr (inl seven) ↦ inr (inl seven)
      | inr (inr (inl nine)) ↦ inr (inr (inl nine))
      | inr (inr (inr (f, err, same))) ↦ inr (inr (inr (
        f,
        same,
        ended_by tells state options _ config start is.now old new sink is.over.sink_then printed is.over.printed_then is.over.result is.replayed f err,
        can_end tells state options _ config start is.now old new sink is.over.sink_then printed is.over.printed_then is.over.result is.replayed f err,
      )))
    ]

    -- no further line came, where that alone has this status
    begun_by : (k : ℕ) → k ≢ 0 → k ≢ 7 → k ≢ 9 → ((f : Fault) → IsOfWindow f → status_of f ≢ k) → status ≡ k
        → (refusal : TraceFault) × (refusal ≢ trace.NoMemory) × (status_of (fault_of_trace refusal) ≡ k) × (now : GivenLines) × (run : List (Option TraceLine)) × Refuses (λ bytes. bytes) refusal start now run
    begun_by k no_zero no_seven no_nine no_window is_k = elim ended [
      | inl same ↦ absurd (no_zero (sym is_k ∙ same))
      | inr (inl same) ↦ absurd (no_seven (sym is_k ∙ same))
      | inr (inr (inl same)) ↦ absurd (no_nine (sym is_k ∙ same))
      | inr (inr (inr (f, same, inl window, can))) ↦ absurd (no_window f window (sym same ∙ is_k))
      | inr (inr (inr (f, same, inr (refusal, other, is_f, run, refuses), can))) ↦ (refusal, other, ap status_of is_f ∙ sym same ∙ is_k, is.now, run, refuses)
    ]

  -- why no further line came at status 3 or 10
  stopped_at : (k : ℕ) → k ≢ 0 → k ≢ 2 → k ≢ 7 → k ≢ 8 → k ≢ 9 → ((f : Fault) → IsOfWindow f → status_of f ≢ k) → (read : Option Config) → RunsReplay tells state options read start left faults faults' rest old new sink sink' status printed printed' → status ≡ k
      → (refusal : TraceFault) × (refusal ≢ trace.NoMemory) × (status_of (fault_of_trace refusal) ≡ k) × (now : GivenLines) × (run : List (Option TraceLine)) × Refuses (λ bytes. bytes) refusal start now run
  stopped_at k no_zero no_two no_seven no_eight no_nine no_window (Some config) is is_k = begun_by config is k no_zero no_seven no_nine no_window is_k
  stopped_at k no_zero no_two no_seven no_eight no_nine no_window None is is_k = elim (unreplayed_status is) [
    | inl (two, none_had) ↦ absurd (no_two (sym is_k ∙ two))
    | inr (inl seven) ↦ absurd (no_seven (sym is_k ∙ seven))
    | inr (inr (inl (eight, rose))) ↦ absurd (no_eight (sym is_k ∙ eight))
    | inr (inr (inr nine)) ↦ absurd (no_nine (sym is_k ∙ nine))
  ]

-- ---- The end, bad lines, and too many

-- a trace that came to its end has nothing left
pub at_end : (left rest : Option (List ℕ)) (now : GivenLines) (run : List (Option TraceLine)) (config : Config) → HasLeft now rest → HasGivenAll (λ bytes. bytes) (targets_of config) (trace_of left) now run → IsAtEnd rest
at_end left rest (given.Trace q) run config same all = subst IsAtEnd same all.2
at_end left rest (given.Generated g count) run config same all = absurd all

pub bad_of : (left : Option (List ℕ)) (now : GivenLines) (run : List (Option TraceLine)) (refusal : TraceFault) → status_of (fault_of_trace refusal) ≡ 3 → Refuses (λ bytes. bytes) refusal (trace_of left) now run → HasBadLine left
bad_of left (given.Generated g count) run refusal three refuses = absurd refuses
bad_of left (given.Trace q) run trace.Source three refuses = absurd (omega (arith, three))
bad_of None (given.Trace q) run (trace.Bad line why) three refuses = (run, why, [], tt)
bad_of (Some bytes) (given.Trace q) run (trace.Bad line why) three (more, has, number) = (run, why, more, has)
bad_of left (given.Trace q) run trace.Spent three refuses = absurd (omega (arith, three))
bad_of left (given.Trace q) run trace.NoMemory three refuses = absurd (omega (arith, three))

pub more_of : (left : Option (List ℕ)) (now : GivenLines) (run : List (Option TraceLine)) (refusal : TraceFault) → status_of (fault_of_trace refusal) ≡ 10 → Refuses (λ bytes. bytes) refusal (trace_of left) now run → HasMoreLines left
more_of left (given.Generated g count) run refusal ten refuses = absurd refuses
more_of left (given.Trace q) run trace.Source ten refuses = absurd (omega (arith, ten))
more_of left (given.Trace q) run (trace.Bad line why) ten refuses = absurd (omega (arith, ten))
more_of None (given.Trace q) run trace.Spent ten (next, more, has, number) = (run, next, more, tt, omega (arith, number))
more_of (Some bytes) (given.Trace q) run trace.Spent ten (next, more, has, number) = (run, next, more, has, omega (arith, number))
more_of left (given.Trace q) run trace.NoMemory ten refuses = absurd (omega (arith, ten))

-- a seed's lines are refused for want of memory alone
none_of_seed : (asked : Generated) (now : GivenLines) (run : List (Option TraceLine)) (refusal : TraceFault) → refusal ≢ trace.NoMemory → Refuses (λ bytes. bytes) refusal (lines_of asked) now run → ⊥
none_of_seed asked (given.Trace q) run refusal other refuses = refuses
none_of_seed asked (given.Generated g count) run refusal other refuses = other refuses

module _ {D : Type 0} (tells : Bool) (state : D → State) (options : Options) (read : Option Config) (left : Option (List ℕ)) (faults faults' : ℕ) (rest : Option (List ℕ)) (old new : BayState) (sink sink' status : ℕ) (printed printed' : Option (List ℕ)) where
  pub replay_bad_line : (bytes : Option (List ℕ)) → RunsReplay tells state options read (trace_of bytes) left faults faults' rest old new sink sink' status printed printed' → status ≡ 3 → HasBadLine bytes
  replay_bad_line bytes runs three =
      let by = stopped_at tells state options (trace_of bytes) left faults faults' rest old new sink sink' status printed printed' 3 (λ e. omega (arith, e)) (λ e. omega (arith, e)) (λ e. omega (arith, e)) (λ e. omega (arith, e)) (λ e. omega (arith, e)) not_three read runs three in
      bad_of bytes by.3 by.4 by.0 by.2 by.5

  pub replay_more_lines : (bytes : Option (List ℕ)) → RunsReplay tells state options read (trace_of bytes) left faults faults' rest old new sink sink' status printed printed' → status ≡ 10 → HasMoreLines bytes
  replay_more_lines bytes runs ten =
      let by = stopped_at tells state options (trace_of bytes) left faults faults' rest old new sink sink' status printed printed' 10 (λ e. omega (arith, e)) (λ e. omega (arith, e)) (λ e. omega (arith, e)) (λ e. omega (arith, e)) (λ e. omega (arith, e)) not_ten read runs ten in
      more_of bytes by.3 by.4 by.0 by.2 by.5

  pub soak_not_three : (asked : Generated) → RunsReplay tells state options read (lines_of asked) left faults faults' rest old new sink sink' status printed printed' → status ≢ 3
  soak_not_three asked runs three =
      let by = stopped_at tells state options (lines_of asked) left faults faults' rest old new sink sink' status printed printed' 3 (λ e. omega (arith, e)) (λ e. omega (arith, e)) (λ e. omega (arith, e)) (λ e. omega (arith, e)) (λ e. omega (arith, e)) not_three read runs three in
      none_of_seed asked by.3 by.4 by.0 by.1 by.5

  pub soak_not_ten : (asked : Generated) → RunsReplay tells state options read (lines_of asked) left faults faults' rest old new sink sink' status printed printed' → status ≢ 10
  soak_not_ten asked runs ten =
      let by = stopped_at tells state options (lines_of asked) left faults faults' rest old new sink sink' status printed printed' 10 (λ e. omega (arith, e)) (λ e. omega (arith, e)) (λ e. omega (arith, e)) (λ e. omega (arith, e)) (λ e. omega (arith, e)) not_ten read runs ten in
      none_of_seed asked by.3 by.4 by.0 by.1 by.5
