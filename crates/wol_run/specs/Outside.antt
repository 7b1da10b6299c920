-- What is outside of the program, as a run finds and leaves it.
use Rattle.std.specs.Prelude.{◌≡◌, ℕ, true, List, Option}
use Rattle.wol_disk.specs.Disk.{Rose}
use Rattle.wol_bay.specs.Bay.{BayState}
use Rattle.command_words.specs.declared.command.Command.{Command}
use Rattle.wol_run.specs.Commands.{NoneOf, uses_bay, uses_config, uses_trace}

-- A source by the bytes that are left of it, or a sink by those that it took, where it tells; and
-- how many of its calls have failed.
pub record Stream : Type 0 where
  pub bytes : Option (List ℕ)
  pub faults : ℕ

-- the source of the configuration, that of the trace, the bay, and the sink
pub record Outside : Type 0 where
  pub config : Stream
  pub trace : Stream
  pub bay : BayState
  pub sink : Stream

-- .. by what is seen of each
abbrev pub outside : (left_of_config : Option (List ℕ)) → (config_faults : ℕ)
    → (left_of_trace : Option (List ℕ)) → (trace_faults : ℕ)
    → BayState → (taken : Option (List ℕ)) → (sink_faults : ℕ) → Outside
outside left_of_config config_faults left_of_trace trace_faults bay taken sink_faults = record {
  config = record { bytes = left_of_config; faults = config_faults };
  trace = record { bytes = left_of_trace; faults = trace_faults };
  bay = bay;
  sink = record { bytes = taken; faults = sink_faults };
}

-- none of the calls that a command made of them failed
pub record NothingFailed (command : Command) (before after : Outside) : Type 0 where
  pub config : uses_config command ≡ true → ¬ Rose before.config.faults after.config.faults
  pub trace : uses_trace command ≡ true → ¬ Rose before.trace.faults after.trace.faults
  pub bay : uses_bay command ≡ true → ¬ Rose before.bay.faults after.bay.faults
  pub sink : ¬ Rose before.sink.faults after.sink.faults

-- what no command that the words ask for has a use for is as it was
pub record LeavesUnused (words : List (List ℕ)) (before after : Outside) : Type 0 where
  pub config : NoneOf uses_config words → after.config ≡ before.config
  pub trace : NoneOf uses_trace words → after.trace ≡ before.trace
  pub bay : NoneOf uses_bay words → after.bay ≡ before.bay
