-- What comparing the policies on a trace prints, and its exit status.
use Rattle.std.specs.Prelude.{ℕ, ◌*◌, List, Option, None, Some}
use Rattle.command_words.specs.declared.command.WhatIfOptions.{WhatIfOptions}
use Rattle.wol_config.specs.declared.config.Config.{Config}
use Rattle.whatif.specs.declared.policy.Details.{Details}
use Rattle.comparison.specs.Compares.{Compares}
use Rattle.wol_run.specs.Replaying.{GivenLines, HasLeft, IsRunOver}
use Rattle.wol_run.specs.Settings.{IsFaultLine}
use Rattle.wol_run.specs.Tops.{EndsWith}

-- the configuration, with this timeout in milliseconds in place of its own, where one is given
abbrev pub with_timeout : Option ℕ → Config → Config
with_timeout None config = config
with_timeout (Some ms) config = record config { timeout = ms * 10000 }

-- what is told beside the four lines
abbrev pub details_of : WhatIfOptions → Details
details_of options = record { long = options.long; volumes = options.volumes }

-- these lines were run by each policy on the volumes of the configuration, and so much is told
pub record IsComparison (details : Details) (config : Config) (start : GivenLines) (left_of_trace : Option (List ℕ))
    (sink sink' status : ℕ) (printed printed' : Option (List ℕ)) : Type 0 where
  pub over : IsRunOver config sink' status printed'
  pub now : GivenLines
  pub rest : HasLeft now left_of_trace
  pub compares : Compares (λ bytes. bytes) details config start now sink over.sink_then printed
      over.printed_then over.result

-- the configuration wasn't had: the text says why, and the trace is as it was
pub record IsUncompared (start : GivenLines) (left left_of_trace : Option (List ℕ))
    (faults faults' : ℕ) (status : ℕ) (printed printed' : Option (List ℕ)) : Type 0 where
  pub text : List ℕ
  pub wanted : ℕ
  pub line_ : IsFaultLine left faults faults' text wanted
  pub rest : HasLeft start left_of_trace
  pub ends : EndsWith text wanted status printed printed'

-- a run of `whatif` with these options, by the configuration that was read (none: it wasn't had), the bytes of its
-- source and their count of faults, the bytes that are left of the trace, the sink's count of
-- faults, the status, and what the sink took
abbrev pub RunsWhatIf : WhatIfOptions → (read : Option Config) → (start : GivenLines) → (left : Option (List ℕ))
    → (faults faults' : ℕ) → (left_of_trace : Option (List ℕ)) → (sink sink' status : ℕ)
    → (printed printed' : Option (List ℕ)) → Type 0
RunsWhatIf options (Some config) start left faults faults' left_of_trace sink sink' status printed
    printed' =
    IsComparison (details_of options) (with_timeout options.timeout_ms config) start left_of_trace sink sink' status printed printed'
RunsWhatIf options None start left faults faults' left_of_trace sink sink' status printed printed' =
    IsUncompared start left left_of_trace faults faults' status printed printed'
