-- What holds of every generated line.
use Rattle.std.specs.Prelude.{◌≡◌, ℕ, suc, ◌*◌, ◌/◌, ◌%◌, ◌^◌, ◌<◌, ◌≤◌, List, All, Some, Ok, length, map}
use Rattle.wol_model.specs.Trace.{Target, Timed, TraceLine, blocks_touched, timed, volume_of}
use Rattle.msr_trace.specs.Lines.{lines_of, read_of}
use Rattle.msr_trace.specs.Spelling.{IsWritable}
use Rattle.wol_config.specs.declared.config.Config.{Config}
use Rattle.wol_config.specs.Configs.{IsValid}
use Rattle.trace_gen.specs.Generated.{chosen, line, lines, targets_of, text_of, words_of}

-- each line that may be given is one whose text can be read again
abbrev pub LinesAreWritable : Type 0
LinesAreWritable = (config : Config) (seed n : ℕ) → IsValid config → n < 2 ^ 31
    → IsWritable (line (targets_of config) seed n)

-- what is written of a trace is read as the trace
abbrev pub TextIsRead : Type 0
TextIsRead = (config : Config) (seed count : ℕ) → IsValid config → count ≤ 2 ^ 31
    → map read_of (lines_of (text_of (lines (targets_of config) seed count)))
    ≡ map (λ l. Ok (Some l)) (lines (targets_of config) seed count)

-- no line is skipped: it belongs to the volume that its first word chose
abbrev pub LinesHaveVolumes : Type 0
LinesHaveVolumes = (config : Config) (seed n : ℕ) → IsValid config
    → let targets = targets_of config in
    volume_of targets (line targets seed n) ≡ Some ((words_of seed n).volume % length targets)

-- a line asks for 1 to 16 whole blocks, the first of which is in its volume
pub record AsksBlocks (home : ℕ) (l : TraceLine) : Type 0 where
  pub starts : l.offset % 512 ≡ 0
  pub within : l.offset / 512 < home
  pub whole : l.size ≡ blocks_touched l * 512
  pub some : 1 ≤ blocks_touched l
  pub few : blocks_touched l ≤ 16

abbrev pub LinesAskBlocks : Type 0
LinesAskBlocks = (config : Config) (seed n : ℕ) → IsValid config
    → let targets = targets_of config in
    AsksBlocks (chosen targets (words_of seed n).volume).home (line targets seed n)

-- no line is earlier than the one before
abbrev pub TimesRise : Type 0
TimesRise = (targets : List Target) (seed n : ℕ)
    → (line targets seed n).time ≤ (line targets seed (suc n)).time

-- so each line counts for its own time
abbrev pub TimesAreKept : Type 0
TimesAreKept = (targets : List Target) (seed count : ℕ)
    → All (λ (t : Timed). t.time ≡ t.line.time) (timed (map Some (lines targets seed count)))
