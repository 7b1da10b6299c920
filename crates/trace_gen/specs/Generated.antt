-- Generated traces: the lines that a seed gives on volumes.
use Rattle.std.specs.Prelude.{◌≡◌, ℕ, zero, suc, ◌+◌, ◌*◌, ◌/◌, ◌%◌, List, [], ◌∷◌, ◌++◌, length, map, replicate, slice_index_or, ◌==◌, if◌then◌else◌}
use Rattle.std.specs.List.{flat_map, range_with_len}
use Rattle.rand_core.specs.Stream.{u64_call}
use Rattle.rand_core.specs.Steps.{stream_of}
use Rattle.rand_xoshiro.specs.SplitMix64.{splitmix_steps}
use Rattle.wol_model.specs.declared.trace.Kind.{Kind}
use Rattle.wol_model.specs.declared.trace.Kind.TheVariants.{Read, Write}
use Rattle.wol_model.specs.Trace.{Target, TraceLine}
use Rattle.msr_trace.specs.Spelling.{line_text}
use Rattle.wol_config.specs.declared.config.VolumeConf.{VolumeConf}
use Rattle.wol_config.specs.declared.config.Config.{Config}
use Rattle.trace_gen.specs.declared.words.Words.{Words}

-- ---- Volumes

-- a volume as a trace may name it
abbrev pub target_of : VolumeConf → Target
target_of v = record { host = v.host; disk = v.disk; home = v.home }

-- the volumes of a configuration, in order
abbrev pub targets_of : Config → List Target
targets_of config = map target_of config.volumes.items

-- the volume that a word chooses
abbrev pub chosen : List Target → (word : ℕ) → Target
chosen targets word =
    slice_index_or targets (word % length targets) (record { host = []; disk = 0; home = 0 })

-- ---- Words

-- word k, counted from 0, that SplitMix64 gives from a state on; a seed is the first state
abbrev pub word : (state k : ℕ) → ℕ
word state k = (stream_of splitmix_steps state).u64_after (replicate k u64_call)

-- the words of line n, counted from 0: five for each line
abbrev pub words_of : (seed n : ℕ) → Words
words_of seed n = record {
  volume = word seed (5 * n);
  gap = word seed (5 * n + 1);
  kind = word seed (5 * n + 2);
  offset = word seed (5 * n + 3);
  size = word seed (5 * n + 4);
}

-- ---- Fields

-- the time from the line before, in units of 100 ns: one time in sixteen whole seconds, 1 to 120 of
-- them, else less than 0.1 s
abbrev pub gap_of : (word : ℕ) → ℕ
gap_of word = if word % 16 == 0 then (1 + word / 16 % 120) * 10000000 else word / 16 % 1000000

-- one line in three is a read
abbrev pub kind_of : (word : ℕ) → Kind
kind_of word = if word % 3 == 0 then Read else Write

-- the time before the first line
abbrev pub start_time : ℕ
start_time = 128166372000000000

-- the time of the last of the first so many lines
unfoldable pub time_after : (seed lines : ℕ) → ℕ
time_after seed zero = start_time
time_after seed (suc n) = time_after seed n + gap_of (words_of seed n).gap

-- the line on this volume at this time with these words: whole blocks, up to 16 of them
abbrev pub line_of : Target → (time : ℕ) → Words → TraceLine
line_of target time words = record {
  time = time;
  host = target.host;
  disk = target.disk;
  kind = kind_of words.kind;
  offset = words.offset % target.home * 512;
  size = (1 + words.size % 16) * 512;
  response = 1000;
}

-- ---- Lines

-- line n of a seed, counted from 0
unfoldable pub line : List Target → (seed n : ℕ) → TraceLine
line targets seed n = let words = words_of seed n in
    line_of (chosen targets words.volume) (time_after seed (suc n)) words

-- the first lines of a seed
abbrev pub lines : List Target → (seed count : ℕ) → List TraceLine
lines targets seed count = map (line targets seed) (range_with_len 0 count)

-- lines as they are written, each with a line feed
abbrev pub text_of : List TraceLine → List ℕ
text_of ls = flat_map (λ l. line_text l ++ 10 ∷ []) ls

-- ---- The generator

-- what contracts see of a generator: its seed, and how many lines it gave
pub record Generator : Type 0 where
  pub seed : ℕ
  pub given : ℕ

-- the words that come next are those behind the words of the first `given` lines, and the time is
-- that of the last of them
pub record IsAt (seed given state last : ℕ) : Type 0 where
  pub words : (k : ℕ) → word state k ≡ word seed (5 * given + k)
  pub time : last ≡ time_after seed given
