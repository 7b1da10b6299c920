-- What a run of `gen` prints, and its exit status.
use Rattle.std.specs.Prelude.{◌≡◌, ℕ, ◌≤◌, ◌⊎◌, List, ◌++◌, Option, None, Some, Result, Ok, Err}
use Rattle.std.specs.Io.KnownBytes.{Appends}
use Rattle.wol_disk.specs.Disk.{Rose}
use Rattle.wol_io.specs.Streams.{AppendsFront}
use Rattle.wol_config.specs.declared.config.Config.{Config}
use Rattle.trace_gen.specs.Generated.{lines, targets_of, text_of}
use Rattle.command_words.specs.declared.command.Generated.{Generated}
use Rattle.inspection.specs.declared.calls.Stop.{Stop}
use Rattle.inspection.specs.declared.calls.Stop.TheVariants.{Sink, Memory}
use Rattle.wol_run.specs.Settings.{IsFaultLine}
use Rattle.wol_run.specs.Statuses.{no_memory_text}
use Rattle.wol_run.specs.Tops.{EndsWith}

-- the first lines of a seed on the volumes of a configuration, as they are written
abbrev pub first_lines : Config → (seed count : ℕ) → List ℕ
first_lines config seed count = text_of (lines (targets_of config) seed count)

-- what printing lines makes of a sink: it took all of them; or it failed, and took a front of them;
-- or there was no memory, and it took some first ones
abbrev pub Prints : {T : Type 0} → Result T Stop → Config → (seed count : ℕ) → (faults faults' : ℕ)
    → (printed new : Option (List ℕ)) → Type 0
Prints (Ok _) config seed count faults faults' printed new =
    (faults' ≡ faults) × Appends printed new (first_lines config seed count)
Prints (Err Sink) config seed count faults faults' printed new =
    Rose faults faults' × AppendsFront printed new (first_lines config seed count)
Prints (Err Memory) config seed count faults faults' printed new =
    (faults' ≡ faults) × ((some : ℕ) × (some ≤ count)
    × Appends printed new (first_lines config seed some))

-- Status 0: the text is all lines that were asked for.
pub record IsListing (asked : Generated) (config : Config) (text : List ℕ) (status : ℕ) :
    Type 0 where
  pub lines_ : text ≡ first_lines config asked.seed asked.lines
  pub done : status ≡ 0

-- Status 9: behind some first lines there was no memory.
pub record IsCutShort (asked : Generated) (config : Config) (text : List ℕ) (status : ℕ) :
    Type 0 where
  pub some : ℕ
  pub first : some ≤ asked.lines
  pub lines_ : text ≡ first_lines config asked.seed some ++ no_memory_text
  pub memory : status ≡ 9

-- what a listing comes to, by the configuration that was read; none: it wasn't had
abbrev pub ListsFor : Generated → (read : Option Config) → (left : Option (List ℕ))
    → (faults faults' : ℕ) → (text : List ℕ) → (status : ℕ) → Type 0
ListsFor asked (Some config) left faults faults' text status =
    IsListing asked config text status ⊎ IsCutShort asked config text status
ListsFor asked None left faults faults' text status = IsFaultLine left faults faults' text status

-- a run of `gen`: one of these texts was printed whole, or a front of it to a sink that failed
pub record RunsGen (asked : Generated) (read : Option Config) (left : Option (List ℕ))
    (faults faults' : ℕ) (status : ℕ) (printed new : Option (List ℕ)) : Type 0 where
  pub text : List ℕ
  pub wanted : ℕ
  pub allowed : ListsFor asked read left faults faults' text wanted
  pub ends : EndsWith text wanted status printed new
