-- The words of each command, as they are documented.
use Rattle.std.specs.Prelude.{◌≡◌, ◌^◌, ◌<◌, ◌≤◌, ℕ, Bool, true, false, List, [], ◌∷◌, ◌++◌, length, All, ⊤, IfSome, Option, None, Some, codes, decimal, option_map, slice_get, unwrap_or}
use Rattle.std.specs.List.{AllByRecursion, flat_map}
use Rattle.wol_model.specs.Trace.{Target}
use Rattle.command_words.specs.declared.command.Generated.{Generated}
use Rattle.command_words.specs.declared.command.Mode.{Mode}
use Rattle.command_words.specs.declared.command.Mode.TheVariants.{Off, Between, Beside}
use Rattle.command_words.specs.declared.command.Options.{Options}
use Rattle.command_words.specs.declared.command.Patience.{Patience}
use Rattle.command_words.specs.declared.command.WhatIfOptions.{WhatIfOptions}

-- a byte that may stand in the name of a host: printed, and neither a comma nor a quotation mark
pub record IsHostByte (byte : ℕ) : Type 0 where
  pub printed : (33 ≤ byte) × (byte ≤ 126)
  pub no_comma : ¬ (byte ≡ 44)
  pub no_quotation_mark : ¬ (byte ≡ 34)

-- the name of a host
pub record IsHost (name : List ℕ) : Type 0 where
  pub not_empty : 0 < length name
  pub short : length name ≤ 64
  pub no_dash_in_front : ¬ (slice_get name 0 ≡ Some 45)
  pub bytes : All IsHostByte name

-- the words are `solo HOST DISK BLOCKS`, for the volume with this host, disk and number of blocks
pub record IsSolo (words : List (List ℕ)) (target : Target) : Type 0 where
  pub spelled : words ≡ codes "solo" ∷ target.host ∷ decimal target.disk ∷ decimal target.home ∷ []
  pub host : IsHost target.host
  pub disk : target.disk < 2 ^ 32
  pub blocks : (1 ≤ target.home) × (target.home ≤ 2 ^ 32)

-- the words are `gen SEED LINES`, for the first so many lines of this seed
pub record IsGen (words : List (List ℕ)) (asked : Generated) : Type 0 where
  pub spelled : words ≡ codes "gen" ∷ decimal asked.seed ∷ decimal asked.lines ∷ []
  pub seed : asked.seed < 2 ^ 63
  pub lines : asked.lines < 2 ^ 31

-- the words are this one alone
abbrev pub IsAlone : (command : List ℕ) → (words : List (List ℕ)) → Type 0
IsAlone command words = words ≡ command ∷ []

-- a word that may be a name: it doesn't begin with a dash
abbrev pub IsName : List ℕ → Type 0
IsName word = ¬ (slice_get word 0 ≡ Some 45)

-- a volume and another that may log for it, by their names
pub record Named : Type 0 where
  pub volume : List ℕ
  pub logger : List ℕ

-- names as words: as they are, where none begins with a dash, or behind `--`
pub data Form : Type 0 where
  bare : Form
  behind_dashes : Form

abbrev pub formed : Form → List (List ℕ) → List (List ℕ)
formed bare names = names
formed behind_dashes names = codes "--" ∷ names

abbrev pub MayStand : Form → List ℕ → Type 0
MayStand bare name = IsName name
MayStand behind_dashes name = ⊤

-- the words are this one and the two names
pub record IsOfNames (command : List ℕ) (words : List (List ℕ)) (named : Named) : Type 0 where
  pub form : Form
  pub spelled : words ≡ command ∷ formed form (named.volume ∷ named.logger ∷ [])
  pub volume : MayStand form named.volume
  pub logger : MayStand form named.logger

-- the words are this one and the name
pub record IsOfName (command : List ℕ) (words : List (List ℕ)) (name : List ℕ) : Type 0 where
  pub form : Form
  pub spelled : words ≡ command ∷ formed form (name ∷ [])
  pub named : MayStand form name

-- ---- Options

-- where an option's value stands: in the next word, or behind an equals sign
pub data Place : Type 0 where
  next_word : Place
  same_word : Place

abbrev pub option_words : Place → List ℕ → List ℕ → List (List ℕ)
option_words next_word name value = name ∷ value ∷ []
option_words same_word name value = (name ++ 61 ∷ value) ∷ []

-- of options that are given no two are of one kind
abbrev pub AreAllDifferent : {G : Type 0} → (G → G → Type 0) → List G → Type 0
AreAllDifferent Differ [] = ⊤
AreAllDifferent Differ (g ∷ rest) =
    AllByRecursion (Differ g) rest × AreAllDifferent Differ rest

-- ---- The option of `serve`

-- `--wait SECONDS`, if it is given
abbrev pub wait_words : Option (Place × ℕ) → List (List ℕ)
wait_words None = []
wait_words (Some (place, seconds)) = option_words place (codes "--wait") (decimal seconds)

-- where a name stands beside the option
pub data Order : Type 0 where
  name_first : Order
  option_first : Form → Order

abbrev pub serve_words : Order → (option : List (List ℕ)) → (name : List ℕ) → List (List ℕ)
serve_words name_first option name = name ∷ option
serve_words (option_first form) option name = option ++ formed form (name ∷ [])

abbrev pub MayServe : Order → List ℕ → Type 0
MayServe name_first name = IsName name
MayServe (option_first form) name = MayStand form name

-- the words are `serve`, the name and the option, which is 10 seconds where it isn't given
pub record IsServe (words : List (List ℕ)) (name : List ℕ) (patience : Patience) : Type 0 where
  pub order : Order
  pub given : Option (Place × ℕ)
  pub spelled : words ≡ codes "serve" ∷ serve_words order (wait_words given) name
  pub named : MayServe order name
  pub seconds : unwrap_or (option_map (λ g. g.1) given) 10 ≡ patience.seconds
  pub range : patience.seconds ≤ 3600

-- ---- The options of `whatif`

-- an option that is given
pub data Shown : Type 0 where
  long : Shown
  volumes : Shown
  timeout : Place → ℕ → Shown

-- `--long`, `--volumes` and `--timeout MS`
abbrev pub shown_words : Shown → List (List ℕ)
shown_words long = codes "--long" ∷ []
shown_words volumes = codes "--volumes" ∷ []
shown_words (timeout place ms) = option_words place (codes "--timeout") (decimal ms)

-- two options of one kind are not different
abbrev pub ShowDifferent : Shown → Shown → Type 0
ShowDifferent long long = ⊥
ShowDifferent volumes volumes = ⊥
ShowDifferent (timeout p m) (timeout q n) = ⊥
ShowDifferent g h = ⊤

-- whether `--long` is given
abbrev pub long_in : List Shown → Bool
long_in [] = false
long_in (long ∷ rest) = true
long_in (g ∷ rest) = long_in rest

-- whether `--volumes` is given
abbrev pub volumes_in : List Shown → Bool
volumes_in [] = false
volumes_in (volumes ∷ rest) = true
volumes_in (g ∷ rest) = volumes_in rest

-- the timeout that is given, in milliseconds
abbrev pub timeout_in : List Shown → Option ℕ
timeout_in [] = None
timeout_in (timeout place ms ∷ rest) = Some ms
timeout_in (g ∷ rest) = timeout_in rest

-- the words are `whatif` with options, each at most once and in any order
pub record IsWhatIf (words : List (List ℕ)) (options : WhatIfOptions) : Type 0 where
  pub given : List Shown
  pub spelled : words ≡ codes "whatif" ∷ flat_map shown_words given
  pub different : AreAllDifferent ShowDifferent given
  pub long : long_in given ≡ options.long
  pub volumes : volumes_in given ≡ options.volumes
  pub timeout : timeout_in given ≡ options.timeout_ms
  pub range : IfSome options.timeout_ms (λ ms. (1 ≤ ms) × (ms ≤ 86400000))

-- ---- The options of a run over a trace

abbrev pub mode_text : Mode → List ℕ
mode_text Off = codes "off"
mode_text Between = codes "between"
mode_text Beside = codes "beside"

-- an option that is given
pub data Given : Type 0 where
  workers : Place → ℕ → Given
  reclaim : Place → Mode → Given
  each : Given

-- `--workers N`, `--reclaim MODE` and `--each`
abbrev pub words_of : Given → List (List ℕ)
words_of (workers place n) = option_words place (codes "--workers") (decimal n)
words_of (reclaim place mode) = option_words place (codes "--reclaim") (mode_text mode)
words_of each = codes "--each" ∷ []

-- two options of one kind are not different
abbrev pub AreDifferent : Given → Given → Type 0
AreDifferent (workers p n) (workers q m) = ⊥
AreDifferent (reclaim p n) (reclaim q m) = ⊥
AreDifferent each each = ⊥
AreDifferent g h = ⊤

-- how many workers are asked for
abbrev pub workers_in : List Given → Option ℕ
workers_in [] = None
workers_in (workers place n ∷ rest) = Some n
workers_in (g ∷ rest) = workers_in rest

-- the mode that is asked for
abbrev pub mode_in : List Given → Option Mode
mode_in [] = None
mode_in (reclaim place mode ∷ rest) = Some mode
mode_in (g ∷ rest) = mode_in rest

-- whether `--each` is given
abbrev pub each_in : List Given → Bool
each_in [] = false
each_in (each ∷ rest) = true
each_in (g ∷ rest) = each_in rest

-- the given options are these: without them there is one worker, and data moves home between
-- windows
pub record AreOptions (given : List Given) (options : Options) : Type 0 where
  pub different : AreAllDifferent AreDifferent given
  pub workers : unwrap_or (workers_in given) 1 ≡ options.workers
  pub range : (1 ≤ options.workers) × (options.workers ≤ 64)
  pub reclaim : unwrap_or (mode_in given) Between ≡ options.reclaim
  pub each : each_in given ≡ options.each

-- the words are `replay` with options, each at most once and in any order
pub record IsReplay (words : List (List ℕ)) (options : Options) : Type 0 where
  pub given : List Given
  pub spelled : words ≡ codes "replay" ∷ flat_map words_of given
  pub as_given : AreOptions given options

-- the words are `soak SEED LINES` with options, each at most once, in any order and anywhere behind
-- the command
pub record IsSoak (words : List (List ℕ)) (asked : Generated) (options : Options) : Type 0 where
  pub before : List Given
  pub between : List Given
  pub behind : List Given
  pub spelled : words ≡ codes "soak" ∷ (flat_map words_of before
      ++ decimal asked.seed ∷ (flat_map words_of between
      ++ decimal asked.lines ∷ flat_map words_of behind))
  pub seed : asked.seed < 2 ^ 63
  pub lines : asked.lines < 2 ^ 31
  pub as_given : AreOptions (before ++ (between ++ behind)) options
