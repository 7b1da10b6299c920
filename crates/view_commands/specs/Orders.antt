-- A change of a view by names: which volumes they name, and the lines that are printed.
use Rattle.std.specs.Prelude.{⊤, ◌≡◌, ℕ, List, [], ◌∷◌, map, codes, decimal, Option, None, Some}
use Rattle.wol_config.specs.Documents.{names_of, number_named}
use Rattle.wol_config.specs.declared.config.Config.{Config}
use Rattle.report.specs.Names.{name_at}
use Rattle.report.specs.Words.{line_of}
use Rattle.view_change.specs.declared.answers.Change.{Change}
use Rattle.view_change.specs.declared.answers.Change.TheVariants as change
use Rattle.view_commands.specs.declared.order.Order.{Order}
use Rattle.view_commands.specs.declared.order.Verb.{Verb}
use Rattle.view_commands.specs.declared.order.Verb.TheVariants.{Add, Remove}
use Rattle.view_commands.specs.declared.order.ViewRefusal.{ViewRefusal}
use Rattle.view_commands.specs.declared.order.ViewRefusal.TheVariants.{UnknownVolume, UnknownLogger, Itself, Already, NotThere, ViewFull}

-- the number of the volume of this name, among those that are configured
abbrev pub number_in : Config → List ℕ → Option ℕ
number_in config name = number_named (names_of config.volumes.items) name

-- the change, where the logger has this number
abbrev pub change_of : Verb → (logger : ℕ) → Change
change_of Add logger = change.Add logger
change_of Remove logger = change.Remove logger

-- the first of the two words that no volume has as its name
abbrev pub unknown_of : (volume logger : Option ℕ) → Option ViewRefusal
unknown_of None logger = Some UnknownVolume
unknown_of (Some volume) None = Some UnknownLogger
unknown_of (Some volume) (Some logger) = None

abbrev pub unknown_word : Config → Order → Option ViewRefusal
unknown_word config order =
    unknown_of (number_in config order.volume.now) (number_in config order.logger.now)

-- both words are the names of volumes: of these
pub record AreNamed (config : Config) (order : Order) (volume logger : ℕ) : Type 0 where
  pub of_volume : number_in config order.volume.now ≡ Some volume
  pub of_logger : number_in config order.logger.now ≡ Some logger

-- a refusal of the words, and not of the view
abbrev pub IsOfWords : ViewRefusal → Type 0
IsOfWords UnknownVolume = ⊤
IsOfWords UnknownLogger = ⊤
IsOfWords Itself = ⊥
IsOfWords Already = ⊥
IsOfWords NotThere = ⊥
IsOfWords ViewFull = ⊥

-- the line of the view of a volume: its name, and those of its loggers in order
abbrev pub view_text : Config → (volume : ℕ) → (ids : List ℕ) → List ℕ
view_text config volume ids =
    let name : ℕ → List ℕ = λ n. name_at (names_of config.volumes.items) n in
    line_of (codes "view" ∷ name volume ∷ codes "loggers" ∷ map name ids)

-- the words behind the status of a refusal
abbrev pub refusal_words : Order → ViewRefusal → List (List ℕ)
refusal_words order UnknownVolume = codes "unknown" ∷ order.volume.now ∷ []
refusal_words order UnknownLogger = codes "unknown" ∷ order.logger.now ∷ []
refusal_words order Itself = codes "itself" ∷ []
refusal_words order Already = codes "already" ∷ order.logger.now ∷ []
refusal_words order NotThere = codes "not there" ∷ order.logger.now ∷ []
refusal_words order ViewFull = codes "view full" ∷ []

-- the line of a refusal
abbrev pub refusal_text : Order → ViewRefusal → List ℕ
refusal_text order refusal = line_of (codes "fault" ∷ decimal 15 ∷ refusal_words order refusal)
