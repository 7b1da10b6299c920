use Rattle.std.proofs.Common.{◌≡◌, ◌∷◌, ℕ, List, map, take}
use Rattle.std.specs.Prelude.{codes}
use Rattle.wol_config.specs.Documents.{names_of}
use Rattle.report.specs.Names.{name_at}
use Rattle.report.specs.Words.{word_of}
use Rattle.view_commands.proofs.printing.view_line.Given as goal

abbrev pub invariant-loop-id : goal.invariant-loop-id
invariant-loop-id l =
    let name : ℕ → List ℕ = λ n. name_at (names_of l.config.volumes.items) n in
    map word_of l.words.items ≡ codes "view" ∷ name l.volume ∷ codes "loggers" ∷ map name (take l.id-index l.view)
