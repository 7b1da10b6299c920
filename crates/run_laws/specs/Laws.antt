-- Laws of runs: what each volume's history answered and wrote, against plain arrays.
use Rattle.std.specs.Prelude.{◌≡◌, ◌≢◌, ◌==◌, ◌++◌, ℕ, List, map, take, true}
use Rattle.std.specs.List.{filter, AllByRecursion}
use Rattle.wol_disk.specs.Disk.{Block}
use Rattle.wol_model.specs.ArrayLaws.{unversioned}
use Rattle.wol_model.specs.Blocks.{Write}
use Rattle.wol_model.specs.History.{Entry, Operation, worker, writes, IsHelp, IsCut, AreLegalNext}
use Rattle.wol_model.specs.Trace.{Request, payloads}
use Rattle.wol_promise.specs.Outcomes.{Answered, AreOutcomes, answered_in, is_answered, of_volume}
use Rattle.wol_promise.specs.Run.{read_lines}
use Rattle.run_laws.specs.Answers.{requests_in, answers_of, answered_count, AreFirst, told_lines}

-- the answered requests of a volume are what these entries read and wrote
abbrev pub AreAnsweredBy : (v : ℕ) → List Answered → List Entry → Type 0
AreAnsweredBy v answers entries =
    AreOutcomes (answered_in (answers_of v answers)) (map (λ (e : Entry). e.operation) entries)

-- the lines of the answered reads, as they were told, are those that plain arrays give
abbrev pub LinesArePlain : Type 0
LinesArePlain = (text : Request → ℕ → List ℕ) (arrays : ℕ → List Block) (answers : List Answered)
    (history : ℕ → List Entry)
    → ((v : ℕ) → AreFirst v answers) → ((v : ℕ) → AreAnsweredBy v answers (history v))
    → ((v : ℕ) → AreLegalNext (arrays v) (history v))
    → told_lines text answers
    ≡ read_lines text arrays (answered_count answers) (requests_in answers)

-- a cut of a volume's history is one of what its answered requests wrote
abbrev pub CutsArePlain : Type 0
CutsArePlain = (v : ℕ) (array x : List Block) (answers : List Answered) (entries : List Entry)
    (flight : List Write)
    → AreFirst v answers → AreAnsweredBy v answers entries → IsCut array (writes entries) flight x
    → IsCut array (payloads v (take (answered_count answers v) (of_volume v (requests_in answers))))
    (map unversioned flight) x

-- the entries of passes that serve no requests answer none
abbrev pub OthersAnswerNothing : Type 0
OthersAnswerNothing = (answers : List Answered) (entries : List Entry)
    → AllByRecursion (λ (e : Entry). e.pass ≢ worker → IsHelp e.operation) entries
    → AreOutcomes answers (map (λ (e : Entry). e.operation)
    (filter (λ (e : Entry). e.pass == worker) entries))
    → AreOutcomes answers (map (λ (e : Entry). e.operation) entries)

-- ---- Windows one after the other

-- operations that come after others answer what comes after
abbrev pub OutcomesJoin : Type 0
OutcomesJoin = (xs ys : List Answered) (os ps : List Operation) → AreOutcomes xs os
    → AreOutcomes ys ps → AreOutcomes (xs ++ ys) (os ++ ps)

-- each of these requests was answered
abbrev pub AreAllAnswered : List Answered → Type 0
AreAllAnswered answers = AllByRecursion (λ (a : Answered). is_answered a.outcome ≡ true) answers

-- behind windows in which all of a volume's requests were answered, its answered ones are the first
-- ones
abbrev pub FirstsJoin : Type 0
FirstsJoin = (v : ℕ) (earlier last : List Answered) → AreAllAnswered (answers_of v earlier)
    → AreFirst v last → AreFirst v (earlier ++ last)
