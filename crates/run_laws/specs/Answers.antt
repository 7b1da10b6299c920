-- The answers to the requests of a run, in trace order.
use Rattle.std.specs.Prelude.{◌≡◌, ◌==◌, ℕ, List, map, length, take}
use Rattle.std.specs.List.{filter, flat_map}
use Rattle.wol_model.specs.Trace.{Request}
use Rattle.wol_promise.specs.Outcomes.{Answered, answered_in, mark_in}
use Rattle.wol_promise.specs.Run.{read_text}

-- the requests
abbrev pub requests_in : List Answered → List Request
requests_in answers = map (λ (a : Answered). a.request) answers

-- the answers to the requests of one volume
abbrev pub answers_of : (v : ℕ) → List Answered → List Answered
answers_of v answers = filter (λ (a : Answered). a.request.volume == v) answers

-- how many requests of each volume were answered
abbrev pub answered_count : List Answered → (v : ℕ) → ℕ
answered_count answers v = length (answered_in (answers_of v answers))

-- the answered requests of a volume are its first ones
abbrev pub AreFirst : (v : ℕ) → List Answered → Type 0
AreFirst v answers =
    answered_in (answers_of v answers) ≡ take (answered_count answers v) (answers_of v answers)

-- the lines of the answered reads, with the marks that were told
abbrev pub told_lines : (text : Request → ℕ → List ℕ) → List Answered → List (List ℕ)
told_lines text answers =
    flat_map (λ (a : Answered). read_text text a.request (mark_in a.outcome)) answers
