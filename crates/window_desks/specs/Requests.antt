-- Requests and outcomes, and what the model calls them.
use Rattle.std.specs.Prelude.{⊤, ◌≡◌, ◌<◌, ◌==◌, ◌∷◌, ℕ, Bool, true, false, List, [], cond, filter, All, length, slice_index_or}
use Rattle.wol_promise.specs.Outcomes as outcomes
use Rattle.wol_promise.specs.Outcomes.{WasRead, WasWritten, Unanswered, Answered, is_answered}
use Rattle.manager.specs.declared.base.ManagerBase.{ManagerBase}
use Rattle.request_turns.specs.Requests.{IsWithin}
use Rattle.request_turns.specs.Entries.{is_log}
use Rattle.trace_windows.specs.Requests.{asked}
use Rattle.trace_windows.specs.declared.request.Request.{Request}
use Rattle.request_turns.specs.declared.outcome.Outcome.{Outcome}
use Rattle.request_turns.specs.declared.outcome.Outcome.TheVariants as outcome

-- ---- Requests

-- the requests of a volume, in order
abbrev pub own_requests : ℕ → List Request → List Request
own_requests v rs = filter (λ (r : Request). r.volume == v) rs

-- each of them that names this volume lies in it
abbrev pub AreWithin : ManagerBase → (volume : ℕ) → List Request → Type 0
AreWithin b volume rs = (k : ℕ) (r : Request) → k < length rs
    → (slice_index_or rs k r).volume ≡ volume → IsWithin b (slice_index_or rs k r)

-- each request names one of so many volumes
abbrev pub AreOfVolumes : ℕ → List Request → Type 0
AreOfVolumes n rs = All (λ (r : Request). r.volume < n) rs

-- ---- Outcomes

-- an outcome as the model has it
abbrev pub told : Outcome → outcomes.Outcome
told (outcome.Read mark sources) = WasRead mark
told (outcome.Wrote place drained) = WasWritten (is_log place) drained
told (outcome.NoRead refusal) = Unanswered
told (outcome.NoWrite refusal) = Unanswered
told outcome.NotRun = Unanswered

-- the request was answered
abbrev pub was_answered : Outcome → Bool
was_answered o = is_answered (told o)

-- it was run, answered or not
abbrev pub was_run : Outcome → Bool
was_run (outcome.Read mark sources) = true
was_run (outcome.Wrote place drained) = true
was_run (outcome.NoRead refusal) = true
was_run (outcome.NoWrite refusal) = true
was_run outcome.NotRun = false

-- requests with their outcomes
abbrev pub answers_to : List Request → List Outcome → List Answered
answers_to [] os = []
answers_to (r ∷ rs) [] = []
answers_to (r ∷ rs) (o ∷ os) = record { request = asked r; outcome = told o } ∷ answers_to rs os

-- the outcomes of a volume's requests, among those of all requests
abbrev pub outcomes_of : ℕ → List Request → List Outcome → List Outcome
outcomes_of k [] os = []
outcomes_of k (r ∷ rs) [] = []
outcomes_of k (r ∷ rs) (o ∷ os) =
    cond (r.volume == k) (o ∷ outcomes_of k rs os) (outcomes_of k rs os)

-- both hold
abbrev pub both : Bool → Bool → Bool
both true b = b
both false b = false

-- whether the next request is run, after requests with these outcomes
abbrev pub going_after : Bool → List Outcome → Bool
going_after going [] = going
going_after going (o ∷ os) = going_after (both going (was_answered o)) os

-- a request is run exactly until the first one that isn't answered
abbrev pub StopsAtRefusal : Bool → List Outcome → Type 0
StopsAtRefusal going [] = ⊤
StopsAtRefusal going (o ∷ os) =
    (was_run o ≡ going) × StopsAtRefusal (both going (was_answered o)) os
