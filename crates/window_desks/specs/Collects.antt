-- The outcomes of all desks, in the order of the requests.
use Rattle.std.specs.Prelude.{◌≡◌, ◌++◌, ℕ, List, [], length}
use Rattle.window_desks.specs.Requests.{own_requests, outcomes_of}
use Rattle.window_desks.specs.declared.desk.Desk.{Desk}
use Rattle.trace_windows.specs.declared.request.Request.{Request}
use Rattle.request_turns.specs.declared.outcome.Outcome.{Outcome}

-- all but the outcomes
pub record IsSameDesk {D : Type 0} (d e : Desk D) : Type 0 where
  pub id : e.id ≡ d.id
  pub worker : e.worker ≡ d.worker
  pub fault : e.fault ≡ d.fault
  pub tally : e.tally ≡ d.tally

-- as many outcomes as requests of the volume k
abbrev pub HoldsOutcomes : {D : Type 0} → List Request → ℕ → Desk D → Type 0
HoldsOutcomes rs k d = length d.outcomes.items ≡ length (own_requests k rs)

-- the outcomes of the first requests are left, and those of the others are taken
pub record IsTaken {D : Type 0} (left done : List Request) (os : List Outcome) (k : ℕ)
    (d e : Desk D) : Type 0 where
  pub same : IsSameDesk d e
  pub outcomes : d.outcomes.items ≡ e.outcomes.items ++ outcomes_of k done os
  pub count : length e.outcomes.items ≡ length (own_requests k left)

pub record IsCollected {D : Type 0} (rs : List Request) (os : List Outcome) (k : ℕ) (d e : Desk D) :
    Type 0 where
  pub same : IsSameDesk d e
  pub outcomes : outcomes_of k rs os ≡ d.outcomes.items
  pub empty : e.outcomes.items ≡ []
