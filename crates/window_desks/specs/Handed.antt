-- The requests of a window, each handed to the desk of its volume.
use Rattle.std.specs.Prelude.{◌≡◌, ◌≤◌, ◌<◌, ◌∷◌, ◌++◌, ℕ, List, [], length, vec_capacity, slice_index_or, None}
use Rattle.request_turns.specs.Counts.{Counts}
use Rattle.window_desks.specs.Requests.{own_requests}
use Rattle.window_desks.specs.declared.desk.Desk.{Desk}
use Rattle.trace_windows.specs.declared.request.Request.{Request}

-- these requests, no refused step and nothing counted, and no other change
pub record IsHanded {D : Type 0} (rs : List Request) (d e : Desk D) : Type 0 where
  pub id : e.id ≡ d.id
  pub worker_is : e.worker ≡ d.worker
  pub outcomes : e.outcomes.items ≡ d.outcomes.items
  pub fault : e.fault ≡ None
  pub tally : Counts 0 0 e.tally
  pub requests : e.requests.items ≡ rs

-- one request more, room for the outcomes of all, and no other change
pub record HasTaken {D : Type 0} (r : Request) (d e : Desk D) : Type 0 where
  pub id : e.id ≡ d.id
  pub worker_is : e.worker ≡ d.worker
  pub outcomes : e.outcomes.items ≡ d.outcomes.items
  pub fault : e.fault ≡ d.fault
  pub tally : e.tally ≡ d.tally
  pub requests : e.requests.items ≡ d.requests.items ++ r ∷ []
  pub room : length e.requests.items ≤ vec_capacity e.outcomes

-- the requests of the volume k among these, with room for their outcomes
pub record HasOwn {D : Type 0} (rs : List Request) (k : ℕ) (d e : Desk D) : Type 0 where
  pub handed : IsHanded (own_requests k rs) d e
  pub room : length e.requests.items ≤ vec_capacity e.outcomes

abbrev pub AreHandedOut : {D : Type 0} → List Request → List (Desk D) → List (Desk D) → Type 0
AreHandedOut {D} rs ds es = (k : ℕ) (d : Desk D) → k < length ds
    → HasOwn rs k (slice_index_or ds k d) (slice_index_or es k d)
