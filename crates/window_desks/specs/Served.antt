-- What serving the requests of a volume makes of its desk.
use Rattle.std.specs.Prelude.{◌≡◌, ◌++◌, ◌≤◌, ◌<◌, ℕ, Bool, true, List, length, vec_capacity, slice_range}
use Rattle.std.specs.List.{AllByRecursion}
use Rattle.turn_lock.specs.Histories.{Entry}
use Rattle.wol_promise.specs.Ruled.{Noted}
use Rattle.window_desks.specs.Requests.{going_after, StopsAtRefusal}
use Rattle.request_turns.specs.Causes.{OneLacked}
use Rattle.request_turns.specs.Counts.{HasCounted}
use Rattle.request_turns.specs.Turns.{began, notes_seen, IsHonest, Gains, LooksStay}
use Rattle.request_turns.specs.Entries.{AreMade, TellsFault}
use Rattle.window_desks.specs.declared.desk.Desk.{Desk}
use Rattle.trace_windows.specs.declared.request.Request.{Request}
use Rattle.request_turns.specs.declared.outcome.Outcome.{Outcome}

-- these requests were served: what the worker's pass gained, and what is told of each
pub record HasServed {D : Type 0} (tells : Bool) (rs : List Request) (d e : Desk D) : Type 0 where
  pub id : e.id ≡ d.id
  pub more : List Entry
  pub notes : List Noted
  pub gains : Gains tells d.worker e.worker more notes
  pub made : AreMade (began d.worker).view rs e.outcomes.items notes
  pub stops : StopsAtRefusal true e.outcomes.items
  pub stays : IsHonest tells d.worker → LooksStay (OneLacked rs e.outcomes.items) d.worker more
  pub faults : AllByRecursion (TellsFault (notes_seen e.worker)) e.outcomes.items
  pub reclaim : e.fault ≡ d.fault
  pub counted : HasCounted tells d.tally e.tally d.worker e.worker

-- these were served next, of which each is run as long as `going` holds and those before it were
-- answered; `next` says whether the one behind them is to be run
pub record HasServedNext {D : Type 0} (tells : Bool) (rs : List Request) (going : Bool)
    (d e : Desk D) (next : Bool) : Type 0 where
  pub told : List Outcome
  pub outcomes : e.outcomes.items ≡ d.outcomes.items ++ told
  pub id : e.id ≡ d.id
  pub requests : e.requests ≡ d.requests
  pub room : vec_capacity e.outcomes ≡ vec_capacity d.outcomes
  pub more : List Entry
  pub notes : List Noted
  pub gains : Gains tells d.worker e.worker more notes
  pub made : AreMade (began d.worker).view rs told notes
  pub stops : StopsAtRefusal going told
  pub next_is : next ≡ going_after going told
  pub stays : IsHonest tells d.worker → LooksStay (OneLacked rs told) d.worker more
  pub faults : AllByRecursion (TellsFault (notes_seen e.worker)) told
  pub reclaim : e.fault ≡ d.fault
  pub counted : HasCounted tells d.tally e.tally d.worker e.worker

-- the desk's requests from one place up to another were served, and the one behind them, if there
-- is one, is to be run
pub record HasServedUpTo {D : Type 0} (tells : Bool) (start end : ℕ) (d e : Desk D) : Type 0 where
  pub order : start ≤ end
  pub within : end ≤ length d.requests.items
  pub next : Bool
  pub served : HasServedNext tells (slice_range d.requests.items start end) true d e next
  pub goes_on : end < length d.requests.items → next ≡ true
