-- Desks that are ready for a window, and what serving makes of all of them.
use Rattle.std.specs.Prelude.{◌≡◌, ◌<◌, ◌≤◌, ◌+◌, ℕ, Bool, List, [], All, length, vec_capacity, slice_index_or}
use Rattle.turn_lock.specs.Passes.{pass_lock, IsPassAt}
use Rattle.wol_model.specs.History.{worker}
use Rattle.logger.specs.declared.shared.Shared.{Shared}
use Rattle.manager.specs.Stands.{IsShared}
use Rattle.request_turns.specs.Helped.{ManagerLock}
use Rattle.request_turns.specs.Requests.{IsWithin}
use Rattle.window_desks.specs.Requests.{own_requests}
use Rattle.window_desks.specs.Served.{HasServed}
use Rattle.window_desks.specs.declared.desk.Desk.{Desk}
use Rattle.trace_windows.specs.declared.request.Request.{Request}

-- a desk has its worker's pass of this lock, in no turn; the locks are those that it shares
pub record IsDeskAt {D : Type 0} (l : ManagerLock D) (shared : Shared D) (d : Desk D) :
    Type 0 where
  pub pass : IsPassAt l worker d.worker
  pub shared_ : IsShared shared (pass_lock d.worker).base

-- a desk has its worker's pass of this lock, and room for the outcomes of its requests, each of
-- which lies in its volume
pub record IsReadyDesk {D : Type 0} (l : ManagerLock D) (shared : Shared D) (d : Desk D) :
    Type 0 where
  pub pass : IsPassAt l worker d.worker
  pub shared_ : IsShared shared (pass_lock d.worker).base
  pub within : All (IsWithin (pass_lock d.worker).base) d.requests.items
  pub empty : d.outcomes.items ≡ []
  pub room : length d.requests.items ≤ vec_capacity d.outcomes

-- .. and so it is where as many outcomes are told: those of the requests before this place
pub record IsReadyAt {D : Type 0} (l : ManagerLock D) (shared : Shared D) (at : ℕ) (d : Desk D) :
    Type 0 where
  pub pass : IsPassAt l worker d.worker
  pub shared_ : IsShared shared (pass_lock d.worker).base
  pub within : All (IsWithin (pass_lock d.worker).base) d.requests.items
  pub told : length d.outcomes.items ≡ at
  pub room : length d.requests.items ≤ vec_capacity d.outcomes

-- the desks from the lock at `start` on
abbrev pub AreReady : {D : Type 0} → List (ManagerLock D) → Shared D → (start : ℕ) → List (Desk D)
    → Type 0
AreReady {D} ls shared start ds = (k : ℕ) (l : ManagerLock D) (d : Desk D) → k < length ds
    → IsReadyDesk (slice_index_or ls (start + k) l) shared (slice_index_or ds k d)

-- desk k has the requests of the volume k among these
abbrev pub HaveOwn : {D : Type 0} → List Request → List (Desk D) → Type 0
HaveOwn {D} rs ds = (k : ℕ) (d : Desk D) → k < length ds
    → (slice_index_or ds k d).requests.items ≡ own_requests k rs

-- each desk served its own requests
abbrev pub AreServed : {D : Type 0} → (tells : Bool) → List (Desk D) → List (Desk D) → Type 0
AreServed {D} tells ds es = (k : ℕ) (d : Desk D) → k < length ds
    → HasServed tells (slice_index_or ds k d).requests.items (slice_index_or ds k d)
    (slice_index_or es k d)

-- the workers' passes are of these locks, in order
abbrev pub AreAt : {D : Type 0} → List (ManagerLock D) → List (Desk D) → Type 0
AreAt {D} ls ds = (k : ℕ) (l : ManagerLock D) (d : Desk D) → k < length ds
    → IsPassAt (slice_index_or ls k l) worker (slice_index_or ds k d).worker

-- their managers use these shared locks
abbrev pub ShareDesks : {D : Type 0} → Shared D → List (Desk D) → Type 0
ShareDesks {D} shared ds = (k : ℕ) (d : Desk D) → k < length ds
    → IsShared shared (pass_lock (slice_index_or ds k d).worker).base

-- desk k has the id k
abbrev pub AreNumbered : {D : Type 0} → List (Desk D) → Type 0
AreNumbered {D} ds = (k : ℕ) (d : Desk D) → k < length ds → (slice_index_or ds k d).id ≡ k

-- no outcome is left in a desk
abbrev pub AreEmpty : {D : Type 0} → List (Desk D) → Type 0
AreEmpty {D} ds = (k : ℕ) (d : Desk D) → k < length ds → (slice_index_or ds k d).outcomes.items ≡ []
