-- What a window makes of a desk, in the order of the requests.
use Rattle.std.specs.Prelude.{◌≡◌, ◌<◌, ◌+◌, ◌∷◌, ℕ, Bool, true, List, [], Option, None, Some, map, length, slice_index_or}
use Rattle.std.specs.List.{AllByRecursion}
use Rattle.turn_lock.specs.Histories.{Entry}
use Rattle.wol_promise.specs.Outcomes.{AreOutcomes, answered_in}
use Rattle.wol_promise.specs.Ruled.{Noted}
use Rattle.manager.specs.declared.part.StepFault.{StepFault}
use Rattle.window_desks.specs.Closed.{IsClosed}
use Rattle.request_turns.specs.Causes.{OneLacked}
use Rattle.request_turns.specs.Counts.{Counts, blocks_between, records_between}
use Rattle.request_turns.specs.Entries.{AreMade, TellsFault}
use Rattle.window_desks.specs.Helped.{AreHelped}
use Rattle.window_desks.specs.Requests.{own_requests, outcomes_of, answers_to, StopsAtRefusal}
use Rattle.request_turns.specs.Turns.{ManagerPass, began, notes_seen, IsHonest, Gains, LooksStay}
use Rattle.window_desks.specs.declared.desk.Desk.{Desk}
use Rattle.trace_windows.specs.declared.request.Request.{Request}
use Rattle.request_turns.specs.declared.outcome.Outcome.{Outcome}
use Rattle.window_desks.specs.declared.request.Reclaim.{Reclaim}
use Rattle.window_desks.specs.declared.request.Reclaim.TheVariants as reclaim

-- The outcomes `os` of the requests `rs` are, for the volume k, those of the entries that its
-- worker's pass made for them, in order; then comes its reclaim turn.
pub record HasWorked {D : Type 0} (tells : Bool) (rs : List Request) (os : List Outcome)
    (mode : Reclaim) (k : ℕ) (d e : Desk D) : Type 0 where
  pub id : e.id ≡ d.id
  -- the pass after the requests
  pub middle : ManagerPass D
  pub more : List Entry
  pub notes : List Noted
  pub gains : Gains tells d.worker middle more notes
  pub made : AreMade (began d.worker).view (own_requests k rs) (outcomes_of k rs os) notes
  pub answered : AreOutcomes (answered_in (answers_to (own_requests k rs) (outcomes_of k rs os)))
      (map (λ (n : Noted). n.entry.operation) notes)
  pub stops : StopsAtRefusal true (outcomes_of k rs os)
  pub stays : IsHonest tells d.worker
      → LooksStay (OneLacked (own_requests k rs) (outcomes_of k rs os)) d.worker more
  pub faults : AllByRecursion (TellsFault (notes_seen middle)) (outcomes_of k rs os)
  pub closed : IsClosed tells mode e.fault middle e.worker
  pub empty : e.outcomes.items ≡ []
  -- what the worker's own entries put home and dropped
  pub counted : IsHonest tells d.worker
      → Counts (blocks_between d.worker e.worker) (records_between d.worker e.worker) e.tally

abbrev pub AreWorked : {D : Type 0} → (tells : Bool) → List Request → List Outcome → Reclaim
    → List (Desk D) → List (Desk D) → Type 0
AreWorked {D} tells rs os mode ds es = (k : ℕ) (d : Desk D) → k < length ds
    → HasWorked tells rs os mode k (slice_index_or ds k d) (slice_index_or es k d)

-- the helper's passes made turns in mode Beside alone
abbrev pub HelpedIn : {D : Type 0} → (tells : Bool) → Reclaim → List (ManagerPass D)
    → List (ManagerPass D) → Type 0
HelpedIn tells reclaim.Off ps qs = qs ≡ ps
HelpedIn tells reclaim.Between ps qs = qs ≡ ps
HelpedIn tells reclaim.Beside ps qs = AreHelped tells ps qs

-- the first volume, from number k on, of which a reclaim turn was refused, with the refusal
abbrev pub first_fault : (k : ℕ) → List (Option StepFault) → Option (ℕ × StepFault)
first_fault k [] = None
first_fault k (None ∷ faults) = first_fault (k + 1) faults
first_fault k (Some f ∷ faults) = Some (k, f)
