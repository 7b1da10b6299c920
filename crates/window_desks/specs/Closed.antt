-- What the reclaim turn of a volume makes of its worker's pass.
use Rattle.std.specs.Prelude.{◌≡◌, ◌<◌, ℕ, Bool, List, Option, None, length, slice_index_or}
use Rattle.manager.specs.declared.part.StepFault.{StepFault}
use Rattle.request_turns.specs.Closed.{HasClosed}
use Rattle.request_turns.specs.Counts.{HasCounted}
use Rattle.request_turns.specs.Turns.{ManagerPass}
use Rattle.window_desks.specs.declared.desk.Desk.{Desk}
use Rattle.window_desks.specs.declared.request.Reclaim.{Reclaim}
use Rattle.window_desks.specs.declared.request.Reclaim.TheVariants as reclaim

-- a reclaim turn in the modes that have one
abbrev pub IsClosed : {D : Type 0} → (tells : Bool) → Reclaim → Option StepFault
    → (p q : ManagerPass D) → Type 0
IsClosed tells reclaim.Off fault p q = (q ≡ p) × (fault ≡ None)
IsClosed tells reclaim.Between fault p q = HasClosed tells fault p q
IsClosed tells reclaim.Beside fault p q = HasClosed tells fault p q

-- the same of a desk, which keeps its outcomes
pub record HasClosedDesk {D : Type 0} (tells : Bool) (mode : Reclaim) (d e : Desk D) : Type 0 where
  pub id : e.id ≡ d.id
  pub outcomes : e.outcomes.items ≡ d.outcomes.items
  pub closed : IsClosed tells mode e.fault d.worker e.worker
  pub counted : HasCounted tells d.tally e.tally d.worker e.worker

abbrev pub AreClosed : {D : Type 0} → (tells : Bool) → Reclaim → List (Desk D) → List (Desk D)
    → Type 0
AreClosed {D} tells mode ds es = (k : ℕ) (d : Desk D) → k < length ds
    → HasClosedDesk tells mode (slice_index_or ds k d) (slice_index_or es k d)
