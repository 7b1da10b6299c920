-- What is handed to a worker and comes back.
use Rattle.std.specs.Prelude.{◌≡◌, ◌≤◌, ◌+◌, ℕ, Bool, length}
use Rattle.window_desks.specs.Desks.{AreReady, AreServed}
use Rattle.request_workers.specs.declared.job.Job.{Job}

-- its desks are ready for a window, at the locks from `start` on
pub record IsReadyJob {D : Type 0} (j : Job D) : Type 0 where
  pub within : j.start + length j.desks.items ≤ length j.locks.now
  pub ready : AreReady j.locks.now j.shared.now j.start j.desks.items

-- it comes back with each of its desks served
pub record IsServedJob {D : Type 0} (tells : Bool) (j k : Job D) : Type 0 where
  pub count : length k.desks.items ≡ length j.desks.items
  pub served : AreServed tells j.desks.items k.desks.items
