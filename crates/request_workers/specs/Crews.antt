-- The caller's seats, one for each worker, and how they are made.
use Rattle.std.specs.Prelude.{◌≡◌, ◌≤◌, ◌<◌, ◌+◌, ◌-◌, ℕ, List, [], length, vec_capacity, slice_index_or}
use Rattle.errands.specs.Ends.{IsIdle, IsOver, IsTold, IsWaiting}
use Rattle.errands.specs.declared.ends.Errands.{Errands}
use Rattle.errands.specs.declared.ends.Worker.{Worker}
use Rattle.request_workers.specs.declared.crew.Crew.{Crew}
use Rattle.request_workers.specs.declared.crew.Seat.{Seat}
use Rattle.request_workers.specs.declared.job.Job.{Job}
use Rattle.request_workers.specs.declared.pool.Pool.{Pool}
use Rattle.window_desks.specs.declared.request.Reclaim.{Reclaim}
use Rattle.window_desks.specs.declared.request.Reclaim.TheVariants as reclaim

-- ---- Threads

-- how many threads serve beside the caller, who is one of the workers, or the helper beside them
abbrev pub threads_beside : (workers : ℕ) → Reclaim → ℕ
threads_beside workers reclaim.Off = workers - 1
threads_beside workers reclaim.Between = workers - 1
threads_beside workers reclaim.Beside = workers

-- ---- Seats

-- nothing is handed over at a seat of these errands, and no desk is left in its room
pub record IsIdleSeat {D : Type 0} (e : Errands (Job D)) (s : Seat D) : Type 0 where
  pub idle : IsIdle e s.sender
  pub empty : s.room.items ≡ []

-- each of these seats is idle, one for each of the first errands
abbrev pub AreIdleSeats : {D : Type 0} → List (Errands (Job D)) → List (Seat D) → Type 0
AreIdleSeats {D} es ss = (k : ℕ) (e : Errands (Job D)) (s : Seat D) → k < length ss
    → IsIdleSeat (slice_index_or es k e) (slice_index_or ss k s)

-- .. told its worker that nothing more comes
abbrev pub AreOver : {D : Type 0} → List (Errands (Job D)) → List (Seat D) → Type 0
AreOver {D} es ss = (k : ℕ) (e : Errands (Job D)) (s : Seat D) → k < length ss
    → IsOver (slice_index_or es k e) (slice_index_or ss k s).sender

-- ---- Workers

module _ {T : Type 0} where
  -- it holds of each of these workers and its errand, from a place of the errands on
  abbrev pub AllFrom : (P : Errands T → Worker T → Type 0) → ℕ → List (Errands T) → List (Worker T)
      → Type 0
  AllFrom P start es ws = (k : ℕ) (e : Errands T) (w : Worker T) → k < length ws
      → P (slice_index_or es (start + k) e) (slice_index_or ws k w)

  -- each of them waits for what is handed over
  abbrev pub AreWaitingFrom : ℕ → List (Errands T) → List (Worker T) → Type 0
  AreWaitingFrom = AllFrom IsWaiting

  -- each of them was told that nothing more comes
  abbrev pub AreToldFrom : ℕ → List (Errands T) → List (Worker T) → Type 0
  AreToldFrom = AllFrom IsTold

  -- each of them waits, from the first errand on
  abbrev pub AreWaiting : List (Errands T) → List (Worker T) → Type 0
  AreWaiting es ws = (k : ℕ) (e : Errands T) (w : Worker T) → k < length ws
      → IsWaiting (slice_index_or es k e) (slice_index_or ws k w)

  -- each of them was told that nothing more comes, from the first errand on
  abbrev pub AreTold : List (Errands T) → List (Worker T) → Type 0
  AreTold es ws = (k : ℕ) (e : Errands T) (w : Worker T) → k < length ws
      → IsTold (slice_index_or es k e) (slice_index_or ws k w)

-- ---- Crews

-- idle seats of the first errands
pub record IsPartCrew {D G : Type 0} (c : Crew D G) : Type 0 where
  pub some : 1 ≤ c.workers.count
  pub few : c.workers.count ≤ 64
  pub count : length c.seats.items ≤ length c.errands.now
  pub home : AreIdleSeats c.errands.now c.seats.items

-- a crew between windows: an idle seat for each of its errands
pub record IsCrew {D G : Type 0} (c : Crew D G) : Type 0 where
  pub part : IsPartCrew c
  pub each : length c.seats.items ≡ length c.errands.now

-- a crew after the last window: each of its workers was told that nothing more comes
pub record IsOverCrew {D G : Type 0} (c : Crew D G) : Type 0 where
  pub over : AreOver c.errands.now c.seats.items
  pub each : length c.seats.items ≡ length c.errands.now

-- as many seats of the same errands
pub record IsSameCrew {D G : Type 0} (c d : Crew D G) : Type 0 where
  pub errands_are : d.errands ≡ c.errands
  pub seats_are : length d.seats.items ≡ length c.seats.items
  pub room : vec_capacity d.seats ≡ vec_capacity c.seats

-- a seat and a worker for each of the errands, where nothing is handed over
pub record IsPool {D : Type 0} (p : Pool D) : Type 0 where
  pub seats_ : length p.seats.items ≡ length p.errands.items
  pub workers_ : length p.workers.items ≡ length p.errands.items
  pub home : AreIdleSeats p.errands.items p.seats.items
  pub waiting : AreWaiting p.errands.items p.workers.items
