-- A floor between windows, and what a window makes of it.
use Rattle.std.specs.Prelude.{◌≡◌, ◌+◌, ◌≤◌, ◌<◌, ℕ, Bool, List, [], map, length, vec_capacity, slice_index_or}
use Rattle.std.specs.Option.{option_or}
use Rattle.turn_lock.specs.Passes.{lock_id}
use Rattle.wol_model.specs.History.{helper, keeper}
use Rattle.logger.specs.declared.shared.Shared.{Shared}
use Rattle.manager.specs.Stands.{IsShared}
use Rattle.wol_promise.specs.Report.{put_home_by}
use Rattle.request_turns.specs.Counts.{Counts, dropped_by}
use Rattle.request_turns.specs.Turns.{ManagerPass}
use Rattle.window_desks.specs.Counted.{AreHonest, all_between}
use Rattle.window_desks.specs.Desks.{AreAt, AreNumbered, AreEmpty}
use Rattle.request_turns.specs.Helped.{ManagerLock}
use Rattle.window_desks.specs.Helped.{ArePassesAt, IsCause, AreAllKept}
use Rattle.window_desks.specs.Requests.{AreWithin}
use Rattle.window_desks.specs.Worked.{AreWorked, HelpedIn, first_fault}
use Rattle.window_desks.specs.declared.desk.Desk.{Desk}
use Rattle.window_desks.specs.declared.floor.Floor.{Floor}
use Rattle.window_desks.specs.declared.floor.Passes.{Passes}
use Rattle.trace_windows.specs.declared.request.Request.{Request}
use Rattle.window_desks.specs.declared.request.Reclaim.{Reclaim}
use Rattle.window_desks.specs.declared.request.Window.{Window}

-- lock k is that of the manager of volume k
abbrev pub AreOwners : {D : Type 0} → List (ManagerLock D) → Type 0
AreOwners {D} ls = (k : ℕ) (l : ManagerLock D) → k < length ls
    → (lock_id (slice_index_or ls k l)).base.volume.began.owner ≡ k

-- a desk, a helper and a keeper for each lock, each the pass of its volume's lock with its number,
-- in no turn
pub record AreWhole {D : Type 0} (ls : List (ManagerLock D)) (p : Passes D) : Type 0 where
  pub desks : length p.desks.items ≡ length ls
  pub helpers : length p.helpers.items ≡ length ls
  pub keepers : length p.keepers.items ≡ length ls
  pub numbered : AreNumbered p.desks.items
  pub owners : AreOwners ls
  pub workers : AreAt ls p.desks.items
  pub empty : AreEmpty p.desks.items
  pub help : ArePassesAt ls helper p.helpers.items
  pub keep : ArePassesAt ls keeper p.keepers.items
  pub left : p.room.items ≡ []
  pub room : length ls ≤ vec_capacity p.room

-- what a floor has beside its locks
abbrev pub passes_of : {D : Type 0} → Floor D → Passes D
passes_of {D} f = record {
  desks = f.desks;
  helpers = f.helpers;
  keepers = f.keepers;
  help = f.help;
  work = f.work;
  room = f.room;
}

-- so it is on a floor
abbrev pub IsFloor : {D : Type 0} → Floor D → Type 0
IsFloor {D} f = AreWhole f.locks.now (passes_of f)

-- its managers use these shared locks
abbrev pub IsOn : {D : Type 0} → Shared D → List (ManagerLock D) → Type 0
IsOn {D} shared ls = (k : ℕ) (l : ManagerLock D) → k < length ls
    → IsShared shared (lock_id (slice_index_or ls k l)).base

-- each request of a volume lies in it
abbrev pub AreInside : {D : Type 0} → List (ManagerLock D) → List Request → Type 0
AreInside {D} ls rs = (k : ℕ) (l : ManagerLock D) → k < length ls
    → AreWithin (lock_id (slice_index_or ls k l)).base k rs

-- the same locks, passes and outcomes
pub record IsSameButRoom {D : Type 0} (d e : Desk D) : Type 0 where
  pub id : e.id ≡ d.id
  pub worker_is : e.worker ≡ d.worker
  pub outcomes : e.outcomes.items ≡ d.outcomes.items

abbrev pub AreSameButRoom : {D : Type 0} → List (Desk D) → List (Desk D) → Type 0
AreSameButRoom {D} ds es = (k : ℕ) (d : Desk D) → k < length ds
    → IsSameButRoom (slice_index_or ds k d) (slice_index_or es k d)

-- the workers' passes, in order
abbrev pub workers_of : {D : Type 0} → Floor D → List (ManagerPass D)
workers_of {D} f = map (λ (d : Desk D). d.worker) f.desks.items

-- what a window makes of a floor
pub record HasRun {D : Type 0} (tells : Bool) (rs : List Request) (mode : Reclaim) (f g : Floor D)
    (w : Window) : Type 0 where
  pub len : length w.outcomes.items ≡ length rs
  pub worked : AreWorked tells rs w.outcomes.items mode f.desks.items g.desks.items
  pub helped : HelpedIn tells mode f.helpers.items g.helpers.items
  pub locks : g.locks ≡ f.locks
  pub keepers : g.keepers ≡ f.keepers
  -- the first refused step: the helper's, or else that of the first reclaim turn that was refused
  pub fault : w.fault
      ≡ option_or g.help.fault (first_fault 0 (map (λ (d : Desk D). d.fault) g.desks.items))
  pub cause : IsCause g.helpers.items g.help.fault
  pub kept : AreAllKept g.help.fault f.helpers.items g.helpers.items
  -- what was put home and dropped in this window by the workers and the helper, drains included
  pub counted : AreHonest tells (workers_of f) → AreHonest tells f.helpers.items
      → Counts (all_between put_home_by (workers_of f) (workers_of g)
      + all_between put_home_by f.helpers.items g.helpers.items)
      (all_between dropped_by (workers_of f) (workers_of g)
      + all_between dropped_by f.helpers.items g.helpers.items)
      (record { blocks = w.blocks; records = w.records })

-- where there was no memory nothing was run
pub record IsAsItWas {D : Type 0} (f g : Floor D) : Type 0 where
  pub desks : AreSameButRoom f.desks.items g.desks.items
  pub helpers : g.helpers ≡ f.helpers
  pub locks : g.locks ≡ f.locks
  pub keepers : g.keepers ≡ f.keepers
