-- What a manager stands for, over the locks that it shares with others.
use Rattle.std.specs.Prelude.{⊤, cond, is_some, ◌≡◌, ◌<◌, ◌≤◌, ◌^◌, ◌+◌, ◌-◌, ℕ, Bool, true, false, List, [], ◌∷◌, ◌++◌, map, length, replicate, vec_len, slice_get, slice_index_or, Option, None, Some, IsTrue}
use Rattle.std.specs.List.{AllByRecursion}
use Rattle.std.specs.declared.alloc.Global.{Global}
use Rattle.std.specs.declared.vec.Vec.{Vec}
use Rattle.wol_disk.specs.Disk.{State}
use Rattle.turn_lock.specs.Histories.{Entry}
use Rattle.turn_lock.specs.Passes.{lock_id, pass_lock, pass_number, pass_mine}
use Rattle.turn_lock.specs.declared.pass.PassOf.{PassOf}
use Rattle.spin_model.specs.Spun.{state_of}
use Rattle.spin_model.specs.declared.spun.Spun.{Spun}
use Rattle.spin_model.specs.declared.spindle.Spindle.{Spindle}
use Rattle.spin_model.specs.declared.spindle.SpindleBase.{SpindleBase}
use Rattle.log_segment.specs.Segment.{Holds}
use Rattle.redirect_map.specs.Index.{Contents}
use Rattle.offload_policy.specs.declared.Room.TheVariants.{Unknown}
use Rattle.wol_model.specs.History.{Operation, writes, flight_of}
use Rattle.wol_promise.specs.Code.{noted_of}
use Rattle.wol_promise.specs.Manager.{AreInUse}
use Rattle.wol_promise.specs.Policy.{Look}
use Rattle.wol_promise.specs.Ruled.{Noted, entries_of, IsStep, last_look, HasPassed}
use Rattle.wol_promise.specs.Stands.{Upholds}
use Rattle.logger.specs.Lanes.{logger_of, pool_of, spindle_of}
use Rattle.logger.specs.declared.lane.Lane.{Lane}
use Rattle.logger.specs.declared.shared.Shared.{Shared}
use Rattle.manager.specs.Seen.{Logs, AllLanesHold, all_held, parts_of, seen, look_of_manager}
use Rattle.manager.specs.declared.base.LaneBase.{LaneBase}
use Rattle.manager.specs.declared.base.ManagerBase.{ManagerBase}
use Rattle.manager.specs.declared.manager.Manager.{Manager}
pub use Rattle.volume_parts.specs.Lanes.{IsReadyLane, Ready, IsPlacedIn, AreCounted, IsUp, At, nones_in, takes_in}
pub use Rattle.volume_parts.specs.Entries.{entries_at, IsInVolume, StandsAt, AreStill}
pub use Rattle.volume_parts.specs.Offers.{passed_in}

-- ---- Safety: what holds of each manager between its calls, whatever its disks tell

pub record IsReady {D : Type 0} (state : D → State) (m : Manager D) : Type 0 where
  pub ready : Ready state m.id m.most m.home m.spindle m.lanes.items m.ups.items m.rooms.items
  pub next : (1 ≤ m.next) × (m.next ≤ 2 ^ 63)
  pub below : AllByRecursion (λ e. e.listed.version < m.next) m.index.entries
  pub ranges : AllByRecursion (IsInVolume (state_of state m.home).size) m.index.entries
  pub up : m.down ≡ None → IsUp m.lanes.items m.index.entries

-- a manager that was just opened: home and all loggers are awake for it
abbrev pub opened : {D : Type 0} → (id : ℕ) → Spun D → PassOf Spindle SpindleBase
    → Vec (Lane D) Global → Contents → (next most : ℕ) → Manager D
opened {D} id home spindle lanes index next most = record {
  id = id;
  home = home;
  spindle = spindle;
  lanes = lanes;
  index = index;
  next = next;
  most = most;
  home_up = true;
  ups = record { items = replicate (length lanes.items) true };
  rooms = record { items = replicate (length lanes.items) Unknown };
  down = None;
}

-- ---- Its locks

abbrev pub IsHome : {D : Type 0} → Shared D → Manager D → Type 0
IsHome shared m = At shared m.id m.spindle m.lanes.items

-- what a call needs that asks disks: it is ready, at these locks, and not down
pub record CanServe {D : Type 0} (state : D → State) (shared : Shared D) (m : Manager D) :
    Type 0 where
  pub ready : IsReady state m
  pub at : IsHome shared m
  pub up : m.down ≡ None

-- a lane's passes are those that the base names
pub record IsNamed {D : Type 0} (l : Lane D) (b : LaneBase) : Type 0 where
  pub logger : logger_of l ≡ b.logger
  pub pool : pass_lock (pool_of l) ≡ b.pool.id
  pub pool_number : pass_number (pool_of l) ≡ b.pool_number
  pub spindle : pass_lock (spindle_of l) ≡ b.spindle.id
  pub spindle_number : pass_number (spindle_of l) ≡ b.spindle_number
  pub nones : b.nones ≤ nones_in (pass_mine (pool_of l))

abbrev pub AreNamed : {D : Type 0} → List (Lane D) → List LaneBase → Type 0
AreNamed [] [] = ⊤
AreNamed [] (b ∷ bs) = ⊥
AreNamed (l ∷ ls) [] = ⊥
AreNamed (l ∷ ls) (b ∷ bs) = IsNamed l b × AreNamed ls bs

-- how often since the opening the pass of the lane at place k found its pool empty
abbrev pub nones_at : {D : Type 0} → List (Lane D) → List LaneBase → (k : ℕ) → ℕ
nones_at lanes bs k = nones_since (slice_get lanes k) (slice_get bs k)
  where
    nones_since : {D : Type 0} → Option (Lane D) → Option LaneBase → ℕ
    nones_since None b = 0
    nones_since (Some l) None = 0
    nones_since (Some l) (Some b) = nones_in (pass_mine (pool_of l)) - b.nones

-- how many segments the passes of all lanes took since the opening
abbrev pub takes_of : {D : Type 0} → List (Lane D) → List LaneBase → ℕ
takes_of [] bs = 0
takes_of (l ∷ ls) [] = 0
takes_of (l ∷ ls) (b ∷ bs) = (takes_in (pass_mine (pool_of l)) - b.takes) + takes_of ls bs

-- the manager is the one that the base names
pub record Locks {D : Type 0} (id most : ℕ) (spindle : PassOf Spindle SpindleBase)
    (lanes : List (Lane D)) (b : ManagerBase) : Type 0 where
  pub pass : pass_lock spindle ≡ b.spindle.id
  pub number : pass_number spindle ≡ b.spindle_number
  pub each : AreNamed lanes b.lanes
  pub owner : id ≡ b.volume.began.owner
  pub most_ : most ≡ b.volume.began.most
  pub view : map logger_of lanes ≡ b.volume.began.view

abbrev pub HasLocks : {D : Type 0} → Manager D → ManagerBase → Type 0
HasLocks m b = Locks m.id m.most m.spindle m.lanes.items b

-- the locks that a base names are those of these shared ones
pub record IsLaneShared {D : Type 0} (shared : Shared D) (b : LaneBase) : Type 0 where
  pub pool_in : b.logger < vec_len shared.pools
  pub spindle_in : b.logger < vec_len shared.spindles
  pub pool : (d : _) → b.pool.id ≡ lock_id (slice_index_or shared.pools.items b.logger d)
  pub spindle : (d : _) → b.spindle.id ≡ lock_id (slice_index_or shared.spindles.items b.logger d)

pub record IsShared {D : Type 0} (shared : Shared D) (b : ManagerBase) : Type 0 where
  pub spindle_in : b.volume.began.owner < vec_len shared.spindles
  pub spindle : (d : _)
      → b.spindle.id ≡ lock_id (slice_index_or shared.spindles.items b.volume.began.owner d)
  pub lanes : AllByRecursion (IsLaneShared shared) b.lanes

-- its passes took at most a segment for each version that it gave since the opening, and one that
-- it may have been at when it failed
abbrev pub HasTakenFew : {D : Type 0} → Manager D → ManagerBase → Type 0
HasTakenFew m b =
    takes_of m.lanes.items b.lanes + b.volume.began.next ≤ m.next + cond (is_some m.down) 1 0

-- ---- The whole

-- What a manager keeps up for what it began with and the entries since, at the end of a step of a
-- turn.
pub record Keeps {D : Type 0} (tells : Bool) (state : D → State) (m : Manager D) (b : ManagerBase)
    (notes : List Noted) : Type 0 where
  -- the records of each held segment
  pub logs : Logs
  -- each held segment has its place among them, also after a failed call; while nothing failed its
  -- disk keeps them, where it tells its content
  pub held : AllLanesHold (λ h rs. IsTrue tells → m.down ≡ None → Holds state h.segment rs)
      m.lanes.items logs
  pub upholds : Upholds (parts_of tells state) b.volume.began (seen m logs) notes
      (writes (entries_of notes)) (flight_of (entries_of notes))
  -- each held segment has a valid record
  pub in_use : IsTrue tells → m.down ≡ None → AreInUse (all_held 0 m.lanes.items logs)
  -- no pool was said to be empty more often than it was found so
  pub passed : HasPassed (nones_at m.lanes.items b.lanes) notes
  -- no more segments were taken than there were writes to logs, each of which is one version, and
  -- one more where a call failed
  pub taken : HasTakenFew m b
  -- no record that was listed at the opening has moved
  pub still : AreStill b.volume.places b.volume.began.next m.index.entries
  pub ready : IsReady state m
  pub locks : HasLocks m b

-- What a manager stands for at the end of a turn: this, and the last entry left the look that it
-- has.
pub record Stands {D : Type 0} (tells : Bool) (state : D → State) (m : Manager D) (b : ManagerBase)
    (notes : List Noted) : Type 0 where
  pub keeps : Keeps tells state m b notes
  pub look : last_look b.volume.began.look notes ≡ look_of_manager m

-- the entries of a lock's history, as they were noted
abbrev pub notes_of : List Entry → List Noted
notes_of entries = map (λ (e : Entry). noted_of e.0 e.1) entries

-- what the manager stands for, as its lock has it
abbrev pub StandsCoded : {D : Type 0} → (tells : Bool) → (D → State) → Manager D → ManagerBase
    → List Entry → Type 0
StandsCoded tells state m b entries = Stands tells state m b (notes_of entries)

-- ---- What a call leaves

-- An entry with its notes, behind entries the last of which left the look l: its operation, the
-- look that it leaves, the pools that were found empty; and where it is ruled it goes by the rules.
pub record IsNote (l : Look) (operation : Operation) (passed : List ℕ) (m : Look) (n : Noted) :
    Type 0 where
  pub operation_is : n.entry.operation ≡ operation
  pub look_is : n.look ≡ m
  pub passed_is : n.passed ≡ passed
  pub drain : n.after_drain ≡ false
  pub follows : IsTrue n.ruled → IsStep n n.entry.pass n.entry.operation l n.look

-- a call leaves this entry: what the manager kept up for the entries before, it stands for with the
-- entry
abbrev pub Leaves : {D : Type 0} → (tells : Bool) → (D → State) → (old new : Manager D) → Operation
    → (passed : List ℕ) → (pass : ℕ) → Type 0
Leaves tells state old new operation passed pass =
    (b : ManagerBase) (notes : List Noted) (n : Noted) → n.entry.pass ≡ pass
    → IsNote (last_look b.volume.began.look notes) operation passed (look_of_manager new) n
    → Keeps tells state old b notes → Stands tells state new b (notes ++ n ∷ [])

-- so it does with whatever pools the entry notes as passed over, none of which it says to be empty
-- more often than it was found so
abbrev pub LeavesPassing : {D : Type 0} → (tells : Bool) → (D → State) → (old new : Manager D)
    → Operation → (pass : ℕ) → Type 0
LeavesPassing tells state old new operation pass = (b : ManagerBase) (notes : List Noted)
    (passed : List ℕ) (n : Noted) → n.entry.pass ≡ pass
    → IsNote (last_look b.volume.began.look notes) operation passed (look_of_manager new) n
    → HasPassed (nones_at new.lanes.items b.lanes) (notes ++ n ∷ [])
    → Keeps tells state old b notes → Stands tells state new b (notes ++ n ∷ [])

-- what no call of a manager changes
pub record IsSameManager {D : Type 0} (old new : Manager D) : Type 0 where
  pub id : new.id ≡ old.id
  pub most : new.most ≡ old.most
