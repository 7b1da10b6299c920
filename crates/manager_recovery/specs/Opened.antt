-- The manager of a volume that was opened.
use Rattle.std.specs.Prelude.{◌≡◌, ◌==◌, ℕ, Bool, List, [], None, Some, Contains, IsTrue, cond, filter, length, map, replicate, slice_get}
use Rattle.std.specs.List.{AllByRecursion, AllZip}
use Rattle.wol_disk.specs.Disk.{State}
use Rattle.turn_lock.specs.Passes.{IsSamePass, pass_lock, pass_mine, pass_number}
use Rattle.spin_model.specs.Spun.{state_of}
use Rattle.log_segment.specs.Segment.{disk_of, part_of}
use Rattle.wol_model.specs.Blocks.{Write}
use Rattle.wol_model.specs.Index.{Indexed}
use Rattle.wol_model.specs.Log.{Record, position_of}
use Rattle.logger.specs.Lanes.{IsSameLane, logger_of, held_in, pool_of, spindle_of}
use Rattle.logger.specs.declared.lane.HeldSegment.{HeldSegment}
use Rattle.logger.specs.declared.lane.Lane.{Lane}
use Rattle.wol_promise.specs.Manager.{Base}
use Rattle.wol_promise.specs.Stands.{next_version}
use Rattle.manager.specs.Seen.{look_of_manager}
use Rattle.manager.specs.Stands.{Stands, IsHome, nones_in, takes_in}
use Rattle.manager.specs.declared.base.LaneBase.{LaneBase}
use Rattle.manager.specs.declared.base.ManagerBase.{ManagerBase}
use Rattle.manager.specs.declared.manager.Manager.{Manager}
use Rattle.logger.specs.declared.shared.Shared.{Shared}
use Rattle.manager_recovery.specs.Owned.{IsListedOf, Owned, read_of, all_owned, records_in, records_of, writes_in, recovered_of}
use Rattle.manager_recovery.specs.Refused.{IsNamesAnswer, IsRecoverable}
use Rattle.manager_recovery.specs.Left.{Fate, HasGiven, LeavesParts, kept_of}
use Rattle.manager_recovery.specs.declared.opening.Opening.{Opening}
use Rattle.manager_recovery.specs.declared.opening.OwnedPart.{OwnedPart}

-- What a volume begins with: the array that home and its segments recover to as they read, the
-- records in these that keep blocks, and the version above all of theirs. As many records are
-- listed, each of them one of these.
pub record Begins {D : Type 0} (tells : Bool) (state : D → State) (o : Opening D) (b : Base) :
    Type 0 where
  pub owner : b.owner ≡ o.want.id
  pub home_blocks : b.home_blocks ≡ o.want.home
  pub most : b.most ≡ o.most
  pub view : b.view ≡ o.view
  pub array : IsTrue tells → b.array
      ≡ recovered_of o.want.id (read_of (state_of state o.home)) (all_owned state o.owned.items)
  pub records : IsTrue tells → b.records ≡ writes_in o.want.id (all_owned state o.owned.items)
  pub next : IsTrue tells
      → b.next ≡ next_version (records_in o.want.id (all_owned state o.owned.items))
  pub listed : length b.look.listed ≡ length b.records
  pub found : IsTrue tells
      → AllByRecursion (IsListedOf o.want.id o.view (all_owned state o.owned.items)) b.look.listed

-- a write of which only the place and the version are told
abbrev pub untold_write : Indexed → Write
untold_write e = record {
  first = e.listed.first;
  blocks = replicate (length e.listed.keep) [];
  version = Some e.listed.version;
}

module _ {D : Type 0} (tells : Bool) (state : D → State) (o : Opening D) (m : Manager D) where
  -- What a manager that was opened of these parts began with; where disks tell no content, some
  -- array and records.
  abbrev pub beginning : Base
  beginning = record {
    array = cond tells (recovered_of o.want.id (read_of (state_of state o.home))
        (all_owned state o.owned.items)) (replicate o.want.home []);
    records = cond tells (writes_in o.want.id (all_owned state o.owned.items))
        (map untold_write m.index.entries);
    next = m.next;
    look = look_of_manager m;
    owner = o.want.id;
    view = o.view;
    home_blocks = o.want.home;
    most = o.most;
  }

  -- a lane's passes
  abbrev pub lane_at_opening : Lane D → LaneBase
  lane_at_opening l = record {
    logger = logger_of l;
    pool = record { marker = record {}; id = pass_lock (pool_of l) };
    pool_number = pass_number (pool_of l);
    spindle = record { marker = record {}; id = pass_lock (spindle_of l) };
    spindle_number = pass_number (spindle_of l);
    nones = nones_in (pass_mine (pool_of l));
    takes = takes_in (pass_mine (pool_of l));
  }

  -- the base of its lock: a function of what it was opened of and of what it is
  abbrev pub base_at_opening : ManagerBase
  base_at_opening = record {
    volume = record { marker = record {}; began = beginning; places = m.index.entries };
    spindle = record { marker = record {}; id = pass_lock m.spindle };
    spindle_number = pass_number m.spindle;
    lanes = map lane_at_opening m.lanes.items;
  }

-- a lane's base has in how many turns its pass had taken a segment
abbrev pub CountsTakes : {D : Type 0} → Lane D → LaneBase → Type 0
CountsTakes l b = b.takes ≡ takes_in (pass_mine (pool_of l))

-- A listed record stands in an owned segment of its lane's logger: the segment has that index, and
-- a record of that version and first block has its head at that position.
pub record StandsInOwned (id : ℕ) (view : List ℕ) (ss : List Owned) (e : Indexed) : Type 0 where
  pub segment : Owned
  pub owned : Contains ss segment
  pub lane : slice_get view e.listed.lane ≡ Some segment.logger
  pub index : e.index ≡ segment.index
  pub k : ℕ
  pub record_ : Record
  pub there : slice_get (records_of id segment) k ≡ Some record_
  pub version : e.listed.version ≡ record_.head.version
  pub first : e.listed.first ≡ record_.head.first
  pub pos : e.pos ≡ position_of (records_of id segment) k

-- an owned segment that the lane of its logger holds
pub record IsInLane {D : Type 0} (lanes : List (Lane D)) (o : OwnedPart D) : Type 0 where
  pub lane : Lane D
  pub segment : HeldSegment D
  pub among : Contains lanes lane
  pub logger : logger_of lane ≡ o.logger
  pub is_held : Contains (held_in lane) segment
  pub index : segment.index ≡ o.index
  pub part : part_of segment.segment ≡ o.part

-- an owned segment, held
pub record IsHeldAs {D : Type 0} (o : OwnedPart D) (h : HeldSegment D) : Type 0 where
  pub index : h.index ≡ o.index
  pub part : part_of h.segment ≡ o.part

-- the lane holds those of these segments that lie on its logger, in the same order, and no others
abbrev pub HoldsInOrder : {D : Type 0} → List (OwnedPart D) → Lane D → Type 0
HoldsInOrder {D} os l =
    AllZip IsHeldAs (filter (λ (o : OwnedPart D). o.logger == logger_of l) os) (held_in l)

-- The manager stands for that beginning and no entries, over the locks and passes of the opening.
pub record Opens {D : Type 0} (tells : Bool) (state : D → State) (shared : Shared D) (o : Opening D)
    (m : Manager D) : Type 0 where
  pub base : ManagerBase
  pub is_base : base ≡ base_at_opening tells state o m
  pub begins : Begins tells state o base.volume.began
  -- each listed record stands where the segments, as they read, have it
  pub placed : IsTrue tells → AllByRecursion
      (StandsInOwned o.want.id o.view (all_owned state o.owned.items)) base.volume.places
  pub stands : Stands tells state m base []
  pub at : IsHome shared m
  pub spindle : IsSamePass o.spindle m.spindle
  pub lanes : AllZip IsSameLane o.lanes.items m.lanes.items
  pub named : IsNamesAnswer o None
  pub recoverable : IsTrue tells → IsRecoverable state o
  -- its lanes hold the segments that were handed on
  pub fates : List (Fate D)
  pub held : AllByRecursion (IsInLane m.lanes.items) (kept_of fates)
  pub order : AllByRecursion (HoldsInOrder (kept_of fates)) m.lanes.items
  -- and their passes gave the others to the pools
  pub pools : AllZip (HasGiven o.owned.items fates) o.lanes.items m.lanes.items
  -- they took none: the base counts what they took before
  pub takes : AllZip CountsTakes o.lanes.items base.lanes
  pub parts : LeavesParts tells state o.want.id o.home m.home o.owned.items fates

-- No disk call failed: home's count of faults is as before, and so is that of each owned segment
-- that a lane holds now.
pub record NoneRoseAtOpening {D : Type 0} (state : D → State) (o : Opening D) (m : Manager D) :
    Type 0 where
  pub home : (state_of state m.home).faults ≡ (state_of state o.home).faults
  pub held : (p : OwnedPart D) (l : Lane D) (h : HeldSegment D) → Contains o.owned.items p
      → Contains m.lanes.items l → Contains (held_in l) h → logger_of l ≡ p.logger
      → h.index ≡ p.index
      → (disk_of state h.segment).faults ≡ (state_of state p.part).faults
