-- What opening leaves of the parts that it was given.
use Rattle.std.specs.Prelude.{⊤, false, ◌≡◌, ◌==◌, if◌then◌else◌, ◌⊎◌, ◌++◌, ℕ, Bool, List, [], ◌∷◌, map, reverse, Option, Some, None, IsTrue}
use Rattle.std.specs.List.{AllByRecursion, AllZip, filter_map}
use Rattle.wol_disk.specs.Disk.{State, Block, Values, IsImageOf, LeavesOnly}
use Rattle.wol_model.specs.Images.{IsSoundSegment}
use Rattle.wol_model.specs.Heads.{Shape}
use Rattle.wol_model.specs.Log.{Record, IsLog}
use Rattle.wol_model.specs.Recovered.{recovered}
use Rattle.turn_lock.specs.Passes.{pass_number, pass_mine, IsFree, IsSamePass}
use Rattle.spin_model.specs.Operations.{has_token}
use Rattle.spin_model.specs.Spun.{state_of, volume_of}
use Rattle.spin_model.specs.declared.spun.Spun.{Spun}
use Rattle.seg_pool.specs.Holders.{Gave}
use Rattle.seg_pool.specs.Operations.{operation_of}
use Rattle.log_segment.specs.Kept.{IsKeptOrIdle}
use Rattle.log_segment.specs.Segment as segment
use Rattle.log_segment.specs.Segment.{free_disk, free_volume}
use Rattle.log_segment.specs.declared.free.FreeSegment.{FreeSegment}
use Rattle.logger.specs.Lanes.{AreAccesses, IsSameLane, logger_of, pool_of}
use Rattle.logger.specs.declared.lane.Lane.{Lane}
use Rattle.logger.specs.declared.shared.Shared.{Shared}
use Rattle.manager_recovery.specs.Opening.{IsOpeningLane}
use Rattle.manager_recovery.specs.declared.opening.Opening.{Opening}
use Rattle.manager_recovery.specs.declared.opening.OwnedPart.{OwnedPart}

-- the part is as it was: since then it had no image that it did not have
pub record IsAsBefore {D : Type 0} (state : D → State) (old new : Spun D) : Type 0 where
  pub volume : volume_of new ≡ volume_of old
  pub size : (state_of state new).size ≡ (state_of state old).size
  pub any_moment :
      LeavesOnly (state_of state old) (state_of state new) (IsImageOf (state_of state old).values)

-- a log of the volume with these records, none of which keeps a block
pub record HasNothing (id : ℕ) (rs : List Record) (bs : List Block) : Type 0 where
  pub log : IsLog bs id rs
  pub nothing : AllByRecursion (λ r. r.head.mask ≡ 0) rs

-- an image that was one before; or, where one before was a log that has nothing, a log of the same
-- records or a free segment
abbrev pub IsLeftOf : (id : ℕ) → Option (List (Values Block)) → List Block → Type 0
IsLeftOf id values c = IsImageOf values c
    ⊎ ((bs : List Block) × (rs : List Record) × IsImageOf values bs × HasNothing id rs bs
    × IsKeptOrIdle id rs c)

-- What became of an owned segment: it was handed on, or it was freed and given to its pool.
pub data Fate (D : Type 0) : Type 0 where
  Kept : (part : OwnedPart D) → Fate D
  Freed : (free : FreeSegment D) → Fate D

-- the segments that were handed on
abbrev pub kept_of : {D : Type 0} → List (Fate D) → List (OwnedPart D)
kept_of {D} fates = filter_map kept fates
  where
    kept : {D : Type 0} → Fate D → Option (OwnedPart D)
    kept (Kept part) = Some part
    kept (Freed free) = None

-- the disk of a segment then
abbrev pub disk_then : {D : Type 0} → (D → State) → Fate D → State
disk_then state (Kept o) = state_of state o.part
disk_then state (Freed f) = free_disk state f

-- the same segment
abbrev pub IsSameOwned : {D : Type 0} → (D → State) → OwnedPart D → OwnedPart D → Type 0
IsSameOwned state o n = (n ≡ record o { part = n.part }) × (volume_of n.part ≡ volume_of o.part)
    × ((state_of state n.part).size ≡ (state_of state o.part).size)

abbrev pub IsSameOrFree : {D : Type 0} → (D → State) → OwnedPart D → Fate D → Type 0
IsSameOrFree state o (Kept n) = IsSameOwned state o n
IsSameOrFree state o (Freed f) = segment.IsFree state f × (free_volume f ≡ volume_of o.part)

-- the segment before, and what became of it; of its images where its disk tells its content
pub record IsFateOf {D : Type 0} (state : D → State) (id : ℕ) (o : OwnedPart D) (f : Fate D) :
    Type 0 where
  pub same : IsSameOrFree state o f
  pub any_moment : (vs : List (Values Block)) → (state_of state o.part).values ≡ Some vs
      → LeavesOnly (state_of state o.part) (disk_then state f)
      (IsLeftOf id (state_of state o.part).values)

abbrev pub AreFates : {D : Type 0} → (D → State) → (id : ℕ) → List (OwnedPart D) → List (Fate D)
    → Type 0
AreFates state id os fates = AllZip (IsFateOf state id) os fates

-- an image of a part since it was the old one
abbrev pub IsSince : (old new : State) → List Block → Type 0
IsSince old new c = new.since old.clock c

-- an image of each segment since the beginning
abbrev pub AreSince : {D : Type 0} → (D → State) → List (OwnedPart D) → List (Fate D)
    → List (List Block) → Type 0
AreSince state [] fates [] = ⊤
AreSince state [] fates (c ∷ cs) = ⊥
AreSince state (o ∷ os) [] cs = ⊥
AreSince state (o ∷ os) (f ∷ fates) [] = ⊥
AreSince state (o ∷ os) (f ∷ fates) (c ∷ cs) =
    IsSince (state_of state o.part) (disk_then state f) c × AreSince state os fates cs

-- Stopped at any moment of it: whichever images since the beginning each part has, they recover to
-- what images of the beginning recover to.
abbrev pub RecoversAsBefore : {D : Type 0} → (D → State) → (id : ℕ) → (old_home new_home : Spun D)
    → List (OwnedPart D) → List (Fate D) → Type 0
RecoversAsBefore {D} state id old_home new_home os fates =
    (home : List Block) (segments : List (List Block))
    → IsSince (state_of state old_home) (state_of state new_home) home
    → AreSince state os fates segments
    → (before : List Block) × (earlier : List (List Block))
    × IsImageOf (state_of state old_home).values before
    × AllZip (λ (o : OwnedPart D) bs. IsImageOf (state_of state o.part).values bs) os earlier
    × (recovered id home segments ≡ recovered id before earlier)

-- where each image of a segment was sound, each since is
abbrev pub StaysSound : {D : Type 0} → (D → State) → OwnedPart D → Fate D → Type 0
StaysSound state o f = (shapes : List Shape) (views : List (List ℕ)) (logger : ℕ)
    → ((c : List Block) → IsImageOf (state_of state o.part).values c
    → IsSoundSegment shapes views logger c)
    → (c : List Block) → IsSince (state_of state o.part) (disk_then state f) c
    → IsSoundSegment shapes views logger c

-- what opening leaves of home and of the owned segments, whatever it answers
pub record LeavesParts {D : Type 0} (tells : Bool) (state : D → State) (id : ℕ)
    (old_home new_home : Spun D) (os : List (OwnedPart D)) (fates : List (Fate D)) : Type 0 where
  pub home : IsAsBefore state old_home new_home
  pub each : AreFates state id os fates
  pub any_moment : IsTrue tells → RecoversAsBefore state id old_home new_home os fates
  pub sound : IsTrue tells → AllZip (StaysSound state) os fates

-- a lane, with its passes used
pub record IsUsedLane {D : Type 0} (state : D → State) (shared : Shared D) (id most : ℕ)
    (old new : Lane D) : Type 0 where
  pub lane : IsOpeningLane state shared id most new
  pub same : IsSameLane old new

-- the indexes of those segments of a logger that were freed, in order
abbrev pub freed_on : {D : Type 0} → (logger : ℕ) → List (OwnedPart D) → List (Fate D) → List ℕ
freed_on logger [] fates = []
freed_on logger (o ∷ os) [] = []
freed_on logger (o ∷ os) (Kept part ∷ fates) = freed_on logger os fates
freed_on logger (o ∷ os) (Freed free ∷ fates) =
    if o.logger == logger then o.index ∷ freed_on logger os fates else freed_on logger os fates

-- the lane's pass gave these to its pool, the last first, and did nothing else there
abbrev pub HasGiven : {D : Type 0} → List (OwnedPart D) → List (Fate D) → (old new : Lane D)
    → Type 0
HasGiven os fates old new =
    pass_mine (pool_of new) ≡ pass_mine (pool_of old)
    ++ map (λ index. (pass_number (pool_of old), operation_of (Gave index)))
    (reverse (freed_on (logger_of old) os fates))

-- what is handed back: all that was given, but segments that went to their pools
pub record IsHandedBack {D : Type 0} (tells : Bool) (state : D → State) (shared : Shared D)
    (o n : Opening D) : Type 0 where
  pub same : n ≡ record o { home = n.home; spindle = n.spindle; lanes = n.lanes; owned = n.owned }
  pub spindle : IsSamePass o.spindle n.spindle
  pub spindle_free : IsFree n.spindle
  pub settled : has_token (pass_mine n.spindle) ≡ false
  pub accesses : AreAccesses (pass_mine n.spindle)
  pub lanes : AllZip (IsUsedLane state shared o.want.id o.most) o.lanes.items n.lanes.items
  pub fates : List (Fate D)
  pub owned : n.owned.items ≡ kept_of fates
  pub pools : AllZip (HasGiven o.owned.items fates) o.lanes.items n.lanes.items
  pub parts : LeavesParts tells state o.want.id o.home n.home o.owned.items fates
