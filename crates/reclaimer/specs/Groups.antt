-- Due blocks of several records that go home with one sync.
use Rattle.std.specs.Prelude.{◌≡◌, ◌<◌, ◌≤◌, ◌^◌, ℕ, Bool, true, List, [], ◌∷◌, ◌++◌, filter, length, take, replicate, Result, Ok, Err, if◌then◌else◌}
use Rattle.std.specs.List.{AllByRecursion, AllZip}
use Rattle.wol_disk.specs.Disk.{State, Block}
use Rattle.wol_model.specs.Index.{Indexed, listed_in, is_due}
use Rattle.wol_promise.specs.Ruled.{Noted}
use Rattle.block_cells.specs.Masks.{IsMask}
use Rattle.redirect_map.specs.Index.{changed, HasVersion}
use Rattle.garbage_list.specs.Least.{can_go_home}
use Rattle.manager.specs.Reading.{LaneRead}
use Rattle.manager.specs.Reclaim.{AreDue, AreHome, AreLaid, HasFetched, HasLaid, HasSynced, with_put}
use Rattle.manager.specs.declared.base.ManagerBase.{ManagerBase}
use Rattle.manager.specs.declared.manager.Manager.{Manager}
use Rattle.manager.specs.declared.part.StepFault.{StepFault}
use Rattle.manager.specs.declared.part.StepFault.TheVariants.{DiskFault, Down}
use Rattle.reclaimer.specs.declared.group.Laid.{Laid}

-- ---- Which records

-- the lanes within reach: all of them, or those whose loggers are awake for the manager
abbrev pub lanes_of : {D : Type 0} → (any : Bool) → Manager D → List Bool
lanes_of any m = if any then replicate 16 true else m.ups.items

-- the first records within reach that have a due block; a group has at most so many
abbrev pub group_of : (lanes : List Bool) → List Indexed → List Indexed
group_of lanes es = take 128 (filter (can_go_home lanes es) es)

-- ---- What is done

-- the record was read, by one access to its logger, and its due blocks were written home, by one
-- access to home, without a sync
pub record LaysRecord {D : Type 0} (state : D → State) (e : Indexed) (mask : ℕ)
    (old new : Manager D) : Type 0 where
  pub read : Manager D
  pub blocks : List Block
  pub fetched : HasFetched e.listed.lane old read
  pub due : IsMask e.listed.first (is_due (listed_in old.index.entries) e.listed) mask
  pub laid : HasLaid {T = Unit {0}} state e.listed.version mask blocks read new (Ok tt)

-- so it was with each of these, one after another; a mark has a record's version and mask
pub data LaysEach {D : Type 0} (state : D → State) (old : Manager D) :
    List Indexed → List Laid → Manager D → Type 0 where
  none : LaysEach state old [] [] old
  more : (es : List Indexed) (group : List Laid) (m n : Manager D) (e : Indexed) (mask : ℕ)
      → LaysEach state old es group m → LaysRecord state e mask m n
      → LaysEach state old (es ++ e ∷ [])
      (group ++ record { version = e.listed.version; mask = mask } ∷ []) n

-- the blocks of each mark are homed
abbrev pub marked : List Laid → List Indexed → List Indexed
marked [] es = es
marked (p ∷ ps) es = marked ps (changed p.version (with_put p.mask) es)

-- The due blocks of the first records were written home, which was then synced, by one access, and
-- then they became homed.
pub record PutsGroup {D : Type 0} (state : D → State) (any : Bool) (count : ℕ)
    (old new : Manager D) : Type 0 where
  pub group : List Laid
  -- each of them has such a block
  pub many : length group ≤ count
  pub laid : Manager D
  pub synced : Manager D
  pub each : LaysEach state old (group_of (lanes_of any old) old.index.entries) group laid
  pub sync : HasSynced {T = Unit {0}} state laid synced (Ok tt)
  pub rest : new ≡ record synced { index = new.index }
  pub index : new.index.entries ≡ marked group old.index.entries

-- Where some were to go home they did. Else nothing was changed; and where a call failed, the index
-- wasn't.
abbrev pub HasPutGroup : {D : Type 0} → (D → State) → (any : Bool) → Result ℕ StepFault
    → (old new : Manager D) → Type 0
HasPutGroup state any (Ok count) old new =
    (count ≡ 0 → new ≡ old) × (0 < count → PutsGroup state any count old new)
HasPutGroup state any (Err (DiskFault p)) old new = new.index ≡ old.index
HasPutGroup state any (Err (Down p)) old new = new ≡ old

-- ---- Between the steps

-- segments alone were read, and nothing of home's name is another
pub record ReadsLanes {D : Type 0} (state : D → State) (old new : Manager D) : Type 0 where
  pub id : new.id ≡ old.id
  pub lanes : AllZip (LaneRead state) old.lanes.items new.lanes.items

-- what is marked is due in a record of its version, in which some of its blocks are
pub record IsToMark (es : List Indexed) (p : Laid) : Type 0 where
  pub there : HasVersion es p.version
  pub due : AreDue es p.version p.mask
  pub some : 0 < p.mask
  pub fits : p.mask < 2 ^ 128

-- home reads as if the blocks of each mark were there
abbrev pub AllLaid : {D : Type 0} → (tells : Bool) → (D → State) → Manager D → List Laid
    → ManagerBase → List Noted → Type 0
AllLaid tells state m group b notes =
    AllByRecursion (λ p. AreLaid tells state m p.version p.mask b notes) group

-- they are there, and home is synced
abbrev pub AllHome : {D : Type 0} → (tells : Bool) → (D → State) → Manager D → List Laid
    → ManagerBase → List Noted → Type 0
AllHome tells state m group b notes =
    AllByRecursion (λ p. AreHome tells state m p.version p.mask b notes) group
