-- What the program has of a volume, and what its actions do.
use Rattle.std.specs.Prelude.{◌≡◌, ℕ, ◌*◌, ◌<◌, ◌≤◌, true, false, List, [], ◌∷◌, length, map, Option, None, Some, replicate, slice_get}
use Rattle.std.specs.Option.{option_map_or}
use Rattle.std.specs.List.{AllByRecursion}
use Rattle.offload_policy.specs.declared.Room.TheVariants.{Yes}
use Rattle.wol_model.specs.Index.{Indexed, listed_in}
use Rattle.wol_model.specs.Journal.{SpindleState}
use Rattle.wol_promise.specs.Policy.{Look}
use Rattle.whatif.specs.declared.disk.Disk.{Disk}
use Rattle.whatif.specs.declared.volume.Volume.{Volume}
use Rattle.whatif.specs.declared.store.Given.{Given}
use Rattle.whatif.specs.declared.store.Segment.{Segment}
use Rattle.whatif.specs.declared.store.Shelf.{Shelf}
use Rattle.whatif.specs.declared.store.Store.{Store}
use Rattle.whatif.specs.Logs as logs
use Rattle.whatif.specs.Logs.{Gives, Move, all_moved, no_shelf}
use Rattle.whatif.specs.Disks.{AreDisks}
use Rattle.whatif.specs.Machine.{Reach, Action, next_due, next_to_go, all_accessed}
use Rattle.whatif.specs.Machine as machine
use Rattle.whatif.specs.Waits.{wait_on}

abbrev pub reach_in : Volume → Reach
reach_in v = record { own = v.own; loggers = v.loggers.items }

abbrev pub look_in : Volume → Look
look_in v = record {
  home_up = v.home_up;
  ups = v.ups.items;
  next = v.next;
  listed = listed_in v.index.entries;
  down = None;
}

abbrev pub segment_in : Segment → logs.Segment
segment_in s = record { left = s.left; records = s.records.items }

abbrev pub shelf_in : Shelf → logs.Shelf
shelf_in h = record { kept = h.kept; segments = map segment_in h.segments.items }

-- what it has on the disk of this number: nothing where there is none
abbrev pub shelf_at : List Shelf → (disk : ℕ) → logs.Shelf
shelf_at hs disk = option_map_or shelf_in (slice_get hs disk) no_shelf

abbrev pub store_in : Store → logs.Store
store_in s = record { whole = s.whole; kept = s.kept; shelf = shelf_at s.shelves.items }

abbrev pub volume_in : Volume → machine.Volume
volume_in v = record { reach = reach_in v; look = look_in v; store = store_in v.store }

-- so many versions were given to records of 128 blocks at most; there is room for what comes to its
-- loggers
pub record IsStore (next : ℕ) (loggers : List ℕ) (s : Store) : Type 0 where
  pub kept : s.kept ≤ 128 * next
  pub shelves_ : AllByRecursion (λ (h : Shelf). h.kept ≤ 128 * next) s.shelves.items
  pub within : AllByRecursion (λ d. d < length s.shelves.items) loggers

-- its disks are among so many
pub record IsWithin (disks : ℕ) (r : Reach) : Type 0 where
  pub own : r.own < disks
  pub loggers : AllByRecursion (λ d. d < disks) r.loggers

-- a record has a logger, and a version that was given
pub record IsLogged (lanes next : ℕ) (e : Indexed) : Type 0 where
  pub lane : e.listed.lane < lanes
  pub version : e.listed.version < next

-- with no further disk awake there is nothing to reclaim
pub record IsSettled (l : Look) : Type 0 where
  pub due : next_due l ≡ None
  pub going : next_to_go l ≡ None

-- what is so of each volume between its actions
pub record IsVolume (v : Volume) : Type 0 where
  pub few : length v.loggers.items ≤ 64
  pub flags : length v.ups.items ≡ length v.loggers.items
  pub rooms_ : v.rooms.items ≡ replicate (length v.loggers.items) Yes
  pub logged : AllByRecursion (IsLogged (length v.ups.items) v.next) v.index.entries
  pub settled : v.settled ≡ true → IsSettled (look_in v)
  pub store_ : IsStore v.next v.loggers.items v.store

-- a step of reclaim left the volume in order and not settled, and what it may use and the version
-- of its next write as they were; it did this in logs
pub record StaysOpen (moves : List Move) (old new : Volume) : Type 0 where
  pub volume : IsVolume new
  pub settled : new.settled ≡ false
  pub reach : reach_in new ≡ reach_in old
  pub next : new.next ≡ old.next
  pub store : store_in new.store ≡ all_moved moves (store_in old.store)

-- a volume did this, and used disks for it
pub record HasDone (action : Reach → Look → Action) (old new : Volume) (was is : List Disk) :
    Type 0 where
  pub reach : reach_in new ≡ reach_in old
  pub look : look_in new ≡ (action (reach_in old) (look_in old)).look
  pub store : store_in new.store
      ≡ all_moved (action (reach_in old) (look_in old)).moves (store_in old.store)
  pub disks : (timeout : ℕ) (ss : List SpindleState) → AreDisks was ss
      → AreDisks is (all_accessed timeout (action (reach_in old) (look_in old)).uses ss)

-- a step of reclaim that was done, by the disk of the logger that it used
abbrev pub put_answer : Reach → Look → Option ℕ → Option Action
put_answer r l None = None
put_answer r l (Some logger) =
    Some (record { look = l; uses = logger ∷ r.own ∷ []; moves = [] })

abbrev pub give_answer : Look → Option Given → Option Action
give_answer l None = None
give_answer l (Some g) = Some (record { look = l; uses = g.disk ∷ []; moves = Gives g ∷ [] })

-- what is done in logs for such a step
abbrev pub given_moves : Option Given → List Move
given_moves None = []
given_moves (Some g) = Gives g ∷ []

-- a request that does this waits so long, where a disk takes `wake` to come up
abbrev pub IsLate : (wake : ℕ) → (action : Reach → Look → Action) → (old : Volume) → (was : List Disk)
    → (wait : ℕ) → Type 0
IsLate wake action old was wait = (timeout : ℕ) (ss : List SpindleState) → AreDisks was ss
    → wait ≡ wait_on timeout wake (action (reach_in old) (look_in old)).uses ss
