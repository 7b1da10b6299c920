-- What the steps of reclaim do to a manager, by their answers.
use Rattle.std.specs.Prelude.{⊤, ◌≡◌, ◌<◌, ℕ, Bool, List, [], length, Option, None, Some, IsSome, IsNone, IsSomeAnd, Result, Ok, Err}
use Rattle.wol_disk.specs.Disk.{State}
use Rattle.wol_model.specs.Index.{listed_in}
use Rattle.wol_promise.specs.Policy.{IsReclaim}
use Rattle.wol_promise.specs.Ruled.{Noted}
use Rattle.block_cells.specs.Masks.{IsMask}
use Rattle.redirect_map.specs.Index.{entry_at}
use Rattle.manager.specs.Reclaim.{HasFetched, HasStored, HasDropped}
use Rattle.manager.specs.Seen.{look_of_manager}
use Rattle.manager.specs.Stands.{Keeps}
use Rattle.manager.specs.Stops.{Stops}
use Rattle.manager.specs.declared.base.ManagerBase.{ManagerBase}
use Rattle.manager.specs.declared.manager.Manager.{Manager}
use Rattle.manager.specs.declared.part.StepFault.{StepFault}
use Rattle.manager.specs.declared.part.StepFault.TheVariants.{DiskFault, Down}
use Rattle.reclaimer.specs.Fetches.{IsFetchOf, due_entry, going_entry, goes_home}
use Rattle.reclaimer.specs.Records.{FetchedRecord}
use Rattle.reclaimer.specs.declared.answers.Fetched.{Fetched}
use Rattle.reclaimer.specs.declared.answers.Fetched.TheVariants as fetched
use Rattle.reclaimer.specs.declared.answers.Gone.{Gone}
use Rattle.reclaimer.specs.declared.answers.Gone.TheVariants as gone

-- Stopped at any moment of the step, what is recovered is what the manager stood for before it.
abbrev pub StopsWithin : {D : Type 0} → (tells : Bool) → (D → State) → (old new : Manager D)
    → (ManagerBase → List Noted → Type 0) → Type 0
StopsWithin tells state old new Where =
    (b : ManagerBase) (notes : List Noted) → Where b notes → Keeps tells state old b notes
    → Stops state old new None b notes []

-- ---- Fetching

-- The record that is next was read, by one access to its logger, and the fetch has it. Else the
-- fetch is empty; and nothing was changed, unless a disk call failed.
abbrev pub HasFetchedNext : {D : Type 0} → Result Fetched StepFault → (old new : Manager D)
    → Option FetchedRecord → Type 0
HasFetchedNext (Ok (fetched.Some version count)) old new into = IsSomeAnd (due_entry old)
    (λ e. (version ≡ e.listed.version) × (count ≡ length e.listed.keep)
    × IsSomeAnd into (IsFetchOf (listed_in old.index.entries) e)
    × HasFetched e.listed.lane old new)
HasFetchedNext (Ok fetched.Nothing) old new into = (into ≡ None) × (new ≡ old)
HasFetchedNext (Err (DiskFault p)) old new into =
    (into ≡ None) × IsSomeAnd (due_entry old) (λ e. HasFetched e.listed.lane old new)
HasFetchedNext (Err (Down p)) old new into = (into ≡ None) × (new ≡ old)

-- ---- Putting home

-- the fetched blocks that go home were written there and synced, and nothing else was
abbrev pub StoresDue : {D : Type 0} → (D → State) → Result ℕ StepFault → (old new : Manager D)
    → FetchedRecord → Type 0
StoresDue state answer old new f = (mask : ℕ) × IsMask f.first (goes_home old (Some f)) mask
    × HasStored state f.version mask f.blocks old new answer

-- Where some were to go home they did, by one access to home. Else nothing was changed.
abbrev pub HasPutHome : {D : Type 0} → (D → State) → Result ℕ StepFault → (old new : Manager D)
    → Option FetchedRecord → Type 0
HasPutHome state (Ok count) old new from =
    (count ≡ 0 → new ≡ old) × (0 < count → IsSomeAnd from (StoresDue state (Ok count) old new))
HasPutHome state (Err (DiskFault p)) old new from =
    IsSomeAnd from (StoresDue state (Err (DiskFault p)) old new)
HasPutHome state (Err (Down p)) old new from = new ≡ old

-- The look goes on by a step of reclaim where blocks were put home, and else it stays.
abbrev pub LooksPut : {D : Type 0} → Result ℕ StepFault → (old new : Manager D) → Type 0
LooksPut (Ok count) old new = (count ≡ 0 → look_of_manager new ≡ look_of_manager old)
    × (0 < count → IsReclaim (look_of_manager old) (look_of_manager new))
LooksPut (Err (DiskFault p)) old new = ⊤
LooksPut (Err (Down p)) old new = look_of_manager new ≡ look_of_manager old

-- ---- Giving up

-- The record that is next gave up what may go, by one access to its logger. Else nothing was
-- changed.
abbrev pub HasGivenUp : {D : Type 0} → Result Gone StepFault → (old new : Manager D) → Type 0
HasGivenUp (Ok (gone.Version version)) old new = IsSomeAnd (going_entry old)
    (λ e. (version ≡ e.listed.version) × IsNone (entry_at new.index.entries version)
    × HasDropped version e old new (Ok (gone.Version version)))
HasGivenUp (Ok (gone.Trimmed version)) old new = IsSomeAnd (going_entry old)
    (λ e. (version ≡ e.listed.version) × IsSome (entry_at new.index.entries version)
    × HasDropped version e old new (Ok (gone.Trimmed version)))
HasGivenUp (Ok gone.Nothing) old new = new ≡ old
HasGivenUp (Err (DiskFault p)) old new =
    let failed : Result Gone StepFault = Err (DiskFault p) in
    IsSomeAnd (going_entry old) (λ e. HasDropped e.listed.version e old new failed)
HasGivenUp (Err (Down p)) old new = new ≡ old

-- The look goes on by a step of reclaim where blocks were given up, and else it stays.
abbrev pub LooksGone : {D : Type 0} → Result Gone StepFault → (old new : Manager D) → Type 0
LooksGone (Ok (gone.Version version)) old new =
    IsReclaim (look_of_manager old) (look_of_manager new)
LooksGone (Ok (gone.Trimmed version)) old new =
    IsReclaim (look_of_manager old) (look_of_manager new)
LooksGone (Ok gone.Nothing) old new = look_of_manager new ≡ look_of_manager old
LooksGone (Err (DiskFault p)) old new = ⊤
LooksGone (Err (Down p)) old new = look_of_manager new ≡ look_of_manager old
