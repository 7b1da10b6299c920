-- What the steps of reclaim do to a manager, by their answers.
use Rattle.std.specs.Prelude.{⊤, ◌≡◌, ◌∷◌, [], ◌++◌, ℕ, Bool, true, List, filter, length, option_map, ◌+◌, slice_set, None, Some, Result, Ok, Err, IsOk, IsTrue, OnOk, OnErr}
use Rattle.std.specs.Option.{ForSome}
use Rattle.wol_disk.specs.Disk.{State, Block, reads, settled}
use Rattle.spin_model.specs.Spun.{state_of}
use Rattle.wol_model.specs.Blocks.{overlaid}
use Rattle.wol_model.specs.History.{Broke, writes}
use Rattle.wol_model.specs.Index.{Indexed, listed_in, is_due}
use Rattle.wol_model.specs.Log.{has_bit}
use Rattle.wol_promise.specs.Ruled.{Noted, entries_of, last_look}
use Rattle.wol_promise.specs.Stands.{IsDataOf}
use Rattle.redirect_map.specs.Index.{entry_at, changed}
use Rattle.manager.specs.Accesses.{HasUsedOnce}
use Rattle.manager.specs.Causes.{PartRose}
use Rattle.manager.specs.Offers.{ChangesLane}
use Rattle.manager.specs.Reading.{IsReadThrough}
use Rattle.manager.specs.Seen.{look_of_manager}
use Rattle.manager.specs.Stands.{Keeps, Stands, IsNote, entries_at}
use Rattle.manager.specs.Stops.{Stops}
use Rattle.manager.specs.declared.base.ManagerBase.{ManagerBase}
use Rattle.manager.specs.declared.manager.Manager.{Manager}
use Rattle.manager.specs.declared.part.StepFault.{StepFault}
use Rattle.manager.specs.declared.part.StepFault.TheVariants.{DiskFault, Down}
pub use Rattle.volume_parts.specs.Offers.{IsUsed, IsTrimmedLane}
pub use Rattle.volume_parts.specs.Changes.{put_block, with_put, with_kept, given_of, lies_elsewhere, NoneLiveIn, AllGoIn, GoesIn, stays_behind}
pub use Rattle.volume_parts.specs.Accesses.{IsPartlyPut, IsPut, IsLaid, IsSynced}

-- ---- Answers

-- P, where a disk was to answer
abbrev pub OnTried : {T : Type 0} → Result T StepFault → Type 0 → Type 0
OnTried (Ok x) P = P
OnTried (Err (DiskFault p)) P = P
OnTried (Err (Down p)) P = ⊤

-- P, unless a disk call failed
abbrev pub OnKept : {T : Type 0} → Result T StepFault → Type 0 → Type 0
OnKept (Ok x) P = P
OnKept (Err (DiskFault p)) P = ⊤
OnKept (Err (Down p)) P = P

-- P, where one failed
abbrev pub OnFailed : {T : Type 0} → Result T StepFault → Type 0 → Type 0
OnFailed (Ok x) P = ⊤
OnFailed (Err (DiskFault p)) P = P
OnFailed (Err (Down p)) P = ⊤

-- Refused as down exactly where the manager was down, with the part that it keeps and with nothing
-- changed. After a disk call failed its part is told as down, and its count rose; after a step that
-- was done nothing is down.
abbrev pub TellsStep : {D T : Type 0} → (D → State) → Result T StepFault → (old new : Manager D)
    → Type 0
TellsStep state (Ok x) old new = (old.down ≡ None) × (new.down ≡ None)
TellsStep state (Err (DiskFault p)) old new =
    (old.down ≡ None) × (new.down ≡ Some p) × PartRose state old new p
TellsStep state (Err (Down p)) old new = (old.down ≡ Some p) × (new ≡ old)

-- ---- What the manager stands for

-- What the manager kept up it keeps up still, for the same entries, where this holds of what it
-- began with and of them.
abbrev pub KeepsOn : {D : Type 0} → (tells : Bool) → (D → State) → (old new : Manager D)
    → (ManagerBase → List Noted → Type 0) → Type 0
KeepsOn tells state old new Where = (b : ManagerBase) (notes : List Noted) → Where b notes
    → Keeps tells state old b notes → Keeps tells state new b notes

-- It stands for an entry more, which has nothing in flight.
abbrev pub BreaksOff : {D : Type 0} → (tells : Bool) → (D → State) → (old new : Manager D)
    → (ManagerBase → List Noted → Type 0) → Type 0
BreaksOff tells state old new Where = (b : ManagerBase) (notes : List Noted) (n : Noted)
    → Where b notes
    → IsNote (last_look b.volume.began.look notes) (Broke []) [] (look_of_manager new) n
    → Keeps tells state old b notes → Stands tells state new b (notes ++ n ∷ [])

-- Stopped at any moment since an earlier one, after which there were reads alone, what is recovered
-- is what it stood for then.
abbrev pub StopsSince : {D : Type 0} → (tells : Bool) → (D → State) → (old new : Manager D)
    → (ManagerBase → List Noted → Type 0) → Type 0
StopsSince {D} tells state old new Where =
    (was : Manager D) → IsReadThrough state was old → (b : ManagerBase) (notes : List Noted)
    → Where b notes → Keeps tells state was b notes → Stops state was new None b notes []

-- whatever it began with
abbrev pub Always : ManagerBase → List Noted → Type 0
Always b notes = ⊤

-- the blocks are those of this version
abbrev pub AreOf : (tells : Bool) → List Indexed → (version : ℕ) → List Block → ManagerBase
    → List Noted → Type 0
AreOf tells es version blocks b notes =
    IsTrue tells → ForSome (entry_at es version)
    (λ e. IsDataOf b.volume.began (writes (entries_of notes)) version e.listed.first blocks)

-- ---- Reads of a record

-- Of the manager nothing changed but the lane at this place, whose logger counts as awake.
pub record HasFetched {D : Type 0} (lane : ℕ) (old new : Manager D) : Type 0 where
  pub rest : new ≡ record old {
    lanes = new.lanes;
    ups = record { items = slice_set old.ups.items lane true };
    down = new.down;
  }
  pub lanes : ChangesLane IsUsed lane old.lanes.items new.lanes.items

-- ---- Blocks that are put home

-- Of the manager nothing changed but home, which took these blocks and counts as awake, and the
-- marks of home of this version.
pub record HasStored {D T : Type 0} (state : D → State) (version mask : ℕ) (blocks : List Block)
    (old new : Manager D) (res : Result T StepFault) : Type 0 where
  pub rest : new ≡ record old
      { home = new.home; spindle = new.spindle; index = new.index; home_up = true; down = new.down }
  pub used : HasUsedOnce old.spindle new.spindle
  pub home : ForSome (entry_at old.index.entries version)
      (λ e. IsPut state old.home new.home (put_block e.listed.first mask blocks) res)
  pub ok : OnOk res (new.index.entries ≡ changed version (with_put mask) old.index.entries)
  pub err : OnErr res (new.index ≡ old.index)

-- ---- Blocks that are put home in groups: laid there, synced together, and then marked

-- Of the manager nothing changed but home, to which these blocks were written without a sync, and
-- which counts as awake.
pub record HasLaid {D T : Type 0} (state : D → State) (version mask : ℕ) (blocks : List Block)
    (old new : Manager D) (res : Result T StepFault) : Type 0 where
  pub rest : new ≡ record old
      { home = new.home; spindle = new.spindle; home_up = true; down = new.down }
  pub used : HasUsedOnce old.spindle new.spindle
  pub home : ForSome (entry_at old.index.entries version)
      (λ e. IsLaid state old.home new.home (put_block e.listed.first mask blocks) res)

-- Nothing changed but home, which was synced and counts as awake.
pub record HasSynced {D T : Type 0} (state : D → State) (old new : Manager D)
    (res : Result T StepFault) : Type 0 where
  pub rest : new ≡ record old
      { home = new.home; spindle = new.spindle; home_up = true; down = new.down }
  pub used : HasUsedOnce old.spindle new.spindle
  pub home : IsSynced state old.home new.home res

-- the blocks of the mask are due in the record of this version
abbrev pub AreDue : List Indexed → (version mask : ℕ) → Type 0
AreDue es version mask = ForSome (entry_at es version) (λ e. (i : ℕ) → has_bit mask i ≡ true
    → is_due (listed_in es) e.listed (e.listed.first + i) ≡ true)

-- Home reads as if the blocks of this version were there in the places of the mask: to put them
-- there would change nothing. A crash may leave some of them.
abbrev pub AreLaid : {D : Type 0} → (tells : Bool) → (D → State) → Manager D → (version mask : ℕ)
    → ManagerBase → List Noted → Type 0
AreLaid tells state m version mask b notes =
    IsTrue tells → ForSome (entry_at m.index.entries version)
    (λ e. (blocks : List Block) × (length blocks ≡ length e.listed.keep)
    × IsDataOf b.volume.began (writes (entries_of notes)) version e.listed.first blocks
    × (option_map (λ vs. overlaid (reads vs) (put_block e.listed.first mask blocks))
    (state_of state m.home).values ≡ option_map reads (state_of state m.home).values))

-- they are there, and home is synced
abbrev pub AreHome : {D : Type 0} → (tells : Bool) → (D → State) → Manager D → (version mask : ℕ)
    → ManagerBase → List Noted → Type 0
AreHome tells state m version mask b notes = AreLaid tells state m version mask b notes
    × (IsTrue tells → (state_of state m.home).values
    ≡ option_map settled (state_of state m.home).values)

-- ---- Blocks that are given up

-- Of the manager nothing changed but the lane at this place, whose logger counts as awake, and the
-- index. The record's segment went to its pool exactly where no record is left in it.
pub record HasDropped {D T : Type 0} (version : ℕ) (e : Indexed) (old new : Manager D)
    (res : Result T StepFault) : Type 0 where
  pub rest : new ≡ record old {
    lanes = new.lanes;
    index = new.index;
    ups = record { items = slice_set old.ups.items e.listed.lane true };
    down = new.down;
  }
  pub lanes : ChangesLane (IsTrimmedLane e.index
      (entries_at e.listed.lane e.index new.index.entries ≡ 0)) e.listed.lane old.lanes.items
      new.lanes.items
  pub ok : OnOk res (new.index.entries ≡ given_of version old.index.entries)
  pub err : OnErr res (new.index ≡ old.index)

-- ---- Segments that are given up with all their records

-- Of the manager nothing changed but the lane at this place, whose logger counts as awake, and the
-- index. The segment went to its pool with all its records, or it is held still, with all of them.
pub record HasDroppedSegment {D T : Type 0} (lane index : ℕ) (old new : Manager D)
    (res : Result T StepFault) : Type 0 where
  pub rest : new ≡ record old {
    lanes = new.lanes;
    index = new.index;
    ups = record { items = slice_set old.ups.items lane true };
    down = new.down;
  }
  pub lanes : ChangesLane (IsTrimmedLane index (IsOk res)) lane old.lanes.items new.lanes.items
  pub ok : OnOk res (new.index.entries ≡ filter (lies_elsewhere lane index) old.index.entries)
  pub err : OnErr res (new.index ≡ old.index)
