-- What copies of blocks leave in a volume's history, and what is recovered at each moment.
use Rattle.std.specs.Prelude.{⊤, ◌≡◌, ◌∷◌, ◌++◌, ℕ, Bool, false, List, [], map, length, Contains, Option, None, Some, IsSome, IsTrue, slice_get}
use Rattle.std.specs.List.{AllByRecursion}
use Rattle.wol_disk.specs.Disk.{State, Block}
use Rattle.spin_model.specs.declared.spun.Spun.{Spun}
use Rattle.wol_model.specs.Blocks.{Write, after}
use Rattle.wol_model.specs.History.{Operation, Wrote, Kept, worker, writes}
use Rattle.wol_promise.specs.Manager.{Recovers}
use Rattle.wol_promise.specs.Policy.{Look}
use Rattle.wol_promise.specs.Ruled.{Noted, entries_of, last_look}
use Rattle.manager.specs.Seen.{Logs, AllLanesHold, all_held, look_of_manager}
use Rattle.manager.specs.Stands.{Keeps, Stands, IsNote}
use Rattle.logger.specs.Lanes.{held_in}
use Rattle.logger.specs.declared.lane.HeldSegment.{HeldSegment}
use Rattle.logger.specs.declared.lane.Lane.{Lane}
use Rattle.manager.specs.Stops.{ImageSince, HeldSince, WasClaimed}
use Rattle.manager.specs.declared.base.ManagerBase.{ManagerBase}
use Rattle.manager.specs.declared.manager.Manager.{Manager}
use Rattle.log_cleaner.specs.Chunks.{IsCopyOf}

-- what a turn does in which these were written: it wrote them, or left the content as it was
abbrev pub wrote : List Write → Operation
wrote [] = Kept
wrote (w ∷ ws) = Wrote (w ∷ ws)

-- the array that a manager stands for, by what it began with and its entries
abbrev pub array_of : ManagerBase → List Noted → List Block
array_of b notes = after b.volume.began.array (writes (entries_of notes))

-- Stopped at any moment of a call, whichever images since its beginning each part has, they recover
-- to this array.
abbrev pub RecoversTo : {D : Type 0} → (D → State) → (old new : Manager D)
    → (claimed : Option (Spun D)) → (owner : ℕ) → List Block → Type 0
RecoversTo state old new claimed owner array =
    (before after : Logs) → AllLanesHold (λ h rs. ⊤) old.lanes.items before
    → AllLanesHold (λ h rs. ⊤) new.lanes.items after
    → Recovers (ImageSince state old.home new.home)
    (HeldSince state (all_held 0 old.lanes.items before) claimed) owner
    (all_held 0 new.lanes.items after) (λ x. x ≡ array)

-- the indexes of the segments that a lane holds
abbrev pub indexes_of : {D : Type 0} → Lane D → List ℕ
indexes_of {D} l = map (λ (h : HeldSegment D). h.index) (held_in l)

-- each segment that a lane holds it held before
abbrev pub HoldFewer : {D : Type 0} → (old new : List (Lane D)) → Type 0
HoldFewer {D} old new = (length new ≡ length old)
    × ((k : ℕ) (o n : Lane D) → slice_get old k ≡ Some o → slice_get new k ≡ Some n
    → AllByRecursion (λ (i : ℕ). Contains (indexes_of o) i) (indexes_of n))

-- what a call claimed: no segment; or one, whose part was this one before, when it was free
abbrev pub Claims : {D : Type 0} → (tells : Bool) → (D → State) → (old new : List (Lane D))
    → (claimed : Option (Spun D)) → Type 0
Claims tells state old new None = HoldFewer old new
Claims tells state old new (Some part) = WasClaimed tells state ⊥ old new part

-- calls one after another, at each moment of each of which they do
pub data AtEachMoment {D : Type 0} (tells : Bool) (state : D → State) (owner : ℕ)
    (array : List Block) : Manager D → Manager D → Type 0 where
  no_call : (m : Manager D) → AtEachMoment tells state owner array m m
  one_more : (old mid new : Manager D) (claimed : Option (Spun D))
      → AtEachMoment tells state owner array old mid
      → Claims tells state mid.lanes.items new.lanes.items claimed
      → RecoversTo state mid new claimed owner array
      → AtEachMoment tells state owner array old new

-- the writes are copies of what the volume has, and at each moment since what is recovered is what
-- it had
pub record AreCopies {D : Type 0} (tells : Bool) (state : D → State) (old new : Manager D)
    (copies : List Write) : Type 0 where
  pub same : IsTrue tells → (b : ManagerBase) (notes : List Noted) → Keeps tells state old b notes
      → AllByRecursion (IsCopyOf (array_of b notes)) copies
  pub any_moment : IsTrue tells → (b : ManagerBase) (notes : List Noted)
      → Keeps tells state old b notes
      → AtEachMoment tells state b.volume.began.owner (array_of b notes) old new
  pub logged : AllByRecursion (λ w. IsSome w.version) copies

-- an entry, behind others, that the manager stands for with it
abbrev pub LeavesEntry : {D : Type 0} → (tells : Bool) → (D → State) → (old new : Manager D)
    → Operation → Type 0
LeavesEntry tells state old new operation =
    (b : ManagerBase) (notes : List Noted) (n : Noted) → n.entry.pass ≡ worker
    → IsNote (last_look b.volume.began.look notes) operation [] (look_of_manager new) n
    → Keeps tells state old b notes → Stands tells state new b (notes ++ n ∷ [])

-- an entry of a turn that wrote these, and none where nothing was written
abbrev pub copy_notes : Look → List Write → List Noted
copy_notes look [] = []
copy_notes look (w ∷ ws) = record {
  entry = record { pass = worker; operation = Wrote (w ∷ ws) };
  look = look;
  passed = [];
  after_drain = false;
  ruled = false;
} ∷ []

-- what the manager kept up it keeps up with such an entry
abbrev pub KeepsCopies : {D : Type 0} → (tells : Bool) → (D → State) → (old new : Manager D)
    → List Write → Type 0
KeepsCopies tells state old new copies =
    (b : ManagerBase) (notes : List Noted) (look : Look) → Keeps tells state old b notes
    → Keeps tells state new b (notes ++ copy_notes look copies)
