-- Runs of writes: what their items stand for, and what becomes of them.
use Rattle.std.specs.Prelude.{◌≡◌, ◌⊎◌, ◌↔◌, ◌≤◌, ◌<◌, ◌+◌, ◌^◌, ℕ, Bool, true, List, [], Result, Ok, Err, OnOk, IsOk, IsNone, IfSome, length, map, take, Option, None, Some}
use Rattle.wol_disk.specs.Disk.{Block, State}
use Rattle.spin_model.specs.Spun.{state_of}
use Rattle.spin_model.specs.declared.spun.Spun.{Spun}
use Rattle.wol_model.specs.Blocks.{Write}
use Rattle.wol_model.specs.History.{Operation, Wrote, Kept, Broke, worker}
use Rattle.wol_model.specs.Placing.{Log as InLog}
use Rattle.wol_promise.specs.Policy.{AreWrites}
use Rattle.wol_promise.specs.Ruled.{Noted}
use Rattle.log_segment.specs.Records.{count_of}
use Rattle.log_segment.specs.declared.item.Item.{Item}
use Rattle.offload_policy.specs.declared.Room.{Room}
use Rattle.logger.specs.Lanes.{logger_of, first_count}
use Rattle.logger.specs.declared.shared.Shared.{Shared}
use Rattle.manager.specs.Answers.{IsPlaceOf}
use Rattle.manager.specs.Causes.{NoneRose}
use Rattle.manager.specs.Offers.{IsTurnedAway, HasTakenWrite, ChangesLane}
use Rattle.manager.specs.Seen.{look_of_manager}
use Rattle.manager.specs.Stands.{Keeps, CanServe, IsReady, IsHome, Leaves, LeavesPassing, passed_in}
use Rattle.manager.specs.Stops.{StopsWith, StopsClaiming, TellsClaim}
use Rattle.manager.specs.declared.base.ManagerBase.{ManagerBase}
use Rattle.manager.specs.declared.manager.Manager.{Manager}
use Rattle.manager.specs.Writing.{ruled_place, was_tried, takes_at, HaveAnswered, NeedsHome, NeedsLogs, TellsFault, IsAsBefore, IsLogAnswer}
use Rattle.manager.specs.declared.run.Ran.{Ran}
use Rattle.manager.specs.declared.part.Part.{Part}
use Rattle.manager.specs.declared.part.Place.{Place}
use Rattle.manager.specs.declared.part.WriteRefusal.{WriteRefusal}
use Rattle.manager.specs.declared.part.WriteRefusal.TheVariants.{Full, DiskFault, Down, VersionsSpent, NoMemory}
use Rattle.wol_model.specs.Placing as placing
use Rattle.manager.specs.declared.part.Part.TheVariants as part
use Rattle.manager.specs.declared.part.Place.TheVariants as place
pub use Rattle.volume_parts.specs.Items.{IsItemOf, AreItemsOf, writes_to_home, log_writes, IsGroup, placed_all, first_lbn, first_blocks}

-- ---- Writes

-- the writes that an answer acknowledges, or that were in flight when a disk call failed
abbrev pub run_writes : (next : ℕ) → List Item → List Block → Result Place WriteRefusal → List Write
run_writes next items from (Ok place.Home) = writes_to_home items from
run_writes next items from (Ok (place.Log logger)) = log_writes next items from
run_writes next items from (Err (DiskFault (part.Home volume))) = writes_to_home items from
run_writes next items from (Err (DiskFault (part.Segment volume index))) =
    log_writes next items from
run_writes next items from (Err Full) = []
run_writes next items from (Err (Down p)) = []
run_writes next items from (Err VersionsSpent) = []
run_writes next items from (Err NoMemory) = []

-- what writes with this answer leave in the history
abbrev pub run_written : List Write → Result Place WriteRefusal → Operation
run_written ws (Ok p) = Wrote ws
run_written ws (Err (DiskFault p)) = Broke ws
run_written ws (Err Full) = Kept
run_written ws (Err (Down p)) = Kept
run_written ws (Err VersionsSpent) = Kept
run_written ws (Err NoMemory) = Kept

-- ---- Answers

-- the answer of a run without the number of its items
abbrev pub place_told : Result (ℕ × Place) WriteRefusal → Result Place WriteRefusal
place_told (Ok told) = Ok told.1
place_told (Err refusal) = Err refusal

-- where the rule places the first item, with room in each lane but those that are noted to have
-- none
abbrev pub ruled_run : {D : Type 0} → (old new : Manager D) → List Item → List Block → placing.Place
ruled_run old new items from = ruled_place old new (first_lbn items) (first_blocks items from)

-- how many versions were given out: one for each item that is in a log
abbrev pub given_out : Result Place WriteRefusal → (tried : ℕ) → ℕ
given_out (Ok place.Home) tried = 0
given_out (Ok (place.Log logger)) tried = tried
given_out (Err refusal) tried = 0

-- ---- A lane that is asked

-- what a run of items needs of the manager, with a version and a place in the index for each, and
-- of their blocks
pub record CanRun {D : Type 0} (state : D → State) (shared : Shared D) (m : Manager D)
    (items : List Item) (from : List Block) : Type 0 where
  pub serves : CanServe state shared m
  pub some : 1 ≤ length items
  pub each : AreItemsOf m.most (state_of state m.home).size items
  pub blocks : count_of items ≤ length from
  pub next : m.next + length items ≤ 2 ^ 63
  pub reserved : length items ≤ m.index.reserved

-- The lane at this place had no room for so many blocks, and this is noted of rooms. Nothing else
-- changed.
pub record WasTurnedAway {D : Type 0} (tells : Bool) (state : D → State) (lane count : ℕ)
    (rooms : List Room) (old new : Manager D) : Type 0 where
  pub rest : new ≡ record old { lanes = new.lanes; rooms = record { items = rooms } }
  pub lanes : ChangesLane (IsTurnedAway count) lane old.lanes.items new.lanes.items
  pub keeps : (b : ManagerBase) (notes : List Noted) → Keeps tells state old b notes
      → Keeps tells state new b notes

-- The lane at this place took some first items as one group, or a segment of it failed at them;
-- then no version is given out. Wherever the call is stopped, each choice of images recovers to a
-- cut by some first ones of their writes.
pub record HasTakenRun {D : Type 0} (tells : Bool) (state : D → State) (lane : ℕ)
    (items : List Item) (from : List Block) (ran : Ran) (old new : Manager D) : Type 0 where
  pub tried : (1 ≤ ran.items) × (ran.items ≤ length items)
  pub answer : IsLogAnswer (map logger_of old.lanes.items) lane ran.answer
  pub rest : new ≡ record old {
    lanes = new.lanes;
    index = new.index;
    next = new.next;
    ups = new.ups;
    down = new.down;
  }
  pub lanes : ChangesLane (HasTakenWrite (first_count items)) lane old.lanes.items new.lanes.items
  pub stands : LeavesPassing tells state old new
      (run_written (log_writes old.next (take ran.items items) from) ran.answer) worker
  pub look : OnOk ran.answer (look_of_manager new ≡ placed_all (InLog lane) (look_of_manager old)
      (log_writes old.next (take ran.items items) from))
  pub next : new.next ≡ old.next + given_out ran.answer ran.items
  pub fault : TellsFault state ran.answer old new
  pub calm : OnOk ran.answer (NoneRose state old new)
  pub any_moment : StopsClaiming tells state (IsOk ran.answer) old new
      (log_writes old.next (take ran.items items) from)

-- what the lane at this place needs to be offered a run
pub record CanOffer {D : Type 0} (state : D → State) (shared : Shared D) (m : Manager D) (lane : ℕ)
    (items : List Item) (from : List Block) : Type 0 where
  pub run : CanRun state shared m items from
  pub there : lane < length m.lanes.items

-- What comes of the offer: the answer tells what the lane took. None comes where it has no room for
-- the first item, and then this is what is noted of each lane's room.
pub record HasOffered {D : Type 0} (tells : Bool) (state : D → State) (shared : Shared D)
    (lane : ℕ) (items : List Item) (from : List Block) (noted : List Room) (ran : Option Ran)
    (old new : Manager D) : Type 0 where
  pub ready : IsReady state new
  pub at : IsHome shared new
  pub turned_away : IsNone ran → WasTurnedAway tells state lane (first_count items) noted old new
  pub taken : IfSome ran (λ r. HasTakenRun tells state lane items from r old new)

-- ---- The whole

-- So many first items were tried: at least one where a disk was to take them, and one alone where
-- that is home.
pub record AreTried (tried : ℕ) (items : List Item) (answer : Result Place WriteRefusal) :
    Type 0 where
  pub within : tried ≤ length items
  pub some : was_tried answer ≡ true → 1 ≤ tried
  pub home : (answer ≡ Ok place.Home) ⊎ ((v : ℕ) × (answer ≡ Err (DiskFault (part.Home v))))
      → tried ≡ 1

-- What the manager stood for, it stands for with the writes of the items that were tried, as one
-- entry. Each of them goes where the rule places it behind those before it, also where a disk call
-- failed; then no version is given out. Wherever the call is stopped, each choice of images
-- recovers to a cut by some first ones of them; of a segment that it claimed, the images since it
-- was free.
pub record HasRun {D : Type 0} (tells : Bool) (state : D → State) (items : List Item)
    (from : List Block) (tried : ℕ) (answer : Result Place WriteRefusal) (p : placing.Place)
    (old new : Manager D) : Type 0 where
  pub are : AreTried tried items answer
  pub stands : Leaves tells state old new
      (run_written (run_writes old.next (take tried items) from answer) answer)
      (passed_in new.rooms.items) worker
  pub rule : AreWrites (passed_in new.rooms.items) (look_of_manager old)
      (run_writes old.next (take tried items) from answer)
      (placed_all p (look_of_manager old) (run_writes old.next (take tried items) from answer))
  pub look : OnOk answer (look_of_manager new
      ≡ placed_all p (look_of_manager old) (run_writes old.next (take tried items) from answer))
  pub group : IsGroup (passed_in new.rooms.items)
      (run_writes old.next (take tried items) from answer)
  pub next : new.next ≡ old.next + given_out answer tried
  pub claimed : Option (Spun D)
  pub claims : TellsClaim tells state (IsOk answer) old.lanes.items new.lanes.items claimed
  pub any_moment : StopsWith tells state old new claimed
      (run_writes old.next (take tried items) from answer)

-- The place of the first item is the rule's, with room in each lane but those that were turned away
-- in this call; home's spindle was needed exactly where home took it.
pub record IsPlacedRun {D : Type 0} (items : List Item) (from : List Block)
    (answer : Result Place WriteRefusal) (old new : Manager D) : Type 0 where
  pub placed : IsPlaceOf (map logger_of old.lanes.items) answer (ruled_run old new items from)
  pub answered : HaveAnswered (first_count items) (takes_at (ruled_run old new items from) answer)
      new.rooms.items old.lanes.items new.lanes.items
  pub waking : NeedsHome (ruled_run old new items from) answer old new

-- What a run's answer tells besides. The place of the first item is the rule's, with room in each
-- lane but those that were turned away in this call; the disk that took the items was needed, and
-- no other.
pub record TellsRun {D : Type 0} (state : D → State) (items : List Item) (from : List Block)
    (answer : Result Place WriteRefusal) (old new : Manager D) : Type 0 where
  pub placed : IsPlaceOf (map logger_of old.lanes.items) answer (ruled_run old new items from)
  pub answered : HaveAnswered (first_count items) (takes_at (ruled_run old new items from) answer)
      new.rooms.items old.lanes.items new.lanes.items
  pub waking_home : NeedsHome (ruled_run old new items from) answer old new
  pub waking_logs : NeedsLogs (ruled_run old new items from) answer old new
  pub down : (p : Part) → (answer ≡ Err (Down p)) ↔ (old.down ≡ Some p)
  pub versions : (answer ≡ Err VersionsSpent) ↔ ((old.down ≡ None) × (old.next ≡ 2 ^ 63))
  pub memory : answer ≡ Err NoMemory
      → (old.down ≡ None) × (old.next < 2 ^ 63) × (old.index.reserved < 1)
  pub fault : TellsFault state answer old new
  pub calm : OnOk answer (NoneRose state old new)
  pub unchanged : IsAsBefore answer old new
