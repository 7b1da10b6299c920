-- What a write does to a manager, by its answer.
use Rattle.std.specs.Prelude.{⊤, ◌≡◌, ◌⊎◌, ◌&&◌, ◌∷◌, ℕ, Bool, true, false, List, [], Some, Result, Ok, Err, slice_get, MatchBool}
use Rattle.std.specs.List.{AllByRecursion}
use Rattle.wol_disk.specs.Disk.{Block, State}
use Rattle.turn_lock.specs.Passes.{pass_mine}
use Rattle.wol_model.specs.Blocks.{Write}
use Rattle.wol_promise.specs.Policy.{Look, placed, place_of}
use Rattle.offload_policy.specs.declared.Room.TheVariants.{Unknown}
use Rattle.logger.specs.Lanes.{HasUsed, spindle_of}
use Rattle.logger.specs.declared.lane.Lane.{Lane}
use Rattle.manager.specs.Accesses.{HasUsedOnce}
use Rattle.manager.specs.Answers.{home_write, log_write, failed_write}
use Rattle.manager.specs.Causes.{PartRoseOrClaimed}
use Rattle.manager.specs.Offers.{IsOn}
use Rattle.manager.specs.Seen.{look_of_manager}
use Rattle.manager.specs.Stands.{passed_in}
use Rattle.manager.specs.declared.manager.Manager.{Manager}
use Rattle.manager.specs.declared.part.Place.{Place}
use Rattle.manager.specs.declared.part.WriteRefusal.{WriteRefusal}
use Rattle.manager.specs.declared.part.WriteRefusal.TheVariants.{Full, DiskFault, Down, VersionsSpent, NoMemory}
use Rattle.wol_model.specs.Placing as placing
use Rattle.manager.specs.declared.part.Part.TheVariants as part
use Rattle.manager.specs.declared.part.Place.TheVariants as place
pub use Rattle.volume_parts.specs.Offers.{is_at_home, is_in_log, HasAnswered, HaveAnswered}

-- ---- Places

-- whether a disk was to take the write
abbrev pub was_tried : Result Place WriteRefusal → Bool
was_tried (Ok p) = true
was_tried (Err (DiskFault p)) = true
was_tried (Err Full) = false
was_tried (Err (Down p)) = false
was_tried (Err VersionsSpent) = false
was_tried (Err NoMemory) = false

-- where the rule places a write of these blocks, with room in each lane but those that are noted to
-- have none
abbrev pub ruled_place : {D : Type 0} → (old new : Manager D) → (first : ℕ) → List Block
    → placing.Place
ruled_place old new first blocks =
    place_of (passed_in new.rooms.items) (look_of_manager old) (home_write first blocks)

-- whether the lane at place k took a write that has this place and this answer
abbrev pub takes_at : placing.Place → Result Place WriteRefusal → (k : ℕ) → Bool
takes_at p answer k = was_tried answer && is_in_log k p

-- ---- Looks and disks

-- An answered write leaves the look of its place, and one that was refused before a disk was tried
-- leaves the look as it was.
abbrev pub HasLook : placing.Place → Write → Result Place WriteRefusal → (old new : Look) → Type 0
HasLook p w (Ok answer) old new = new ≡ placed p old w
HasLook p w (Err (DiskFault fault)) old new = ⊤
HasLook p w (Err Full) old new = new ≡ old
HasLook p w (Err (Down d)) old new = new ≡ old
HasLook p w (Err VersionsSpent) old new = new ≡ old
HasLook p w (Err NoMemory) old new = new ≡ old

-- home's spindle was needed exactly where home took the write
abbrev pub NeedsHome : {D : Type 0} → placing.Place → Result Place WriteRefusal
    → (old new : Manager D) → Type 0
NeedsHome p answer old new = MatchBool (was_tried answer && is_at_home p)
    (HasUsedOnce old.spindle new.spindle) (pass_mine new.spindle ≡ pass_mine old.spindle)

-- and a logger's exactly where its log took it
abbrev pub NeedsLogs : {D : Type 0} → placing.Place → Result Place WriteRefusal
    → (old new : Manager D) → Type 0
NeedsLogs {D} p answer old new = (k : ℕ) (o n : Lane D) → slice_get old.lanes.items k ≡ Some o
    → slice_get new.lanes.items k ≡ Some n
    → MatchBool (takes_at p answer k) (HasUsed o n)
    (pass_mine (spindle_of n) ≡ pass_mine (spindle_of o))

-- ---- Refusals

-- After a disk call failed its part is told as down, and its count rose; after each other answer
-- nothing else is down than before.
abbrev pub TellsFault : {D : Type 0} → (D → State) → Result Place WriteRefusal
    → (old new : Manager D) → Type 0
TellsFault state (Ok p) old new = new.down ≡ old.down
TellsFault state (Err (DiskFault p)) old new =
    (new.down ≡ Some p) × PartRoseOrClaimed state old new p
TellsFault state (Err Full) old new = new.down ≡ old.down
TellsFault state (Err (Down p)) old new = new.down ≡ old.down
TellsFault state (Err VersionsSpent) old new = new.down ≡ old.down
TellsFault state (Err NoMemory) old new = new.down ≡ old.down

-- nothing changed but the notes of rooms and the room of the index, and no pool was asked
pub record IsUntouched {D : Type 0} (old new : Manager D) : Type 0 where
  pub rest : new ≡ record old { rooms = new.rooms; index = new.index }
  pub index : new.index.entries ≡ old.index.entries
  pub rooms : AllByRecursion (λ r. r ≡ Unknown) new.rooms.items

-- nothing changed but that, and the passes of the pools that were asked
pub record IsUnplaced {D : Type 0} (old new : Manager D) : Type 0 where
  pub rest : new ≡ record old { rooms = new.rooms; index = new.index; lanes = new.lanes }
  pub index : new.index.entries ≡ old.index.entries

-- what a refused write leaves as it was, where no disk call failed
abbrev pub IsAsBefore : {D : Type 0} → Result Place WriteRefusal → (old new : Manager D) → Type 0
IsAsBefore (Ok p) old new = ⊤
IsAsBefore (Err (DiskFault p)) old new = ⊤
IsAsBefore (Err Full) old new = IsUnplaced old new
IsAsBefore (Err (Down p)) old new = IsUntouched old new
IsAsBefore (Err VersionsSpent) old new = IsUntouched old new
IsAsBefore (Err NoMemory) old new = IsUntouched old new

-- ---- In flight

-- the write that an answer acknowledges, or that was in flight when a disk call failed
abbrev pub in_flight : (next first : ℕ) → List Block → Result Place WriteRefusal → List Write
in_flight next first blocks (Ok place.Home) = home_write first blocks ∷ []
in_flight next first blocks (Ok (place.Log logger)) = log_write next first blocks ∷ []
in_flight next first blocks (Err (DiskFault p)) = failed_write next first blocks p ∷ []
in_flight next first blocks (Err Full) = []
in_flight next first blocks (Err (Down p)) = []
in_flight next first blocks (Err VersionsSpent) = []
in_flight next first blocks (Err NoMemory) = []

-- ---- Answers of the parts of a write

-- a write went home, or home failed
abbrev pub IsHomeAnswer : (volume : ℕ) → Result Place WriteRefusal → Type 0
IsHomeAnswer volume answer =
    (answer ≡ Ok place.Home) ⊎ (answer ≡ Err (DiskFault (part.Home volume)))

-- a write went to the logger at this place of the view, or a segment on it failed
abbrev pub IsLogAnswer : (view : List ℕ) → (lane : ℕ) → Result Place WriteRefusal → Type 0
IsLogAnswer view lane (Ok place.Home) = ⊥
IsLogAnswer view lane (Ok (place.Log logger)) = slice_get view lane ≡ Some logger
IsLogAnswer view lane (Err (DiskFault p)) = IsOn view lane p
IsLogAnswer view lane (Err Full) = ⊥
IsLogAnswer view lane (Err (Down p)) = ⊥
IsLogAnswer view lane (Err VersionsSpent) = ⊥
IsLogAnswer view lane (Err NoMemory) = ⊥

-- an answer that comes when the write was placed, or when the rule ended without a place
abbrev pub IsPlacedAnswer : Result Place WriteRefusal → Type 0
IsPlacedAnswer (Ok p) = ⊤
IsPlacedAnswer (Err Full) = ⊤
IsPlacedAnswer (Err (DiskFault p)) = ⊤
IsPlacedAnswer (Err (Down p)) = ⊥
IsPlacedAnswer (Err VersionsSpent) = ⊥
IsPlacedAnswer (Err NoMemory) = ⊥
