-- The rule of placing, over what is known of each logger's room.
use Rattle.std.specs.Prelude.{⊤, ◌≡◌, ℕ, Bool, true, false, not, ◌&&◌, List, position, Option, None, Some, if◌then◌else◌, slice_get}
use Rattle.std.specs.List.{zip, AllZip}
use Rattle.offload_policy.specs.declared.Room.{Room}
use Rattle.offload_policy.specs.declared.Room.TheVariants.{Unknown, Yes, No}
use Rattle.offload_policy.specs.declared.Step.{Step}
use Rattle.offload_policy.specs.declared.Step.TheVariants.{Home, WakeHome, Log, WakeLog, Ask, Full}
use Rattle.wol_model.specs.Placing.{Place, Home as AtHome, Log as InLog, Full as Nowhere}

-- a logger that may have room
abbrev pub may_hold : Room → Bool
may_hold Unknown = true
may_hold Yes = true
may_hold No = false

-- a logger that is awake, or asleep, and may have room
abbrev pub is_open : Bool → Bool × Room → Bool
is_open awake l = (if awake then l.0 else not l.0) && may_hold l.1

-- its room decides: where it isn't known, its pool is asked
abbrev pub decided_by : Option Room → ℕ → Step → Step
decided_by None lane known = known
decided_by (Some Unknown) lane known = Ask lane
decided_by (Some Yes) lane known = known
decided_by (Some No) lane known = known

-- the step at the first such logger, and another one where there is none
abbrev pub log_or : List Room → (ℕ → Step) → Option ℕ → Step → Step
log_or rooms log None other = other
log_or rooms log (Some lane) other = decided_by (slice_get rooms lane) lane (log lane)

-- home where it is awake and no block is covered; else the first awake logger that may have room;
-- else home, woken, where no block is covered; else the first sleeping logger that may have room,
-- woken
abbrev pub step_of : Bool → Bool → List Bool → List Room → Step
step_of home_up covered ups rooms =
    if home_up && not covered then Home
    else log_or rooms Log (position (is_open true) (zip ups rooms))
    (if covered then log_or rooms WakeLog (position (is_open false) (zip ups rooms)) Full
    else WakeHome)

-- which loggers have room, as far as it is known
abbrev pub IsRoom : Room → Bool → Type 0
IsRoom Unknown has = ⊤
IsRoom Yes has = has ≡ true
IsRoom No has = has ≡ false

abbrev pub AreRooms : List Room → List Bool → Type 0
AreRooms rooms has = AllZip IsRoom rooms has

-- where a step places the write, or none where a pool has to be asked first
abbrev pub place_of : Step → Option Place
place_of Home = Some AtHome
place_of WakeHome = Some AtHome
place_of (Log lane) = Some (InLog lane)
place_of (WakeLog lane) = Some (InLog lane)
place_of (Ask lane) = None
place_of Full = Some Nowhere
