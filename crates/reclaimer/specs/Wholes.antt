-- What is given up first: what may go of one record, or a segment with all its records.
use Rattle.std.specs.Prelude.{⊤, ◌≡◌, ◌<◌, ◌++◌, ℕ, Bool, true, false, List, find, Option, None, Some, is_none, IsSomeAnd, IfOk, Result, Ok, Err, if◌then◌else◌}
use Rattle.std.specs.List.{AllByRecursion}
use Rattle.wol_model.specs.Index.{Indexed, listed_in, left}
use Rattle.wol_promise.specs.Policy.{Look}
use Rattle.redirect_map.specs.Index.{entry_at}
use Rattle.garbage_list.specs.Least.{can_go, is_awake}
use Rattle.manager.specs.Reclaim.{AllGoIn, HasDropped, HasDroppedSegment, lies_elsewhere}
use Rattle.manager.specs.Stands.{entries_at}
use Rattle.manager.specs.declared.manager.Manager.{Manager}
use Rattle.manager.specs.declared.part.StepFault.{StepFault}
use Rattle.manager.specs.declared.part.StepFault.TheVariants.{DiskFault, Down}
use Rattle.reclaimer.specs.Counts.{TakesOff}
use Rattle.reclaimer.specs.Fetches.{going_entry}
use Rattle.reclaimer.specs.Groups.{lanes_of}

-- ---- Which segments go whole

-- The records of a segment come first among those within reach: they stand in a first part of the
-- list, in which all others are out of reach.
pub record ComeFirst (lanes : List Bool) (lane index : ℕ) (es : List Indexed) : Type 0 where
  pub front : List Indexed
  pub back : List Indexed
  pub is : es ≡ front ++ back
  pub others : AllByRecursion
      (λ e. lies_elsewhere lane index e ≡ true → is_awake lanes e ≡ false) front
  pub behind : AllByRecursion (λ e. lies_elsewhere lane index e ≡ true) back

-- the first entry within reach of which something may go
abbrev pub first_to_go : {D : Type 0} → (any : Bool) → Manager D → Option Indexed
first_to_go any m = find (can_go (lanes_of any m) m.index.entries) m.index.entries

-- ---- What is given up

-- The entry gave up what may go; or its segment, all of whose kept blocks may go, went with all its
-- records. The answer is how many records are gone.
pub data GivesFirst {D : Type 0} (e : Indexed) (old new : Manager D) (res : Result ℕ StepFault) :
    Type 0 where
  one : HasDropped e.listed.version e old new res
      → IfOk res (λ n. n ≡ (if is_none (entry_at new.index.entries e.listed.version) then 1 else 0))
      → GivesFirst e old new res
  whole : AllGoIn e.listed.lane e.index old.index.entries
      → HasDroppedSegment e.listed.lane e.index old new res
      → IfOk res (λ n. n ≡ entries_at e.listed.lane e.index old.index.entries)
      → GivesFirst e old new res

-- Where something may go it was given up. Else nothing was changed.
abbrev pub HasGivenGroup : {D : Type 0} → Result (Option ℕ) StepFault → (old new : Manager D)
    → Type 0
HasGivenGroup (Ok None) old new = new ≡ old
HasGivenGroup (Ok (Some records)) old new =
    IsSomeAnd (going_entry old) (λ e. GivesFirst e old new (Ok records))
HasGivenGroup (Err (DiskFault p)) old new =
    IsSomeAnd (going_entry old) (λ e. GivesFirst e old new (Err (DiskFault p)))
HasGivenGroup (Err (Down p)) old new = new ≡ old

-- ---- What an answer counts

-- so many records, and no block
abbrev pub CountsFirst : Result ℕ StepFault → (l m : Look) → Type 0
CountsFirst (Ok records) l m = TakesOff 0 records l m
CountsFirst (Err fault) l m = TakesOff 0 0 l m

abbrev pub CountsGroup : Result (Option ℕ) StepFault → (l m : Look) → Type 0
CountsGroup (Ok None) l m = TakesOff 0 0 l m
CountsGroup (Ok (Some records)) l m = TakesOff 0 records l m
CountsGroup (Err fault) l m = TakesOff 0 0 l m

-- less is left where something was given up
abbrev pub LowersGroup : {D : Type 0} → Result (Option ℕ) StepFault → (old new : Manager D)
    → Type 0
LowersGroup (Ok None) old new = ⊤
LowersGroup (Ok (Some records)) old new =
    left (listed_in new.index.entries) < left (listed_in old.index.entries)
LowersGroup (Err fault) old new = ⊤
