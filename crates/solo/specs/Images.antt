-- The image of a run in its bay.
use Rattle.std.specs.Prelude.{◌≡◌, ℕ, ◌⊎◌, List, [], ◌∷◌, ◌++◌, codes, Option, None, Some, IfSome, Result, MatchResult, ⊤}
use Rattle.wol_disk.specs.Disk.{Block, State, Values}
use Rattle.wol_disk.specs.Zeros.{zeros}
use Rattle.wol_bay.specs.Bay.{BayState, Told, stored, without}
use Rattle.wol_model.specs.Trace.{Target}
use Rattle.solo.specs.declared.fault.Fault.{Fault}
use Rattle.solo.specs.declared.fault.Fault.TheVariants as fault
use Rattle.solo.specs.declared.tally.Tally.{Tally}
use Rattle.solo.specs.Served.{IsSettled, content_of}
use Rattle.solo.specs.Runs.{Ends, Runs}

-- no name is out, where the bay tells
abbrev pub NoneOut : BayState → Type 0
NoneOut bay = IfSome bay.told (λ t. t.out ≡ [])

-- the array of a run: where the bay tells, it begins with zeros
abbrev pub BeginsBlank : Target → Option Told → (array : Option (List Block)) → Type 0
BeginsBlank target told array = IfSome told (λ t. array ≡ Some (zeros target.home))

-- the image `solo` is in the bay with these values, in place of one that was there, and the others
-- are as they were; where the bay tells, so does the image
abbrev pub Stores : (old new : Option Told) → (values : Option (List (Values Block))) → Type 0
Stores None new values = ⊤
Stores (Some old) None values = ⊥
Stores (Some old) (Some new) None = ⊥
Stores (Some old) (Some new) (Some vs) =
    new.images ≡ stored (codes "solo") (Some vs) (without (codes "solo") old.images)

-- the image wasn't made: the bay is as it was, and there are no values
abbrev pub WasNotMade : (old new : Option Told) → (values : Option (List (Values Block))) → Type 0
WasNotMade old new values = (new ≡ old) × (values ≡ None)

-- what a fault leaves of the images: all as it was where the image wasn't made, which want of
-- memory may also come of
abbrev pub LeavesBy : Fault → (old new : Option Told) → (values : Option (List (Values Block)))
    → Type 0
LeavesBy fault.Bay old new values = WasNotMade old new values
LeavesBy fault.NoMemory old new values = WasNotMade old new values ⊎ Stores old new values
LeavesBy fault.Disk old new values = Stores old new values
LeavesBy fault.Sink old new values = Stores old new values
LeavesBy fault.Source old new values = Stores old new values
LeavesBy fault.Spent old new values = Stores old new values
LeavesBy (fault.BadLine line why) old new values = Stores old new values

abbrev pub LeavesImages : {T : Type 0} → Result T Fault → (old new : Option Told)
    → (values : Option (List (Values Block))) → Type 0
LeavesImages result old new values =
    MatchResult result (λ _. Stores old new values) (λ e. LeavesBy e old new values)

-- there is one part, of this size, without a fault, and with one value for each block
abbrev pub IsOnePart : {D : Type 0} → (D → State) → (size : ℕ) → List D → Type 0
IsOnePart state size [] = ⊥
IsOnePart state size (part ∷ []) =
    ((state part).size ≡ size) × ((state part).faults ≡ 0) × IsSettled (state part).values
IsOnePart state size (part ∷ next ∷ parts) = ⊥

-- what the run leaves of the one part
abbrev pub RunsOnFirst : {D : Type 0} → (D → State) → Target → (trace left : Option (List ℕ))
    → (parts parts' : List D) → Result Tally Fault → (old new : Option (List ℕ)) → Type 0
RunsOnFirst state target trace left [] parts' result old new = ⊤
RunsOnFirst state target trace left (part ∷ parts) [] result old new = ⊥
RunsOnFirst state target trace left (part ∷ parts) (part' ∷ parts') result old new =
    Runs target trace left (content_of (state part).values) result old new (state part').values

-- what a run leaves of its bay and of its sink
abbrev pub RunsInBay : {T : Type 0} → Target → (trace left : Option (List ℕ))
    → (told told' : Option Told) → Result T Fault → (old new : Option (List ℕ)) → Type 0
RunsInBay target trace left told told' result old new =
    (array : Option (List Block)) × BeginsBlank target told array
    × (values : Option (List (Values Block))) × LeavesImages result told told' values
    × Ends target trace left array result old new values

-- the bay lists the one part of the image `solo` as one that came back with a fault
abbrev pub PartCameBackFaulty : (old new : Option Told) → Type 0
PartCameBackFaulty old new =
    IfSome old (λ o. IfSome new (λ n. n.faulty ≡ o.faulty ++ (codes "solo", 0) ∷ []))
