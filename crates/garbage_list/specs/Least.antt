-- The records within reach that have something to give up, or to put home.
use Rattle.std.specs.Prelude.{◌≡◌, None, Some, if◌then◌else◌, ◌<◌, ◌≤◌, ℕ, Bool, true, false, ◌&&◌, List, length, find, Option, option_map, IfSome, IsSomeAnd, slice_index_or, nat_le}
use Rattle.std.specs.List.{AllByRecursion}
use Rattle.wol_model.specs.Index.{listed_in, Indexed}
use Rattle.redirect_map.specs.declared.going.Sought.{Sought}
use Rattle.redirect_map.specs.declared.going.Sought.TheVariants.{Due, Going}
use Rattle.redirect_map.specs.Index.{entry_at, has_sought}

-- there is a flag for the record's lane
abbrev pub HasLane : List Bool → Indexed → Type 0
HasLane lanes e = e.listed.lane < length lanes

-- the record's lane is true in the list: its logger is awake
abbrev pub is_awake : List Bool → Indexed → Bool
is_awake lanes e = slice_index_or lanes e.listed.lane false

-- and a block of the record is one that is sought
abbrev pub has_awake : Sought → List Bool → List Indexed → Indexed → Bool
has_awake sought lanes es e = is_awake lanes e && has_sought sought (listed_in es) e.listed

-- the record's lane is true, and a block of it may go
abbrev pub can_go : List Bool → List Indexed → Indexed → Bool
can_go = has_awake Going

-- or its lane is true, and a block of it is due
abbrev pub can_go_home : List Bool → List Indexed → Indexed → Bool
can_go_home = has_awake Due

-- the record's version is this one or a greater one, and the record passes
abbrev pub from_on : ℕ → (Indexed → Bool) → Indexed → Bool
from_on from test e = nat_le from e.listed.version && test e

-- the version of the first record that passes
abbrev pub first_version : (Indexed → Bool) → List Indexed → Option ℕ
first_version test es = option_map (λ e. e.listed.version) (find test es)

-- what is told of one version: the version itself where its record passes, and none where it
-- doesn't or there is no such record
abbrev pub told_of : (Indexed → Bool) → ℕ → Option Indexed → Option ℕ
told_of test version None = None
told_of test version (Some e) = if test e then Some version else None

abbrev pub IsTold : (Indexed → Bool) → List Indexed → ℕ → Option ℕ → Type 0
IsTold test es version answer = answer ≡ told_of test version (entry_at es version)

-- the answer is the version of the first record that passes, which is the least one, as the list
-- rises; and none exactly where no record does
pub record IsNext (test : Indexed → Bool) (es : List Indexed) (answer : Option ℕ) : Type 0 where
  pub value : answer ≡ first_version test es
  pub stated : IfSome answer (λ v. IsSomeAnd (entry_at es v) (λ e. test e ≡ true))
  pub least : IfSome answer
      (λ v. AllByRecursion (λ e. test e ≡ true → v ≤ e.listed.version) es)
