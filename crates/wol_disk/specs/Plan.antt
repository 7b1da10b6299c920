-- Which calls of a disk in memory are to fail, and how its calls went.
use Rattle.std.specs.Prelude.{◌≡◌, ◌≤◌, ◌⊎◌, ℕ, List, [], ◌∷◌, ◌++◌, Contains}
use Rattle.wol_disk.specs.Disk.{Rose, next_count}

pub record Plan : Type 0 where
  -- the numbers of the calls that are to fail
  pub calls : List ℕ
  -- how many calls were made: the number of the next one
  pub made : ℕ
  -- how many failed since they were to
  pub planned : ℕ
  -- how many failed since there was no memory
  pub short : ℕ

-- of a new disk
abbrev pub no_plan : Plan
no_plan = record { calls = []; made = 0; planned = 0; short = 0 }

-- one more call is to fail
abbrev pub with_call : ℕ → Plan → Plan
with_call call p = record p { calls = p.calls ++ call ∷ [] }

-- the next call is to fail
abbrev pub IsNextToFail : Plan → Type 0
IsNextToFail p = Contains p.calls p.made

-- One call went by the plan: it failed where it was to, and else at most for want of memory.
pub record GoesByPlan (old new : Plan) (failed : Type 0) : Type 0 where
  pub same_calls : new.calls ≡ old.calls
  pub one_more : new.made ≡ next_count old.made
  pub as_planned : IsNextToFail old
      → failed × (new.planned ≡ next_count old.planned) × (new.short ≡ old.short)
  pub not_planned : (IsNextToFail old → ⊥) → new.planned ≡ old.planned
  pub cause : failed → IsNextToFail old ⊎ Rose old.short new.short
  pub quiet : ¬ failed → new.short ≡ old.short
  pub planned_counts : old.planned ≤ new.planned
  pub short_counts : old.short ≤ new.short
