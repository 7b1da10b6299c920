-- Which call of a stream in memory is planned to fail, and how many calls failed.
use Rattle.std.specs.Prelude.{◌≡◌, ◌≤◌, ℕ, zero, suc, ◌+◌, Option, None, Some}
use Rattle.wol_disk.specs.Disk.{Rose}

pub record Plan : Type 0 where
  -- how many calls come before the one that is to fail, where one still is
  pub before : Option ℕ
  -- how many calls failed by plan
  pub planned : ℕ
  -- how many calls found no memory
  pub short : ℕ

-- no call was made yet, and the one with this number is to fail, counted from 0
abbrev pub fresh : Option ℕ → Plan
fresh fail_at = record { before = fail_at; planned = 0; short = 0 }

-- after one more call, which is the planned one or comes before it
abbrev pub counted : Option ℕ → Plan → Plan
counted None plan = plan
counted (Some zero) plan = record { before = None; planned = plan.planned + 1; short = plan.short }
counted (Some (suc n)) plan = record { before = Some n; planned = plan.planned; short = plan.short }

abbrev pub after_call : Plan → Plan
after_call plan = counted plan.before plan

-- how many calls failed
abbrev pub faults_of : Plan → ℕ
faults_of plan = plan.planned + plan.short

-- one more call found no memory
pub record FallsShort (old new : Plan) : Type 0 where
  pub before : new.before ≡ old.before
  pub planned : new.planned ≡ old.planned
  pub later : old.short ≤ new.short
  pub rose : Rose old.short new.short
