-- Desks that are served by the caller and its workers, and what a window makes of a floor beside
-- the sums.
use Rattle.std.specs.Prelude.{◌≡◌, ◌^◌, ◌≤◌, ◌+◌, ◌-◌, ◌/◌, ◌%◌, ℕ, min, max, Bool, List, length, vec_capacity}
use Rattle.wol_model.specs.History.{helper}
use Rattle.logger.specs.declared.shared.Shared.{Shared}
use Rattle.request_turns.specs.declared.outcome.Outcome.{Outcome}
use Rattle.window_desks.specs.Counted.{HaveCounted}
use Rattle.window_desks.specs.Desks.{AreReady, AreServed}
use Rattle.window_desks.specs.Helped.{ArePassesAt, AreSharing, AreAllKept, IsCause}
use Rattle.window_desks.specs.Worked.{AreWorked, HelpedIn}
use Rattle.window_desks.specs.declared.floor.Floor.{Floor}
use Rattle.window_desks.specs.declared.request.Reclaim.{Reclaim}
use Rattle.trace_windows.specs.declared.request.Request.{Request}

-- how many desks a run has: their number divided by the workers', rounded up, and at least one
abbrev pub size_of_runs : (workers desks : ℕ) → ℕ
size_of_runs workers desks = max 1 (desks / workers + min 1 (desks % workers))

-- so many desks make the last run of n, where runs of this size are cut in order: the last alone
-- may be shorter
pub record IsLastRun (size n last : ℕ) : Type 0 where
  pub some : 1 ≤ last
  pub few : last ≤ size
  pub within : last ≤ n
  pub before : (n - last) % size ≡ 0

-- the helpers are ready for turns
pub record CanHelp {D : Type 0} (shared : Shared D) (f : Floor D) : Type 0 where
  pub count : length f.helpers.items ≡ length f.locks.now
  pub few : length f.helpers.items ≤ 2 ^ 32
  pub passes : ArePassesAt f.locks.now helper f.helpers.items
  pub sharing : AreSharing shared f.helpers.items
  pub cause : IsCause f.helpers.items f.help.fault

-- .. and the desks for a window, at the first locks
pub record CanShare {D : Type 0} (shared : Shared D) (f : Floor D) : Type 0 where
  pub within : length f.desks.items ≤ length f.locks.now
  pub ready : AreReady f.locks.now shared 0 f.desks.items
  pub help : CanHelp shared f

-- what the helper made of a floor, in mode Beside alone
pub record HasHelpedOn {D : Type 0} (tells : Bool) (mode : Reclaim) (f g : Floor D) : Type 0 where
  pub count : length g.helpers.items ≡ length f.helpers.items
  pub helped : HelpedIn tells mode f.helpers.items g.helpers.items
  pub counted : HaveCounted tells f.help.tally g.help.tally f.helpers.items g.helpers.items
  pub all_kept : AreAllKept g.help.fault f.helpers.items g.helpers.items
  pub cause : IsCause g.helpers.items g.help.fault
  pub only : g ≡ record f { desks = g.desks; helpers = g.helpers; help = g.help; work = g.work }

-- each desk served its own requests, and the helper made its turns
pub record HasShared {D : Type 0} (tells : Bool) (mode : Reclaim) (f g : Floor D) : Type 0 where
  pub len : length g.desks.items ≡ length f.desks.items
  pub served : AreServed tells f.desks.items g.desks.items
  pub on : HasHelpedOn tells mode f g
  pub room : vec_capacity f.desks ≤ vec_capacity g.desks

-- the requests were served, each volume had its reclaim turn, and the outcomes were taken
pub record HasRunOn {D : Type 0} (tells : Bool) (rs : List Request) (os : List Outcome)
    (mode : Reclaim) (f g : Floor D) : Type 0 where
  pub len : length os ≡ length rs
  pub desk_count : length g.desks.items ≡ length f.desks.items
  pub worked : AreWorked tells rs os mode f.desks.items g.desks.items
  pub on : HasHelpedOn tells mode f g
