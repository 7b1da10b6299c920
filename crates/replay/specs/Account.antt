-- The account of a run of a trace on volumes that are all open: where writes went, what was
-- reclaimed, and what the disks did.
--
-- A write goes where the rules of placing say: by which disks are awake, which logs have room, and
-- what they hold. Records go home or are dropped where the rules of reclaim say. A disk's journal
-- is a model of when it is awake or in standby, by its uses and the timeout; no drive is asked.
-- `mode` says when records are reclaimed, the other parameters are as in the headline.
use Rattle.std.specs.Prelude.{⊤, ◌≡◌, ◌≢◌, ◌⊎◌, ◌++◌, ℕ, Bool, false, List, length, Contains, Option, IsTrue, Some, slice_get}
use Rattle.std.specs.Io.KnownBytes.{Appends}
use Rattle.wol_disk.specs.Disk.{State}
use Rattle.wol_bay.specs.Bay.{BayState, Told}
use Rattle.wol_model.specs.Extents.{AreDistinct, covers_of}
use Rattle.wol_model.specs.Images.{Images}
use Rattle.wol_model.specs.Index.{Listed}
use Rattle.wol_model.specs.Trace.{TraceLine}
use Rattle.wol_promise.specs.Report.{HasNoHelp}
use Rattle.wol_promise.specs.Ruled.{last_look}
use Rattle.wol_config.specs.declared.config.Config.{Config}
use Rattle.turn_lock.specs.Histories.{Entry}
use Rattle.volume_images.specs.Left.{IsTold}
use Rattle.volume_images.specs.Volumes.{AreLeft, images_read, shapes_of}
use Rattle.rack.specs.Closes.{AreListedOf, IsOnLogger}
use Rattle.rack.specs.Owners.{IsBegun}
use Rattle.rack.specs.PoolUses.{ArePools, PassesEmpty, TakesFew}
use Rattle.trace_gen.specs.Generated.{targets_of}
use Rattle.window_desks.specs.declared.request.Reclaim.{Reclaim}
use Rattle.window_desks.specs.declared.request.Reclaim.TheVariants as reclaim
use Rattle.replay.specs.Givens.{HasGiven, HasGivenAll}
use Rattle.replay.specs.Headlined.{HasNotBegun}
use Rattle.replay.specs.Histories.{History, IsHistory, answers_in, is_broken, is_broken_at, view_at}
use Rattle.replay.specs.Leaves.{records_in}
use Rattle.replay.specs.Placed.{CountsPlaced, CountsReclaimed}
use Rattle.replay.specs.Served.{ServedWindow}
use Rattle.replay.specs.Sessions.{AreWindowsOf}
use Rattle.replay.specs.Summed.{HaveAccounts, HaveShortAccounts, IsSummary}
use Rattle.replay.specs.Works.{WorksAs}
use Rattle.replay.specs.declared.given.Given.{Given}

-- Volume v, by the entries of its history.
pub record FollowsPolicy (config : Config) (entry exit : Told) (mode : Reclaim)
    (windows : List ServedWindow) (awake : List (List Bool)) (pools : ℕ → List Entry) (v : ℕ)
    (h : History) : Type 0 where
  -- it was opened with the records that the images have
  pub begun : IsBegun config (images_read config entry) h.base
  -- they are a legal history of the answered requests, and each follows the rules
  pub history : IsHistory ⊤ (answers_in windows) v h
  -- it passed over a log at most as often as it found no free segment there
  pub passed : PassesEmpty pools h.base h.notes
  -- it took at most as many segments as it made writes to logs, unless a call failed
  pub taken : TakesFew pools h.base h.notes
  -- each window notes which disks were awake and serves the requests in order; then, in the modes
  -- that reclaim, one turn leaves nothing to reclaim within reach unless a call failed; in mode off
  -- only a write that finds every log full reclaims
  pub works : WorksAs mode windows awake v h
  -- a helper works beside the requests or not at all
  pub alone : mode ≢ reclaim.Beside → HasNoHelp h.notes
  -- each record that keeps a block in the images has a version of its own; where no call failed
  -- they are those that the history ends with, each on its logger
  pub left : (images : Images) → AreLeft config exit images
      → AreDistinct (covers_of (records_in config images v)) × ((IsTrue (is_broken h) → ⊥)
      → AreListedOf (last_look h.base.look h.notes).listed (records_in config images v)
      × ((e : Listed) → Contains (last_look h.base.look h.notes).listed e
      → IsOnLogger (shapes_of config) images v h.base.view e))

-- the output ended with the summary: the counts, and the time and energy of each disk
abbrev pub EndsWithSummary : Config → (views : ℕ → List ℕ) → List (Option TraceLine)
    → List ServedWindow → (awake : List (List Bool)) → (taken taken' : Option (List ℕ)) → Type 0
EndsWithSummary config views lines windows awake taken taken' =
    (before : List ℕ) × (summary : List ℕ) × IsSummary config views lines windows awake summary
    × Appends taken taken' (before ++ summary)

pub record Account {S : Type 0} (left : S → Option (List ℕ)) (config : Config) (mode : Reclaim)
    (start now : Given S) (entry exit : Told) (status : ℕ) (taken taken' : Option (List ℕ))
    : Type 0 where
  -- some first lines of the trace were taken, in these windows
  pub lines : List (Option TraceLine)
  pub given : (more : List (Option TraceLine))
      × HasGiven left (targets_of config) start now (lines ++ more)
  -- at status 0 these are all that come
  pub all : status ≡ 0 → HasGivenAll left (targets_of config) start now lines
  pub windows : List ServedWindow
  pub are : AreWindowsOf config lines windows
  -- which disks were awake as each window began
  pub awake : List (List Bool)
  -- the volumes share the free segments of each log: none was found only where all were held
  pub pools : (k : ℕ) → List Entry
  pub shared : ArePools config entry pools
  -- each volume's history follows the rules
  pub histories : List History
  pub count : length histories ≡ length (shapes_of config)
  pub each_volume : (v : ℕ) (h : History) → slice_get histories v ≡ Some h
      → FollowsPolicy config entry exit mode windows awake pools v h
  -- each disk's journal is that of uses by its own volume and by those whose views name it, and of
  -- a look as each window begins, which said whether it was awake; at 7 or 9 a further window may
  -- have begun, at some disks alone
  pub disks : HaveAccounts config (view_at histories) lines windows awake
      ⊎ (((status ≡ 7) ⊎ (status ≡ 9))
      × HaveShortAccounts config (view_at histories) lines windows awake)
  -- at status 0 no volume's history has a failed call, and the summary of these lines was printed
  pub unbroken : status ≡ 0 → (v : ℕ) → is_broken_at histories v ≡ false
  pub printed : status ≡ 0
      → EndsWithSummary config (view_at histories) lines windows awake taken taken'
  -- the windows count what the histories have: writes by where they went, and reclaim
  pub placed : CountsPlaced windows histories
  pub reclaimed : CountsReclaimed windows histories

-- Each run took no line, or has an account at each status, where the contract knows what the disks
-- hold.
abbrev pub KeepsAccount : {D S : Type 0} → (tells : Bool) → (D → State) → (S → Option (List ℕ))
    → Config → Reclaim → (start now : Given S) → (old new : BayState) → (status : ℕ)
    → (taken taken' : Option (List ℕ)) → Type 0
KeepsAccount tells state left config mode start now old new status taken taken' =
    HasNotBegun tells state config start now old new status taken taken'
    ⊎ (IsTrue tells → IsTold (λ entry exit.
    Account left config mode start now entry exit status taken taken') old.told new.told)
