-- What replaying a trace on all volumes of a bay comes to, where all of them are open.
use Rattle.std.specs.Prelude.{◌≡◌, ◌⊎◌, ◌≤◌, ◌^◌, ◌++◌, ℕ, Bool, false, List, length, Option, Result, Ok, Err, Some, IsTrue, slice_get}
use Rattle.wol_disk.specs.Disk.{Rose, State}
use Rattle.wol_bay.specs.Bay.{BayState}
use Rattle.wol_model.specs.Trace.{requests}
use Rattle.wol_promise.specs.Policy.{PartName}
use Rattle.run_laws.specs.Answers.{requests_in}
use Rattle.wol_config.specs.declared.config.Config.{Config}
use Rattle.turn_lock.specs.Histories.{Entry}
use Rattle.volume_images.specs.Left.{IsTold}
use Rattle.report.specs.Faults.{status_of}
use Rattle.report.specs.declared.fault.Fault.TheVariants.{Memory, Versions, Volume}
use Rattle.report.specs.declared.trouble.Trouble.{Trouble}
use Rattle.trace_gen.specs.Generated.{targets_of}
use Rattle.rack.specs.Troubles.{trouble_of, trouble_of_part}
use Rattle.rack.specs.Closes.{HasFaultyPart, part_named}
use Rattle.rack.specs.PoolUses.{ArePools, PassesEmpty, TakesFew}
use Rattle.rack_parts.specs.declared.volume_fault.VolumeFault.{VolumeFault}
use Rattle.replay.specs.Ended.{EndsFor}
use Rattle.replay.specs.Headlined.{AreAllOpen}
use Rattle.replay.specs.Histories.{History, AreHistories, ArePlainMarks, BeginAsRead, CountAnswered, LeavesReclaimed, answers_in, is_broken_at, next_at, view_at}
use Rattle.replay.specs.Leaves.{LeavesImages}
use Rattle.replay.specs.NotOpened.{AsksNone, IsFirstClosed, LeavesViews}
use Rattle.replay.specs.Placed.{CountsPlaced, CountsReclaimed}
use Rattle.replay.specs.Sessions.{RunsLines}
use Rattle.replay.specs.Summed.{HaveAccounts, HaveShortAccounts, IsSummaryOf, PrintsRun, lines_asked}
use Rattle.replay.specs.Works.{AreWorked}
use Rattle.replay.specs.declared.given.Given.{Given}
use Rattle.replay.specs.declared.session.Options.{Options}
use Rattle.replay.specs.declared.stop.Stop.{Stop}
use Rattle.replay.specs.declared.stop.Stop.TheVariants as stop
use Rattle.wol_config.specs.Configs.{most_of}

-- the status that a run ends with
abbrev pub status_in : {T : Type 0} → Result T Stop → ℕ
status_in (Ok _) = 0
status_in (Err stop.Sink) = 7
status_in (Err (stop.Fault f)) = status_of f

-- ---- The whole

-- Lines were run on the volumes of a bay, all of which were open.
pub record Replays {S T : Type 0} (tells : Bool) (left : S → Option (List ℕ)) (config : Config)
    (options : Options) (start now : Given S) (old new : BayState) (result : Result T Stop)
    (sink sink' : ℕ)
    (printed printed' : Option (List ℕ)) : Type 0 where
  pub of : RunsLines left config start now
  pub open of use *
  pub one : length last ≤ 1
  -- the requests of the windows are those of the lines
  pub asked : requests_in (answers_in (earlier ++ last))
      ≡ requests (most_of config) (targets_of config) run
  pub ends : EndsFor left config start now run last old.faults new.faults sink sink' result
  pub histories : List History
  pub are : AreHistories (IsTrue tells) config (answers_in (earlier ++ last)) histories
  -- where a call of a disk of a volume failed, the bay's count rose
  pub cause : (v : ℕ) → IsTrue (is_broken_at histories v) → Rose old.faults new.faults
  -- where a part of a volume is at fault, a call of that very volume failed
  pub part : (v : ℕ) (t : Trouble) → result ≡ Err (stop.Fault (Volume v t))
      → IsTrue (is_broken_at histories v)
  -- .. and the part of it that is told came back with a fault
  pub named : (v : ℕ) (t : Trouble) → result ≡ Err (stop.Fault (Volume v t))
      → (h : History) × (slice_get histories v ≡ Some h) × (name : PartName)
      × (t ≡ trouble_of_part (part_named v name))
      × IsTold (HasFaultyPart tells config v h.base.view name) old.told new.told
  -- where versions ended a run, a volume's writes to logs took all of them, whatever failed
  -- afterwards
  pub spent : (v : ℕ) → result ≡ Err (stop.Fault (Versions v)) → 2 ^ 63 ≤ next_at histories v
  -- each volume was opened of an image that was accepted, and began with what the images recovered
  -- to
  pub open_ : IsTrue tells → IsTold (λ entry left_. AreAllOpen config entry) old.told new.told
  pub begun : IsTrue tells
      → IsTold (λ entry left_. BeginAsRead config entry histories) old.told new.told
  -- the pools of free segments, by the entries of their locks since the volumes were opened: no
  -- more of a volume's entries passed over a pool than its pass found that pool empty
  pub pools : (k : ℕ) → List Entry
  pub are_pools : IsTrue tells
      → IsTold (λ entry left_. ArePools config entry pools) old.told new.told
  pub passed : (v : ℕ) (h : History) → slice_get histories v ≡ Some h
      → PassesEmpty pools h.base h.notes
  -- .. and of all pools together took no more segments than it wrote to logs, where no call failed
  pub taken : (v : ℕ) (h : History) → slice_get histories v ≡ Some h → TakesFew pools h.base h.notes
  pub counts :
      CountAnswered (answers_in earlier) (answers_in (earlier ++ last)) (status_in result) histories
  -- the writes that are counted are those of the histories
  pub placed : CountsPlaced (earlier ++ last) histories
  -- .. and so is what is counted of reclaim
  pub reclaimed : CountsReclaimed (earlier ++ last) histories
  pub reclaims : LeavesReclaimed options.reclaim (earlier ++ last) histories
  -- what the worker and the keeper of each volume did, window by window; `awake` has what the
  -- spindles answered
  pub awake : List (List Bool)
  pub worked : AreWorked options.reclaim (earlier ++ last) awake histories
  -- each disk was awake as its journal says; where memory ran out a window may have begun of which
  -- nothing was run
  pub disks : HaveAccounts config (view_at histories) run (earlier ++ last) awake
      ⊎ ((status_in result ≡ 9)
      × HaveShortAccounts config (view_at histories) run (earlier ++ last) awake)
  -- at the end of the trace no call of a disk of a volume had failed
  pub unbroken : status_in result ≡ 0 → (v : ℕ) → is_broken_at histories v ≡ false
  pub marks : IsTrue tells → IsTold
      (λ entry left_. ArePlainMarks config (answers_in (earlier ++ last)) entry) old.told new.told
  pub images : IsTrue tells → IsTold
      (LeavesImages tells config (answers_in (earlier ++ last)) histories) old.told new.told
  pub summary : List ℕ
  pub summary_is : IsSummaryOf left config (view_at histories) start now run (earlier ++ last) awake
      result summary
  pub prints : PrintsRun result (lines_asked config options.each (answers_in (earlier ++ last)))
      summary sink sink' printed printed'

-- A run over a bay: there was no memory to open its volumes, or one of them couldn't be opened, and
-- no view was changed; or all were open.
pub data Replayed {D S T : Type 0} (tells : Bool) (state : D → State) (left : S → Option (List ℕ))
    (config : Config) (options : Options) (start now : Given S) (old new : BayState)
    (sink sink' : ℕ) (printed printed' : Option (List ℕ)) : Result T Stop → Type 0 where
  no_memory : AsksNone start now sink sink' printed printed'
      → LeavesViews tells state config old new
      → Replayed tells state left config options start now old new sink sink' printed printed'
      (Err (stop.Fault Memory))
  closed : (k : ℕ) (f : VolumeFault) → AsksNone start now sink sink' printed printed'
      → IsFirstClosed tells state config old new k f → LeavesViews tells state config old new
      → Replayed tells state left config options start now old new sink sink' printed printed'
      (Err (stop.Fault (Volume k (trouble_of f))))
  ran : (result : Result T Stop) → Replays tells left config options start now old new result sink
      sink' printed printed' → Replayed tells state left config options start now old new sink sink'
      printed printed' result
