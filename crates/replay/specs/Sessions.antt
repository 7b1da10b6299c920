-- What a session is between windows, and what it makes of a trace.
use Rattle.std.specs.Prelude.{⊤, ◌≡◌, ◌≢◌, ◌⊎◌, ◌≤◌, ◌<◌, ◌++◌, ◌+◌, ◌-◌, ℕ, Bool, true, not, is_none, count_by, List, [], ◌∷◌, length, Option, None, Some, Result, MatchResult, slice_index_or}
use Rattle.std.specs.List.{flat_map, AllByRecursion}
use Rattle.std.specs.Io.KnownBytes.{Appends, Keeps}
use Rattle.wol_promise.specs.Run.{joined_lines}
use Rattle.wol_model.specs.Trace.{TraceLine, Window, home_of, windows, timed, started, ended, is_skipped}
use Rattle.wol_config.specs.declared.config.Config.{Config}
use Rattle.trace_gen.specs.Generated.{targets_of}
use Rattle.turn_lock.specs.Passes.{lock_id}
use Rattle.logger.specs.declared.shared.Shared.{Shared}
use Rattle.manager.specs.declared.base.ManagerBase.{ManagerBase}
use Rattle.msr_trace.specs.declared.format.TraceFault.{TraceFault}
use Rattle.msr_trace.specs.declared.format.TraceFault.TheVariants as trace
use Rattle.report.specs.declared.fault.Fault.{Fault}
use Rattle.report.specs.declared.fault.Fault.TheVariants.{Memory}
use Rattle.request_turns.specs.Helped.{ManagerLock}
use Rattle.request_workers.specs.Begun.{SpindlePass, AreKeepers, HaveBegun, HaveBegunVolumes}
use Rattle.request_workers.specs.Floors.{IsFloor, IsOn}
use Rattle.window_desks.specs.declared.floor.Floor.{Floor}
use Rattle.window_desks.specs.declared.request.Window.{Window as Answer}
use Rattle.trace_windows.specs.Batches.{Batched, IsBatchOf}
use Rattle.trace_windows.specs.Cutting.{Cutting, HasCut, next_number}
use Rattle.trace_windows.specs.declared.request.Request.{Request}
use Rattle.report.specs.Names.{printed_names}
use Rattle.replay.specs.Counts.{CountsWindow}
use Rattle.replay.specs.Endings.{fault_of_window}
use Rattle.replay.specs.Givens.{HasGiven, HasGivenAll, Refuses}
use Rattle.replay.specs.Prints.{asked_lines, CutsLines}
use Rattle.replay.specs.Served.{Further, ServedWindow, StartsOnce, WasServed, ServedFromStart, WasNotRun, AreTotals, is_none_served}
use Rattle.replay.specs.Stops.{fault_of_trace}
use Rattle.replay.specs.declared.given.Given.{Given}
use Rattle.replay.specs.declared.counting.Counted.{Counted}
use Rattle.replay.specs.declared.session.Options.{Options}
use Rattle.replay.specs.declared.session.Session.{Session}
use Rattle.replay.specs.declared.stop.Stop.{Stop}
use Rattle.replay.specs.declared.stop.Stop.TheVariants as stop
use Rattle.wol_config.specs.Configs.{most_of}

-- ---- Sessions

-- the manager of volume k has the configured sizes
pub record HasSizes (config : Config) (k : ℕ) (b : ManagerBase) : Type 0 where
  pub most : b.volume.began.most ≡ most_of config
  pub home : b.volume.began.home_blocks ≡ home_of (targets_of config) k

-- lock k is that of a manager of volume k, for each volume of the configuration
pub record AreVolumes {D : Type 0} (config : Config) (ls : List (ManagerLock D)) : Type 0 where
  pub count : length ls ≡ length (targets_of config)
  pub sizes : (k : ℕ) (l : ManagerLock D) → k < length ls
      → HasSizes config k (lock_id (slice_index_or ls k l)).base

-- a floor on these shared locks, and the keepers of all their spindles
pub record IsReady {D : Type 0} (shared : Shared D) (s : Session D) : Type 0 where
  pub floor_ : IsFloor s.floor
  pub on : IsOn shared s.floor.locks.now
  pub keepers_ : AreKeepers shared s.keepers.items

-- .. whose volumes are those of the configuration
pub record IsSession {D : Type 0} (config : Config) (shared : Shared D) (s : Session D) :
    Type 0 where
  pub ready : IsReady shared s
  pub volumes : AreVolumes config s.floor.locks.now

-- a window was begun at this moment
pub record HasBegunWindow {D : Type 0} (tells : Bool) (moment : ℕ) (s n : Session D) : Type 0 where
  -- the keepers when the account had started
  pub start : List SpindlePass
  pub starts : StartsOnce s.started moment s.keepers.items start
  pub awake : List Bool
  pub spindles : HaveBegun moment awake start n.keepers.items
  pub volumes : HaveBegunVolumes tells awake s.floor.keepers.items n.floor.keepers.items
  pub only : n.floor ≡ record s.floor { keepers = n.floor.keepers }

-- a window wasn't begun at this moment, for want of memory, but the account was started
pub record HasFailedToBegin {D : Type 0} (moment : ℕ) (s n : Session D) : Type 0 where
  pub start : List SpindlePass
  pub starts : StartsOnce s.started moment s.keepers.items start
  pub spindles : n.keepers.items ≡ start
  pub floor_ : n.floor ≡ s.floor

-- a window was served
pub record HasServed {D : Type 0} (tells : Bool) (options : Options) (b : Batched)
    (s n : Session D) : Type 0 where
  pub answer : Answer
  pub start : List SpindlePass
  pub starts : StartsOnce s.started b.moment s.keepers.items start
  pub was : WasServed tells options.reclaim (record { batch = b; answer = answer }) s.floor start
      n.floor n.keepers.items
  pub counted : CountsWindow answer s.totals n.totals

-- the options can be had
abbrev pub AreOptions : Options → Type 0
AreOptions options = (1 ≤ options.workers) × (options.workers ≤ 64)

-- the lines that are printed of a window
abbrev pub lines_of_window : Config → Options → ServedWindow → List (List ℕ)
lines_of_window config options s = asked_lines options.each (printed_names config.volumes.items)
    s.batch.requests s.answer.outcomes.items

-- .. and of windows in order
abbrev pub lines_of_windows : Config → Options → List ServedWindow → List (List ℕ)
lines_of_windows config options ss = flat_map (lines_of_window config options) ss

-- ---- Windows of a trace

-- these were served of these windows, one after another, with the requests numbered in order from
-- `next` on
abbrev pub AreServedFrom : Config → (next : ℕ) → List Window → List ServedWindow → Type 0
AreServedFrom config next [] [] = ⊤
AreServedFrom config next [] (s ∷ ss) = ⊥
AreServedFrom config next (w ∷ ws) [] = ⊥
AreServedFrom config next (w ∷ ws) (s ∷ ss) =
    IsBatchOf (most_of config) (targets_of config) next w s.batch
    × AreServedFrom config (next + length s.batch.requests) ws ss

abbrev pub AreServedOf : Config → List Window → List ServedWindow → Type 0
AreServedOf config ws ss = AreServedFrom config 0 ws ss

-- .. of all windows of these lines
abbrev pub AreWindowsOf : Config → (run : List (Option TraceLine)) → List ServedWindow → Type 0
AreWindowsOf config run ss =
    AreServedOf config (windows (most_of config) (targets_of config) run) ss

-- The last window of the lines `run` has all of its lines: the line behind them opens a further
-- one, or none comes any more.
pub data EndsWithWindow {S : Type 0} (left : S → Option (List ℕ)) (config : Config)
    (start now : Given S) (run more : List (Option TraceLine)) : Type 0 where
  opens : (line : Option TraceLine) (rest : List (Option TraceLine)) (w : Window)
      → more ≡ line ∷ rest → windows (most_of config) (targets_of config) (run ++ line ∷ [])
      ≡ windows (most_of config) (targets_of config) run ++ w ∷ []
      → EndsWithWindow left config start now run more
  at_end : HasGivenAll left (targets_of config) start now run
      → EndsWithWindow left config start now run more
  at_refusal : (refusal : TraceFault) → refusal ≢ trace.NoMemory
      → Refuses left refusal start now run → EndsWithWindow left config start now run more

-- all requests of a window were answered, and no step of reclaim was refused
abbrev pub WentWell : ServedWindow → Type 0
WentWell s = fault_of_window s.batch.requests s.answer ≡ None

-- a request or a step of reclaim of a window was refused, or the lines of its reads couldn't all be
-- printed
abbrev pub StopsAfter : Stop → Config → Options → ServedWindow → (faults faults' : ℕ)
    → (printed new : Option (List ℕ)) → Type 0
StopsAfter e config options s faults faults' printed new =
    ((refused : Fault) × (fault_of_window s.batch.requests s.answer ≡ Some refused)
    × (e ≡ stop.Fault refused) × (faults' ≡ faults)
    × Appends printed new (joined_lines (lines_of_window config options s)))
    ⊎ CutsLines e (lines_of_window config options s) faults faults' printed new

-- what was printed of a window, and whether the run goes on behind it
abbrev pub Finishes : {T : Type 0} → Result T Stop → Config → Options → List Request → Answer
    → (faults faults' : ℕ) → (printed new : Option (List ℕ)) → Type 0
Finishes result config options rs answer faults faults' printed new =
    MatchResult result
    (λ _. (fault_of_window rs answer ≡ None) × (faults' ≡ faults)
    × Appends printed new (joined_lines
    (asked_lines options.each (printed_names config.volumes.items) rs answer.outcomes.items)))
    (λ e. ((refused : Fault) × (fault_of_window rs answer ≡ Some refused) × (e ≡ stop.Fault refused)
    × (faults' ≡ faults)
    × Appends printed new (joined_lines
    (asked_lines options.each (printed_names config.volumes.items) rs answer.outcomes.items)))
    ⊎ CutsLines e (asked_lines options.each (printed_names config.volumes.items) rs
    answer.outcomes.items) faults faults' printed new)

-- the run goes on behind a window: it was served, all went well, and its lines were printed
abbrev pub GoesOn : {D : Type 0} → (tells : Bool) → Config → Options → Batched → (s n : Session D)
    → (faults faults' : ℕ) → (printed new : Option (List ℕ)) → Type 0
GoesOn tells config options b s n faults faults' printed new =
    (h : HasServed tells options b s n) × WentWell (record { batch = b; answer = h.answer })
    × (faults' ≡ faults)
    × Appends printed new
    (joined_lines (lines_of_window config options (record { batch = b; answer = h.answer })))

-- the run ends in a window: no request of it was run, for want of memory, or it was served and the
-- run ends behind it
abbrev pub EndsIn : {D : Type 0} → Stop → (tells : Bool) → Config → Options → Batched
    → (s n : Session D) → (faults faults' : ℕ) → (printed new : Option (List ℕ)) → Type 0
EndsIn e tells config options b s n faults faults' printed new =
    ((e ≡ stop.Fault Memory) × WasNotRun tells s.floor n.floor
    × Further tells s.started s.floor s.keepers.items n.floor n.keepers.items
    × (faults' ≡ faults) × Keeps printed new)
    ⊎ ((h : HasServed tells options b s n)
    × StopsAfter e config options (record { batch = b; answer = h.answer }) faults faults'
    printed new)

-- some lines were taken
pub record HasTaken (config : Config) (c : Cutting) : Type 0 where
  pub lines : List (Option TraceLine)
  pub given : List Window
  pub cut : HasCut (most_of config) (targets_of config) lines given c

-- a line more was taken, and the next window is whole, as this batch
abbrev pub Closes : Config → (ls : List (Option TraceLine)) → (ws : List Window) → Option TraceLine
    → Cutting → Window → Batched → Type 0
Closes config ls ws line c w b =
    IsBatchOf (most_of config) (targets_of config)
    (next_number (most_of config) (targets_of config) ws) w b
    × HasCut (most_of config) (targets_of config) (ls ++ line ∷ []) (ws ++ w ∷ []) c

-- a line more was taken; if it made a window whole that was served, and the run goes on
abbrev pub TakesOn : {D : Type 0} → (tells : Bool) → Config → Options
    → (ls : List (Option TraceLine)) → (ws : List Window) → Option TraceLine → Cutting
    → (s n : Session D) → (faults faults' : ℕ) → (printed new : Option (List ℕ)) → Type 0
TakesOn tells config options ls ws line c s n faults faults' printed new =
    (HasCut (most_of config) (targets_of config) (ls ++ line ∷ []) ws c × (n ≡ s)
    × (faults' ≡ faults) × Keeps printed new)
    ⊎ ((w : Window) × (b : Batched) × Closes config ls ws line c w b × (n.started ≡ true)
    × GoesOn tells config options b s n faults faults' printed new)

-- there was no memory for the line, or the run ends in the window that it made whole
abbrev pub StopsAtLine : {D : Type 0} → Stop → (tells : Bool) → Config → Options
    → (ls : List (Option TraceLine)) → (ws : List Window) → Option TraceLine → Cutting
    → (s n : Session D) → (faults faults' : ℕ) → (printed new : Option (List ℕ)) → Type 0
StopsAtLine e tells config options ls ws line c s n faults faults' printed new =
    ((e ≡ stop.Fault Memory) × (n ≡ s) × (faults' ≡ faults) × Keeps printed new)
    ⊎ ((w : Window) × (b : Batched) × Closes config ls ws line c w b
    × EndsIn e tells config options b s n faults faults' printed new)

-- The lines `run` were run, window by window: `earlier` those after which the run went on, since
-- nothing was refused in them, `last` the one in which it ended, if it ended in one.
pub record RunsLines {S : Type 0} (left : S → Option (List ℕ)) (config : Config)
    (start now : Given S) : Type 0 where
  pub run : List (Option TraceLine)
  pub more : List (Option TraceLine)
  pub given : HasGiven left (targets_of config) start now (run ++ more)
  pub earlier : List ServedWindow
  pub last : List ServedWindow
  pub windows_ : AreWindowsOf config run (earlier ++ last)
  -- the last window that was served is whole, and behind the one in which the run ended at most one
  -- line was read
  pub whole : earlier ++ last ≢ [] → EndsWithWindow left config start now run more
  pub ahead : last ≢ [] → length more ≤ 1
  pub well : AllByRecursion WentWell earlier

-- the windows of these lines were served, in none of them a request was refused, and the lines of
-- all were printed
pub record ServesWindows {D : Type 0} (tells : Bool) (config : Config) (options : Options)
    (lines : List (Option TraceLine)) (f : Floor D) (ps : List SpindlePass) (g : Floor D)
    (qs : List SpindlePass) (printed new : Option (List ℕ)) : Type 0 where
  pub served : List ServedWindow
  pub are : AreWindowsOf config lines served
  pub well : AllByRecursion WentWell served
  pub from_start : ServedFromStart tells options.reclaim served f ps g qs
  pub prints : Appends printed new (joined_lines (lines_of_windows config options served))

module _ {D S : Type 0} (tells : Bool) (left : S → Option (List ℕ)) (config : Config)
    (options : Options) (start : Given S) where
  -- The trace was served to its end.
  pub record ServesWhole (now : Given S) (f : Floor D) (ps : List SpindlePass) (g : Floor D)
      (qs : List SpindlePass) (counted : Counted) (faults faults' : ℕ)
      (printed new : Option (List ℕ)) : Type 0 where
    pub lines : List (Option TraceLine)
    pub given : HasGiven left (targets_of config) start now lines
    pub all : HasGivenAll left (targets_of config) start now lines
    pub windows_ : ServesWindows tells config options lines f ps g qs printed new
    pub open windows_ use *
    pub totals_ : AreTotals served counted.totals
    pub line_count : counted.totals.lines ≡ length lines
    pub blank : counted.totals.blank ≡ count_by is_none lines
    pub skipped : counted.totals.skipped ≡ count_by (is_skipped (targets_of config)) lines
    pub span : counted.totals.span ≡ counted.ended - counted.started
    pub order : counted.started ≤ counted.ended
    pub started_ : counted.started ≡ started (timed lines)
    pub ended_ : counted.ended ≡ ended (timed lines)
    pub calm : faults' ≡ faults

  -- why a trace wasn't served to its end: behind the windows before, or in the last one
  abbrev pub EndsBy : Stop → (now : Given S) → (run more : List (Option TraceLine))
      → (last : List ServedWindow) → (h : Floor D) → List SpindlePass → (g : Floor D)
      → List SpindlePass
      → (faults faults' : ℕ) → (printed new : Option (List ℕ)) → Type 0
  -- no further line came, and all before were run; or there was no memory for a line, or for
  -- running a window
  EndsBy e now run more [] h ms g qs faults faults' printed new =
      (faults' ≡ faults) × Keeps printed new
      × (((refusal : TraceFault) × (refusal ≢ trace.NoMemory)
      × (e ≡ stop.Fault (fault_of_trace refusal)) × (more ≡ [])
      × Refuses left refusal start now run × (g ≡ h) × (qs ≡ ms))
      ⊎ ((e ≡ stop.Fault Memory) × WasNotRun tells h g))
  -- the window that was served last ended it
  EndsBy e now run more (s ∷ []) h ms g qs faults faults' printed new =
      (g ≡ h) × (qs ≡ ms) × StopsAfter e config options s faults faults' printed new
  EndsBy e now run more (s ∷ t ∷ others) h ms g qs faults faults' printed new = ⊥

  -- The trace wasn't served to its end.
  pub record ServesSome (e : Stop) (now : Given S) (f : Floor D) (ps : List SpindlePass)
      (g : Floor D) (qs : List SpindlePass) (faults faults' : ℕ) (printed new : Option (List ℕ)) :
      Type 0 where
    pub of : RunsLines left config start now
    pub open of use *
    pub middle : Floor D
    pub between : List SpindlePass
    pub from_start : ServedFromStart tells options.reclaim (earlier ++ last) f ps middle between
    pub then : Option (List ℕ)
    pub printed_before : Appends printed
        then (joined_lines (lines_of_windows config options earlier))
    pub ends : EndsBy e now run more last middle between g qs faults faults' then new
    -- what the keepers did behind these windows
    pub further : Further tells (not (is_none_served (earlier ++ last))) middle between g qs
