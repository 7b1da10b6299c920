-- What replaying a trace on the volumes of a rack comes to.
use Rattle.std.specs.Prelude.{◌≡◌, ℕ, Bool, List, map, Option, None, Some, false, Result, Err, MatchResult}
use Rattle.std.specs.Io.KnownBytes.{Keeps}
use Rattle.std.specs.declared.alloc.Global.{Global}
use Rattle.std.specs.declared.vec.Vec.{Vec}
use Rattle.logger.specs.declared.shared.Shared.{Shared}
use Rattle.manager.specs.declared.station.Station.{Station}
use Rattle.request_turns.specs.Helped.{ManagerLock}
use Rattle.request_workers.specs.Begun.{SpindlePass, AreKeepers}
use Rattle.request_workers.specs.Floors.{IsOn, passes_of}
use Rattle.request_workers.specs.Stations.{AreStations, IsMoved}
use Rattle.window_desks.specs.declared.floor.Floor.{Floor}
use Rattle.window_desks.specs.declared.floor.Passes.{Passes}
use Rattle.wol_config.specs.declared.config.Config.{Config}
use Rattle.report.specs.declared.fault.Fault.{Fault}
use Rattle.report.specs.declared.fault.Fault.TheVariants.{Memory}
use Rattle.rack_parts.specs.declared.rack.Rack.{Rack}
use Rattle.rack.specs.NotOpened.{first_closed}
use Rattle.replay.specs.Counts.{no_totals}
use Rattle.replay.specs.Served.{AreSamePasses}
use Rattle.replay.specs.Sessions.{AreVolumes, ServesSome, ServesWhole}
use Rattle.replay.specs.declared.counting.Counted.{Counted}
use Rattle.replay.specs.declared.given.Given.{Given}
use Rattle.replay.specs.declared.session.Options.{Options}
use Rattle.replay.specs.declared.session.Session.{Session}
use Rattle.replay.specs.declared.stop.Stop.{Stop}
use Rattle.replay.specs.declared.stop.Stop.TheVariants as stop

-- the locks of stations
abbrev pub locks_of : {D : Type 0} → List (Station D) → List (ManagerLock D)
locks_of {D} ss = map (λ (s : Station D). s.lock) ss

-- a trace can be served: each volume has its station, and each spindle its keeper
pub record CanServe {D : Type 0} (config : Config) (shared : Shared D) (stations : List (Station D))
    (keepers : List SpindlePass) : Type 0 where
  pub each : AreStations stations
  pub keepers_ : AreKeepers shared keepers
  pub on : IsOn shared (locks_of stations)
  pub volumes : AreVolumes config (locks_of stations)

-- a floor of these locks and passes
pub record IsFloorOf {D : Type 0} (ls : List (ManagerLock D)) (p : Passes D) (f : Floor D) :
    Type 0 where
  pub locks : f.locks.now ≡ ls
  pub passes : passes_of f ≡ p

-- a session on this floor, before its first window
abbrev pub new_session : {D : Type 0} → Floor D → Vec SpindlePass Global → Session D
new_session floor keepers =
    record { floor = floor; keepers = keepers; totals = no_totals; started = false }

module _ {D S : Type 0} (tells : Bool) (left : S → Option (List ℕ)) (config : Config)
    (options : Options) (start now : Given S) (old new : Rack D) (faults faults' : ℕ)
    (printed printed' : Option (List ℕ)) where
  -- The trace was served, to its end or not, on this floor and with the rack's keepers. Its
  -- stations came back; the locks and the keepers' passes are those that were there.
  pub record ServesFrom (before : Floor D) (result : Result Counted Stop) : Type 0 where
    pub only : new ≡ record old { keepers = new.keepers; stations = new.stations }
    pub after : Floor D
    pub moved_back : IsMoved new.stations.items after
    pub can : CanServe config new.shared new.stations.items new.keepers.items
    pub locks : locks_of new.stations.items ≡ before.locks.now
    pub same : AreSamePasses old.keepers.items new.keepers.items
    pub served : MatchResult result (λ counted.
        ServesWhole tells left config options start now before old.keepers.items after
        new.keepers.items counted faults faults' printed printed')
        (λ e. ServesSome tells left config options start e now before old.keepers.items after
        new.keepers.items faults faults' printed printed')

  -- no line was asked for, and nothing was printed
  pub record RunsNone : Type 0 where
    pub same : new ≡ old
    pub unread : now ≡ start
    pub calm : faults' ≡ faults
    pub kept : Keeps printed printed'

  -- The first volume that isn't open ends the run before its first line, as want of memory does;
  -- else the trace is served.
  pub data RunsIn : Result Counted Stop → Type 0 where
    closed : (f : Fault) → first_closed 0 old.faults.items ≡ Some f → RunsNone
        → RunsIn (Err (stop.Fault f))
    no_memory : first_closed 0 old.faults.items ≡ None → RunsNone → RunsIn (Err (stop.Fault Memory))
    served : (result : Result Counted Stop) → first_closed 0 old.faults.items ≡ None
        → (before : Floor D) → IsMoved old.stations.items before → ServesFrom before result
        → RunsIn result
