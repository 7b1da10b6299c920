-- What cleaning does to the volumes of a rack.
use Rattle.std.specs.Prelude.{◌≡◌, ◌≤◌, ◌∷◌, ◌++◌, ℕ, Bool, List, [], length, Option, None, Some, Result, Ok, Err, All, slice_get}
use Rattle.std.specs.List.{AllZip}
use Rattle.std.specs.Io.KnownBytes.{Appends, Keeps}
use Rattle.wol_disk.specs.Disk.{Rose, State}
use Rattle.wol_io.specs.Streams.{AppendsFront}
use Rattle.turn_lock.specs.Passes.{IsFree, IsSamePass}
use Rattle.wol_config.specs.declared.config.Config.{Config}
use Rattle.manager.specs.Stands.{IsShared}
use Rattle.manager.specs.declared.station.Station.{Station}
use Rattle.request_turns.specs.Turns.{ManagerPass}
use Rattle.report.specs.declared.fault.Fault.{Fault}
use Rattle.report.specs.declared.fault.Fault.TheVariants.{Memory}
use Rattle.rack.specs.Racks.{IsStation, base_of_station}
use Rattle.rack_parts.specs.declared.rack.Rack.{Rack}
use Rattle.rack.specs.NotOpened.{first_closed}
use Rattle.replay.specs.declared.stop.Stop.{Stop}
use Rattle.replay.specs.declared.stop.Stop.TheVariants as stop
use Rattle.log_cleaner.specs.declared.answer.Cleaned.{Cleaned}
use Rattle.log_cleaner.specs.declared.answer.CleanFault.{CleanFault}
use Rattle.cleaning.specs.Lines.{fault_of, lines_of}
use Rattle.cleaning.specs.Turns.{CleansIn}
use Rattle.wol_config.specs.Configs.{most_of}

-- each volume has its station, in order, whose manager may be cleaned over these shared locks
pub record CanCleanAll {D : Type 0} (config : Config) (r : Rack D) : Type 0 where
  pub count : length r.stations.items ≡ length config.volumes.items
  pub each : All (λ s. IsStation s × IsShared r.shared (base_of_station s)
      × ((base_of_station s).volume.began.most ≡ most_of config)) r.stations.items

-- only what the worker's pass has seen and made is another
pub record IsSameButWorked {D : Type 0} (s t : Station D) : Type 0 where
  pub same : t ≡ record s { worker = t.worker }
  pub pass : IsSamePass s.worker t.worker
  pub free : IsFree s.worker → IsFree t.worker

-- so it is of each station of a rack, and all else is the same
pub record IsWorked {D : Type 0} (r q : Rack D) : Type 0 where
  pub same : q ≡ record r { stations = q.stations }
  pub each : AllZip IsSameButWorked r.stations.items q.stations.items

-- the volume with this number was cleaned, in one turn of its station's worker
pub record CleansStation {D : Type 0} (tells : Bool) (state : D → State) (config : Config)
    (old new : Rack D) (number : ℕ) (result : Result Cleaned CleanFault) : Type 0 where
  pub station : Station D
  pub there : slice_get old.stations.items number ≡ Some station
  pub pass : ManagerPass D
  pub now : slice_get new.stations.items number ≡ Some (record station { worker = pass })
  pub cleans : CleansIn tells state (most_of config) station.worker pass result

-- These first volumes were cleaned, in order, with these answers; the others are as they were.
pub record CleansFirst {D : Type 0} (tells : Bool) (state : D → State) (config : Config)
    (old new : Rack D) (answers : List (Result Cleaned CleanFault)) : Type 0 where
  pub few : length answers ≤ length config.volumes.items
  pub each : (k : ℕ) (a : Result Cleaned CleanFault) → slice_get answers k ≡ Some a
      → CleansStation tells state config old new k a
  pub others : (k : ℕ) (s : Station D) → length answers ≤ k
      → slice_get old.stations.items k ≡ Some s → slice_get new.stations.items k ≡ Some s

-- the answers of volumes that were cleaned
abbrev pub all_ok : List Cleaned → List (Result Cleaned CleanFault)
all_ok [] = []
all_ok (c ∷ cs) = Ok c ∷ all_ok cs

module _ {D : Type 0} (tells : Bool) (state : D → State) (config : Config) (old new : Rack D)
    (sink sink' : ℕ) (printed printed' : Option (List ℕ)) where
  -- All volumes were cleaned; or the next was refused; or there was no memory for its line; or the
  -- sink failed at it. The lines are those of the answers.
  pub data CleansAll : Result (Unit {0}) Stop → Type 0 where
    whole : (told : List Cleaned) → CleansFirst tells state config old new (all_ok told)
        → length told ≡ length config.volumes.items → sink' ≡ sink
        → Appends printed printed' (lines_of config told) → CleansAll (Ok tt)
    refused : (told : List Cleaned) (f : CleanFault)
        → CleansFirst tells state config old new (all_ok told ++ Err f ∷ []) → sink' ≡ sink
        → Appends printed printed' (lines_of config told)
        → CleansAll (Err (stop.Fault (fault_of (length told) f)))
    no_memory : (told : List Cleaned) (c : Cleaned)
        → CleansFirst tells state config old new (all_ok (told ++ c ∷ [])) → sink' ≡ sink
        → Appends printed printed' (lines_of config told) → CleansAll (Err (stop.Fault Memory))
    sink_failed : (told : List Cleaned) (c : Cleaned)
        → CleansFirst tells state config old new (all_ok (told ++ c ∷ [])) → Rose sink sink'
        → AppendsFront printed printed' (lines_of config (told ++ c ∷ []))
        → CleansAll (Err stop.Sink)

  -- The first volume that isn't open ends it before any is cleaned.
  pub data CleansRack : Result (Unit {0}) Stop → Type 0 where
    closed : (f : Fault) → first_closed 0 old.faults.items ≡ Some f → new ≡ old → sink' ≡ sink
        → Keeps printed printed' → CleansRack (Err (stop.Fault f))
    ran : (result : Result (Unit {0}) Stop) → first_closed 0 old.faults.items ≡ None
        → IsWorked old new → CleansAll result → CleansRack result
