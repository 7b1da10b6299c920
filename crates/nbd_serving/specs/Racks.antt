-- What is done with a rack, one of whose volumes is served.
use Rattle.std.specs.Prelude.{◌≡◌, ℕ, Bool, None, Some, Result, Ok, Err, slice_get, slice_set}
use Rattle.wol_config.specs.declared.config.Config.{Config}
use Rattle.wol_config.specs.declared.config.VolumeConf.{VolumeConf}
use Rattle.turn_lock.specs.Passes.{IsSamePass}
use Rattle.manager.specs.declared.station.Station.{Station}
use Rattle.request_turns.specs.Turns.{ManagerPass}
use Rattle.report.specs.declared.fault.Fault.{Fault}
use Rattle.rack_parts.specs.declared.rack.Rack.{Rack}
use Rattle.inspection.specs.Racks.{IsStationAt}
use Rattle.rack.specs.NotOpened.{first_closed}
use Rattle.nbd_session.specs.Shakes.{IsShake}
use Rattle.nbd_session.specs.declared.ending.Shaken.{Shaken}
use Rattle.nbd_session.specs.declared.ending.Shaken.TheVariants.{Agreed, Unagreed as NotAgreed}
use Rattle.nbd_session.specs.declared.ending.Unagreed.{Unagreed}
use Rattle.nbd_session.specs.Sessions.{CountsFaults, IsSession}
use Rattle.nbd_session.specs.declared.session.Ended.{Ended}
use Rattle.nbd_session.specs.declared.session.NbdFault.{NbdFault}
use Rattle.nbd_serving.specs.Turns.{MakesTurn}
use Rattle.nbd_serving.specs.Wires.{Wire, answer_of}
use Rattle.nbd_serving.specs.declared.serving.Beginning.{Beginning}
use Rattle.nbd_serving.specs.declared.serving.Beginning.TheVariants as beginning
use Rattle.nbd_serving.specs.declared.stop.Stop.{Stop}
use Rattle.nbd_serving.specs.declared.stop.Stop.TheVariants as stop
use Rattle.wol_config.specs.Configs.{most_of}

-- a handshake on a volume of the configuration, by its name and its blocks
pub record ShakesOn (config : Config) (volume : ℕ) (wire wire' : Wire)
    (result : Result Shaken NbdFault) : Type 0 where
  pub conf : VolumeConf
  pub conf_is : slice_get config.volumes.items volume ≡ Some conf
  pub shake : IsShake conf.name conf.home wire.left wire'.left wire.taken wire'.taken result
  pub faults :
      CountsFaults wire.source_faults wire'.source_faults wire.sink_faults wire'.sink_faults result

-- what comes before the session at a volume: nothing, or a handshake
abbrev pub Begins : Config → (volume : ℕ) → Beginning → (wire wire' : Wire) → Result Shaken NbdFault
    → Type 0
Begins config volume beginning.AtOnce wire wire' result = (result ≡ Ok Agreed) × (wire' ≡ wire)
Begins config volume beginning.Handshake wire wire' result =
    ShakesOn config volume wire wire' result

-- the volume of a station was served, in turns of its worker; no other station is another
pub record ServesStation {D : Type 0} (tells : Bool) (config : Config) (old new : Rack D)
    (volume : ℕ) (wire wire' : Wire) (answer : Result Ended NbdFault) : Type 0 where
  pub conf : VolumeConf
  pub conf_is : slice_get config.volumes.items volume ≡ Some conf
  pub place : ℕ
  pub station : Station D
  pub is_station : IsStationAt old.stations.items volume place station
  pub pass : ManagerPass D
  pub same : IsSamePass station.worker pass
  pub stations : new.stations.items
      ≡ slice_set old.stations.items place (record station { worker = pass })
  pub session : IsSession (MakesTurn tells) conf.home (most_of config) station.worker pass wire.left
      wire'.left wire.taken wire'.taken answer
  pub faults :
      CountsFaults wire.source_faults wire'.source_faults wire.sink_faults wire'.sink_faults answer

-- The first volume that isn't open ends it, and then nothing is done; else what comes before the
-- session begins it, or nothing is done; and the volume is served.
pub data ServesRack {D : Type 0} (tells : Bool) (config : Config) (volume : ℕ) (begins : Beginning)
    (old new : Rack D) (wire wire' : Wire) : Result Ended Stop → Type 0 where
  closed : (fault : Fault) → first_closed 0 old.faults.items ≡ Some fault → new ≡ old → wire' ≡ wire
      → ServesRack tells config volume begins old new wire wire' (Err (stop.Fault fault))
  unagreed : (why : Unagreed) → first_closed 0 old.faults.items ≡ None
      → Begins config volume begins wire wire' (Ok (NotAgreed why)) → new ≡ old
      → ServesRack tells config volume begins old new wire wire' (Err (stop.Unagreed why))
  unbegun : (f : NbdFault) → first_closed 0 old.faults.items ≡ None
      → Begins config volume begins wire wire' (Err f) → new ≡ old
      → ServesRack tells config volume begins old new wire wire' (answer_of (Err f))
  open_ : (begun : Wire) (answer : Result Ended NbdFault) → first_closed 0 old.faults.items ≡ None
      → Begins config volume begins wire begun (Ok Agreed)
      → ServesStation tells config old new volume begun wire' answer
      → ServesRack tells config volume begins old new wire wire' (answer_of answer)
