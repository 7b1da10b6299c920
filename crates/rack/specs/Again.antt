-- A rack that was opened, and one that has again every lock, station and pass with which it came,
-- each pass in no turn, whatever entries were added since.
use Rattle.std.specs.Prelude.{◌≡◌}
use Rattle.std.specs.List.{AllZip}
use Rattle.turn_lock.specs.Passes.{IsFree, IsSamePass}
use Rattle.turn_lock.specs.declared.pass.PassOf.{PassOf}
use Rattle.manager.specs.declared.station.Station.{Station}
use Rattle.wol_bay.specs.Bay.{BayState}
use Rattle.wol_config.specs.declared.config.Config.{Config}
use Rattle.wol_disk.specs.Disk.{State}
use Rattle.rack.specs.Racks.{IsRack, IsStation}
use Rattle.rack_parts.specs.declared.rack.Rack.{Rack}

-- a pass again: of the same lock, with the same number, and in no turn if it was in none
pub record IsPassAgain {T B : Type 0} (p q : PassOf T B) : Type 0 where
  pub same : IsSamePass p q
  pub free : IsFree p → IsFree q

-- the station of the same volume with the same lock, whose passes are its own, each in no turn
pub record IsStationAgain {D : Type 0} (s t : Station D) : Type 0 where
  pub id : t.id ≡ s.id
  pub lock : t.lock ≡ s.lock
  pub passes : IsStation s → IsStation t

-- each keeper's pass and each station is there again, and nothing else is another
pub record IsRackAgain {D : Type 0} (r q : Rack D) : Type 0 where
  pub only : q ≡ record r { keepers = q.keepers; stations = q.stations }
  pub keepers : AllZip IsPassAgain r.keepers.items q.keepers.items
  pub stations : AllZip IsStationAgain r.stations.items q.stations.items

-- a rack that was opened with this configuration
abbrev pub IsOpenRack : {D : Type 0} → (state : D → State) → Config → Rack D → Type 0
IsOpenRack state config r = (bay : BayState) × IsRack state config bay r
