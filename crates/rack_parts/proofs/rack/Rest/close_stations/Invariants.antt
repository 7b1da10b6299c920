use Rattle.rack_parts.proofs.Basics.{length, drop, vec_len}
use Rattle.rack_parts.proofs.Members.{IsFrontOf}
use Rattle.rack_parts.proofs.Terms.{Config, Shared, CanCloseStations, ClosesStations}
use Rattle.rack_parts.proofs.rack.Rest.close_stations.Given as goal

-- the stations behind those that are left are closed
abbrev pub invariant-loop-station : goal.invariant-loop-station
invariant-loop-station g l = record {
  front : IsFrontOf l.stations.items l.fn.stations.items;
  may : (config : Config) (shared : Shared g.row.D.Denot) → CanCloseStations g.D.Disk.state config shared l.fn.stations.items l.fn.self → CanCloseStations g.D.Disk.state config shared l.stations.items l.self;
  closed : ClosesStations g.D.Disk.tells g.D.Disk.state (drop (length l.stations.items) l.fn.stations.items) l.fn.self l.self;
}

abbrev pub decreases-loop-station : goal.decreases-loop-station
decreases-loop-station g l = vec_len l.stations
