use Rattle.std.proofs.Common.{◌≡◌, ◌≤◌, ◌<◌, ℕ, slice_index_or}
use Rattle.manager.specs.declared.station.Station.{Station}
use Rattle.inspection.specs.Findings.{HasFound}
use Rattle.inspection.specs.declared.beside.Finding.{Finding}
use Rattle.inspection.proofs.beside.find_each.Given as goal

abbrev pub invariant-loop-k : goal.invariant-loop-k
invariant-loop-k g l = record {
  found : (j : ℕ) (s : Station g.row.D.Denot) (f : Finding) → j < l.k → HasFound g.D.Disk.tells g.D.Disk.state l.config (slice_index_or l.initial.stations j s) (slice_index_or l.stations j s) (slice_index_or l.findings j f);
  ahead : (j : ℕ) (s : Station g.row.D.Denot) → l.k ≤ j → slice_index_or l.stations j s ≡ slice_index_or l.initial.stations j s;
  nothing : (j : ℕ) (f : Finding) → l.k ≤ j → slice_index_or l.findings j f ≡ slice_index_or l.initial.findings j f;
}
